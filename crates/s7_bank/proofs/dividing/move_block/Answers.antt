use Rattle.std.proofs.Common.{◌≡◌, Bool, true, false, List, ℕ, length, Option, None, Some, OnOk, ap, ◌∙◌, true≢false}
use Rattle.std.specs.Prelude.{Result, Ok, Err, IfSome, IfNone}
use Rattle.s7_area.specs.declared.register.RegisterFault.{RegisterFault}
use Rattle.s7_area.specs.Memory.{area_octets, with_area}
use Rattle.s7_area.specs.Registers.{fault_of}
use Rattle.s7_bank.specs.Dividing.{block_key}
use Rattle.s7_bank.proofs.DividingLemmas.{gone, joined}
use Rattle.s7_bank.proofs.dividing.move_block.Goals as goal
use Rattle.s7_bank.proofs.dividing.move_block.Goals.{in-Ok-register, in-Err}

on_ok : {A E P : Type 0} (r : Result A E) → P → OnOk r P
on_ok (Ok x) p = p
on_ok (Err e) p = tt

abbrev is_done : {A E : Type 0} → Result A E → Bool
is_done (Ok x) = true
is_done (Err e) = false

-- where the call came back with `Ok` there was no fault
registered : {U P : Type 0} (fault : Option RegisterFault) (done : U) (octets : List ℕ)
    → IfSome fault (λ f. ◌≡◌ {A = Result U (RegisterFault × List ℕ)} (Ok done) (Err (f, octets))) → IfNone fault P → P
registered None done octets refused taken = taken
registered (Some f) done octets refused taken = absurd (true≢false (ap is_done refused))

pub returns-clause-left : goal.returns-clause-left
returns-clause-left c =
    on_ok c.match-register.result (λ key.
    ap (λ m. area_octets m key) c.unregister.ensures.rest ∙ gone c.args.areas.now (block_key c.args.number) key c.db_numbers-numbers.ensures.memory.ordered)

pub returns-clause-part : goal.returns-clause-part
returns-clause-part c =
    elim c.match-register.branch [
      | in-Ok-register w ↦
          let new : c.register.new.self ≡ with_area c.args.part.now (block_key c.args.number) c.in-Ok.octets =
          registered (fault_of c.args.part.now (block_key c.args.number) (length c.in-Ok.octets)) _ c.in-Ok.octets
          w.in-Ok-register.ensures.refused w.in-Ok-register.ensures.taken in
          rw w.result-is (λ key. ap (λ m. area_octets m key) new ∙ joined c.args.areas.now c.args.part.now (block_key c.args.number) key c.in-Ok.octets c.in-Ok.ensures.octets)
      | in-Err w ↦ rw w.result-is tt
    ]
