-- The octets of values that lines put.
use Rattle.std.proofs.Common.{◌≡◌, ◌∙◌, ℕ, List, length, take, drop, Result, Ok, Err, ap, sym}
use Rattle.std.proofs.Math.Seq.{take-append_seam}
use Rattle.s7_symbol.specs.Values.{PutsSaid}
use Rattle.s7_symbol.specs.declared.fault.ValueFault.{ValueFault}
use Rattle.s7_script.specs.Tagged.{value_or_fault}

-- what stands at the front of a room where so many octets were put is what was to be put
pub value_put : (said : Result (List ℕ) ValueFault) (old new : List ℕ) (n : ℕ) → PutsSaid said old new (Ok n)
    → value_or_fault said ≡ Ok (take n new)
value_put (Ok said) old new n h =
    ap Ok (sym (ap (λ k. take k new) h.count ∙ ap (take (length said)) h.room ∙ take-append_seam said (drop (length said) old)))
value_put (Err e) old new n h = absurd h
