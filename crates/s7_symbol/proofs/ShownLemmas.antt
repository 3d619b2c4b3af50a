-- What is shown of octets that are a value.
use Rattle.std.proofs.Common.{◌≡◌, ◌∙◌, ℕ, List, length, take, drop, Result, Ok, Err, ap}
use Rattle.std.proofs.Math.Seq.{take-append_seam}
use Rattle.s7_text.specs.Lines.{Text}
use Rattle.s7_symbol.specs.Shown.{text_or_bad}
use Rattle.s7_symbol.specs.Values.{PutsSaid}
use Rattle.s7_symbol.specs.declared.fault.ValueFault.{ValueFault}

-- what was put at the front of a room is what is shown
pub put_is_shown : (octets : List ℕ) (said : Result Text ValueFault) (old new : List ℕ) (n : ℕ) → PutsSaid said old new (Ok n)
    → take n new ≡ text_or_bad octets said
put_is_shown octets (Ok said) old new n puts =
    ap (λ k. take k new) puts.count ∙ ap (take (length said)) puts.room ∙ take-append_seam said (drop (length said) old)
put_is_shown octets (Err e) old new n puts = absurd puts
