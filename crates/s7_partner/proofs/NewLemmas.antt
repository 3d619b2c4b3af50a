-- What a partner stands for that was just made.
use Rattle.std.proofs.Common.{◌≡◌, ℕ, [], refl, ap, sym, ◌∙◌}
use Rattle.std.specs.Prelude.{None, Some}
use Rattle.s7_tpkt.specs.Packets.{packets_of, rest_of}
use Rattle.s7_wire.specs.Reading.{Progress, start, reading}
use Rattle.s7_wire.specs.Reads.{HasRead, size_at, opens_by}
use Rattle.s7_wire.specs.declared.found.Opening.{Opening}
use Rattle.s7_wire.specs.declared.reader.Reader.{Reader}

pub reading_none : (opening : Opening) → reading opening [] ≡ start
unfolding reading packets_of rest_of
reading_none opening = refl

-- there is no TPDU size before the opening
pub size_none : (r : Reader) → HasRead r [] → size_at r ≡ None
size_none r h = h.is.size ∙ ap (λ (p : Progress). p.size) (reading_none (opens_by r))

pub size_not : (r : Reader) (n : ℕ) → HasRead r [] → size_at r ≡ Some n → ⊥
size_not r n h e = let x : None ≡ Some n = sym (size_none r h) ∙ e in cc
