use Rattle.std.proofs.Common.{◌≡◌, ◌≤◌, ◌++◌, length, take, arith, ap, sym, ◌∙◌, subst, List, ℕ}
use Rattle.std.proofs.lemmas.Grind.{common_steps}
use Rattle.std.proofs.lemmas.List.{length-take, length-take-le}
use Rattle.s7_wire.specs.declared.found.Taken.{Taken}
use Rattle.s7_partner.proofs.ListLemmas.{cut_one}
use Rattle.s7_partner.proofs.OctetLemmas.{reads_octet, more_going}
use Rattle.s7_partner.proofs.reading.read_octet.Goals as goal

pub returns : goal.returns
returns c =
    let t = c.read-taken in
    let octets = take 1 c.as_slice.result.now in
    let used = take t.result.octets octets in
    let len : length octets ≡ 1 = grind (arith, common_steps, length-take) in
    let one : t.result.octets ≤ 1 = omega (arith, t.ensures.taken, len) in
    let few : length used ≤ 1 = omega (arith, length-take t.result.octets octets, len) in
    let inbox : c.args.inbox.now ≡ used ++ c.advance.new.self =
    subst (λ (xs : List ℕ). c.args.inbox.now ≡ take t.result.octets (take 1 xs) ++ c.advance.new.self)
    (sym c.as_slice.ensures.octets)
    (cut_one t.result.octets c.args.inbox.now one
    ∙ ap (λ (xs : List ℕ). take t.result.octets (take 1 c.args.inbox.now) ++ xs) (sym c.advance.ensures)) in
    reads_octet c.args.reader.now t.new.self c.args.inbox.now c.advance.new.self used t.result.found few inbox
    t.ensures.found t.ensures.opening c.requires.read
    (λ going.
    omega (arith, length-take-le t.result.octets octets t.ensures.taken, t.ensures.some going (omega (arith, len))))
    (λ e.
    let going = more_going c.args.reader.now t.result.found
    (λ end h. ap (λ (x : Taken). x.found) (t.ensures.ended end h).0) e in
    omega (arith, length-take-le t.result.octets octets t.ensures.taken, t.ensures.some going (omega (arith, len))))
    t.ensures.writable t.ensures.message
