-- A negotiation that is read, and the octets that spell it.
use Rattle.std.proofs.Common.{◌≡◌, ℕ, eqb, List, [], length, drop, slice_index, Ok, refl, ap, ◌∙◌, subst, arith}
use Rattle.std.proofs.lemmas.Bool.{eqb-true, and_parts}
use Rattle.std.proofs.Math.ListN.{drop_of_length-le}
use Rattle.s7_outer.specs.Numbers.{AreOctets}
use Rattle.s7_header.specs.Negotiation.{negotiation_octets, SpellsNegotiation, negotiates, asked_of, negotiation_of}
use Rattle.s7_header.specs.declared.negotiation.Negotiation.{Negotiation}
use Rattle.s7_header.proofs.Chosen.{passed}
use Rattle.s7_header.proofs.OctetLemmas.{two_of_number, number_at_fits, one_cell, two_cells}

spells_asked : (params : List ℕ) → AreOctets params → length params ≡ 8 → slice_index params 0 ≡ 0xF0 → SpellsNegotiation params (asked_of params)
spells_asked params are len id =
    let none : drop 0 params ≡ params = refl in
    let one = one_cell params 0 (omega arith) in
    let two = one_cell params 1 (omega arith) in
    let calling = two_cells params 2 (omega arith) are in
    let called = two_cells params 4 (omega arith) are in
    let pdu = two_cells params 6 (omega arith) are in
    let rest : drop 8 params ≡ [] = drop_of_length-le params {i = 8} (omega arith) in
    record {
      passed = slice_index params 1;
      octets = cc;
      is_negotiation = record { calling = number_at_fits params 2 are; called = number_at_fits params 4 are; pdu = number_at_fits params 6 are };
    }

-- what is read is spelled
pub spells_negotiation : (params : List ℕ) (n : Negotiation) → AreOctets params → negotiation_of params ≡ Ok n → SpellsNegotiation params n
unfolding negotiation_of
spells_negotiation params n are r =
    let form = passed (negotiates params) _ (Ok (asked_of params)) n r in
    let both = and_parts (eqb (length params) 8) (eqb (slice_index params 0) 0xF0) form.0 in
    let fields : asked_of params ≡ n = cc in
    let P : Negotiation → Type 0 = λ x. SpellsNegotiation params x in
    subst P fields (spells_asked params are (eqb-true (length params) 8 both.0) (eqb-true (slice_index params 0) 0xF0 both.1))

asked_at : (first calling called pdu : ℕ) → (let n : Negotiation = record { calling = calling; called = called; pdu = pdu } in asked_of (negotiation_octets first n) ≡ n)
asked_at first calling called pdu =
    let one = two_of_number calling in
    let two = two_of_number called in
    let three = two_of_number pdu in
    cc

-- what is spelled is read
pub spelled_negotiation : (first : ℕ) (n : Negotiation) → negotiation_of (negotiation_octets first n) ≡ Ok n
unfolding negotiation_of
spelled_negotiation first n = ap (λ x. Ok x) (asked_at first n.calling n.called n.pdu)

pub read_of_negotiation : (params : List ℕ) (n : Negotiation) → SpellsNegotiation params n → negotiation_of params ≡ Ok n
read_of_negotiation params n s = ap negotiation_of s.octets ∙ spelled_negotiation s.passed n

pub one_negotiation : (params : List ℕ) (m n : Negotiation) → SpellsNegotiation params m → SpellsNegotiation params n → m ≡ n
one_negotiation params m n s t =
    let first = read_of_negotiation params m s in
    let second = read_of_negotiation params n t in
    cc
