-- The places of a write's octets lie in its data.
use Rattle.std.proofs.Common.{◌≡◌, ℕ, ◌+◌, ◌≤◌, List, [], ◌∷◌, ◌++◌, length, Ok, ◌==◌, ap, ◌∙◌, arith, length-append}
use Rattle.std.specs.Prelude.{All}
use Rattle.std.proofs.lemmas.List.Elements.{All-nil, All-cons}
use Rattle.s7_item.specs.DataItem.{span_of, data_places_of}
use Rattle.s7_item.specs.DataLaws.{SpellsData, Begins}
use Rattle.s7_item.specs.declared.places.DataPlace.{DataPlace}
use Rattle.s7_item.proofs.DataLaws.{data_are_exact, are_as_many}

-- the place ends within so many octets
abbrev pub EndsWithin : ℕ → DataPlace → Type 0
EndsWithin n place = place.from + place.len ≤ n

spelled_length : (at : ℕ) (b : _) (place : DataPlace) (octets rest : List ℕ) → Begins at b place octets rest → length octets ≡ span_of place b + length rest
spelled_length at b place octets rest h =
    ap length h.spelled ∙ omega (arith, length-append (h.body ++ h.pad) rest, length-append h.body h.pad, h.long, h.padded)

spelled_inside : (n at : ℕ) (octets : List ℕ) (places : List DataPlace) → SpellsData at octets places → at + length octets ≤ n → All (EndsWithin n) places
spelled_inside n at octets [] s le = All-nil (EndsWithin n)
spelled_inside n at octets (place ∷ places) s le =
    let b = length places == 0 in
    let size = spelled_length at b place octets s.0 s.1 in
    All-cons (EndsWithin n) place places (omega (arith, s.1.from, size, le))
    (spelled_inside n (at + span_of place b) s.0 places s.2 (omega (arith, size, le)))

pub places_inside : (n : ℕ) (octets : List ℕ) (places : List DataPlace) → data_places_of n octets ≡ Ok places → All (EndsWithin (length octets)) places
places_inside n octets places h =
    let same = are_as_many n octets places h in
    spelled_inside (length octets) 0 octets places ((data_are_exact octets places).0 (ap (λ m. data_places_of m octets) same ∙ h)) (omega arith)
