-- Lemmas on data items.
use Rattle.std.proofs.Common.{◌≡◌, ℕ, zero, suc, ◌+◌, ◌-◌, ◌<◌, ◌≤◌, eqb, Result, Ok, Err, List, [], ◌∷◌, ◌++◌, drop, length, refl, sym, ap, ◌∙◌, append_assoc, arith}
use Rattle.std.proofs.lemmas.Bool.Decides.{nat_tests}
use Rattle.std.specs.Result.{result_map_both}
use Rattle.std.proofs.lemmas.List.{append-nil, drop-drop, length-drop}
use Rattle.s7_item.specs.DataItem.{place_in, places_in, span_of, with_place, then_places}
use Rattle.s7_item.specs.declared.places.DataPlace.{DataPlace}
use Rattle.s7_item.specs.declared.read_data.DataFault.{DataFault}

-- the places so far and then those told
abbrev pub after_these : List DataPlace → Result (List DataPlace) DataFault → Result (List DataPlace) DataFault
after_these so_far told = result_map_both (λ places. so_far ++ places) (λ fault. fault) told

-- no places so far
pub after_these-none : (told : Result (List DataPlace) DataFault) → after_these [] told ≡ told
after_these-none (Ok places) = refl
after_these-none (Err fault) = refl

-- a place before the others comes after those so far
pub after_these-with_place : (so_far : List DataPlace) (place : DataPlace) (told : Result (List DataPlace) DataFault) → after_these so_far (with_place place told) ≡ after_these (so_far ++ place ∷ []) told
after_these-with_place so_far place (Ok places) = ap Ok (sym (append_assoc so_far (place ∷ []) places))
after_these-with_place so_far place (Err fault) = refl

-- the test whether the k-th item is the last one
pub is_last : (k n : ℕ) → k < n → eqb (k + 1) n ≡ eqb (n - (k + 1)) 0
is_last k n less = grind (arith, nat_tests)

-- the step of a loop: at this place a data item begins
pub places_in-step : (so_far now : List DataPlace) (place : DataPlace) (k n at next : ℕ) (octets : List ℕ) (all : Result (List DataPlace) DataFault) (r : Result DataPlace DataFault) → k < n → after_these so_far (places_in (n - k) at (drop at octets)) ≡ all → r ≡ place_in at (eqb (k + 1) n) (drop at octets) → r ≡ Ok place → now ≡ so_far ++ place ∷ [] → next ≡ at + span_of place (eqb (k + 1) n) → after_these now (places_in (n - (k + 1)) next (drop next octets)) ≡ all
places_in-step so_far now place k n at next octets all r less inv read is new goes =
    let m : ℕ = n - (k + 1) in
    let left : n - k ≡ suc m = omega arith in
    let last : eqb (k + 1) n ≡ eqb m 0 = is_last k n less in
    let span : ℕ = span_of place (eqb m 0) in
    let first : place_in at (eqb m 0) (drop at octets) ≡ Ok place = ap (λ b. place_in at b (drop at octets)) (sym last) ∙ (sym read ∙ is) in
    let others : DataPlace → Result (List DataPlace) DataFault = λ p. places_in m (at + span_of p (eqb m 0)) (drop (span_of p (eqb m 0)) (drop at octets)) in
    let same : after_these so_far (places_in (suc m) at (drop at octets)) ≡ all =
    ap (λ i. after_these so_far (places_in i at (drop at octets))) (sym left) ∙ inv in
    let began : after_these so_far (with_place place (others place)) ≡ all =
    sym (ap (λ p. after_these so_far (then_places p others)) first) ∙ same in
    let more : after_these (so_far ++ place ∷ []) (others place) ≡ all = sym (after_these-with_place so_far place (others place)) ∙ began in
    let next_is : next ≡ at + span = goes ∙ ap (λ b. at + span_of place b) last in
    let rest : drop span (drop at octets) ≡ drop next octets = drop-drop span at octets ∙ ap (λ i. drop i octets) (sym next_is) in
    rw (new, next_is) (rw (← drop-drop span at octets) more)

-- the end of that loop: no data item begins there
pub places_in-fails : (so_far : List DataPlace) (fault : DataFault) (k n at : ℕ) (octets : List ℕ) (all : Result (List DataPlace) DataFault) (r : Result DataPlace DataFault) → k < n → after_these so_far (places_in (n - k) at (drop at octets)) ≡ all → r ≡ place_in at (eqb (k + 1) n) (drop at octets) → r ≡ Err fault → all ≡ Err fault
places_in-fails so_far fault k n at octets all r less inv read is =
    let m : ℕ = n - (k + 1) in
    let left : n - k ≡ suc m = omega arith in
    let first : place_in at (eqb m 0) (drop at octets) ≡ Err fault = ap (λ b. place_in at b (drop at octets)) (sym (is_last k n less)) ∙ (sym read ∙ is) in
    let others : DataPlace → Result (List DataPlace) DataFault = λ p. places_in m (at + span_of p (eqb m 0)) (drop (span_of p (eqb m 0)) (drop at octets)) in
    sym inv ∙ (ap (λ i. after_these so_far (places_in i at (drop at octets))) left ∙ ap (λ p. after_these so_far (then_places p others)) first)

-- its other end: there are no more items and no more octets
pub places_in-ends : (so_far : List DataPlace) (k n at : ℕ) (octets : List ℕ) (all : Result (List DataPlace) DataFault) → n ≤ k → length octets ≤ at → after_these so_far (places_in (n - k) at (drop at octets)) ≡ all → all ≡ Ok so_far
places_in-ends so_far k n at octets all done past inv =
    let left : n - k ≡ zero = omega arith in
    let none : length (drop at octets) ≡ 0 = length-drop at octets ∙ omega arith in
    sym inv ∙ (ap (λ i. after_these so_far (places_in i at (drop at octets))) left ∙ rw none (ap Ok (append-nil so_far)))
