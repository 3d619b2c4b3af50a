-- Records of an image, one by one.
use Rattle.std.proofs.Common.{◌≡◌, ◌≢◌, ℕ, suc, ◌+◌, ◌-◌, ◌<◌, Bool, true, cond, List, ◌∷◌, take, drop, Option, None, Some, ap, ◌∙◌, sym, arith}
use Rattle.std.proofs.lemmas.Bool.{eq-eqb, ne_eqb}
use Rattle.s7_szl.specs.Octets.{number_at}
use Rattle.s7_szl.specs.Readers.{field_of, records_in, first_with}

one_more : (len end counter : ℕ) (octets : List ℕ) → counter < end → records_in len (end - counter) octets ≡ take len octets ∷ records_in len (end - (counter + 1)) (drop len octets)
one_more len end counter octets h =
    let e : end - counter ≡ suc (end - (counter + 1)) = omega arith in
    ap (λ n. records_in len n octets) e

-- the next record has the index
pub first_is : (index end counter : ℕ) (octets : List ℕ) → counter < end → number_at (take 34 octets) 0 ≡ index
    → first_with index (records_in 34 (end - counter) octets) ≡ Some (drop 2 (take 34 octets))
first_is index end counter octets h e =
    ap (first_with index) (one_more 34 end counter octets h)
    ∙ ap (λ b. cond b (Some (drop 2 (take 34 octets))) (first_with index (records_in 34 (end - (counter + 1)) (drop 34 octets)))) (eq-eqb (number_at (take 34 octets) 0) index e)

-- it has another one
pub first_is_behind : (index end counter : ℕ) (octets : List ℕ) → counter < end → number_at (take 34 octets) 0 ≢ index
    → first_with index (records_in 34 (end - counter) octets) ≡ first_with index (records_in 34 (end - (counter + 1)) (drop 34 octets))
first_is_behind index end counter octets h e =
    ap (first_with index) (one_more 34 end counter octets h)
    ∙ ap (λ b. cond b (Some (drop 2 (take 34 octets))) (first_with index (records_in 34 (end - (counter + 1)) (drop 34 octets)))) (ne_eqb (number_at (take 34 octets) 0) index e)

-- what is found in an image of the list is its field
pub is_field : (is : Bool) (found : Option (List ℕ)) (text octets : List ℕ) → is ≡ true → found ≡ Some text → octets ≡ text → Some octets ≡ field_of is found
is_field is found text octets i f e = ap (λ x. Some x) e ∙ sym f ∙ ap (λ b. cond b found None) (sym i)
