-- One bit of an octet, turned on or off by masks.
use Rattle.std.proofs.Common.{◌≡◌, ℕ, zero, suc, ◌+◌, ◌-◌, ◌*◌, ◌/◌, ◌%◌, ◌^◌, ◌<◌, Bool, true, false, cond, eqb, ◌&&◌, bit_and, bit_or, inl, inr, refl, arith}
use Rattle.std.proofs.lemmas.Bool.{eqb-true, cases_lt}
use Rattle.s7_area.specs.Places.{bit_of, with_bit}
use Rattle.s7_area.specs.Laws.{BitsStandAlone}

-- a test holds at each number below n
all_below : (ℕ → Bool) → ℕ → Bool
all_below p zero = true
all_below p (suc n) = p n && all_below p n

below_step : (p : ℕ → Bool) (n k : ℕ) (here : Bool) → p n ≡ here → (here && all_below p n) ≡ true → k < n + 1 → (all_below p n ≡ true → k < n → p k ≡ true) → p k ≡ true
below_step p n k true is all less more = elim (cases_lt k n) [ inl below ↦ more all below | inr above ↦ (let same : k ≡ n = omega arith in rw same is) ]
below_step p n k false is all less more = cc

all_below-at : (p : ℕ → Bool) (n k : ℕ) → all_below p n ≡ true → k < n → p k ≡ true
unfolding all_below
all_below-at p zero k all less = absurd (omega arith)
all_below-at p (suc n) k all less = below_step p n k (p n) refl all (omega arith) (all_below-at p n k)

-- both masks, at an octet and a bit
masks : ℕ → ℕ → Bool
masks k octet =
    eqb (bit_or octet (1 * 2 ^ k % 256)) (octet - octet / 2 ^ k % 2 * 2 ^ k + 2 ^ k)
    && eqb (bit_and octet (255 - 1 * 2 ^ k % 256)) (octet - octet / 2 ^ k % 2 * 2 ^ k + 0)

all_masks : all_below (λ k. all_below (masks k) 256) 8 ≡ true
unfolding all_below masks
all_masks = refl

both_of : (a b : Bool) → (a && b) ≡ true → (a ≡ true) × (b ≡ true)
both_of true b all = (refl, all)
both_of false b all = cc

both : (octet k : ℕ) → octet < 256 → k < 8 → masks k octet ≡ true
both octet k small bit = all_below-at (masks k) 256 octet (all_below-at (λ j. all_below (masks j) 256) 8 k all_masks bit) small

pub turned_on : (octet k : ℕ) → octet < 256 → k < 8 → bit_or octet (1 * 2 ^ k % 256) ≡ with_bit octet k true
unfolding masks
turned_on octet k small bit = eqb-true _ _ ((both_of _ _ (both octet k small bit)).0)

pub turned_off : (octet k : ℕ) → octet < 256 → k < 8 → bit_and octet (255 - 1 * 2 ^ k % 256) ≡ with_bit octet k false
unfolding masks
turned_off octet k small bit = eqb-true _ _ ((both_of _ _ (both octet k small bit)).1)

-- a bit is turned and another one stays, at an octet and two bits
alone : Bool → ℕ → ℕ → ℕ → Bool
alone on k j octet = eqb (bit_of (with_bit octet k on) j) (cond (eqb j k) (cond on 1 0) (bit_of octet j))

all_alone : (on : Bool) → all_below (λ k. all_below (λ j. all_below (alone on k j) 256) 8) 8 ≡ true
unfolding all_below alone
all_alone true = refl
all_alone false = refl

pub stand_alone : BitsStandAlone
unfolding alone
stand_alone octet k j on small bit other =
    let at_k = all_below-at (λ i. all_below (λ l. all_below (alone on i l) 256) 8) 8 k (all_alone on) bit in
    let at_j = all_below-at (λ l. all_below (alone on k l) 256) 8 j at_k other in
    eqb-true _ _ (all_below-at (alone on k j) 256 octet at_j small)
