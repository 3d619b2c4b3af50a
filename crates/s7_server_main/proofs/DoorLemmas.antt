-- What a door that was lent shows tells what the door itself did.
use Rattle.std.proofs.Common.{◌≡◌, ◌⊎◌, inl, inr, ◌∙◌, refl, ap, unwrap_or, arith, ℕ, ◌+◌, ◌*◌, ◌≤◌, ◌<◌, List, [], Option, Some, None, Bool}
use Rattle.std.proofs.lemmas.Bool.{cases_order}
use Rattle.std.proofs.lemmas.Nat.{mul-le}
use Rattle.std.proofs.Math.Nat.{add-mul, mul-add}
use Rattle.std.specs.Borrow.{GName}
use Rattle.s7_outer.specs.DoorShown.{DoorShown}
use Rattle.s7_outer.specs.Shown.{Lent}
use Rattle.s7_listener.specs.Given.{Gives, HasFailed, HasGiven}
use Rattle.s7_server_main.specs.LentDoor.{lent_shown, lent_with, paired}

-- ---- two numbers as one

-- the next square is further than the root
above : (s t : ℕ) → s < t → s * s + s < t * t
above s t less =
    omega (arith, mul-le (s + 1) (s + 1) t t (omega (arith, less)) (omega (arith, less)), add-mul s 1 (s + 1), mul-add s s 1)

same_by_order : (s t a c : ℕ) → a ≤ s → c ≤ t → s * s + a ≡ t * t + c → (s ≡ t) ⊎ ((s < t) ⊎ (t < s)) → s ≡ t
same_by_order s t a c p q e (inl same) = same
same_by_order s t a c p q e (inr (inl less)) = absurd (omega (arith, above s t less, p, q, e))
same_by_order s t a c p q e (inr (inr more)) = absurd (omega (arith, above t s more, p, q, e))

same_sum : (a b c d : ℕ) → paired a b ≡ paired c d → a + b ≡ c + d
same_sum a b c d e = same_by_order (a + b) (c + d) a c (omega arith) (omega arith) e (cases_order (a + b) (c + d))

same_first : (a b c d : ℕ) → paired a b ≡ paired c d → a ≡ c
same_first a b c d e = omega (arith, e, ap (λ s. s * s) (same_sum a b c d e))

same_second : (a b c d : ℕ) → paired a b ≡ paired c d → b ≡ d
same_second a b c d e = omega (arith, same_sum a b c d e, same_first a b c d e)

-- ---- what was lent

some_same : {A : Type 0} {x y : A} → Some x ≡ Some y → x ≡ y
some_same {A} {x} {y} e = ap (λ o. unwrap_or o x) e

abbrev lent_of : ℕ → ℕ → ℕ → Lent
lent_of loan end room = record { loan = loan; end = end; room = room }

same_lent : (l l' : Lent) → l'.loan ≡ l.loan → l'.end ≡ l.end → l'.room ≡ l.room → l' ≡ l
same_lent l l' p q r =
    ap (λ x. lent_of x l'.end l'.room) p ∙ (ap (λ x. lent_of l.loan x l'.room) q ∙ ap (λ x. lent_of l.loan l.end x) r)

-- the loan of the door is known by what was shown
pub same_loan : (loan loan' : GName) (o o' : Option Lent) → Some (lent_with loan' o') ≡ Some (lent_with loan o) → loan' ≡ loan
same_loan loan loan' None None e = ap (λ l. l.loan) (some_same e)
same_loan loan loan' None (Some l') e = ap (λ l. l.loan) (some_same e)
same_loan loan loan' (Some l) None e = ap (λ l. l.loan) (some_same e)
same_loan loan loan' (Some l) (Some l') e = ap (λ l. l.loan) (some_same e)

-- and so is what was lent to the door itself
same_of_door : (loan loan' : GName) (o o' : Option Lent) → Some (lent_with loan' o') ≡ Some (lent_with loan o) → o' ≡ o
same_of_door loan loan' None None e = refl
same_of_door loan loan' None (Some l') e = absurd (omega (arith, ap (λ l. l.end) (some_same e)))
same_of_door loan loan' (Some l) None e = absurd (omega (arith, ap (λ l. l.end) (some_same e)))
same_of_door loan loan' (Some l) (Some l') e =
    let pair : paired l'.loan l'.end ≡ paired l.loan l.end = omega (arith, ap (λ x. x.end) (some_same e)) in
    ap Some
    (same_lent l l' (same_first l'.loan l'.end l.loan l.end pair) (same_second l'.loan l'.end l.loan l.end pair)
    (ap (λ x. x.room) (some_same e)))

-- ---- what the door did

module _ {L : Type 0} (loan loan' : GName) (s s' : DoorShown L) where
  gives : (port : ℕ) (lines : List L) → Gives port (lent_shown loan s) (lent_shown loan' s') lines → Gives port s s' lines
  gives port lines g = record {
    heard = g.heard;
    listened = g.listened;
    lent = same_of_door loan loan' s.lent s'.lent g.lent;
    gave = g.gave;
  }

  pub given : (port most : ℕ) (lines : List L) (failed : Bool)
      → HasGiven port most (lent_shown loan s) (lent_shown loan' s') lines failed → HasGiven port most s s' lines failed
  given port most lines failed h =
      record { gives = gives port lines h.gives; few = h.few; fault = h.fault; all = h.all }

  pub failed : (port : ℕ) → HasFailed port (lent_shown loan s) (lent_shown loan' s') → HasFailed port s s'
  failed port h = record { gives = gives port [] h.gives; fault = h.fault }

abbrev shown_of : {L : Type 0} → Option (List L) → ℕ → ℕ → (ℕ → ℕ) → Option Lent → DoorShown L
shown_of coming heard listens faults lent =
    record { coming = coming; heard = heard; listens = listens; faults = faults; lent = lent }

-- it is as it was
pub same : {L : Type 0} (loan loan' : GName) (s s' : DoorShown L) → lent_shown loan' s' ≡ lent_shown loan s → s' ≡ s
same loan loan' s s' e =
    let lent = same_of_door loan loan' s.lent s'.lent (ap (λ d. d.lent) e) in
    ap (λ x. shown_of x s'.heard s'.listens s'.faults s'.lent) (ap (λ d. d.coming) e)
    ∙ (ap (λ x. shown_of s.coming x s'.listens s'.faults s'.lent) (ap (λ d. d.heard) e)
    ∙ (ap (λ x. shown_of s.coming s.heard x s'.faults s'.lent) (ap (λ d. d.listens) e)
    ∙ (ap (λ x. shown_of s.coming s.heard s.listens x s'.lent) (ap (λ d. d.faults) e)
    ∙ ap (λ x. shown_of s.coming s.heard s.listens s.faults x) lent)))
