-- What a test says where a choice by it gave an `Ok`.
use Rattle.std.proofs.Common.{◌≡◌, Bool, true, false, cond, Result, Ok, Err, refl}

-- the refusal didn't apply
pub not_refused : {A E : Type 0} (b : Bool) (e : E) (r : Result A E) (x : A) → cond b (Err e) r ≡ Ok x → (b ≡ false) × (r ≡ Ok x)
not_refused true e r x h = cc
not_refused false e r x h = (refl, h)

-- the test that is asked for passed
pub passed : {A E : Type 0} (b : Bool) (e : E) (r : Result A E) (x : A) → cond b r (Err e) ≡ Ok x → (b ≡ true) × (r ≡ Ok x)
passed true e r x h = (refl, h)
passed false e r x h = cc
