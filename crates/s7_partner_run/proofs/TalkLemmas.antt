-- What a call comes to where it did not fail, and octets one after another.
use Rattle.std.proofs.Common.{◌≡◌, ℕ, true, List, ◌++◌, refl, ap, sym, append_assoc}
use Rattle.std.specs.Prelude.{Option, None, Some, Result, Ok, Err, OnOk, is_ok}
use Rattle.std.specs.Io.KnownBytes.{prepend_known, append_known}

pub on_ok_at : {A E : Type 0} {P : Type 0} (r : Result A E) → is_ok r ≡ true → OnOk r P → P
on_ok_at (Ok x) is h = h
on_ok_at (Err e) is h = absurd (cc)

pub append_twice : (o : Option (List ℕ)) (a b : List ℕ) → append_known (append_known o a) b ≡ append_known o (a ++ b)
append_twice None a b = refl
append_twice (Some x) a b = ap Some (append_assoc x a b)

pub prepend_twice : (a b : List ℕ) (o : Option (List ℕ)) → prepend_known a (prepend_known b o) ≡ prepend_known (a ++ b) o
prepend_twice a b None = refl
prepend_twice a b (Some x) = ap Some (sym (append_assoc a b x))
