-- Octets put behind those that a box holds.
use Rattle.std.proofs.Common.{◌≡◌, ℕ, ◌+◌, ◌≤◌, List, ◌++◌, length, take, drop, ap, sym, ◌∙◌, append_assoc, arith, length-append}
use Rattle.std.proofs.lemmas.List.{take_at, drop-append-le}

pub put_behind : (front p rest post : List ℕ) (from upto r : ℕ) → from ≤ upto → length front ≡ upto → length p ≡ r
    → drop from (take (upto + r) (front ++ ((p ++ rest) ++ post))) ≡ drop from front ++ p
put_behind front p rest post from upto r le len size =
    let regroup : front ++ ((p ++ rest) ++ post) ≡ (front ++ p) ++ (rest ++ post) =
    ap (λ x. front ++ x) (append_assoc p rest post) ∙ sym (append_assoc front p (rest ++ post)) in
    let whole : length (front ++ p) ≡ upto + r = omega (arith, length-append front p, len, size) in
    ap (λ x. drop from (take (upto + r) x)) regroup
    ∙ (ap (drop from) (take_at (front ++ p) (rest ++ post) (upto + r) whole)
    ∙ drop-append-le from front p (omega (arith, le, len)))
