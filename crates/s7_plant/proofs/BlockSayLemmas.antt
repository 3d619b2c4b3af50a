-- What is said of blocks.
use Rattle.std.proofs.Common.{◌≡◌, ℕ, ◌+◌, ◌<◌, List, ◌++◌, length, take, drop, get_or, sym, ap, ◌∙◌, append_assoc}
use Rattle.std.specs.List.{flat_map}
use Rattle.std.proofs.Math.Seq.{take-append_seam}
use Rattle.std.proofs.lemmas.List.{at_drop_more}

-- the head stands in front of the image
pub front_of : (head rest : List ℕ) → length head ≡ 36 → take 36 (head ++ rest) ≡ head
front_of head rest is = ap (λ n. take n (head ++ rest)) (sym is) ∙ take-append_seam head rest

-- one more of them is told, and those to come are told after it
pub told_more : {X A : Type 0} (f : X → List A) (all : List X) (k : ℕ) (d : X) (told more total : List A) → k < length all → told ++ flat_map f (drop k all) ≡ total → more ≡ told ++ f (get_or all k d) → more ++ flat_map f (drop (k + 1) all) ≡ total
told_more f all k d told more total within before is =
    let rest = flat_map f (drop (k + 1) all) in
    let next = at_drop_more (flat_map f) all k d within in
    ap (λ l. l ++ rest) is ∙ append_assoc told (f (get_or all k d)) rest ∙ ap (λ l. told ++ l) (sym next) ∙ before
