-- The reads of rounds, one after another.
use Rattle.std.proofs.Common.{◌≡◌, ◌∙◌, ℕ, zero, suc, ◌+◌, ◌-◌, ◌<◌, ◌≤◌, refl, sym, ap, arith, List, [], ◌∷◌, ◌++◌, length, map}
use Rattle.std.specs.List.{range_with_len}
use Rattle.s7_symbol.specs.declared.tag.Tag.{Tag}
use Rattle.s7_watch.specs.Looks.{Look, look_at, look_count, looks_after, looks_from}

pub looks_ended : (tags : List Tag) (round number : ℕ) → looks_from tags round number 0 ≡ []
unfolding looks_from
looks_ended tags round number = refl

range_next : (n count : ℕ) → 0 < count → range_with_len n count ≡ n ∷ range_with_len (n + 1) (count - 1)
range_next n zero some = absurd (omega arith)
range_next n (suc more) some =
    let same : more ≡ suc more - 1 = omega arith in
    ap (λ m. n ∷ range_with_len (n + 1) m) same

-- the numbers from n to the last one
numbers_next : (n all : ℕ) → n < all → range_with_len n (all - n) ≡ n ∷ range_with_len (n + 1) (all - (n + 1))
numbers_next n all within =
    let some : 0 < all - n = omega arith in
    let fewer : all - n - 1 ≡ all - (n + 1) = omega arith in
    range_next n (all - n) some ∙ ap (λ m. n ∷ range_with_len (n + 1) m) fewer

numbers_ended : (n all : ℕ) → all ≤ n → range_with_len n (all - n) ≡ []
numbers_ended n all over =
    let none : all - n ≡ 0 = omega arith in
    ap (λ m. range_with_len n m) none

after_next : (tags : List Tag) (round number : ℕ) → number < look_count (length tags)
    → looks_after tags round number ≡ look_at tags round number ∷ looks_after tags round (number + 1)
after_next tags round number within = ap (map (look_at tags round)) (numbers_next number (look_count (length tags)) within)

after_ended : (tags : List Tag) (round number : ℕ) → look_count (length tags) ≤ number → looks_after tags round number ≡ []
after_ended tags round number over = ap (map (look_at tags round)) (numbers_ended number (look_count (length tags)) over)

-- the next read has others of its round after it
pub looks_within : (tags : List Tag) (round number left : ℕ) → 0 < left → number < look_count (length tags)
    → looks_from tags round number left ≡ look_at tags round number ∷ looks_from tags round (number + 1) left
unfolding looks_from
looks_within tags round number zero some within = absurd (omega arith)
looks_within tags round number (suc more) some within =
    ap (λ l. l ++ looks_from tags (round + 1) 0 more) (after_next tags round number within)

-- it is the last of its round
pub looks_over : (tags : List Tag) (round number left : ℕ) → 0 < left → number < look_count (length tags) → look_count (length tags) ≤ number + 1
    → looks_from tags round number left ≡ look_at tags round number ∷ looks_from tags (round + 1) 0 (left - 1)
unfolding looks_from
looks_over tags round number zero some within last = absurd (omega arith)
looks_over tags round number (suc more) some within last =
    let same : more ≡ suc more - 1 = omega arith in
    ap (λ l. l ++ looks_from tags (round + 1) 0 more) (after_next tags round number within ∙ ap (λ l. look_at tags round number ∷ l) (after_ended tags round (number + 1) last))
    ∙ ap (λ m. look_at tags round number ∷ looks_from tags (round + 1) 0 m) same
