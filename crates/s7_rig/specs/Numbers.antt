-- Numbers in order.
use Rattle.std.specs.Prelude.{ℕ, ◌+◌, zero, suc, List, [], ◌∷◌}

-- this number of consecutive numbers, from n on
unfoldable pub count_from : ℕ → ℕ → List ℕ
count_from n zero = []
count_from n (suc more) = n ∷ count_from (n + 1) more
