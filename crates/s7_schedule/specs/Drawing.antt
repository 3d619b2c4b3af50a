-- What is drawn from a seed: numbers, and the actors of turns.
use Rattle.std.specs.Prelude.{ℕ, zero, suc, ◌+◌, ◌*◌, ◌/◌, ◌%◌, List, [], ◌∷◌}

-- the x after this one, by a linear congruential generator modulo 2^31
abbrev pub next_x : ℕ → ℕ
next_x x = (1103515245 * x + 12345) % 2147483648

-- the first x: the seed modulo 2^31
abbrev pub first_x : ℕ → ℕ
first_x seed = seed % 2147483648

-- THE NUMBER drawn from x, its high part
abbrev pub number_by : ℕ → ℕ
number_by x = x / 65536

-- a number of numbers; the first is drawn from the x after this one, and each other one from the x after that
unfoldable pub drawn_from : ℕ → ℕ → List ℕ
drawn_from x zero = []
drawn_from x (suc more) = number_by (next_x x) ∷ drawn_from (next_x x) more

-- THE ACTOR drawn from x, of this number of actors
abbrev pub actor_by : ℕ → ℕ → ℕ
actor_by x actors = number_by x % actors

-- the actors of `steps` turns, each drawn from the next x
unfoldable pub drawn : ℕ → ℕ → ℕ → List ℕ
drawn x zero actors = []
drawn x (suc steps) actors = actor_by (next_x x) actors ∷ drawn (next_x x) steps actors

-- THE SEEDED TURNS
abbrev pub seeded : ℕ → ℕ → ℕ → List ℕ
seeded seed steps actors = drawn (first_x seed) steps actors
