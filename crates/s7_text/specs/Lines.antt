-- The lines of a text. Each line ends with LF; a CR right before the LF is skipped, and the last LF may be missing.
use Rattle.std.specs.Prelude.{ℕ, ◌+◌, Bool, true, false, ◌==◌, ◌&&◌, min, List, [], ◌∷◌, if◌then◌else◌}

abbrev pub Text : Type 0
Text = List ℕ

abbrev pub with_first : ℕ → List Text → List Text
with_first b [] = (b ∷ []) ∷ []
with_first b (line ∷ lines) = (b ∷ line) ∷ lines

abbrev pub begins_with_newline : Text → Bool
begins_with_newline [] = false
begins_with_newline (b ∷ bs) = b == 10

-- a CR right before an LF belongs to no line
abbrev pub lines : Text → List Text
lines [] = []
lines (b ∷ bs) = if b == 10 then [] ∷ lines bs
    else (if b == 13 && begins_with_newline bs then lines bs else with_first b (lines bs))

-- a line before its LF, without the CR at its end
abbrev pub without_return : Text → Text
without_return [] = []
without_return (b ∷ []) = if b == 13 then [] else b ∷ []
without_return (b ∷ c ∷ cs) = b ∷ without_return (c ∷ cs)

-- an empty line, or a comment that begins with `#`: neither has a meaning
abbrev pub is_passed : Text → Bool
is_passed [] = true
is_passed (b ∷ bs) = b == 35

-- the number of the line after this one: lines are numbered from 1, and all lines after line 4,294,967,295 have that
-- number
abbrev pub next_line : ℕ → ℕ
next_line line = min (line + 1) 4294967295
