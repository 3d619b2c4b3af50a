-- What is drawn, by the state x of the generator.
use Rattle.std.specs.Prelude.{ℕ, zero, suc, List, [], ◌∷◌, ◌==◌, if◌then◌else◌}
use Rattle.s7_schedule.specs.Drawing.{drawn_from, next_x}
use Rattle.s7_dialogue.specs.declared.job.Job.{Job}
use Rattle.s7_tool_main.specs.Drawn.{kind_of, line_of, script_with}

-- x after this number of draws
unfoldable pub x_after : ℕ → ℕ → ℕ
x_after zero x = x
x_after (suc more) x = x_after more (next_x x)

-- the line that is drawn at x, of at most five numbers
unfoldable pub line_at : ℕ → Job
line_at x = line_of (drawn_from x 5)

-- x after the line
unfoldable pub after_line : ℕ → ℕ
after_line x = if kind_of (drawn_from x 5) == 2 then x_after 5 x else x_after 4 x

-- this number of lines that are drawn from x on
unfoldable pub lines_at : ℕ → ℕ → List Job
lines_at zero x = []
lines_at (suc more) x = line_at x ∷ lines_at more (after_line x)

unfoldable pub after_lines : ℕ → ℕ → ℕ
after_lines zero x = x
after_lines (suc more) x = after_lines more (after_line x)

-- the script that is drawn from x on
abbrev pub script_at : ℕ → List Job
script_at x = script_with (lines_at 200 x)

-- this number of scripts that are drawn from x on
unfoldable pub scripts_at : ℕ → ℕ → List (List Job)
scripts_at zero x = []
scripts_at (suc more) x = script_at x ∷ scripts_at more (after_lines 200 x)
