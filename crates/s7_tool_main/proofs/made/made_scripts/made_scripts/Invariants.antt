use Rattle.std.proofs.Common.{◌≡◌, ◌-◌, ◌++◌, map, vec_len}
use Rattle.s7_schedule.specs.Drawing.{first_x}
use Rattle.s7_tool_main.specs.Drawing.{scripts_at}
use Rattle.s7_tool_main.proofs.made.made_scripts.made_scripts.Given as goal

-- the scripts that are left to draw follow those drawn
abbrev pub invariant-loop : goal.invariant-loop
invariant-loop l = record {
  scripts : map (λ s. s.items) l.all.items ++ scripts_at (4 - l.counter) l.draw
      ≡ scripts_at 4 (first_x l.fn.seed);
  len : vec_len l.all ≡ l.counter;
}
