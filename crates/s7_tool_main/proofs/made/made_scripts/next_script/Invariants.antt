use Rattle.std.proofs.Common.{◌≡◌, ◌-◌, ◌∷◌, ◌++◌}
use Rattle.s7_dialogue.specs.declared.job.Job.TheVariants as job
use Rattle.s7_tool_main.specs.Drawing.{after_lines, lines_at}
use Rattle.s7_tool_main.proofs.made.made_scripts.next_script.Given as goal

-- the lines that are left to draw follow those drawn
abbrev pub invariant-loop : goal.invariant-loop
invariant-loop l = record {
  lines : l.jobs.items ++ lines_at (200 - l.counter) l.draw ≡ job.Connect ∷ lines_at 200 l.fn.draw;
  x : after_lines (200 - l.counter) l.draw ≡ after_lines 200 l.fn.draw;
}
