use Rattle.std.proofs.Common.{◌≡◌, ◌+◌, drop}
use Rattle.s7_script.specs.Spelling.{before_run}
use Rattle.s7_script.proofs.areas.octet_lines.before_run.Given as goal

abbrev pub invariant-loop-place : goal.invariant-loop-place
invariant-loop-place l = before_run l.octets ≡ l.place + before_run (drop l.place l.octets)
