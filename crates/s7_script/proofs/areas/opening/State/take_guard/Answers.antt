use Rattle.std.proofs.Common.{◌∙◌, Bor, List, ℕ, option_map, sym}
use Rattle.s7_script.proofs.GuardLemmas.{line_guards}
use Rattle.s7_script.proofs.areas.opening.State.take_guard.Goals as goal

pub set_guard-requires : goal.set_guard-requires
set_guard-requires c = line_guards c.args.line (option_map (λ (t : Bor (List ℕ)). t.now) c.args.rest) c.in_ok-guard.guard (sym c.guard_line.ensures ∙ c.in_ok-guard.was)
