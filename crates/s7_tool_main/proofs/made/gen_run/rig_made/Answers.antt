use Rattle.s7_rig.proofs.TellsLemmas.{any_err, ran_wanting}
use Rattle.s7_tool_main.proofs.made.gen_run.rig_made.Goals as goal

pub returns-in_err-text-clause-told_wanting : goal.returns-in_err-text-clause-told_wanting
returns-in_err-text-clause-told_wanting g c =
    any_err _ (ran_wanting _ _ _ _ _ _ _ _ c.in_ok-end.ensures.ran c.in_ok-end.ensures.told)
