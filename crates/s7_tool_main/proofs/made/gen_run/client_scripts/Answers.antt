use Rattle.std.proofs.Common.{◌∙◌, ap, map}
use Rattle.std.proofs.lemmas.Result.{IfOk-weaker}
use Rattle.s7_rig.specs.Scripts.{goes_on}
use Rattle.s7_tool_main.proofs.made.gen_run.client_scripts.Goals as goal

pub returns-clause-scripts : goal.returns-clause-scripts
returns-clause-scripts c =
    IfOk-weaker c.going_on.result _ _ (λ all is. is ∙ ap (map goes_on) c.in_ok-scripts.ensures.scripts) c.going_on.ensures.scripts
