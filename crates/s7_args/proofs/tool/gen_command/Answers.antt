use Rattle.std.proofs.Common.{ap₂, ◌∙◌}
use Rattle.std.proofs.lemmas.Result.{IfOk-weaker}
use Rattle.clap.specs.Words.{with_rule}
use Rattle.s7_args.proofs.tool.gen_command.Goals as goal

pub returns : goal.returns
returns c =
    IfOk-weaker c.arg.result _ _ (λ r added. added.shape c.numeral.ensures.local ∙ ap₂ with_rule c.bare.ensures c.numeral.ensures.rule) c.arg.ensures
