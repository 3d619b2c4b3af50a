use Rattle.std.proofs.Common.{ap₂, ◌∙◌}
use Rattle.std.proofs.lemmas.Result.{IfOk-weaker}
use Rattle.clap.specs.Words.{with_rule}
use Rattle.s7_args.proofs.rig.rig_command.Goals as goal

pub returns : goal.returns
returns c =
    let one = c.in_ok-arg.ensures.shape c.operand.ensures.local ∙ ap₂ with_rule c.bare.ensures c.operand.ensures.rule in
    let two = c.in_ok-arg-2.ensures.shape c.operands.ensures.local ∙ ap₂ with_rule one c.operands.ensures.rule in
    let three = c.in_ok-arg-3.ensures.shape c.text.ensures.local ∙ ap₂ with_rule two c.text.ensures.rule in
    let four = c.in_ok-arg-4.ensures.shape c.number.ensures.local ∙ ap₂ with_rule three c.number.ensures.rule in
    let five = c.in_ok-arg-5.ensures.shape c.number-2.ensures.local ∙ ap₂ with_rule four c.number-2.ensures.rule in
    let six = c.in_ok-arg-6.ensures.shape c.number-3.ensures.local ∙ ap₂ with_rule five c.number-3.ensures.rule in
    let seven = c.in_ok-arg-7.ensures.shape c.number-4.ensures.local ∙ ap₂ with_rule six c.number-4.ensures.rule in
    let eight = c.in_ok-arg-8.ensures.shape c.number-5.ensures.local ∙ ap₂ with_rule seven c.number-5.ensures.rule in
    let nine = c.in_ok-arg-9.ensures.shape c.text-2.ensures.local ∙ ap₂ with_rule eight c.text-2.ensures.rule in
    let ten = c.in_ok-arg-10.ensures.shape c.text-3.ensures.local ∙ ap₂ with_rule nine c.text-3.ensures.rule in
    IfOk-weaker c.arg-11.result _ _ (λ r added. added.shape c.number-6.ensures.local ∙ ap₂ with_rule ten c.number-6.ensures.rule) c.arg-11.ensures
