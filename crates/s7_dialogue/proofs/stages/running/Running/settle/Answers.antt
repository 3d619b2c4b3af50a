use Rattle.std.proofs.Common.{[], ap, ◌∙◌, refl}
use Rattle.s7_dialogue.specs.Course.{for_nothing}
use Rattle.s7_dialogue.specs.Dialogue.{good_end, number_end}
use Rattle.s7_dialogue.specs.declared.grant.Leaves.TheVariants.{AsItWas}
use Rattle.s7_dialogue.proofs.SettleLemmas.{settles_refused, settles_found, not_some}
use Rattle.s7_dialogue.proofs.stages.running.Running.settle.Goals as goal

pub returns-in-Some-clause-settles : goal.returns-in-Some-clause-settles
returns-in-Some-clause-settles c = λ config granted rows done follows.
    c.end.ensures.ends []
    ∙ (ap (λ n. for_nothing (number_end n AsItWas) []) c.number_by-code.ensures
    ∙ ap (λ e. for_nothing e [])
    (settles_refused c.args.self.now config granted rows c.args.self.now.stage c.args.refused c.in-Some.refused refl
    c.in-Some.is done follows))

pub returns-clause-settles : goal.returns-clause-settles
returns-clause-settles c = λ config granted rows done follows.
    ap (λ xs. for_nothing (good_end xs c.args.self.now.codes) []) c.close_found.ensures
    ∙ ap (λ e. for_nothing e [])
    (settles_found c.args.self.now config granted rows c.args.self.now.stage c.args.refused refl
    (not_some c.args.refused c.in_default.not-Some) done follows)
