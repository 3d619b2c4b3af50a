use Rattle.std.proofs.Common.{◌∙◌, subst}
use Rattle.s7_rig.specs.Shown.{end_told}
use Rattle.s7_tool_main.specs.GenText.{made_text}
use Rattle.s7_tool_main.specs.Report.{PrintsText}
use Rattle.s7_tool_main.proofs.RanLemmas.{seed_rigged}
use Rattle.s7_tool_main.proofs.ToldLemmas.{not_wanting}
use Rattle.s7_tool_main.proofs.made.gen_run.run_gen.Goals as goal

pub returns-in-Ok-clause-ended : goal.returns-in-Ok-clause-ended
returns-in-Ok-clause-ended g c =
    let rig = c.in-Ok.rigged in
    let from = g.O.Out.shows c.args.out.now in
    let to = g.O.Out.shows c.print_text-ended.new.out in
    let how = c.print_text-ended.result in
    let text = c.as_slice.ensures.value ∙ c.in-Ok.ensures.text in
    let printed =
    subst (λ b. PrintsText (made_text (end_told rig.end)) b from to how) c.in-Ok.ensures.good
    (subst (λ t. PrintsText t rig.is_good from to how) text c.print_text-ended.ensures) in
    seed_rigged c.args.seed from to rig.end how c.in-Ok.ensures.ran printed

pub returns-in-Ok-clause-told : goal.returns-in-Ok-clause-told
returns-in-Ok-clause-told g c = λ other. c.in-Ok.ensures.told

pub returns-in-Ok-clause-told_wanting : goal.returns-in-Ok-clause-told_wanting
returns-in-Ok-clause-told_wanting g c = λ is. absurd (not_wanting _ _ _ _ _ c.print_text-ended.ensures is)

pub returns-in-Err-clause-told_wanting : goal.returns-in-Err-clause-told_wanting
returns-in-Err-clause-told_wanting g c = λ is. c.in-Err.ensures.told_wanting
