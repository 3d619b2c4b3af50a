use Rattle.std.proofs.Common.{◌∙◌, ap, inl, option_map, refl, subst, sym}
use Rattle.std.specs.List.{AllByRecursion}
use Rattle.std.specs.Map.{keys_of}
use Rattle.std.proofs.lemmas.Result.{IfOk-weaker}
use Rattle.s7_area.specs.Memory.{Memory}
use Rattle.s7_rig.specs.Scripts.{BeginsWell}
use Rattle.s7_rig.specs.Shown.{end_told}
use Rattle.s7_rig.proofs.TellsLemmas.{any_err}
use Rattle.s7_tool_main.proofs.DrawnLemmas.{made_connect}
use Rattle.s7_tool_main.proofs.NamesLemmas.{rig_names}
use Rattle.s7_tool_main.proofs.ToldLemmas.{wanting_same}
use Rattle.s7_tool_main.proofs.made.gen_run.run_made.Goals as goal

pub run_rig-requires-clause-connects : goal.run_rig-requires-clause-connects
run_rig-requires-clause-connects g c =
    subst (AllByRecursion BeginsWell) (sym c.in_ok-scripts.ensures.scripts) (made_connect c.args.seed)

pub returns-clause-names : goal.returns-clause-names
returns-clause-names g c =
    IfOk-weaker c.run_rig.result _ _
    (λ end ran. rig_names _ _ _ _ _ (end_told end) ran ∙ ap (λ (m : Memory). keys_of m.areas) c.in_ok-areas.ensures)
    c.run_rig.ensures.ran

pub returns-in_err-areas-clause-told_wanting : goal.returns-in_err-areas-clause-told_wanting
returns-in_err-areas-clause-told_wanting g c = any_err _ (inl refl)

pub returns-in_err-scripts-clause-told_wanting : goal.returns-in_err-scripts-clause-told_wanting
returns-in_err-scripts-clause-told_wanting g c = any_err _ (inl refl)

pub returns-clause-told_wanting : goal.returns-clause-told_wanting
returns-clause-told_wanting g c =
    wanting_same c.run_rig.result _ _ _ _ _ _ _ _ _ _ _ (option_map g.C.Completion.told c.args.done.now)
    (option_map g.C.Completion.told c.run_rig.new.done) c.in_ok-areas.ensures c.rig_config.ensures
    c.in_ok-scripts.ensures.scripts refl c.run_rig.ensures.told_wanting
