use Rattle.std.proofs.Common.{option_map, refl}
use Rattle.s7_rig.specs.Shown.{end_told}
use Rattle.s7_tool_main.proofs.RanLemmas.{if_ok, rig_prints}
use Rattle.s7_tool_main.proofs.ToldLemmas.{wanting_same}
use Rattle.s7_tool_main.proofs.rigs.rigging.run_clients.Goals as goal

pub returns-clause-printable : goal.returns-clause-printable
returns-clause-printable g c =
    if_ok _ _ c.run_rig.result (λ end ran. rig_prints c.ends_print.ensures c.rigs_are_formed.ensures _ _ _ _ _ (end_told end) ran) c.run_rig.ensures.ran

pub returns-clause-told_wanting : goal.returns-clause-told_wanting
returns-clause-told_wanting g c =
    wanting_same c.run_rig.result _ _ _ _ _ _ _ _ _ _ _ (option_map g.C.Completion.told c.args.done.now)
    (option_map g.C.Completion.told c.run_rig.new.done) refl c.rig_config-config.ensures refl
    c.as_slice.ensures.value c.run_rig.ensures.told_wanting
