use Rattle.std.proofs.Common.{◌≡◌, inl, inr, map, refl}
use Rattle.s7_rig.specs.Shown.{end_told, script_told, state_told, state_of}
use Rattle.s7_rig.proofs.RigLemmas.{rig_ran, if_ok}
use Rattle.s7_rig.proofs.TellsLemmas.{any_err, rig_tells, rig_wanting}
use Rattle.s7_rig.proofs.runs.run_rig.Goals as goal

pub returns-clause-ran : goal.returns-clause-ran
returns-clause-ran g c =
    let a = c.args in
    let b = c.in_ok-rig.ensures in
    if_ok (λ end. end_told end ≡ state_told (state_of c.run.new.self)) _ c.into_end.result c.into_end.ensures
    (λ end is. rig_ran a.areas a.limit a.config c.db_numbers-numbers.ensures.memory c.requires.least_pdu c.requires.most_pdu (map script_told a.scripts.items)
    (record { turns = a.schedule.turns.now; seed = a.schedule.seed; steps = a.schedule.steps }) (end_told end) (state_of c.in_ok-rig.rig) (state_of c.run.new.self)
    c.requires.connects b.opening b.plant b.journal b.clients c.in_ok-run.ensures.run is)

pub returns-clause-told : goal.returns-clause-told
returns-clause-told g c =
    let start = state_of c.in_ok-rig.rig in
    let last = state_of c.run.new.self in
    if_ok (λ end. end_told end ≡ state_told last) _ c.into_end.result c.into_end.ensures
    (λ end is. rig_tells _ c.args.config (map script_told c.args.scripts.items) start last (end_told end) _ _
    c.in_ok-rig.ensures.clients c.in_ok-run.ensures.tells is)

pub returns-in_err-rig-clause-told_wanting : goal.returns-in_err-rig-clause-told_wanting
returns-in_err-rig-clause-told_wanting g c = any_err _ (inl refl)

pub returns-in_err-run-clause-told_wanting : goal.returns-in_err-run-clause-told_wanting
returns-in_err-run-clause-told_wanting g c =
    let a = c.args in
    let b = c.in_ok-rig.ensures in
    let w = c.in_err-run.ensures.tells_wanting in
    any_err _ (rig_wanting _ _ a.config (map script_told a.scripts.items) (state_of c.in_ok-rig.rig)
    b.opening b.plant b.journal b.clients _ _
    (record { turns = a.schedule.turns.now; seed = a.schedule.seed; steps = a.schedule.steps }) w.last (inl w.stopped)
    w.tells)

pub returns-clause-told_wanting : goal.returns-clause-told_wanting
returns-clause-told_wanting g c =
    let a = c.args in
    let b = c.in_ok-rig.ensures in
    let ran = c.in_ok-run.ensures in
    any_err c.into_end.result
    (rig_wanting _ _ a.config (map script_told a.scripts.items) (state_of c.in_ok-rig.rig) b.opening b.plant
    b.journal b.clients _ _
    (record { turns = a.schedule.turns.now; seed = a.schedule.seed; steps = a.schedule.steps }) (state_of c.run.new.self)
    (inr ran.run) ran.tells)
