use Rattle.std.proofs.Common.{◌*◌, ◌||◌, length, map, sym, subst, ◌∙◌}
use Rattle.std.proofs.lemmas.List.{length-map}
use Rattle.std.proofs.lemmas.Result.{on_ok_weaker}
use Rattle.s7_rig.specs.Shown.{first_results, post_of, state_of, state_told}
use Rattle.s7_schedule.specs.Drawing.{seeded}
use Rattle.s7_rig.specs.Runs.{Turns, most_rounds}
use Rattle.s7_rig.specs.Stopped.{RoundsStop, RunStops, TurnsStop}
use Rattle.s7_rig.proofs.StoppedLemmas.{drawn_stop, rounds_stop, stated_stop}
use Rattle.s7_rig.proofs.TurnsLemmas.{Turns-append}
use Rattle.s7_rig.proofs.TellsLemmas.{any_err, err_weaker, tells_none, tells_then, wanting_then}
use Rattle.s7_rig.proofs.rig.Rig.run.Goals as goal

pub returns-clause-run : goal.returns-clause-run
returns-clause-run g c =
    let xs = c.args.self.now.stations.items in
    let stated = c.in_ok-take_stated.ensures.turns in
    let drawn = c.in_ok-take_drawn.ensures.turns in
    let middle = state_of c.take_stated.new.self in
    let end = state_of c.take_drawn.new.self in
    let turns = subst (λ n. Turns (seeded c.args.seed c.args.steps (2 * n)) middle end drawn.0) (c.take_stated.ensures.count ∙ sym (length-map xs post_of)) drawn.1 in
    on_ok_weaker c.take_rounds.result (λ rounds. record {
      middle = end;
      stirred = stated.0 || drawn.0;
      turned = Turns-append c.args.turns.now (seeded c.args.seed c.args.steps (2 * length (map post_of xs))) _ middle end stated.0 drawn.0 stated.1 turns;
      rounds = rounds;
    }) c.take_rounds.ensures.rounds

pub returns-clause-tells : goal.returns-clause-tells
returns-clause-tells g c =
    on_ok_weaker c.take_rounds.result (λ rounds. tells_then _ _ _ _ _ _
    (tells_then _ _ _ _ _ _ c.in_ok-take_stated.ensures.tells c.in_ok-take_drawn.ensures.tells) rounds)
    c.take_rounds.ensures.tells

pub returns-in_err-take_stated-clause-tells_wanting : goal.returns-in_err-take_stated-clause-tells_wanting
returns-in_err-take_stated-clause-tells_wanting g c =
    let a = c.args in
    let start = state_of a.self.now in
    let turns = a.turns.now in
    any_err _ (wanting_then (RunStops turns a.seed a.steps) (TurnsStop turns) start start _ _ _
    (stated_stop turns a.seed a.steps start) (tells_none (first_results (state_told start)) _)
    c.in_err-take_stated.ensures.tells_wanting)

pub returns-in_err-take_drawn-clause-tells_wanting : goal.returns-in_err-take_drawn-clause-tells_wanting
returns-in_err-take_drawn-clause-tells_wanting g c =
    let a = c.args in
    let start = state_of a.self.now in
    let turns = a.turns.now in
    let middle = c.take_stated.new.self in
    let n = length middle.stations.items in
    let count = c.take_stated.ensures.count ∙ sym (length-map a.self.now.stations.items post_of) in
    let stated = c.in_ok-take_stated.ensures in
    any_err _ (wanting_then (RunStops turns a.seed a.steps) (TurnsStop (seeded a.seed a.steps (2 * n))) start
    (state_of middle) _ _ _
    (λ last s. drawn_stop turns a.seed a.steps start n (state_of middle) last stated.turns.0 count stated.turns.1 s)
    stated.tells c.in_err-take_drawn.ensures.tells_wanting)

pub returns-clause-tells_wanting : goal.returns-clause-tells_wanting
returns-clause-tells_wanting g c =
    let a = c.args in
    let start = state_of a.self.now in
    let turns = a.turns.now in
    let middle = c.take_stated.new.self in
    let behind = state_of c.take_drawn.new.self in
    let n = length middle.stations.items in
    let count = c.take_stated.ensures.count ∙ sym (length-map a.self.now.stations.items post_of) in
    let stated = c.in_ok-take_stated.ensures in
    let drawn = c.in_ok-take_drawn.ensures in
    err_weaker c.take_rounds.result (λ w. wanting_then (RunStops turns a.seed a.steps) (RoundsStop most_rounds) start
    behind _ _ _
    (λ last s. rounds_stop turns a.seed a.steps start n (state_of middle) behind last stated.turns.0 drawn.turns.0 count
    stated.turns.1 drawn.turns.1 s)
    (tells_then _ _ _ _ _ _ stated.tells drawn.tells) w) c.take_rounds.ensures.tells_wanting
