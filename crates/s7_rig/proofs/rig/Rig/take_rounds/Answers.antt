use Rattle.std.proofs.Common.{refl, sym, ◌∙◌, subst}
use Rattle.std.specs.Prelude.{option_map}
use Rattle.s7_rig.specs.Shown.{first_results, state_told, state_of}
use Rattle.s7_rig.specs.Runs.{Rounds, Turns, actors_of, most_rounds}
use Rattle.s7_rig.specs.Stopped.{RoundsStop, TurnsStop}
use Rattle.s7_rig.proofs.RoundsLemmas.{CountsOn-begin, CountsOn-more, CountsOn-ends, Rounds-all, Rounds-finished, Rounds-more, Rounds-still, RoundsStop-here, RoundsStop-more}
use Rattle.s7_rig.proofs.TellsLemmas.{any_err, tells_none, tells_then, wanting_then}
use Rattle.s7_rig.proofs.rig.Rig.take_rounds.Goals as goal

pub loop-init : goal.loop-init
loop-init g c = record {
  count = refl;
  tells = tells_none (first_results (state_told (state_of c.args.self.now))) (option_map g.C.Completion.told c.args.done.now);
  handed = refl;
  rounds = CountsOn-begin Rounds (state_of c.args.self.now);
  stops = CountsOn-begin RoundsStop (state_of c.args.self.now);
}

pub returns-then-are_finished-clause-rounds : goal.returns-then-are_finished-clause-rounds
returns-then-are_finished-clause-rounds g c =
    let now = state_of c.loop.self in
    CountsOn-ends Rounds c.loop.counter most_rounds _ now _ c.loop-test.true c.loop.invariant.rounds (λ more. Rounds-finished more now (sym c.if-are_finished.ensures))

pub returns-then-not-branch-clause-rounds : goal.returns-then-not-branch-clause-rounds
returns-then-not-branch-clause-rounds g c =
    let now = state_of c.loop.self in
    let next = state_of c.round.new.self in
    let round = subst (λ b. Turns (actors_of now) now next b) c.if-not-branch.true c.in_ok-round.ensures.turns in
    CountsOn-ends Rounds c.loop.counter most_rounds _ now _ c.loop-test.true c.loop.invariant.rounds (λ more. Rounds-still more now next (sym c.if-are_finished.ensures) round)

pub loop-preserved : goal.loop-preserved
loop-preserved g c =
    let now = state_of c.loop.self in
    let next = state_of c.round.new.self in
    let round = subst (λ b. Turns (actors_of now) now next b) c.if-not-branch.false c.in_ok-round.ensures.turns in
    record {
      count = c.round.ensures.count ∙ c.loop.invariant.count;
      tells = tells_then _ _ _ _ _ _ c.loop.invariant.tells c.in_ok-round.ensures.tells;
      handed = c.round.ensures.handed ∙ c.loop.invariant.handed;
      rounds = CountsOn-more Rounds c.loop.counter _ now next
          (λ more new. Rounds-more more now next new (sym c.if-are_finished.ensures) round) c.loop.invariant.rounds;
      stops = CountsOn-more RoundsStop c.loop.counter _ now next
          (λ more last. RoundsStop-more more now next last (sym c.if-are_finished.ensures) round) c.loop.invariant.stops;
    }

pub returns-clause-rounds : goal.returns-clause-rounds
returns-clause-rounds g c = Rounds-all c.loop.counter most_rounds _ (state_of c.loop.self) c.loop.auto.counter-end c.loop-test.false c.loop.invariant.rounds

pub returns-in_err-round-clause-tells_wanting : goal.returns-in_err-round-clause-tells_wanting
returns-in_err-round-clause-tells_wanting g c =
    let start = state_of c.args.self.now in
    let now = state_of c.loop.self in
    any_err _ (wanting_then (RoundsStop most_rounds) (TurnsStop (actors_of now)) start now _ _ _
    (λ last s. CountsOn-ends RoundsStop c.loop.counter most_rounds start now last c.loop-test.true
    c.loop.invariant.stops (λ more. RoundsStop-here more now last (sym c.if-are_finished.ensures) s))
    c.loop.invariant.tells c.in_err-round.ensures.tells_wanting)
