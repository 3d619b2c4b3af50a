use Rattle.std.proofs.Common.{refl, ap, sym, ◌∙◌}
use Rattle.s7_session.specs.Stands.{closed_by, closed_with}
use Rattle.s7_session.proofs.ConsumeLemmas.{went_not_closed}
use Rattle.s7_session.proofs.TurnLemmas.{moves_none, moves_both}
use Rattle.s7_session.specs.declared.outcome.Turn.TheVariants as turn
use Rattle.s7_session.proofs.ServeLemmas.{closed_same, none_failed, not_yet_not_closed, served_after}
use Rattle.s7_session.proofs.RunLemmas.{link_run}
use Rattle.s7_session.proofs.session.Session.serve.Goals as goal

pub loop-init : goal.loop-init
loop-init g c = record {
  moves = moves_none g.D.Doer.stands g.D.Doer.is_full g.D.Doer.may_lack g.D.Doer.did g.D.Doer.keeps c.args.self.now (g.L.Link.shows c.args.line.now) c.args.doer.now;
  number = refl;
  kept = g.met.D.Doer.keeps_same c.args.doer.now;
  going = λ e. e;
  fails = λ e. refl;
  same = λ o e. (refl, refl, refl);
}

pub returns-in-Closed : goal.returns-in-Closed
returns-in-Closed g c =
    let served =
    served_after g.D.Doer.stands g.D.Doer.is_full g.D.Doer.may_lack g.D.Doer.did g.D.Doer.keeps c.args.self.now c.loop.self c.turn.new.self (g.L.Link.shows c.args.line.now) (g.L.Link.shows c.loop.line) (g.L.Link.shows c.turn.new.line)
    c.args.doer.now c.loop.doer c.turn.new.doer c.in-Closed.outcome c.loop.invariant.moves c.loop.invariant.going c.loop.invariant.fails
    c.in-Closed.ensures.turn
    in
    record {
      served = served;
      run = λ first fresh.
          link_run g.D.Doer.stands g.D.Doer.is_full g.D.Doer.may_lack g.D.Doer.did g.D.Doer.keeps first c.args.self.now c.turn.new.self (g.L.Link.shows c.args.line.now) (g.L.Link.shows c.turn.new.line)
          c.args.doer.now c.turn.new.doer c.in-Closed.outcome served fresh;
      number = c.turn.ensures.number ∙ c.loop.invariant.number;
      kept = g.met.D.Doer.keeps_both c.args.doer.now c.loop.doer c.turn.new.doer c.loop.invariant.kept c.turn.ensures.kept;
      stays = λ o e.
          let before = c.loop.invariant.same o e in
          let now = c.turn.ensures.stays o (ap closed_with before.0 ∙ e) in (
            closed_same c.in-Closed.outcome o c.turn.result c.in-Closed.is now.0,
            now.1 ∙ before.0,
            now.2 ∙ before.1,
            now.3 ∙ before.2,
          );
    }

pub loop-preserved : goal.loop-preserved
loop-preserved g c = record {
  moves =
      moves_both g.D.Doer.stands g.D.Doer.is_full g.D.Doer.may_lack g.D.Doer.did g.D.Doer.keeps c.args.self.now c.loop.self c.turn.new.self (g.L.Link.shows c.args.line.now) (g.L.Link.shows c.loop.line) (g.L.Link.shows c.turn.new.line)
      c.args.doer.now c.loop.doer c.turn.new.doer c.loop.invariant.moves c.turn.ensures.turn.moves;
  number = c.turn.ensures.number ∙ c.loop.invariant.number;
  kept = g.met.D.Doer.keeps_both c.args.doer.now c.loop.doer c.turn.new.doer c.loop.invariant.kept c.turn.ensures.kept;
  going = λ e. c.turn.ensures.turn.closed ∙ ap closed_by c.in-Went.is;
  fails = λ e.
      none_failed c.turn.result turn.Went _ _ _ c.in-Went.is (c.loop.invariant.fails e) (λ h. h.0)
      (c.turn.ensures.turn.counts (c.loop.invariant.going e));
  same = λ o e.
      let before = c.loop.invariant.same o e in
      absurd (went_not_closed o (sym c.in-Went.is ∙ (c.turn.ensures.stays o (ap closed_with before.0 ∙ e)).0));
}

pub loop-preserved-in-NotYet : goal.loop-preserved-in-NotYet
loop-preserved-in-NotYet g c = record {
  moves =
      moves_both g.D.Doer.stands g.D.Doer.is_full g.D.Doer.may_lack g.D.Doer.did g.D.Doer.keeps c.args.self.now c.loop.self c.turn.new.self (g.L.Link.shows c.args.line.now) (g.L.Link.shows c.loop.line) (g.L.Link.shows c.turn.new.line)
      c.args.doer.now c.loop.doer c.turn.new.doer c.loop.invariant.moves c.turn.ensures.turn.moves;
  number = c.turn.ensures.number ∙ c.loop.invariant.number;
  kept = g.met.D.Doer.keeps_both c.args.doer.now c.loop.doer c.turn.new.doer c.loop.invariant.kept c.turn.ensures.kept;
  going = λ e. c.turn.ensures.turn.closed ∙ ap closed_by c.in-NotYet.is;
  fails = λ e.
      none_failed c.turn.result turn.NotYet _ _ _ c.in-NotYet.is (c.loop.invariant.fails e) (λ h. h.0)
      (c.turn.ensures.turn.counts (c.loop.invariant.going e));
  same = λ o e.
      let before = c.loop.invariant.same o e in
      absurd (not_yet_not_closed o (sym c.in-NotYet.is ∙ (c.turn.ensures.stays o (ap closed_with before.0 ∙ e)).0));
}
