use Rattle.std.proofs.Common.{sym}
use Rattle.s7_partner_run.specs.Pairs.{state_of}
use Rattle.s7_partner_run.proofs.TurnLemmas.{CountsOn-begin, CountsOn-more, CountsOn-ends, CountsOn-all}
use Rattle.s7_partner_run.proofs.pair.Pair.take_rounds.Goals as goal

pub loop-init : goal.loop-init
loop-init c = CountsOn-begin (state_of c.args.self.now)

pub returns-then-is_over : goal.returns-then-is_over
returns-then-is_over c =
    CountsOn-ends c.loop.counter 16777216 _ (state_of c.loop.self) c.loop-test.true c.loop.invariant
    (sym c.if-is_over.ensures)

pub loop-preserved : goal.loop-preserved
loop-preserved c =
    CountsOn-more c.loop.counter _ (state_of c.loop.self) (state_of c.round.new.self) (sym c.if-is_over.ensures)
    c.in_ok-round.ensures c.loop.invariant

pub returns : goal.returns
returns c =
    CountsOn-all c.loop.counter 16777216 _ (state_of c.loop.self) c.loop.auto.counter-end c.loop-test.false
    c.loop.invariant
