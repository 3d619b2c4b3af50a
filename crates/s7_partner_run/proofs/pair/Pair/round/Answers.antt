use Rattle.std.proofs.lemmas.Result.{on_ok_weaker}
use Rattle.s7_partner_run.specs.Pairs.{state_of}
use Rattle.s7_partner_run.proofs.TurnLemmas.{both_turned}
use Rattle.s7_partner_run.proofs.pair.Pair.round.Goals as goal

pub returns : goal.returns
returns c =
    on_ok_weaker c.turn-2.result
    (λ t. both_turned (state_of c.args.self.now) (state_of c.turn.new.self) (state_of c.turn-2.new.self)
    c.in_ok-turn.ensures t)
    c.turn-2.ensures
