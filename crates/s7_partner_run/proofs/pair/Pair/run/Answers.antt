use Rattle.std.proofs.lemmas.Result.{on_ok_weaker}
use Rattle.s7_partner_run.specs.Pairs.{state_of}
use Rattle.s7_partner_run.proofs.pair.Pair.run.Goals as goal

pub returns : goal.returns
returns c =
    on_ok_weaker c.take_rounds.result
    (λ rounds. record {
      middle = state_of c.take_drawn.new.self;
      turned = c.in_ok-take_drawn.ensures;
      rounds = rounds;
    })
    c.take_rounds.ensures
