use Rattle.std.proofs.Common.{Some, None, refl}
use Rattle.std.proofs.lemmas.Result.{on_ok_weaker}
use Rattle.s7_partner_run.specs.Pairs.{state_of}
use Rattle.s7_partner_run.proofs.TurnLemmas.{news_kept, nothing_kept}
use Rattle.s7_partner_run.proofs.pair.Pair.turn.Goals as goal

pub returns-in-Some : goal.returns-in-Some
returns-in-Some c =
    on_ok_weaker c.keep.result
    (λ e. news_kept c.args.role (state_of c.args.self.now) (state_of c.take_turn.new.self) (state_of c.keep.new.self) _
    (Some c.in-Some.news) c.in-Some.is c.in_ok-news.ensures e)
    c.keep.ensures

pub returns-in-None : goal.returns-in-None
returns-in-None c =
    nothing_kept c.args.role (state_of c.args.self.now) (state_of c.take_turn.new.self) _ c.in-None.is
    c.in_ok-news.ensures
