use Rattle.std.proofs.lemmas.Result.{IfOk-weaker}
use Rattle.s7_server_main.proofs.WatchLemmas.{just_come}
use Rattle.s7_server_main.proofs.opening.new_book.Goals as goal

pub returns-clause-observers : goal.returns-clause-observers
returns-clause-observers g c =
    IfOk-weaker c.new-2.result _ _
    (λ book is. just_come g.O.Observer.seen book.observers.items c.args.observers.items is) c.new-2.ensures.observers
