use Rattle.s7_plant.proofs.BookLemmas.{untold}
use Rattle.s7_plant.proofs.ObserverLemmas.{all_told_fresh}
use Rattle.s7_plant.proofs.book.Book.new.Goals as goal

pub returns-clause-told : goal.returns-clause-told
returns-clause-told g c =
    rw (c.in_ok-journal.ensures, c.in_ok-observers.ensures.watches) (all_told_fresh _ _ _ c.requires.fresh)

pub returns-clause-untold : goal.returns-clause-untold
returns-clause-untold g c =
    untold (λ w. g.O.Observer.seen w.observer) (λ w. w.since) c.in_ok-observers.observers.items g.O.Observer.seen c.args.observers.items c.requires.fresh c.in_ok-observers.ensures.watches
