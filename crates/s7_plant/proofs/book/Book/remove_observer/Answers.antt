use Rattle.std.proofs.Common.{refl}
use Rattle.s7_plant.proofs.ObserverLemmas.{all_told_remove, map_remove}
use Rattle.s7_plant.proofs.book.Book.remove_observer.Goals as goal

pub returns-clause-observers : goal.returns-clause-observers
returns-clause-observers g c = rw (c.remove.ensures.items, map_remove) refl

pub returns-clause-told : goal.returns-clause-told
returns-clause-told g c = λ told.
    rw (c.remove.ensures.items, map_remove) (all_told_remove _ _ _ c.args.place told)

pub returns-clause-others : goal.returns-clause-others
returns-clause-others g c = rw (c.remove.ensures.items, map_remove) refl
