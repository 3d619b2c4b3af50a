use Rattle.std.proofs.Common.{refl, sym, ◌∙◌}
use Rattle.std.proofs.lemmas.List.{map-set}
use Rattle.s7_plant.specs.BookLaws.{length_calls}
use Rattle.s7_plant.proofs.ObserverLemmas.{all_told_set}
use Rattle.s7_plant.proofs.book.Book.swap_observer.Goals as goal

pub returns-clause-observers : goal.returns-clause-observers
returns-clause-observers g c = rw (c.replace-out.ensures.after, map-set, c.len.ensures.len) refl

pub returns-clause-told : goal.returns-clause-told
returns-clause-told g c = λ told.
    rw (c.replace-out.ensures.after, map-set) (all_told_set _ _ _ c.args.place _ _ (c.len.ensures.len ∙ sym (length_calls _)) c.requires.fresh told)

pub returns-clause-others : goal.returns-clause-others
returns-clause-others g c = rw (c.replace-out.ensures.after, map-set) refl
