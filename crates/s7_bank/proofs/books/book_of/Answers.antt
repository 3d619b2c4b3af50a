use Rattle.std.proofs.Common.{◌≡◌, ℕ, List, [], map, ap}
use Rattle.std.specs.Prelude.{Result, Ok, Err, IfOk}
use Rattle.s7_plant.specs.declared.book.Book.{Book}
use Rattle.s7_plant.specs.declared.watcher.Watcher.{Watcher}
use Rattle.s7_plant.specs.Books.{seen_of}
use Rattle.s7_plant.specs.Journals.{entries_of}
use Rattle.s7_plant.specs.Observers.{Seen, fresh}
use Rattle.s7_plant.specs.State.{State, state_of}
use Rattle.s7_bank.proofs.BookLemmas.{IsNew, book_is_new, book_watches}
use Rattle.s7_bank.proofs.books.book_of.Goals as goal

module _ {O E : Type 0} (seen : O → Seen) where
  limited : (limit : ℕ) (r : Result (Book O) E) → IfOk r (λ book. book.journal ≡ entries_of [] limit) → IfOk r (λ book. book.journal.limit ≡ limit)
  limited limit (Ok book) journal = ap (λ j. j.limit) journal
  limited limit (Err e) journal = tt

  watched : (observers : List O) (r : Result (Book O) E) → IfOk r (λ book. map (λ (w : Watcher O). w.observer) book.observers.items ≡ observers)
      → IfOk r (λ book. seen_of seen book ≡ map fresh (seen_of seen book)) → IfOk r (λ book. map fresh (seen_of seen book) ≡ map seen observers)
  watched observers (Ok book) same untold = book_watches seen book observers same untold
  watched observers (Err e) same untold = tt

  unused : (state : State) (limit : ℕ) (r : Result (Book O) E) → IfOk r (λ book. state_of book.opening ≡ state) → IfOk r (λ book. state_of book.plant ≡ state)
      → IfOk r (λ book. book.journal ≡ entries_of [] limit) → IfOk r (λ book. seen_of seen book ≡ map fresh (seen_of seen book)) → IfOk r (IsNew seen)
  unused state limit (Ok book) opening plant journal untold = book_is_new seen book state limit opening plant journal untold
  unused state limit (Err e) opening plant journal untold = tt

pub returns : goal.returns
returns g c =
    let new = c.new.ensures in
    record {
      opened = new.opening;
      limited = limited g.O.Observer.seen c.args.limit c.new.result new.journal;
      watched = watched g.O.Observer.seen c.args.observers.items c.new.result new.same new.untold;
      unused = unused g.O.Observer.seen _ c.args.limit c.new.result new.opening new.plant new.journal new.untold;
    }
