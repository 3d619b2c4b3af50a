-- Books that are made for banks, one after another.
use Rattle.std.proofs.Common.{◌≡◌, ℕ, ◌<◌, List, [], ◌∷◌, length, map, Option, Some, slice_get, refl, ap, sym, ◌∙◌, arith}
use Rattle.std.specs.Prelude.{◌++◌, if◌then◌else◌}
use Rattle.s7_area.specs.Memory.{Memory}
use Rattle.s7_block.specs.Store.{Store}
use Rattle.s7_turn.specs.declared.machine.Machine.{Ghosts}
use Rattle.s7_turn.specs.declared.hall.Hall.{Hall}
use Rattle.s7_turn.specs.declared.hall.Seat.{Seat}
use Rattle.s7_turn.specs.Seats.{made}
use Rattle.s7_plant.specs.declared.book.Book.{Book}
use Rattle.s7_plant.specs.declared.watcher.Watcher.{Watcher}
use Rattle.s7_plant.specs.Books.{book_state, seen_of}
use Rattle.s7_plant.specs.Journals.{calls_of, entries_of}
use Rattle.s7_plant.specs.Observers.{Seen, fresh}
use Rattle.s7_plant.specs.State.{State, no_blocks, opens_with, state_of}
use Rattle.s7_bank.specs.Areas.{part_of}
use Rattle.s7_bank.specs.Books.{BookAt, OpensWith}
use Rattle.s7_bank.specs.Opening.{OpenedAt}
use Rattle.s7_bank.proofs.DividingLemmas.{each_more, is_not}

-- what observers have counted, with and without the watchers around them
seen_by_observers : {O : Type 0} (seen : O → Seen) (ws : List (Watcher O)) → map (λ w. seen w.observer) ws ≡ map seen (map (λ (w : Watcher O). w.observer) ws)
seen_by_observers seen [] = refl
seen_by_observers seen (w ∷ ws) = ap (λ l. seen w.observer ∷ l) (seen_by_observers seen ws)

-- a book has carried out nothing
abbrev pub IsNew : {O : Type 0} → (O → Seen) → Book O → Type 0
IsNew seen book =
    (calls_of book.journal.entries ≡ [])
    × (book_state (state_of book.plant) (length book.journal.entries) (seen_of seen book)
    ≡ book_state (state_of book.opening) 0 (map fresh (seen_of seen book)))
    × Unit {0}

pub book_is_new : {O : Type 0} (seen : O → Seen) (book : Book O) (state : State) (limit : ℕ) → state_of book.opening ≡ state → state_of book.plant ≡ state
    → book.journal ≡ entries_of [] limit → seen_of seen book ≡ map fresh (seen_of seen book) → IsNew seen book
book_is_new seen book state limit opening plant journal untold =
    let same : state_of book.plant ≡ state_of book.opening = plant ∙ sym opening in
    let none : length book.journal.entries ≡ 0 = ap (λ j. length j.entries) journal in
    (ap (λ j. calls_of j.entries) journal, λ i. book_state (same i) (none i) (untold i), tt {0})

pub book_watches : {O : Type 0} (seen : O → Seen) (book : Book O) (observers : List O) → map (λ (w : Watcher O). w.observer) book.observers.items ≡ observers
    → seen_of seen book ≡ map fresh (seen_of seen book) → map fresh (seen_of seen book) ≡ map seen observers
book_watches seen book observers same untold = sym untold ∙ seen_by_observers seen book.observers.items ∙ ap (map seen) same

module _ {O : Type 0} (seen : O → Seen) (banks limit : ℕ) (areas : Memory) (blocks : Store) (observers : List Seen) where
  -- the book of the first bank
  pub first_opens : (left : Memory) (book : Book O) → left ≡ part_of banks 0 areas → state_of book.opening ≡ opens_with left blocks → book.journal.limit ≡ limit
      → map fresh (seen_of seen book) ≡ observers → OpensWith seen banks 0 limit areas blocks observers book
  first_opens left book is opened limited watched = record {
    opened = opened ∙ ap (λ m. opens_with m blocks) is;
    limited = limited;
    watched = watched;
  }

  -- that of another one
  pub later_opens : (bank : ℕ) (part : Memory) (book : Book O) → 0 < bank → part ≡ part_of banks bank areas → state_of book.opening ≡ opens_with part no_blocks
      → book.journal.limit ≡ limit → map fresh (seen_of seen book) ≡ [] → OpensWith seen banks bank limit areas blocks observers book
  later_opens bank part book some is opened limited unwatched =
      let other = is_not bank 0 (λ e. absurd (omega (arith, some, e))) in
      record {
        opened = opened ∙ ap (λ m. opens_with m no_blocks) is
            ∙ ap (λ b. opens_with (part_of banks bank areas) (if b then blocks else no_blocks)) (sym other);
        limited = limited;
        watched = unwatched ∙ ap (λ b. if b then observers else []) (sym other);
      }

  -- each book is that of the bank at its index, and has carried out nothing
  abbrev pub AreOpened : List (Book O) → Type 0
  AreOpened books = (bank : ℕ) (book : Book O) → slice_get books bank ≡ Some book → OpensWith seen banks bank limit areas blocks observers book × IsNew seen book

  pub books_more : (books : List (Book O)) (book : Book O) → AreOpened books → OpensWith seen banks (length books) limit areas blocks observers book → IsNew seen book
      → AreOpened (books ++ book ∷ [])
  books_more books book so is new = each_more (λ bank y. OpensWith seen banks bank limit areas blocks observers y × IsNew seen y) books book so (is, new)

module _ {O R P : Type 0} {g : Ghosts (Book O) R P} (seen : O → Seen) (banks limit : ℕ) (areas : Memory) (blocks : Store) (observers : List Seen) where
  -- what opened at a bank, where a machine shows the opening and the limit of its book
  pub book_at : (books : List (Book O)) (halls : List (Hall (Book O) R P)) (seats : List (Option (Seat (Book O) R P g))) (bank : ℕ)
      → ((a b : Book O) → g.opening a ≡ g.opening b → (state_of a.opening ≡ state_of b.opening) × (map fresh (seen_of seen a) ≡ map fresh (seen_of seen b)))
      → ((a b : Book O) → g.limit a ≡ g.limit b → a.journal.limit ≡ b.journal.limit)
      → ((i : ℕ) (book : Book O) → slice_get books i ≡ Some book → OpensWith seen banks i limit areas blocks observers book) → OpenedAt books halls seats bank
      → BookAt seen banks bank limit areas blocks observers halls seats
  book_at books halls seats bank same_opening same_limit so at =
      let own = so bank at.machine at.machine_is in
      let opening = same_opening (made at.hall) at.machine at.opened.same_opening in
      record {
        hall = at.hall;
        seat = at.seat;
        hall_is = at.hall_is;
        seat_is = at.seat_is;
        opens = record {
          opened = opening.0 ∙ own.opened;
          limited = same_limit (made at.hall) at.machine at.opened.same_limit ∙ own.limited;
          watched = opening.1 ∙ own.watched;
        };
        saw_none = at.opened.saw_none;
      }
