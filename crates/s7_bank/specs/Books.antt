-- Banks of books.
use Rattle.std.specs.Prelude.{◌≡◌, ℕ, ◌==◌, if◌then◌else◌, List, [], Option, Some, map, slice_get}
use Rattle.s7_area.specs.Memory.{Memory}
use Rattle.s7_block.specs.Store.{Store}
use Rattle.s7_turn.specs.declared.machine.Machine.{Ghosts}
use Rattle.s7_turn.specs.declared.hall.Hall.{Hall}
use Rattle.s7_turn.specs.declared.hall.Seat.{Seat}
use Rattle.s7_turn.specs.Seats.{made, seen}
use Rattle.s7_plant.specs.declared.book.Book.{Book}
use Rattle.s7_plant.specs.Books.{seen_of}
use Rattle.s7_plant.specs.Observers.{Seen, fresh}
use Rattle.s7_plant.specs.State.{no_blocks, opens_with, state_of}
use Rattle.s7_bank.specs.Areas.{part_of}

-- WITH WHAT THE BOOK OF A BANK OPENS: with the areas of the bank, and with room for `limit` entries. The book of the
-- first bank has the blocks and the observers, the others have none.
pub record OpensWith {O : Type 0} (seen : O → Seen) (banks bank limit : ℕ) (areas : Memory) (blocks : Store)
    (observers : List Seen) (book : Book O) : Type 0 where
  pub opened :
      state_of book.opening ≡ opens_with (part_of banks bank areas) (if bank == 0 then blocks else no_blocks)
  pub limited : book.journal.limit ≡ limit
  pub watched : map fresh (seen_of seen book) ≡ (if bank == 0 then observers else [])

module _ {O R P : Type 0} {g : Ghosts (Book O) R P} where
  -- the same of the book with which the hall at a bank was made; the seat there has seen no entry
  pub record BookAt (seen_by : O → Seen) (banks bank limit : ℕ) (areas : Memory) (blocks : Store) (observers : List Seen)
      (halls : List (Hall (Book O) R P)) (seats : List (Option (Seat (Book O) R P g))) : Type 0 where
    pub hall : Hall (Book O) R P
    pub seat : Seat (Book O) R P g
    pub hall_is : slice_get halls bank ≡ Some hall
    pub seat_is : slice_get seats bank ≡ Some (Some seat)
    pub opens : OpensWith seen_by banks bank limit areas blocks observers (made hall)
    pub saw_none : seen seat ≡ []
