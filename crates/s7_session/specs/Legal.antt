-- A LEGAL HISTORY: what it contains of each link, and the book in which it was entered.
use Rattle.std.specs.Prelude.{◌≡◌, ◌⊎◌, ℕ, ◌+◌, List, [], ◌∷◌, length, map, Option, None}
use Rattle.std.specs.List.{AllByRecursion}
use Rattle.s7_turn.specs.declared.view.Entry.{Entry as Call}
use Rattle.s7_turn.specs.Histories.{replay}
use Rattle.s7_plant.specs.declared.request.Ask.{Ask}
use Rattle.s7_plant.specs.Books.{BookTold}
use Rattle.s7_plant.specs.Journals.{after_call}
use Rattle.s7_plant.specs.State.{State, state_of}
use Rattle.s7_session.specs.Books.{History, history_of, own}
use Rattle.s7_session.specs.Entry.{answered}
use Rattle.s7_session.specs.Telegrams.{Met, verdicts_of, entered_of, AnyFull, FullStays}
use Rattle.s7_session.specs.Telegrams.{MemoryIsLast, AreCaused, AllAt, last_number}

-- ---- for a link

-- WHAT A HISTORY CONTAINS OF A LINK. The history began at the state `opening` and has room for `limit` calls. `mets`
-- are the link's telegrams that asked, with their verdicts, and `moment` is what its clock showed.
pub record IsCalledFor (opening : State) (limit : ℕ) (history : History) (link : ℕ) (mets : List Met)
    (moment : Option ℕ)
    : Type 0 where
  -- the link's own calls are the requests that were entered, in order and each once, each answered by the state at its
  -- point in the history
  pub calls : map answered (own opening link history) ≡ entered_of mets
  -- a telegram was refused for lack of room only if the history is full, and none was entered afterwards
  pub full : AnyFull (verdicts_of mets) → length history ≡ limit
  pub full_stays : FullStays (verdicts_of mets)
  -- a request that needs a moment has the one that the clock showed
  pub moments : AllAt moment (own opening link history)

-- WHAT IS COUNTED FOR A LINK: `entries` of its telegrams were entered in the history, the newest under this number.
-- Each failure of an allocation or of the clock has its cause.
pub record IsCounted (opening : State) (history : History) (link : ℕ) (mets : List Met)
    (entries : ℕ) (newest : Option ℕ)
    : Type 0 where
  -- an allocation failed for the last telegram at most, and only if octets of it are copied; the clock failed only for
  -- a telegram that needs a moment
  pub memory : MemoryIsLast (verdicts_of mets)
  pub causes : AreCaused mets
  pub count : entries ≡ length (own opening link history)
  pub last : newest ≡ last_number None (own opening link history)

-- A history that began at the state `opening` and has room for `limit` calls is legal for a link. `mets` are the link's
-- telegrams that asked, with their verdicts, and `moment` is what its clock showed. `entries` of its telegrams were
-- entered, the newest under the number `newest`.
pub record IsLegalFor (opening : State) (limit : ℕ) (history : History) (link : ℕ) (mets : List Met)
    (moment : Option ℕ) (entries : ℕ) (newest : Option ℕ)
    : Type 0 where
  pub called : IsCalledFor opening limit history link mets moment
  pub counted : IsCounted opening history link mets entries newest

-- ---- for a book

-- links that were served: their numbers, and how many telegrams of each were entered
abbrev pub Links : Type 0
Links = List (ℕ × ℕ)

-- a link of this number was served
abbrev pub IsServedBy : Links → ℕ → Type 0
IsServedBy [] number = ⊥
IsServedBy (link ∷ links) number = (number ≡ link.0) ⊎ IsServedBy links number

-- the numbers of the links are different
abbrev pub AreDifferent : Links → Type 0
AreDifferent [] = Unit {0}
AreDifferent (link ∷ links) = (IsServedBy links link.0 → ⊥) × AreDifferent links

-- how many telegrams of all links were entered
abbrev pub sum_of : Links → ℕ
sum_of [] = 0
sum_of (link ∷ links) = link.1 + sum_of links

-- The book opened with this state and this limit. Each call is of a link that was served. The links' numbers are
-- different, and their counts add up to the length of the history. The plant is in the state to which the history
-- leads.
pub record IsLegalBook (opening : State) (limit : ℕ) (links : Links) (book : BookTold) : Type 0 where
  pub opened : state_of book.opening ≡ opening
  pub limited : book.journal.limit ≡ limit
  pub only : AllByRecursion (λ (call : Call Ask). IsServedBy links call.caller) (history_of book)
  pub different : AreDifferent links
  pub sum : sum_of links ≡ length (history_of book)
  pub left : state_of book.plant ≡ replay after_call opening (history_of book)
