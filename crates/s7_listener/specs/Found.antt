-- How many calls of a history each telegram of a link found before it.
use Rattle.std.specs.Prelude.{◌≡◌, ℕ, ◌+◌, ◌≤◌, List, [], ◌∷◌, length, Option}
use Rattle.s7_plant.specs.State.{State}
use Rattle.s7_session.specs.Books.{History, own}
use Rattle.s7_session.specs.Entry.{Entry}
use Rattle.s7_session.specs.Legal.{IsCalledFor}
use Rattle.s7_session.specs.Telegrams.{Met, verdicts_of, AnyFull, FullStays}
use Rattle.s7_session.specs.Verdict.{Verdict, Entered, Full, ClockFailed, NoMemory}

-- WHAT EACH TELEGRAM FOUND. A history has `count` calls and room for `limit`. The link's telegrams have these verdicts,
-- and these are the link's own entries in it. A telegram that was entered found as many calls as its entry's number
-- says. A telegram that was refused for lack of room found as many as the limit says, and the history has them. Each
-- telegram found at least `least` calls: those that the telegram before it found, and that telegram's own entry.
--
-- So an entry that the link made after a telegram was refused has a number of at least `limit`. A history that has room
-- for its calls has no such entry. This doesn't say when the telegram was refused.
abbrev pub Found : ℕ → ℕ → ℕ → List Verdict → List Entry → Type 0
Found limit count least [] entries = Unit {0}
Found limit count least (Entered reply moment ∷ verdicts) [] = ⊥
Found limit count least (Entered reply moment ∷ verdicts) (entry ∷ entries) =
    (least ≤ entry.number) × Found limit count (entry.number + 1) verdicts entries
Found limit count least (Full ∷ verdicts) entries =
    (least ≤ limit) × (limit ≤ count) × Found limit count limit verdicts entries
Found limit count least (ClockFailed ∷ verdicts) entries = Found limit count least verdicts entries
Found limit count least (NoMemory ∷ verdicts) entries = Found limit count least verdicts entries

-- the same of a history that began at a state
abbrev pub HaveFound : State → ℕ → History → ℕ → List Met → Type 0
HaveFound opening limit history link mets =
    Found limit (length history) 0 (verdicts_of mets) (own opening link history)

-- where a history is legal for a link, its telegrams found that
abbrev pub LegalIsFound : Type 0
LegalIsFound = (opening : State) (limit : ℕ) (history : History) (link : ℕ) (mets : List Met) (moment : Option ℕ)
    → IsCalledFor opening limit history link mets moment → HaveFound opening limit history link mets

-- where the telegrams of a link found that in a history that has room for its calls, it is full if one was refused for
-- lack of room, and none was entered afterwards
abbrev pub FoundIsFull : Type 0
FoundIsFull = (opening : State) (limit : ℕ) (history : History) (link : ℕ) (mets : List Met)
    → length history ≤ limit → HaveFound opening limit history link mets
    → (AnyFull (verdicts_of mets) → length history ≡ limit) × FullStays (verdicts_of mets)
