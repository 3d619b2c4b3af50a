-- How many calls each telegram of a link found, by the verdicts and by the link's own calls.
use Rattle.std.proofs.Common.{◌≡◌, ℕ, ◌+◌, ◌<◌, ◌≤◌, Bool, true, false, List, [], ◌∷◌, length, map, Option, arith}
use Rattle.std.specs.Prelude.{◌==◌, if◌then◌else◌}
use Rattle.s7_turn.specs.declared.view.Entry.{Entry as Call}
use Rattle.s7_plant.specs.declared.request.Ask.{Ask}
use Rattle.s7_plant.specs.Answers.{after}
use Rattle.s7_plant.specs.Replies.{Said}
use Rattle.s7_plant.specs.State.{State}
use Rattle.s7_session.specs.Books.{History, entry_at, own_from, own}
use Rattle.s7_session.specs.Entry.{Entry, answered}
use Rattle.s7_session.specs.Judgement.{Asking}
use Rattle.s7_session.specs.Legal.{IsCalledFor}
use Rattle.s7_session.specs.Telegrams.{Met, verdicts_of, entered_by, entered_of, AnyFull, NoneEntered, FullStays}
use Rattle.s7_session.specs.Verdict.{Verdict, Entered, Full, ClockFailed, NoMemory}
use Rattle.s7_listener.specs.Found.{Found}

-- ---- the numbers of a link's own calls rise, and are below the length of the history

abbrev Rise : ℕ → ℕ → List Entry → Type 0
Rise least count [] = Unit {0}
Rise least count (entry ∷ entries) = (least ≤ entry.number) × (entry.number < count) × Rise (entry.number + 1) count entries

rise_later : (least more count : ℕ) (entries : List Entry) → least ≤ more → Rise more count entries → Rise least count entries
rise_later least more count [] few rise = tt
rise_later least more count (entry ∷ entries) few rise = (omega (arith, few, rise.0), rise.1, rise.2)

rise_by : (mine : Bool) (number count : ℕ) (s : State) (ask : Ask) (rest : List Entry) → number < count → Rise (number + 1) count rest
    → Rise number count (if mine then entry_at number s ask ∷ rest else rest)
rise_by true number count s ask rest below rise = (omega arith, below, rise)
rise_by false number count s ask rest below rise = rise_later number (number + 1) count rest (omega arith) rise

own_rise : (number count : ℕ) (s : State) (link : ℕ) (history : History) → number + length history ≡ count
    → Rise number count (own_from number s link history)
own_rise number count s link [] is = tt
own_rise number count s link (call ∷ history) is =
    rise_by (call.caller == link) number count s call.request _ (omega (arith, is))
    (own_rise (number + 1) count (after s call.request) link history (omega (arith, is)))

-- ---- what each telegram found

-- where nothing is entered any more, each found the whole history
found_all : (limit count : ℕ) (verdicts : List Verdict) (entries : List Entry) → limit ≤ count → NoneEntered verdicts
    → Found limit count limit verdicts entries
found_all limit count [] entries all none = tt
found_all limit count (Entered reply moment ∷ verdicts) entries all none = absurd none
found_all limit count (Full ∷ verdicts) entries all none =
    (omega arith, all, found_all limit count verdicts entries all none)
found_all limit count (ClockFailed ∷ verdicts) entries all none = found_all limit count verdicts entries all none
found_all limit count (NoMemory ∷ verdicts) entries all none = found_all limit count verdicts entries all none

found_by : (limit count least : ℕ) (asking : Asking) (verdict : Verdict) (mets : List Met) (entries : List Entry)
    → least ≤ count → Rise least count entries
    → map answered entries ≡ entered_of (record { asking = asking; verdict = verdict } ∷ mets)
    → (AnyFull (verdict ∷ verdicts_of mets) → count ≡ limit) → FullStays (verdict ∷ verdicts_of mets)
    → ((from : ℕ) (es : List Entry) → from ≤ count → Rise from count es → map answered es ≡ entered_of mets
    → (AnyFull (verdicts_of mets) → count ≡ limit) → FullStays (verdicts_of mets) → Found limit count from (verdicts_of mets) es)
    → Found limit count least (verdict ∷ verdicts_of mets) entries
found_by limit count least asking (Entered reply moment) mets [] low rise are full stays rest = absurd (cc (are))
found_by limit count least asking (Entered reply moment) mets (entry ∷ entries) low rise are full stays rest =
    (rise.0, rest (entry.number + 1) entries (omega (arith, rise.1)) rise.2 (cc (are)) full stays)
found_by limit count least asking Full mets entries low rise are full stays rest =
    let all : count ≡ limit = full tt in
    (omega (arith, low, all), omega (arith, all), found_all limit count (verdicts_of mets) entries (omega (arith, all)) stays)
found_by limit count least asking ClockFailed mets entries low rise are full stays rest = rest least entries low rise are full stays
found_by limit count least asking NoMemory mets entries low rise are full stays rest = rest least entries low rise are full stays

found_from : (limit count least : ℕ) (mets : List Met) (entries : List Entry) → least ≤ count → Rise least count entries
    → map answered entries ≡ entered_of mets → (AnyFull (verdicts_of mets) → count ≡ limit) → FullStays (verdicts_of mets)
    → Found limit count least (verdicts_of mets) entries
found_from limit count least [] entries low rise are full stays = tt
found_from limit count least (m ∷ mets) entries low rise are full stays =
    found_by limit count least m.asking m.verdict mets entries low rise are full stays
    (λ from es l r a f s. found_from limit count from mets es l r a f s)

-- each telegram of a link for which a history is legal
pub found_of : (s : State) (limit : ℕ) (history : History) (link : ℕ) (mets : List Met) (moment : Option ℕ)
    → IsCalledFor s limit history link mets moment
    → Found limit (length history) 0 (verdicts_of mets) (own s link history)
found_of s limit history link mets moment called =
    found_from limit (length history) 0 mets (own s link history) (omega arith)
    (own_rise 0 (length history) s link history (omega arith)) called.calls called.full called.full_stays

-- ---- and conversely

none_later : (limit count least : ℕ) (verdicts : List Verdict) (entries : List Entry) → count ≤ limit → Rise least count entries
    → Found limit count limit verdicts entries → NoneEntered verdicts
none_later limit count least [] entries few rise found = tt
none_later limit count least (Entered reply moment ∷ verdicts) [] few rise found = absurd found
none_later limit count least (Entered reply moment ∷ verdicts) (entry ∷ entries) few rise found =
    absurd (omega (arith, few, found.0, rise.1))
none_later limit count least (Full ∷ verdicts) entries few rise found = none_later limit count least verdicts entries few rise found.2
none_later limit count least (ClockFailed ∷ verdicts) entries few rise found = none_later limit count least verdicts entries few rise found
none_later limit count least (NoMemory ∷ verdicts) entries few rise found = none_later limit count least verdicts entries few rise found

full_if : (limit count least : ℕ) (verdicts : List Verdict) (entries : List Entry) → count ≤ limit
    → Found limit count least verdicts entries → AnyFull verdicts → count ≡ limit
full_if limit count least [] entries few found any = absurd any
full_if limit count least (Entered reply moment ∷ verdicts) [] few found any = absurd found
full_if limit count least (Entered reply moment ∷ verdicts) (entry ∷ entries) few found any =
    full_if limit count (entry.number + 1) verdicts entries few found.1 any
full_if limit count least (Full ∷ verdicts) entries few found any = omega (arith, few, found.1)
full_if limit count least (ClockFailed ∷ verdicts) entries few found any = full_if limit count least verdicts entries few found any
full_if limit count least (NoMemory ∷ verdicts) entries few found any = full_if limit count least verdicts entries few found any

stays_if : (limit count least from : ℕ) (verdicts : List Verdict) (entries : List Entry) → count ≤ limit → Rise from count entries
    → Found limit count least verdicts entries → FullStays verdicts
stays_if limit count least from [] entries few rise found = tt
stays_if limit count least from (Entered reply moment ∷ verdicts) [] few rise found = absurd found
stays_if limit count least from (Entered reply moment ∷ verdicts) (entry ∷ entries) few rise found =
    stays_if limit count (entry.number + 1) (entry.number + 1) verdicts entries few rise.2 found.1
stays_if limit count least from (Full ∷ verdicts) entries few rise found = none_later limit count from verdicts entries few rise found.2
stays_if limit count least from (ClockFailed ∷ verdicts) entries few rise found = stays_if limit count least from verdicts entries few rise found
stays_if limit count least from (NoMemory ∷ verdicts) entries few rise found = stays_if limit count least from verdicts entries few rise found

-- what each telegram found says when the history was full
pub full_of : (s : State) (limit : ℕ) (history : History) (link : ℕ) (mets : List Met) → length history ≤ limit
    → Found limit (length history) 0 (verdicts_of mets) (own s link history)
    → (AnyFull (verdicts_of mets) → length history ≡ limit) × FullStays (verdicts_of mets)
full_of s limit history link mets few found = (
  full_if limit (length history) 0 (verdicts_of mets) (own s link history) few found,
  stays_if limit (length history) 0 0 (verdicts_of mets) (own s link history) few
      (own_rise 0 (length history) s link history (omega arith)) found,
)
