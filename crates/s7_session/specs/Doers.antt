-- What a doer does, telegram by telegram.
use Rattle.std.specs.Prelude.{◌≡◌, ℕ, ◌⊎◌, false, IsTrue, List, [], ◌∷◌, ◌++◌, Option, None, Some}
use Rattle.s7_plant.specs.declared.request.Ask.{Ask}
use Rattle.s7_plant.specs.Replies.{Said}
use Rattle.s7_session.specs.Entry.{Entry}
use Rattle.s7_session.specs.Judgement.{Asking}
use Rattle.s7_session.specs.Telegrams.{Met}
use Rattle.s7_session.specs.Verdict.{Verdict, Entered, Full, ClockFailed, NoMemory}

module _ {D : Type 0} where
  -- a doer that is full for a request stays full for it
  abbrev pub StaysFull : (D → Ask → Type 0) → D → D → Type 0
  StaysFull is_full d e = (ask : Ask) → is_full d ask → is_full e ask

  -- a doer after a call: it stays full for what it was full for, and keeps what no call changes
  abbrev pub GoesOn : (D → Ask → Type 0) → (D → D → Type 0) → D → D → Type 0
  GoesOn is_full keeps d e = StaysFull is_full d e × keeps d e

  -- A doer gave a telegram this verdict, and made these entries for it: one or none. Entered: the doer wasn't full for
  -- the request, whose moment is 0 if it needs none, and entered it. Full: the doer is full for it afterwards, and
  -- didn't enter it. Clock failed: the request needs a moment, and the doer wasn't called. No memory: the request is
  -- copied, and the doer wasn't called; or an allocation of the doer's for it may fail, and the doer didn't enter it.
  -- `did` says what the doer did with a request that it entered, by the entry's number and the reply, or didn't enter.
  abbrev pub Meets : (D → Ask → Type 0) → (D → Ask → Type 0) → (D → Ask → Option (ℕ × Said) → D → Type 0)
      → (D → D → Type 0) → Asking → Verdict → D → List Entry → D → Type 0
  Meets is_full may_lack did keeps asking (Entered reply moment) d entries e =
      (is_full d (asking.ask moment) → ⊥) × (asking.is_timed ≡ false → moment ≡ 0)
      × ((number : ℕ)
      × (entries ≡ record { number = number; ask = asking.ask moment; reply = reply } ∷ [])
      × did d (asking.ask moment) (Some (number, reply)) e)
      × GoesOn is_full keeps d e
  Meets is_full may_lack did keeps asking Full d entries e =
      (moment : ℕ) × is_full e (asking.ask moment) × did d (asking.ask moment) None e × GoesOn is_full keeps d e
      × (entries ≡ [])
  Meets is_full may_lack did keeps asking ClockFailed d entries e =
      IsTrue asking.is_timed × (d ≡ e) × (entries ≡ [])
  Meets is_full may_lack did keeps asking NoMemory d entries e =
      (IsTrue asking.is_copied × (d ≡ e) × (entries ≡ []))
      ⊎ ((moment : ℕ) × may_lack d (asking.ask moment) × did d (asking.ask moment) None e × GoesOn is_full keeps d e
      × (entries ≡ []))

  -- HOW A DOER WENT ON: it gave these telegrams their verdicts in order, made these entries, and did nothing else
  abbrev pub Trail : (D → Ask → Type 0) → (D → Ask → Type 0) → (D → Ask → Option (ℕ × Said) → D → Type 0)
      → (D → D → Type 0) → D → List Met → List Entry → D → Type 0
  Trail is_full may_lack did keeps d [] entries e = (entries ≡ []) × (d ≡ e)
  Trail is_full may_lack did keeps d (m ∷ mets) entries e =
      (behind : D) × (made : List Entry) × (later : List Entry) × (entries ≡ made ++ later)
      × Meets is_full may_lack did keeps m.asking m.verdict d made behind
      × Trail is_full may_lack did keeps behind mets later e
