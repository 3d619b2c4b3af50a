-- A LEGAL HISTORY OF A BANK: what it contains of each link. A telegram of a link has a part for each bank that it
-- concerns, and the bank's history has the parts in place of the telegrams.
use Rattle.std.specs.Prelude.{◌≡◌, ◌⊎◌, ℕ, List, [], ◌∷◌, ◌++◌, length, map}
use Rattle.std.specs.List.{AllByRecursion}
use Rattle.s7_turn.specs.declared.view.Entry.{Entry as Call}
use Rattle.s7_plant.specs.declared.request.Ask.{Ask}
use Rattle.s7_plant.specs.Replies.{Said}
use Rattle.s7_plant.specs.State.{State}
use Rattle.s7_session.specs.Books.{History, own}
use Rattle.s7_session.specs.Entry.{answered}

pub data PartVerdict : Type 0 where
  -- it was entered with this reply
  Entered : (reply : Said) → PartVerdict
  -- the bank was full
  Full : PartVerdict

-- a part of a telegram: what it asks of the bank, as a history keeps it, and its verdict
pub record Part : Type 0 where
  pub ask : Ask
  pub verdict : PartVerdict

abbrev pub verdicts_of : List Part → List PartVerdict
verdicts_of parts = map (λ (p : Part). p.verdict) parts

-- what was entered for a part, with the reply
abbrev pub entered_by : Ask → PartVerdict → List (Ask × Said)
entered_by ask (Entered reply) = (ask, reply) ∷ []
entered_by ask Full = []

-- what was entered, in order
abbrev pub entered_of : List Part → List (Ask × Said)
entered_of [] = []
entered_of (p ∷ parts) = entered_by p.ask p.verdict ++ entered_of parts

-- the bank was full for a part
abbrev pub AnyFull : List PartVerdict → Type 0
AnyFull [] = ⊥
AnyFull (Full ∷ verdicts) = Unit {0}
AnyFull (Entered reply ∷ verdicts) = AnyFull verdicts

-- no part was entered
abbrev pub NoneEntered : List PartVerdict → Type 0
NoneEntered [] = Unit {0}
NoneEntered (Full ∷ verdicts) = NoneEntered verdicts
NoneEntered (Entered reply ∷ verdicts) = ⊥

-- once the bank was full for a part, no later part is entered
abbrev pub FullStays : List PartVerdict → Type 0
FullStays [] = Unit {0}
FullStays (Full ∷ verdicts) = NoneEntered verdicts
FullStays (Entered reply ∷ verdicts) = FullStays verdicts

-- WHAT A BANK'S HISTORY CONTAINS OF A LINK, which has this caller there. The bank began at a state and has room for
-- `limit` calls.
pub record IsLegalAt (opening : State) (limit : ℕ) (history : History) (caller : ℕ) (parts : List Part) : Type 0 where
  -- the caller's calls are the parts that were entered, in order and each once, each answered by the state at its point
  -- in the history
  pub calls : map answered (own opening caller history) ≡ entered_of parts
  -- the bank was full for a part only if its history has its greatest length, and no part was entered afterwards
  pub full : AnyFull (verdicts_of parts) → length history ≡ limit
  pub full_stays : FullStays (verdicts_of parts)

-- links: the caller of each in a bank, and its parts for that bank
abbrev pub BankLinks : Type 0
BankLinks = List (ℕ × List Part)

-- a link has this caller
abbrev pub IsCallerOf : BankLinks → ℕ → Type 0
IsCallerOf [] caller = ⊥
IsCallerOf (link ∷ links) caller = (caller ≡ link.0) ⊎ IsCallerOf links caller

-- A bank's history is legal for these links, and has no calls of anybody else.
pub record BankLegal (opening : State) (limit : ℕ) (history : History) (links : BankLinks) : Type 0 where
  pub each : AllByRecursion (λ (link : ℕ × List Part). IsLegalAt opening limit history link.0 link.1) links
  pub only : AllByRecursion (λ (call : Call Ask). IsCallerOf links call.caller) history
