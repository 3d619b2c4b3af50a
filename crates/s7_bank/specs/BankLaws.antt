-- Laws of banks: the calls of seats make legal histories.
use Rattle.std.specs.Prelude.{◌≡◌, ◌⊎◌, ℕ, ◌<◌, ◌≤◌, true, List, [], ◌∷◌, ◌++◌, length}
use Rattle.std.specs.List.{AllByRecursion}
use Rattle.s7_turn.specs.Histories.{entry, has, calls, Agrees, Each, replay}
use Rattle.s7_plant.specs.declared.request.Ask.{Ask}
use Rattle.s7_plant.specs.Answers.{answer_of}
use Rattle.s7_plant.specs.Journals.{after_call}
use Rattle.s7_plant.specs.State.{State}
use Rattle.s7_session.specs.Books.{History}
use Rattle.s7_bank.specs.BankLegal.{Part, PartVerdict, Entered, Full, IsLegalAt, BankLinks, IsCallerOf, BankLegal}

-- WHAT A CALL MADE OF A HISTORY that a seat had seen. The seat is at a bank that began at a state and has room for
-- `limit` calls, makes calls in a caller's name and represents these callers. Entered: the call was appended to the
-- history that it found, which had room, and was answered by the state to which that history leads. Full: the history
-- that it found had its greatest length.
abbrev pub Made : State → ℕ → ℕ → List ℕ → History → Ask → PartVerdict → History → Type 0
Made opening limit caller callers seen ask (Entered reply) after =
    (found : History) × Agrees seen callers found × (length found < limit)
    × (reply ≡ answer_of (replay after_call opening found) ask) × (after ≡ found ++ entry caller ask ∷ [])
Made opening limit caller callers seen ask Full after = Agrees seen callers after × (length after ≡ limit)

-- what the calls for several parts, one after another, made of a history that a seat had seen: each call goes on from
-- the history after the call before it
abbrev pub MadeAll : State → ℕ → ℕ → List ℕ → History → List Part → History → Type 0
MadeAll opening limit caller callers seen [] after = after ≡ seen
MadeAll opening limit caller callers seen (p ∷ parts) after =
    (between : History) × Made opening limit caller callers seen p.ask p.verdict between
    × MadeAll opening limit caller callers between parts after

-- A caller had made no call, and then made those for these parts. The history that the bank has in the end agrees with
-- a seat that represents the caller and has seen these calls. It is legal for the caller.
abbrev pub PartsAreLegal : Type 0
PartsAreLegal =
    (opening : State) (limit caller : ℕ) (callers later : List ℕ) (seen after history : History) (parts : List Part)
    → has callers caller ≡ true → calls caller seen ≡ [] → MadeAll opening limit caller callers seen parts after
    → has later caller ≡ true → Agrees after later history → length history ≤ limit
    → IsLegalAt opening limit history caller parts

-- A bank's history has calls only of the callers that a seat represents, and each of these is a link's or made no call.
-- If the history is legal for each link, it is legal for the bank.
abbrev pub BanksAreLegal : Type 0
BanksAreLegal =
    (opening : State) (limit : ℕ) (callers : List ℕ) (history : History) (links : BankLinks)
    → Each (λ e. has callers e.caller ≡ true) history
    → ((x : ℕ) → has callers x ≡ true → IsCallerOf links x ⊎ (calls x history ≡ []))
    → AllByRecursion (λ (link : ℕ × List Part). IsLegalAt opening limit history link.0 link.1) links
    → BankLegal opening limit history links
