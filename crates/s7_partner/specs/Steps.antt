-- What the steps of a poll do.
use Rattle.std.specs.Prelude.{◌≡◌, ℕ, ◌+◌, ◌*◌, List, [], ◌++◌, length, Option, None, Some, Result, Ok}
use Rattle.s7_outer.specs.Shown.{Shown}
use Rattle.s7_outer.specs.declared.memory.Memory.{Memory}
use Rattle.s7_dialogue.specs.declared.config.Config.{Config}
use Rattle.s7_client.specs.Counts.{MetNothing, MetNotYetOnce, MetAsTold}
use Rattle.s7_client.specs.Standing.{Moves}
use Rattle.s7_partner.specs.declared.role.Role.{Role}
use Rattle.s7_partner.specs.declared.partner.Partner.{Partner}
use Rattle.s7_partner.specs.declared.partner.Arrived.{Arrived}
use Rattle.s7_partner.specs.declared.step.Step.{Step}
use Rattle.s7_partner.specs.declared.step.Step.TheVariants as step
use Rattle.s7_partner.specs.declared.event.PartnerEvent.{PartnerEvent}
use Rattle.s7_partner.specs.declared.event.PartnerEvent.TheVariants as told
use Rattle.s7_partner.specs.States.{State, Act, with_acts, after}
use Rattle.s7_partner.specs.Acts.{AreQuiet}
use Rattle.s7_partner.specs.Partners.{Course, IsSettled, HasMetNotYet, Tells}
use Rattle.s7_partner.specs.Order.{IsOrderly}
use Rattle.s7_partner.specs.Held.{role_of, config_of, unread_of, closed_of, StandsFor}
use Rattle.s7_partner.specs.Calls.{IsClosing as IsClosed, CountsEvent, closed_by}
use Rattle.s7_partner.specs.Octet.{octets_left}
use Rattle.s7_partner.specs.At.{code_by, events_left}

-- what a step reports of its acts, from the state before it
abbrev pub TellsStep : Role → Config → State → List Act → Shown → Shown → List ℕ → List ℕ → List ℕ → Step → Type 0
TellsStep role config s acts link link' kept b written step.Went = AreQuiet role config s acts
TellsStep role config s acts link link' kept b written step.NotYet =
    AreQuiet role config s acts × IsSettled (with_acts role config s acts)
    × HasMetNotYet (with_acts role config s acts) kept link link' written
TellsStep role config s acts link link' kept b written step.Sent =
    Tells role config s acts link link' kept b written (Ok told.Sent)
TellsStep role config s acts link link' kept b written (step.Closed code) =
    Tells role config s acts link link' kept b written (Ok (told.Closed code))

abbrev pub IsClosing : Step → Type 0
IsClosing step.Went = ⊥
IsClosing step.NotYet = ⊥
IsClosing step.Sent = ⊥
IsClosing (step.Closed code) = Unit {0}

-- the acts of a step, and what it reports of them, for a partner with this role and configuration and with these
-- octets unused, which had done these acts, and used and transmitted these octets
pub record HasRun (role : Role) (config : Config) (kept : List ℕ) (new : Partner) (link link' : Shown) (acts : List Act)
    (b written received used more : List ℕ) (result : Step) : Type 0 where
  pub further : List Act
  pub orderly : IsOrderly role config kept acts further b written received used more
  pub course : Course role config (acts ++ further) (b ++ used) (written ++ more)
  pub tells : TellsStep role config (after role config acts) further link link' (unread_of new) (b ++ used)
      (written ++ more) result
  pub stands : (IsClosing result → ⊥) → StandsFor new (acts ++ further) (b ++ used) (written ++ more)

-- how the counts of a link change in a step
abbrev pub CountsStep : Step → Shown → Shown → Type 0
CountsStep step.Went link link' = MetNothing link link'
CountsStep step.NotYet link link' = MetNotYetOnce link link'
CountsStep step.Sent link link' = MetNothing link link'
CountsStep (step.Closed code) link link' = MetAsTold code link link' × (link'.waits ≡ link.waits)

-- A STEP over a link, or several steps
pub record Runs (old : Partner) (link : Shown) (new : Partner) (link' : Shown) (result : Step) : Type 0 where
  pub role : role_of new ≡ role_of old
  pub config : config_of new ≡ config_of old
  pub moves : Moves (unread_of old) link (unread_of new) link'
  pub counts : CountsStep result link link'
  pub closed : closed_of new ≡ code_by result
  pub run : (acts : List Act) (b written : List ℕ) → StandsFor old acts b written
      → HasRun (role_of old) (config_of old) (unread_of old) new link link' acts b written moves.received moves.used
      moves.written result

-- What was handed out is acknowledged, and no octet is used or received.
pub record Acknowledges (old new : Partner) (link : Shown) : Type 0 where
  pub runs : Runs old link new link step.Went
  pub unused : runs.moves.used ≡ []
  pub unreceived : runs.moves.received ≡ []

-- an upper bound of what a partner can still do before there is something to report: octets to use, and then octets
-- to send
abbrev pub work : Partner → ℕ
work p = (events_left p * 533000 + octets_left p.reader) * 4097 + length p.outbox.unsent

-- nothing is left to do in a poll once a block is whole
abbrev pub unless_whole : Option Arrived → ℕ → ℕ
unless_whole None work = work + 1
unless_whole (Some block) work = 0

-- the acts of the rest of a poll, and what it reports of them, for a partner that had done these acts, and used and
-- transmitted these octets
pub record HasPolled (role : Role) (config : Config) (kept : List ℕ) (new : Partner) (link link' : Shown)
    (acts : List Act) (b written received used more : List ℕ) (result : Result PartnerEvent Memory) : Type 0 where
  pub further : List Act
  pub orderly : IsOrderly role config kept acts further b written received used more
  pub course : Course role config (acts ++ further) (b ++ used) (written ++ more)
  pub tells : Tells role config (after role config acts) further link link' (unread_of new) (b ++ used)
      (written ++ more) result
  pub stands : (IsClosed result → ⊥) → StandsFor new (acts ++ further) (b ++ used) (written ++ more)

-- the rest of a poll of a partner that isn't closed, after the acknowledgement of what was handed out
pub record Polls (old : Partner) (link : Shown) (new : Partner) (link' : Shown) (result : Result PartnerEvent Memory)
    : Type 0 where
  pub role : role_of new ≡ role_of old
  pub config : config_of new ≡ config_of old
  pub moves : Moves (unread_of old) link (unread_of new) link'
  pub counts : CountsEvent result link link'
  pub closed : closed_of new ≡ closed_by result
  pub polled : (acts : List Act) (b written : List ℕ) → StandsFor old acts b written
      → HasPolled (role_of old) (config_of old) (unread_of old) new link link' acts b written moves.received moves.used
      moves.written result
