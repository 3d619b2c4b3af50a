-- What the calls of a partner do.
use Rattle.std.specs.Prelude.{◌≡◌, ◌⊎◌, ℕ, ◌<◌, ◌≤◌, List, [], ◌∷◌, ◌++◌, length, Option, None, Some, IsSome, Result}
use Rattle.std.specs.Prelude.{Ok, Err}
use Rattle.s7_outer.specs.Shown.{Shown}
use Rattle.s7_outer.specs.declared.memory.Memory.{Memory}
use Rattle.s7_dialogue.specs.declared.config.Config.{Config}
use Rattle.s7_client.specs.Counts.{MetNothing, MetNotYetOnce, MetAsTold}
use Rattle.s7_client.specs.Standing.{Moves}
use Rattle.s7_partner.specs.declared.role.Role.{Role}
use Rattle.s7_partner.specs.declared.event.PartnerEvent.{PartnerEvent}
use Rattle.s7_partner.specs.declared.event.PartnerEvent.TheVariants as told
use Rattle.s7_partner.specs.declared.event.SendFault.{SendFault}
use Rattle.s7_partner.specs.declared.event.SendFault.TheVariants as refusal
use Rattle.s7_partner.specs.declared.partner.Partner.{Partner}
use Rattle.s7_partner.specs.States.{Act, gives, after}
use Rattle.s7_partner.specs.Partners.{Course, Tells}
use Rattle.s7_partner.specs.Order.{IsOrderly}
use Rattle.s7_partner.specs.Held.{role_of, config_of, unread_of, closed_of, sending_of, StandsFor}

-- A partner that was just made has used and transmitted nothing.
pub record IsNew (p : Partner) (role : Role) (config : Config) : Type 0 where
  pub plays : role_of p ≡ role
  pub configured : config_of p ≡ config
  pub unread : unread_of p ≡ []
  pub stands : StandsFor p [] [] []

-- ---- giving a block

-- a block has 1 to 65,535 octets, this profile's own limits
abbrev pub HasSize : List ℕ → Type 0
HasSize body = (0 < length body) × (length body ≤ 65535)

-- why a block isn't accepted: the first cause that applies
abbrev pub IsRefused : Partner → List ℕ → SendFault → Type 0
IsRefused p body refusal.Closed = IsSome (closed_of p)
IsRefused p body refusal.Busy = (closed_of p ≡ None) × IsSome (sending_of p)
IsRefused p body refusal.Size =
    (closed_of p ≡ None) × (sending_of p ≡ None) × ((length body ≡ 0) ⊎ (65535 < length body))

-- the block was accepted
pub record IsGiven (old new : Partner) (rid : ℕ) (body : List ℕ) : Type 0 where
  pub opened : closed_of old ≡ None
  pub idle : sending_of old ≡ None
  pub size : HasSize body
  pub role : role_of new ≡ role_of old
  pub config : config_of new ≡ config_of old
  pub unread : unread_of new ≡ unread_of old
  pub stands : (acts : List Act) (b written : List ℕ) → StandsFor old acts b written
      → StandsFor new (acts ++ gives rid body ∷ []) b written

-- ---- polling

abbrev pub IsClosing : Result PartnerEvent Memory → Type 0
IsClosing (Ok told.Sent) = ⊥
IsClosing (Ok (told.Received rid body)) = ⊥
IsClosing (Ok told.Pending) = ⊥
IsClosing (Ok told.Idle) = ⊥
IsClosing (Ok (told.Closed code)) = Unit {0}
IsClosing (Err memory) = ⊥

-- the acts of a poll, and what it reports of them, for a partner that had done these acts, and used and transmitted
-- these octets
pub record IsPolled (old new : Partner) (link link' : Shown) (acts : List Act) (b written received used more : List ℕ)
    (result : Result PartnerEvent Memory) : Type 0 where
  pub further : List Act
  -- the poll kept an order: it used octets only when all was sent and no block waited to be handed out or
  -- acknowledged, and received octets only when also none was unused
  pub orderly : IsOrderly (role_of old) (config_of old) (unread_of old) acts further b written received used more
  pub course : Course (role_of old) (config_of old) (acts ++ further) (b ++ used) (written ++ more)
  pub tells : Tells (role_of old) (config_of old) (after (role_of old) (config_of old) acts) further link link'
      (unread_of new) (b ++ used) (written ++ more) result
  pub stands : (IsClosing result → ⊥) → StandsFor new (acts ++ further) (b ++ used) (written ++ more)

abbrev pub closed_by : Result PartnerEvent Memory → Option ℕ
closed_by (Ok told.Sent) = None
closed_by (Ok (told.Received rid body)) = None
closed_by (Ok told.Pending) = None
closed_by (Ok told.Idle) = None
closed_by (Ok (told.Closed code)) = Some code
closed_by (Err memory) = None

-- How the counts of the link change in a poll, by its result. The poll went on until the link failed, wasn't ready,
-- or its stream had ended, and made no further call of it then.
abbrev pub CountsEvent : Result PartnerEvent Memory → Shown → Shown → Type 0
CountsEvent (Ok told.Sent) link link' = MetNothing link link'
CountsEvent (Ok (told.Received rid body)) link link' = MetNothing link link'
CountsEvent (Ok told.Pending) link link' = MetNotYetOnce link link'
CountsEvent (Ok told.Idle) link link' = MetNotYetOnce link link'
CountsEvent (Ok (told.Closed code)) link link' = MetAsTold code link link' × (link'.waits ≡ link.waits)
CountsEvent (Err memory) link link' = MetNothing link link'

-- A POLL over a link
pub record IsPoll (old : Partner) (link : Shown) (new : Partner) (link' : Shown)
    (result : Result PartnerEvent Memory) : Type 0 where
  pub role : role_of new ≡ role_of old
  pub config : config_of new ≡ config_of old
  pub moves : Moves (unread_of old) link (unread_of new) link'
  pub counts : CountsEvent result link link'
  pub closed : closed_of new ≡ closed_by result
  -- a closed partner stays closed: nothing is moved
  pub stays : (code : ℕ) → closed_of old ≡ Some code
      → (result ≡ Ok (told.Closed code)) × (new ≡ old) × (link' ≡ link)
  pub polled : closed_of old ≡ None → (acts : List Act) (b written : List ℕ) → StandsFor old acts b written
      → IsPolled old new link link' acts b written moves.received moves.used moves.written result
