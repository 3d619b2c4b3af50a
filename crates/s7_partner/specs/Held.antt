-- What a partner holds of its state.
use Rattle.std.specs.Prelude.{◌≡◌, ℕ, List, ◌++◌, Option, None, Some, option_map}
use Rattle.s7_wire.specs.Reads.{HasRead, opens_by, ended_with, size_at}
use Rattle.s7_dialogue.specs.declared.config.Config.{Config}
use Rattle.s7_partner.specs.declared.role.Role.{Role}
use Rattle.s7_partner.specs.declared.partner.Partner.{Partner}
use Rattle.s7_partner.specs.declared.partner.Stage.{Stage as Held}
use Rattle.s7_partner.specs.declared.partner.Stage.TheVariants as held
use Rattle.s7_partner.specs.declared.partner.Sending.{Sending as HeldSending}
use Rattle.s7_partner.specs.declared.partner.Receiving.{Receiving as HeldReceiving}
use Rattle.s7_partner.specs.declared.partner.Arrived.{Arrived}
use Rattle.s7_partner.specs.States.{Stage, opening, negotiating, going, closed, Sending, Receiving, Block, State, Act}
use Rattle.s7_partner.specs.States.{after}
use Rattle.s7_partner.specs.Partners.{Course, opening_by}

abbrev pub role_of : Partner → Role
role_of p = p.role

abbrev pub config_of : Partner → Config
config_of p = p.config

-- the octets that were received and not used yet, and those still to be sent
abbrev pub unread_of : Partner → List ℕ
unread_of p = p.inbox

abbrev pub unsent_of : Partner → List ℕ
unsent_of p = p.outbox.unsent

abbrev pub code_in : Held → Option ℕ
code_in held.Opening = None
code_in held.Negotiating = None
code_in (held.Going pdu) = None
code_in (held.Closed code) = Some code

-- the error number with which the partner was closed, if it is closed
abbrev pub closed_of : Partner → Option ℕ
closed_of p = code_in p.stage

abbrev pub stage_in : Held → Stage
stage_in held.Opening = opening
stage_in held.Negotiating = negotiating
stage_in (held.Going pdu) = going pdu
stage_in (held.Closed code) = closed code

abbrev pub sending_in : HeldSending → Sending
sending_in s = record { number = s.number; rid = s.rid; body = s.body; from = s.from; sequence = s.sequence }

abbrev pub receiving_in : List ℕ → HeldReceiving → Receiving
receiving_in octets r = record { number = r.number; rid = r.rid; total = r.total; octets = octets }

abbrev pub block_in : List ℕ → Arrived → Block
block_in octets a = record { rid = a.rid; octets = octets; sequence = a.sequence; number = a.number }

-- the block that is being sent and isn't acknowledged yet
abbrev pub sending_of : Partner → Option Sending
sending_of p = option_map sending_in p.sending

-- The partner no longer holds the octets of a block that was handed out.
pub record HoldsHanded (held : Option Arrived) (handed : Option Block) : Type 0 where
  pub sequence : option_map (λ (a : Arrived). a.sequence) held ≡ option_map (λ (b : Block). b.sequence) handed
  pub number : option_map (λ (a : Arrived). a.number) held ≡ option_map (λ (b : Block). b.number) handed

-- THE PARTNER HOLDS A STATE, except what may be sent, and the TPDU size before the opening
pub record Holds (p : Partner) (s : State) : Type 0 where
  pub stage : stage_in p.stage ≡ s.stage
  pub size : (n : ℕ) → size_at p.reader ≡ Some n → n ≡ s.size
  pub sequence : p.sequence ≡ s.sequence
  pub number : p.number ≡ s.number
  pub sending : option_map sending_in p.sending ≡ s.sending
  pub receiving : option_map (receiving_in p.octets.octets) p.receiving ≡ s.receiving
  pub whole : option_map (block_in p.octets.octets) p.whole ≡ s.whole
  pub handed : HoldsHanded p.handed s.handed

-- THE PARTNER HAS DONE these acts, and used and transmitted these octets since it was made: it holds the state
-- after them, and what is still to be sent is what may be sent beyond what was transmitted.
pub record StandsFor (p : Partner) (acts : List Act) (b written : List ℕ) : Type 0 where
  pub opened : closed_of p ≡ None
  pub holds : Holds p (after p.role p.config acts)
  pub opens : opens_by p.reader ≡ opening_by p.role
  pub read : HasRead p.reader b
  pub going : ended_with p.reader ≡ None
  pub course : Course p.role p.config acts b written
  pub owed : (after p.role p.config acts).out ≡ written ++ p.outbox.unsent
