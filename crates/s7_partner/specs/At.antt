-- What a partner holds of a state, whatever octets it has used and transmitted.
use Rattle.std.specs.Prelude.{◌≡◌, ◌≢◌, ℕ, ◌+◌, ◌-◌, ◌<◌, Bool, true, false, if◌then◌else◌, List, [], ◌++◌, length}
use Rattle.std.specs.Prelude.{is_none, Option, None, Some, option_map}
use Rattle.s7_cotp.specs.Told.{ConnectionTold}
use Rattle.s7_wire.specs.Reads.{size_at}
use Rattle.s7_wire.specs.Bounds.{most_waiting}
use Rattle.s7_partner.specs.declared.partner.Partner.{Partner}
use Rattle.s7_partner.specs.declared.partner.Stage.{Stage as Held}
use Rattle.s7_partner.specs.declared.partner.Stage.TheVariants as held
use Rattle.s7_partner.specs.declared.partner.Sending.{Sending as HeldSending}
use Rattle.s7_partner.specs.declared.partner.Receiving.{Receiving as HeldReceiving}
use Rattle.s7_partner.specs.declared.step.Step.{Step}
use Rattle.s7_partner.specs.declared.step.Step.TheVariants as step
use Rattle.s7_partner.specs.Telegrams.{Piece}
use Rattle.s7_partner.specs.States.{negotiating, State, if_going, opened_by, kept}
use Rattle.s7_partner.specs.Held.{closed_of, stage_in, sending_in, receiving_in, block_in, HoldsHanded}

-- The partner holds the whole state, except the TPDU size, which its reader has, and the octets that may be sent.
pub record HoldsState (p : Partner) (s : State) : Type 0 where
  pub stage : stage_in p.stage ≡ s.stage
  pub sequence : p.sequence ≡ s.sequence
  pub number : p.number ≡ s.number
  pub sending : option_map sending_in p.sending ≡ s.sending
  pub receiving : option_map (receiving_in p.octets.octets) p.receiving ≡ s.receiving
  pub whole : option_map (block_in p.octets.octets) p.whole ≡ s.whole
  pub handed : HoldsHanded p.handed s.handed

-- The partner holds the state, and what is still to be sent is what may be sent beyond what was transmitted.
pub record IsAt (p : Partner) (s : State) (written : List ℕ) : Type 0 where
  pub holds : HoldsState p s
  pub out : s.out ≡ written ++ p.outbox.unsent

-- Octets may be queued, but none is read.
pub record KeepsLink (old new : Partner) : Type 0 where
  pub role : new.role ≡ old.role
  pub config : new.config ≡ old.config
  pub reader : new.reader ≡ old.reader
  pub inbox : new.inbox ≡ old.inbox

-- The partner goes from the state that it holds, with the TPDU size of its link, to the state that `next` makes of
-- it.
pub record Reaches (old new : Partner) (next : State → State) : Type 0 where
  pub keeps : KeepsLink old new
  pub reaches : (s : State) (written : List ℕ) → size_at old.reader ≡ Some s.size → IsAt old s written
      → IsAt new (next s) written

-- From the state that the partner holds it goes to the one in which the next fragment is queued, if the link was
-- negotiated.
abbrev pub GoesOut : Partner → Partner → Type 0
GoesOut old new = (s : State) (written : List ℕ) → ((n : ℕ) → size_at old.reader ≡ Some n → n ≡ s.size)
    → IsAt old s written → IsAt new (if_going s s.stage) written

-- From the state that the partner holds, just after the link was opened, it goes to the one after the opening.
abbrev pub OpensBy : Partner → Partner → ConnectionTold → Type 0
OpensBy old new c = (s : State) (written : List ℕ) → IsAt old (record s { stage = negotiating }) written
    → IsAt new (opened_by old.role old.config s c) written

-- Nothing is left to send, and no block waits to be handed out or acknowledged.
pub record IsIdle (p : Partner) : Type 0 where
  pub unsent : p.outbox.unsent ≡ []
  pub room : p.outbox.room ≡ most_waiting
  pub whole : p.whole ≡ None
  pub handed : p.handed ≡ None

-- All that the partner holds of a state stays.
pub record KeepsState (old new : Partner) : Type 0 where
  pub stage : new.stage ≡ old.stage
  pub sequence : new.sequence ≡ old.sequence
  pub number : new.number ≡ old.number
  pub sending : new.sending ≡ old.sending
  pub receiving : new.receiving ≡ old.receiving
  pub octets : new.octets ≡ old.octets
  pub whole : new.whole ≡ old.whole
  pub handed : new.handed ≡ old.handed

-- The partner closes, and everything else of it stays.
pub record Closes (old new : Partner) (code : ℕ) : Type 0 where
  pub keeps : KeepsLink old new
  pub outbox : new.outbox ≡ old.outbox
  pub stage : new.stage ≡ held.Closed code
  pub sequence : new.sequence ≡ old.sequence
  pub number : new.number ≡ old.number
  pub sending : new.sending ≡ old.sending
  pub receiving : new.receiving ≡ old.receiving
  pub octets : new.octets ≡ old.octets
  pub whole : new.whole ≡ old.whole
  pub handed : new.handed ≡ old.handed

-- ---- how much a partner can still read before there is something to report

-- the number of messages until the link is negotiated, the opening included
abbrev pub stage_left : Held → ℕ
stage_left held.Opening = 2
stage_left held.Negotiating = 1
stage_left (held.Going pdu) = 0
stage_left (held.Closed code) = 0

-- the number of octets that aren't acknowledged yet
abbrev pub sending_left : Option HeldSending → ℕ
sending_left None = 0
sending_left (Some s) = length s.body - s.from

-- the number of octets still to come
abbrev pub receiving_left : Option HeldReceiving → ℕ → ℕ
receiving_left None came = 65536
receiving_left (Some r) came = r.total - came

abbrev pub events_left : Partner → ℕ
events_left p =
    stage_left p.stage + (sending_left p.sending + receiving_left p.receiving (length p.octets.octets))

-- ---- steps

abbrev pub code_by : Step → Option ℕ
code_by step.Went = None
code_by step.NotYet = None
code_by step.Sent = None
code_by (step.Closed code) = Some code

-- The result of a step that took a message agrees with what the partner then holds.
pub record Does (old new : Partner) (result : Step) : Type 0 where
  pub some : result ≢ step.NotYet
  pub closed : closed_of new ≡ code_by result
  pub quiet : result ≢ step.Sent → is_none old.sending ≡ false → is_none new.sending ≡ false
  pub sent : result ≡ step.Sent → (is_none old.sending ≡ false) × (is_none new.sending ≡ true)
  pub none_whole : result ≡ step.Sent → new.whole ≡ None
  pub handed : new.handed ≡ None
  pub less : result ≡ step.Went → new.whole ≡ None → events_left new < events_left old

-- Queueing changes nothing else of a partner.
pub record KeepsRest (old new : Partner) : Type 0 where
  pub stage : new.stage ≡ old.stage
  pub number : new.number ≡ old.number
  pub receiving : new.receiving ≡ old.receiving
  pub octets : new.octets ≡ old.octets
  pub whole : new.whole ≡ old.whole
  pub handed : new.handed ≡ old.handed
  pub sending : is_none new.sending ≡ is_none old.sending
  pub left : sending_left new.sending ≡ sending_left old.sending

-- The partner keeps the fragment. Before, it holds the state except the block being received; its buffer has the
-- fragment's octets already, after those that came before.
pub record KeepsPiece (old new : Partner) (block : HeldReceiving) (sequence number : ℕ) (more : Bool)
    : Type 0 where
  pub keeps : KeepsLink old new
  pub reaches : (s : State) (written came : List ℕ) (p : Piece) → size_at old.reader ≡ Some s.size
      → stage_in old.stage ≡ s.stage → old.sequence ≡ s.sequence → old.number ≡ s.number
      → option_map sending_in old.sending ≡ s.sending → s.whole ≡ None → HoldsHanded old.handed s.handed
      → s.out ≡ written ++ old.outbox.unsent → p.number ≡ number → p.more ≡ more
      → old.octets.octets ≡ came ++ p.octets
      → IsAt new (kept s sequence (receiving_in came block) p) written
  pub stage : new.stage ≡ old.stage
  pub sending : new.sending ≡ old.sending
  pub octets : new.octets ≡ old.octets
  pub handed : new.handed ≡ old.handed
  pub receiving : new.receiving ≡ (if more then Some block else None)
  pub whole : is_none new.whole ≡ more
