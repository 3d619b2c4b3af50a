-- What is true of each partner, whatever octets it has used and transmitted. The limits are this profile's own.
use Rattle.std.specs.Prelude.{ℕ, ◌+◌, Bool, true, false, ◌&&◌, not, nat_le, if◌then◌else◌, is_none, Option, None, Some}
use Rattle.s7_wire.specs.Bounds.{most_packets}
use Rattle.s7_partner.specs.declared.partner.Stage.{Stage}
use Rattle.s7_partner.specs.declared.partner.Stage.TheVariants.{Opening, Negotiating, Going, Closed}
use Rattle.s7_partner.specs.declared.partner.Receiving.{Receiving}

-- The state of the link agrees with its TPDU size, which exists from the opening on. Before the link was
-- negotiated, no block waits to be handed out or acknowledged.
abbrev pub is_sound : Stage → Option ℕ → Bool → Bool
is_sound Opening size idle = is_none size && idle
is_sound Negotiating size idle = not (is_none size) && idle
is_sound (Going pdu) size idle = not (is_none size) && (nat_le 64 pdu && nat_le pdu 1920)
is_sound (Closed code) size idle = true

-- the link isn't negotiated yet, and isn't closed
abbrev pub is_early : Stage → Bool
is_early Opening = true
is_early Negotiating = true
is_early (Going pdu) = false
is_early (Closed code) = false

-- the greatest number of octets that the buffer holds
abbrev pub total_in : Option Receiving → ℕ
total_in None = 65535
total_in (Some r) = r.total

abbrev pub room_unless : Bool → ℕ
room_unless done = if done then 0 else most_packets

-- The room that is kept free in the outbox: for a fragment if no block is being sent, and for an acknowledgement if
-- one is still to be sent.
abbrev pub kept_room : Bool → Bool → ℕ
kept_room free idle = room_unless (not free) + room_unless idle
