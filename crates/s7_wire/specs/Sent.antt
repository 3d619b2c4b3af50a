-- How a message goes out: in fragments of the link's TPDU size (ISO 8073, 13.7), each in a packet (RFC 1006,
-- section 6).
use Rattle.std.specs.Prelude.{ℕ, List, length}
use Rattle.std.specs.List.{flat_map}
use Rattle.s7_tpkt.specs.Packets.{packet_of}
use Rattle.s7_cotp.specs.Pairs.{data_of, pairs_of}

-- the packet with the message's octets in this range; the fragment that ends the message has the end bit
abbrev pub fragment_octets : List ℕ → ℕ × ℕ → List ℕ
fragment_octets message place = packet_of (data_of message place)

-- the octets of a message as it is sent, by the TPDU size
abbrev pub sent_message : ℕ → List ℕ → List ℕ
sent_message size message = flat_map (fragment_octets message) (pairs_of (length message) size)

-- the octets of messages, one after another
abbrev pub sent_messages : ℕ → List (List ℕ) → List ℕ
sent_messages size messages = flat_map (sent_message size) messages
