-- Numbers that hold for each link. All but the TPDU size of a code are this profile's own.
use Rattle.std.specs.Prelude.{ℕ, ◌+◌, ◌^◌}

-- the greatest length of a message that is joined from fragments
abbrev pub message_limit : ℕ
message_limit = 8192

-- the greatest length of a packet before the TPDU size is agreed
abbrev pub first_limit : ℕ
first_limit = 8199

-- A TPDU size by its code: 07 is 128, and each further one doubles it (ISO 8073, 13.3.4).
abbrev pub size_of_code : ℕ → ℕ
size_of_code code = 2 ^ code

-- The greatest length of a packet by the TPDU size. Some senders count only user data in that size, so a packet may
-- have three octets more, besides its own header's four. This is this profile's own.
abbrev pub limit_of_size : ℕ → ℕ
limit_of_size size = size + 7

-- the greatest length of a message that is sent, which is that of the greatest PDU
abbrev pub most_sent : ℕ
most_sent = 1920

-- the greatest number of octets of such a message in its packets; it is needed at the least TPDU size
abbrev pub most_packets : ℕ
most_packets = 2032

-- the greatest number of octets that may wait to be sent
abbrev pub most_waiting : ℕ
most_waiting = 4096

-- the greatest number of octets of one receive
abbrev pub most_received : ℕ
most_received = 8192
