-- Packets (TPKTs) of RFC 1006, section 6: the version 03, a reserved octet, the length of the whole packet in
-- two octets, and a body, which is one TPDU.
use Rattle.std.specs.Prelude.{◌≡◌, ◌≢◌, ℕ, zero, suc, ◌+◌, ◌*◌, ◌/◌, ◌%◌, ◌≤◌, Bool, true, false, nat_lt, ◌==◌, if◌then◌else◌, List, [], ◌∷◌, ◌++◌, length, take, drop}
use Rattle.s7_tpkt.specs.Cut.{Cut}
use Rattle.s7_tpkt.specs.declared.state.FedState.{FedState}
use Rattle.s7_tpkt.specs.declared.state.FedState.TheVariants.{Whole, More, BadVersion, BadLength, TooLong}

-- A packet: the version is 03, the reserved octet may be anything, and the length field counts the four header
-- octets too. The least length is 7, as RFC 1006 states, and the greatest is a limit of the receiver.
abbrev pub IsPacket : ℕ → List ℕ → Type 0
IsPacket limit (v ∷ r ∷ hi ∷ lo ∷ body) = (v ≡ 3) × (256 * hi + lo ≡ length body + 4) × (7 ≤ length body + 4) × (length body + 4 ≤ limit)
IsPacket limit (v ∷ r ∷ hi ∷ []) = ⊥
IsPacket limit (v ∷ r ∷ []) = ⊥
IsPacket limit (v ∷ []) = ⊥
IsPacket limit [] = ⊥

-- the octets after the four header octets
abbrev pub body_of : List ℕ → List ℕ
body_of packet = drop 4 packet

-- the packet that is written for a body
abbrev pub packet_of : List ℕ → List ℕ
packet_of body = 3 ∷ 0 ∷ ((length body + 4) / 256) ∷ ((length body + 4) % 256) ∷ body

-- The octets are the packets with these bodies, in order, and then the rest. The limit of a packet is a
-- function of the bodies before it.
abbrev pub Packed : (List (List ℕ) → ℕ) → List (List ℕ) → List ℕ → List (List ℕ) → List ℕ → Type 0
Packed limits before b [] rest = b ≡ rest
Packed limits before b (p ∷ ps) rest = (q : List ℕ) × (more : List ℕ) × IsPacket (limits before) q × (p ≡ body_of q) ×
    (b ≡ q ++ more) × Packed limits (before ++ p ∷ []) more ps rest

-- no packet stands at the beginning of the octets
abbrev pub NoPacketAhead : ℕ → List ℕ → Type 0
NoPacketAhead limit rest = (q more : List ℕ) → IsPacket limit q → rest ≢ q ++ more

-- the octets are these packets, as many as there are, and a rest that begins no further packet
abbrev pub Packets : (List (List ℕ) → ℕ) → List ℕ → List (List ℕ) → List ℕ → Type 0
Packets limits b ps rest = Packed limits [] b ps rest × NoPacketAhead (limits ps) rest

-- the state by the length field and the number of octets held
abbrev pub state_by : ℕ → ℕ → ℕ → FedState
state_by limit size held =
    if nat_lt size 7 then BadLength else (if nat_lt limit size then TooLong else (if nat_lt held size then More else Whole))

-- the state if the version is right, and `BadVersion` if it isn't
abbrev pub if_begun : ℕ → FedState → FedState
if_begun v state = if v == 3 then state else BadVersion

-- What the octets at the beginning of a stream show: a whole packet, a fault, or that more octets are needed. The
-- first octet shows the version, and the length field ends with the fourth.
abbrev pub state_of : ℕ → List ℕ → FedState
state_of limit [] = More
state_of limit (v ∷ []) = if_begun v More
state_of limit (v ∷ r ∷ []) = if_begun v More
state_of limit (v ∷ r ∷ hi ∷ []) = if_begun v More
state_of limit (v ∷ r ∷ hi ∷ lo ∷ body) = if_begun v (state_by limit (256 * hi + lo) (length body + 4))

-- whether the state is that of a whole packet
abbrev pub is_whole : FedState → Bool
is_whole Whole = true
is_whole More = false
is_whole BadVersion = false
is_whole BadLength = false
is_whole TooLong = false

-- whether the state is a fault; no further octets change it
abbrev pub is_fault : FedState → Bool
is_fault Whole = false
is_fault More = false
is_fault BadVersion = true
is_fault BadLength = true
is_fault TooLong = true

-- the length field; 0 if it isn't complete yet
abbrev pub length_field : List ℕ → ℕ
length_field (v ∷ r ∷ hi ∷ lo ∷ body) = 256 * hi + lo
length_field (v ∷ r ∷ hi ∷ []) = 0
length_field (v ∷ r ∷ []) = 0
length_field (v ∷ []) = 0
length_field [] = 0

-- the bodies in `before` and the bodies of at most n packets at the beginning of the octets, and the rest
abbrev pub cut : (List (List ℕ) → ℕ) → List (List ℕ) → ℕ → List ℕ → List (List ℕ) × List ℕ
cut limits before zero b = (before, b)
cut limits before (suc n) b =
    if is_whole (state_of (limits before) b)
    then cut limits (before ++ body_of (take (length_field b) b) ∷ []) n (drop (length_field b) b)
    else (before, b)

-- the bodies of the packets of a stream
unfoldable pub packets_of : (List (List ℕ) → ℕ) → List ℕ → List (List ℕ)
packets_of limits b = (cut limits [] (length b) b).0

-- the octets after the last whole packet of a stream
unfoldable pub rest_of : (List (List ℕ) → ℕ) → List ℕ → List ℕ
rest_of limits b = (cut limits [] (length b) b).1

-- a cutter holds the rest of these octets, and has the limit for it
pub record HoldsRest (limits : List (List ℕ) → ℕ) (b : List ℕ) (cutter : Cut) : Type 0 where
  pub held : rest_of limits b ≡ cutter.held
  pub limit : limits (packets_of limits b) ≡ cutter.limit

-- `more` follows the octets, and no further packet becomes whole.
pub record GoesOn (limits : List (List ℕ) → ℕ) (b more : List ℕ) : Type 0 where
  pub packets : packets_of limits (b ++ more) ≡ packets_of limits b
  pub rest : rest_of limits (b ++ more) ≡ rest_of limits b ++ more

-- `more` follows the octets, and ends one more packet, which has this body.
pub record EndsPacket (limits : List (List ℕ) → ℕ) (b more body : List ℕ) : Type 0 where
  pub packets : packets_of limits (b ++ more) ≡ packets_of limits b ++ body ∷ []
  pub rest : rest_of limits (b ++ more) ≡ []

-- `more` follows the octets, whatever it is: the packets before stay.
pub record GoesFurther (limits : List (List ℕ) → ℕ) (b more : List ℕ) : Type 0 where
  pub tail : List (List ℕ)
  pub packets : packets_of limits (b ++ more) ≡ packets_of limits b ++ tail
