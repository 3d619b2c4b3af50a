-- Packets that are written are packets.
use Rattle.std.proofs.Common.{◌≡◌, ℕ, ◌+◌, ◌≤◌, List, [], ◌∷◌, length, arith, refl}
use Rattle.s7_tpkt.specs.Packets.{IsPacket, packet_of, packets_of, rest_of}
use Rattle.s7_tpkt.proofs.PacketLemmas.{ends_packet}

pub packet_written : (limit : ℕ) (body : List ℕ) → 3 ≤ length body → length body + 4 ≤ limit → IsPacket limit (packet_of body)
packet_written limit body least most = (refl, omega arith, omega (arith, least), most)

pub one_written : (limits : List (List ℕ) → ℕ) (body : List ℕ) → 3 ≤ length body → length body + 4 ≤ limits []
    → (packets_of limits (packet_of body) ≡ body ∷ []) × (rest_of limits (packet_of body) ≡ [])
unfolding packets_of rest_of
one_written limits body least most =
    let e = ends_packet limits [] (packet_of body) (packet_written (limits []) body least most) in
    (e.packets, e.rest)
