-- The fragments of a message: where they lie in it, and how many octets they take in packets.
use Rattle.std.proofs.Common.{◌≡◌, ℕ, zero, suc, ◌+◌, ◌-◌, ◌*◌, ◌/◌, ◌<◌, ◌≤◌, min, max, List, length, drop, arith, length-append}
use Rattle.std.proofs.Math.Nat.{div-lt_iff_lt-mul}
use Rattle.std.specs.Prelude.{slice_range}
use Rattle.std.specs.List.{flat_map, AllByRecursion}
use Rattle.std.proofs.lemmas.List.{length-take-le, length-drop}
use Rattle.s7_cotp.specs.Pairs.{pairs_of, pairs_from, fragments_of}
use Rattle.s7_wire.specs.Bounds.{most_sent, most_packets}
use Rattle.s7_wire.specs.Sent.{fragment_octets, sent_message}

-- the pair lies in a message of so many octets
abbrev pub LiesIn : ℕ → ℕ × ℕ → Type 0
LiesIn n p = (p.0 ≤ p.1) × (p.1 ≤ n)

pub pairs_lie : (k room from to : ℕ) → from ≤ to → AllByRecursion (LiesIn to) (pairs_from k room from to)
pairs_lie zero room from to le = tt
pairs_lie (suc k) room from to le =
    let end = min (from + room) to in
    ((omega (arith, le), omega arith), pairs_lie k room end to (omega arith))

-- a fragment in a packet has seven octets more
length-fragment : (m : List ℕ) (p : ℕ × ℕ) → LiesIn (length m) p → length (fragment_octets m p) ≡ 7 + (p.1 - p.0)
length-fragment m p h =
    let cut : length (slice_range m p.0 p.1) ≡ p.1 - p.0 = length-take-le (p.1 - p.0) (drop p.0 m) (omega (arith, length-drop p.0 m, h.0, h.1)) in
    omega (arith, cut)

length-pairs : (m : List ℕ) (k room from : ℕ) → from ≤ length m
    → length (flat_map (fragment_octets m) (pairs_from k room from (length m))) ≤ 7 * k + (length m - from)
length-pairs m zero room from le = omega arith
length-pairs m (suc k) room from le =
    let end = min (from + room) (length m) in
    let rest = flat_map (fragment_octets m) (pairs_from k room end (length m)) in
    omega (arith, length-append (fragment_octets m (from, end)) rest, length-fragment m (from, end) (omega (arith, le), omega arith), length-pairs m k room end (omega arith), le)

few : (n room : ℕ) → n ≤ most_sent → 125 ≤ room → fragments_of n room ≤ 16
few n room most least =
    let below : (max n 1 - 1) / room < 16 = (div-lt_iff_lt-mul {k = room} {x = max n 1 - 1} {y = 16} (omega (arith, least))).1 (omega (arith, most, least)) in
    omega (arith, below)

-- how many octets a message takes at most
pub length-sent : (m : List ℕ) (size : ℕ) → length m ≤ most_sent → 128 ≤ size → length (sent_message size m) ≤ most_packets
unfolding pairs_of
length-sent m size most least =
    let k = fragments_of (length m) (size - 3) in
    omega (arith, length-pairs m k (size - 3) 0 (omega arith), few (length m) (size - 3) most (omega (arith, least)), most)

pub sent_lie : (m : List ℕ) (size : ℕ) → AllByRecursion (LiesIn (length m)) (pairs_of (length m) size)
unfolding pairs_of
sent_lie m size = pairs_lie (fragments_of (length m) (size - 3)) (size - 3) 0 (length m) (omega arith)
