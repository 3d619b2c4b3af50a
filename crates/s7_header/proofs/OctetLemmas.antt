-- Numbers in two octets and back, and octets in their places.
use Rattle.std.proofs.Common.{◌≡◌, ℕ, suc, ◌+◌, ◌/◌, ◌%◌, ◌<◌, ◌≤◌, ◌^◌, List, ◌∷◌, ◌++◌, length, drop, slice_index, arith, drop-cons}
use Rattle.s7_outer.specs.Numbers.{number_of_two, two_octets}
use Rattle.s7_outer.specs.Numbers.{AreOctets}
use Rattle.s7_header.specs.Octets.{number_at}

high_of_two : (high low : ℕ) → low < 256 → number_of_two high low / 256 ≡ high
high_of_two high low h = omega arith

low_of_two : (high low : ℕ) → low < 256 → number_of_two high low % 256 ≡ low
low_of_two high low h = omega arith

pub two_of_number : (n : ℕ) → number_of_two (n / 256) (n % 256) ≡ n
two_of_number n = omega arith

below_two : (high low : ℕ) → high < 256 → low < 256 → number_of_two high low < 2 ^ 16
below_two high low h l = omega arith

-- a number from its place has two octets
pub number_at_fits : (octets : List ℕ) (place : ℕ) → AreOctets octets → number_at octets place < 2 ^ 16
number_at_fits octets place are = below_two (slice_index octets place) (slice_index octets (place + 1)) (are place) (are (place + 1))

-- the octet in a place, and those behind it
pub one_cell : (octets : List ℕ) (place : ℕ) → place < length octets → drop place octets ≡ slice_index octets place ∷ drop (suc place) octets
one_cell octets place h = drop-cons octets place 0 h

-- the number in a place, and the octets behind it
pub two_cells : (octets : List ℕ) (place : ℕ) → place + 2 ≤ length octets → AreOctets octets → drop place octets ≡ two_octets (number_at octets place) ++ drop (place + 2) octets
two_cells octets place h are =
    let one = one_cell octets place (omega arith) in
    let two = one_cell octets (place + 1) (omega arith) in
    let next : suc place ≡ place + 1 = omega arith in
    let last : suc (place + 1) ≡ place + 2 = omega arith in
    let high = high_of_two (slice_index octets place) (slice_index octets (place + 1)) (are (place + 1)) in
    let low = low_of_two (slice_index octets place) (slice_index octets (place + 1)) (are (place + 1)) in
    cc
