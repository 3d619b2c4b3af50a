use Rattle.std.proofs.Common.{◌≡◌, ◌*◌, ◌-◌, length, drop}
use Rattle.s7_szl.specs.Octets.{number_at}
use Rattle.s7_szl.specs.Readers.{records_in, first_with}
use Rattle.s7_szl.proofs.readers.read_component.Given as goal

abbrev pub invariant-loop : goal.invariant-loop
invariant-loop l =
    (length l.rest ≡ 34 * (l.end - l.counter))
    × (first_with l.index (records_in 34 (l.end - l.counter) l.rest) ≡ first_with l.index (records_in 34 (number_at l.image 6) (drop 8 l.image)))
