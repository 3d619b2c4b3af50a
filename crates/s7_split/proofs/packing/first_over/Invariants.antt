use Rattle.std.proofs.Common.{◌≡◌, drop}
use Rattle.s7_split.specs.Groups.{first_over}
use Rattle.s7_split.proofs.packing.first_over.Given as goal

-- what is over among the items to come is over among all
abbrev pub invariant-loop-k : goal.invariant-loop-k
invariant-loop-k l = first_over l.pdu l.write l.k (drop l.k l.items) ≡ first_over l.pdu l.write 0 l.items
