use Rattle.std.proofs.Common.{◌≡◌, ◌+◌, ◌*◌, ◌≤◌, drop}
use Rattle.s7_client.specs.Form.{octets_read}
use Rattle.s7_library_tests.proofs.watches.octets_read.Given as goal

-- the octets so far, and those of the items left, are all
abbrev pub invariant-loop-k : goal.invariant-loop-k
invariant-loop-k l = record {
  total : l.total + octets_read (drop l.k l.items) (drop l.k l.codes) ≡ octets_read l.items l.codes;
  most : l.total ≤ 262140 * l.k;
}
