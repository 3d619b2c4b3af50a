use Rattle.std.proofs.Common.{◌≡◌, ◌+◌, ◌*◌, ◌≤◌, drop}
use Rattle.s7_dialogue.specs.Checks.{octet_count_of}
use Rattle.s7_dialogue.proofs.questions.checks.octet_count_of.Given as goal

-- the octets so far and those of the items to come are all octets
abbrev pub invariant-loop-item : goal.invariant-loop-item
invariant-loop-item l = record {
  so_far : l.count + octet_count_of (drop l.item-index l.items) ≡ octet_count_of l.items;
  most : l.count ≤ 262140 * l.item-index;
}
