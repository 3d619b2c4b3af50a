use Rattle.std.proofs.Common.{◌≡◌, ◌+◌, ◌≤◌, ◌++◌, length, take, drop}
use Rattle.s7_dialogue.specs.Checks.{octet_count_of}
use Rattle.s7_dialogue.specs.Taking.{without_gaps}
use Rattle.s7_dialogue.proofs.answers.collect.close_gaps.Given as goal

-- the octets so far, with those of the items to come, are those of all
abbrev pub invariant-loop-k : goal.invariant-loop-k
invariant-loop-k l = record {
  so_far : take l.to l.found.items ++ without_gaps (drop l.k l.items) (drop l.k l.codes) (drop l.from l.found.items)
      ≡ without_gaps l.items l.codes l.fn.found.items;
  behind : l.to ≤ l.from;
  within : l.from + octet_count_of (drop l.k l.items) ≤ length l.found.items;
}
