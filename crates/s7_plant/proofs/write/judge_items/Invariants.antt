use Rattle.std.proofs.Common.{◌≡◌, ◌+◌, ◌++◌, length, drop}
use Rattle.s7_plant.specs.Answers.{write_codes}
use Rattle.s7_plant.proofs.write.judge_items.Given as goal

-- the codes so far, and those of what is left, are those of all
abbrev pub invariant-loop-k : goal.invariant-loop-k
invariant-loop-k l = record {
  codes : l.codes.octets ++ write_codes l.areas l.right (drop l.k l.items) (drop l.k l.places) l.octets ≡ l.fn.codes.octets ++ write_codes l.areas l.right l.items l.places l.octets;
  many : length l.codes.octets + length (drop l.k l.items) ≡ length l.fn.codes.octets + length l.items;
  same : l.codes.room ≡ l.fn.codes.room;
}
