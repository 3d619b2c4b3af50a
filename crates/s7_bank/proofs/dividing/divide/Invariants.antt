use Rattle.std.proofs.Common.{◌≡◌, ◌+◌, ◌≤◌, length, vec_capacity}
use Rattle.s7_bank.proofs.DividingLemmas.{AreLeftFrom, PartsSoFar}
use Rattle.s7_bank.proofs.dividing.divide.Given as goal

-- the areas of the banks so far are in their parts
abbrev pub invariant-loop-bank : goal.invariant-loop-bank
invariant-loop-bank l = record {
  left : AreLeftFrom l.banks l.bank l.fn.areas l.areas;
  parts : PartsSoFar l.banks l.fn.areas l.parts.items;
  many : length l.parts.items + 1 ≡ l.bank;
  room : l.banks ≤ vec_capacity l.parts;
}
