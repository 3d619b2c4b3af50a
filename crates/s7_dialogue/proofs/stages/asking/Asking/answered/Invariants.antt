use Rattle.std.proofs.Common.{◌≡◌, take}
use Rattle.std.specs.List.{AllByRecursion}
use Rattle.s7_dialogue.specs.Asks.{IsSilent}
use Rattle.s7_dialogue.proofs.stages.asking.Asking.answered.Given as goal

-- the message is no answer to the telegrams so far
abbrev pub invariant-loop-k : goal.invariant-loop-k
invariant-loop-k l = record {
  silent : AllByRecursion (IsSilent l.message) (take l.k l.self.flights.items);
  same : l.self ≡ l.fn.self;
}
