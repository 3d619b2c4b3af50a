use Rattle.std.proofs.Common.{◌≡◌, length}
use Rattle.s7_codec_tests.proofs.item.sizes_are_foreseen.Given as goal

abbrev pub invariant-loop : goal.invariant-loop
invariant-loop g l = length l.items ≡ l.counter
