use Rattle.std.proofs.Common.{length, ◌-◌, ◌≡◌, ℕ, ◌<◌, ◌≤◌, ◌++◌, take}
use Rattle.s7_tpkt.specs.Packets.{state_of}
use Rattle.s7_tpkt.specs.declared.state.FedState.TheVariants.{More}
use Rattle.s7_tpkt.proofs.cutting.Cutter.feed.Given as goal

abbrev pub invariant-loop-taken : goal.invariant-loop-taken
invariant-loop-taken l = record {
  taken : l.taken ≤ length l.piece;
  held : l.self.held ≡ l.fn.self.held ++ take l.taken l.piece;
  limit : l.self.limit ≡ l.fn.self.limit;
  earliest : (k : ℕ) → k < l.taken → state_of l.fn.self.limit (l.fn.self.held ++ take k l.piece) ≡ More;
}

abbrev pub decreases-loop-taken : goal.decreases-loop-taken
decreases-loop-taken l = length l.piece - l.taken
