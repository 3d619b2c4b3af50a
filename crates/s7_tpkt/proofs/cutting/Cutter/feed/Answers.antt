use Rattle.std.proofs.Common.{take, length-drop, arith, ◌∙◌}
use Rattle.std.proofs.lemmas.List.{take_rest}
use Rattle.s7_tpkt.proofs.PacketLemmas.{goes_on_at, ends_packet_at}
use Rattle.s7_tpkt.proofs.FeedLemmas.{shown_at, earliest_both, filled_behind, still_at, same_cut}
use Rattle.s7_tpkt.proofs.cutting.Cutter.feed.Goals as goal

pub returns-clause-goes_on : goal.returns-clause-goes_on
returns-clause-goes_on c = λ limits b h n.
    goes_on_at limits b (take c.loop-taken.taken c.args.piece.now) c.args.self.now.held c.args.self.now.limit c.state-2.result h.held h.limit
    (rw (← c.loop-taken.invariant.held, ← c.loop-taken.invariant.limit) c.state-2.ensures.state) n

pub returns-clause-ends_packet : goal.returns-clause-ends_packet
returns-clause-ends_packet c = λ limits b h w.
    let used = take c.loop-taken.taken c.args.piece.now in
    rw c.loop-taken.invariant.held
    (ends_packet_at limits b used c.args.self.now.held c.args.self.now.limit h.held h.limit
    (rw (← c.loop-taken.invariant.held, ← c.loop-taken.invariant.limit) (c.state-2.ensures.whole w)))

pub loop-taken-preserved : goal.loop-taken-preserved
loop-taken-preserved c = record {
  taken = omega (arith, c.fill-taken.ensures.taken, length-drop c.loop-taken.taken c.args.piece.now);
  held = filled_behind c.args.self.now.held c.loop-taken.self.held c.fill-taken.new.self.held c.args.piece.now c.loop-taken.taken c.fill-taken.result c.loop-taken.invariant.held (rw (← take_rest c.args.piece.now c.loop-taken.taken) c.fill-taken.ensures.held);
  limit = c.fill-taken.ensures.limit ∙ c.loop-taken.invariant.limit;
  earliest = earliest_both c.args.self.now.limit c.args.self.now.held c.loop-taken.self.held c.args.piece.now c.loop-taken.taken c.fill-taken.result c.loop-taken.invariant.held c.loop-taken.invariant.earliest (rw (← c.loop-taken.invariant.limit, ← take_rest c.args.piece.now c.loop-taken.taken) c.fill-taken.ensures.earliest);
}

pub returns-clause-shown : goal.returns-clause-shown
returns-clause-shown c =
    shown_at c.args.self.now.limit c.args.self.now.held c.loop-taken.self.held c.args.piece.now c.loop-taken.taken c.state-2.result
    c.loop-taken.invariant.taken c.loop-taken.invariant.held (rw (← c.loop-taken.invariant.limit) c.state-2.ensures.state) c.loop-taken.invariant.earliest

pub returns-clause-stays : goal.returns-clause-stays
returns-clause-stays c = λ h.
    let k = still_at c.args.self.now.limit c.loop-taken.self.limit c.args.self.now.held c.loop-taken.self.held c.args.piece.now c.loop-taken.taken c.state-2.result
    c.loop-taken.invariant.held c.loop-taken.invariant.limit c.state-2.ensures.state c.loop-taken.invariant.earliest h in
    (k.0, k.1, same_cut _ _ k.2 c.loop-taken.invariant.limit)
