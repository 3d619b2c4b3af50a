use Rattle.std.proofs.Common.{refl, ◌∙◌, take}
use Rattle.s7_tpkt.specs.declared.state.FedState.TheVariants as fed
use Rattle.s7_wire.specs.Reading.{limits}
use Rattle.s7_wire.proofs.ReaderLemmas.{found_more, found_whole, found_bad_frame, found_too_long, state_at, more_goes_on}
use Rattle.s7_wire.proofs.reader.Reader.read.Goals as goal

pub returns-in-More-clause-found : goal.returns-in-More-clause-found
returns-in-More-clause-found c = λ b h.
    let o = c.args.self.now.transport.opening in
    let cutter = c.args.self.now.cutter in
    let used = take c.feed-fed.result.taken c.args.piece.now in
    found_more c.args.self.now _ b used c.in_default.is refl (λ r. c.feed-fed.ensures.goes_on (limits o) b r (more_goes_on _ c.in-More.is))
    c.feed-fed.ensures.held c.feed-fed.ensures.limit
    (state_at cutter.held c.feed-fed.new.self.held used cutter.limit c.feed-fed.new.self.limit _ fed.More c.feed-fed.ensures.state c.in-More.is c.feed-fed.ensures.held c.feed-fed.ensures.limit) h

pub returns-in-Whole-clause-found : goal.returns-in-Whole-clause-found
returns-in-Whole-clause-found c = λ b h.
    let o = c.args.self.now.transport.opening in
    let used = take c.feed-fed.result.taken c.args.piece.now in
    found_whole c.args.self.now _ b used c.body.result.now c.packet-found.result c.in_default.is c.packet-found.ensures.opening
    (λ r. rw c.body.ensures.body (c.feed-fed.ensures.ends_packet (limits o) b r c.in-Whole.is))
    c.set_limit.ensures.held (c.set_limit.ensures.limit ∙ c.limit.ensures.limit) c.packet-found.ensures.finds h

pub returns-in-BadVersion-clause-found : goal.returns-in-BadVersion-clause-found
returns-in-BadVersion-clause-found c = λ b h.
    let o = c.args.self.now.transport.opening in
    let cutter = c.args.self.now.cutter in
    let used = take c.feed-fed.result.taken c.args.piece.now in
    rw c.fault-found.ensures.result
    (found_bad_frame c.args.self.now _ b used c.feed-fed.result.state c.in_default.is c.fault-found.ensures.opening
    (λ n r. c.feed-fed.ensures.goes_on (limits o) b r n)
    (state_at cutter.held c.feed-fed.new.self.held used cutter.limit c.feed-fed.new.self.limit _ _ c.feed-fed.ensures.state refl c.feed-fed.ensures.held c.feed-fed.ensures.limit) c.in-BadVersion.is
    c.fault-found.ensures.ended (rw (← c.fault-found.ensures.result) c.fault-found.ensures.finds) h)

pub returns-in-TooLong-clause-found : goal.returns-in-TooLong-clause-found
returns-in-TooLong-clause-found c = λ b h.
    let o = c.args.self.now.transport.opening in
    let cutter = c.args.self.now.cutter in
    let used = take c.feed-fed.result.taken c.args.piece.now in
    rw c.fault-found-in-TooLong.ensures.result
    (found_too_long c.args.self.now _ b used c.feed-fed.result.state c.in_default.is c.fault-found-in-TooLong.ensures.opening
    (λ n r. c.feed-fed.ensures.goes_on (limits o) b r n)
    (state_at cutter.held c.feed-fed.new.self.held used cutter.limit c.feed-fed.new.self.limit _ _ c.feed-fed.ensures.state refl c.feed-fed.ensures.held c.feed-fed.ensures.limit) c.in-TooLong.is
    c.fault-found-in-TooLong.ensures.ended (rw (← c.fault-found-in-TooLong.ensures.result) c.fault-found-in-TooLong.ensures.finds) h)
