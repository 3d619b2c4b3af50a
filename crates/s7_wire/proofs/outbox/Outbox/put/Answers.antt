use Rattle.std.proofs.Common.{◌≡◌, ◌∙◌, ◌+◌, ◌-◌, ◌++◌, length, take, drop, ap, sym, arith}
use Rattle.std.proofs.lemmas.Grind.{common_steps}
use borrow.Rule.Slice.PartMut.{put_mid, post_of}
use Rattle.s7_tpkt.specs.Packets.{packet_of}
use Rattle.s7_wire.proofs.BoxLemmas.{put_behind}
use Rattle.s7_wire.proofs.outbox.Outbox.put.Goals as goal

pub returns-clause-unsent : goal.returns-clause-unsent
returns-clause-unsent c =
    let i = c.self.inside in
    let len : length (take i.upto i.octets) ≡ i.upto = grind (arith, common_steps) in
    ap (λ xs. drop i.from (take (i.upto + c.write_packet.result) (put_mid i.upto (4096 - i.upto) i.octets xs))) c.write_packet.ensures.written
    ∙ put_behind (take i.upto i.octets) (packet_of c.args.body.now) _ (post_of i.upto (4096 - i.upto) i.octets) i.from i.upto c.write_packet.result
    c.self.invariant.0 len (sym c.write_packet.ensures.size)
    ∙ ap (λ v. v.unsent ++ packet_of c.args.body.now) c.self.view_is
