use Rattle.std.proofs.Common.{◌≡◌, ◌++◌, ◌≤◌, length, take, ap, sym, ◌∙◌, arith}
use Rattle.std.proofs.lemmas.List.{take_at, length-take}
use Rattle.s7_cotp.specs.Told.{connection_of}
use Rattle.s7_cotp.specs.Spelling.{spelling_of_confirm}
use Rattle.s7_tpkt.specs.Packets.{packet_of}
use Rattle.s7_partner.specs.States.{confirmed}
use Rattle.s7_partner.proofs.OpeningLemmas.{confirm_short}
use Rattle.s7_partner.proofs.opening.put_accept.Goals as goal

pub returns : goal.returns
returns c =
    let request = c.args.request.now in
    let told = confirmed (connection_of request) in
    let n = c.write_confirm-len.result in
    let same : take n c.write_confirm-len.new.into ≡ spelling_of_confirm told =
    ap (take n) c.write_confirm-len.ensures.written
    ∙ take_at (spelling_of_confirm told) _ n (sym c.write_confirm-len.ensures.size) in
    let short : length (spelling_of_confirm told) ≤ 46 = confirm_short told
    (omega (arith, length-take request.calling.len request.calling.octets, c.requires.writable.2))
    (omega (arith, length-take request.called.len request.called.octets, c.requires.writable.3)) in
    record {
      unsent = c.put.ensures.unsent ∙ ap (λ x. c.args.outbox.now.unsent ++ packet_of x) same;
      room = omega (arith, c.put.ensures.room, ap length same);
      few = omega (arith, short);
    }
