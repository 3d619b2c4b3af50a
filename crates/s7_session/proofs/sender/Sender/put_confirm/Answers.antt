use Rattle.std.proofs.Common.{◌++◌, take, ap, sym, ◌∙◌}
use Rattle.std.proofs.lemmas.List.{take_at}
use Rattle.s7_cotp.specs.Told.{connection_of}
use Rattle.s7_cotp.specs.Spelling.{spelling_of_confirm}
use Rattle.s7_tpkt.specs.Packets.{packet_of}
use Rattle.s7_session.proofs.sender.Sender.put_confirm.Goals as goal

pub returns : goal.returns
returns c =
    let n = c.write_confirm-len.result in
    c.put.ensures.unsent
    ∙ ap (λ x. c.args.self.now.outbox.unsent ++ packet_of x)
    (ap (take n) c.write_confirm-len.ensures.written ∙ take_at (spelling_of_confirm (connection_of c.args.c.now)) _ n (sym c.write_confirm-len.ensures.size))
