use Rattle.std.proofs.Common.{ℕ, List, [], ◌++◌, sym, ap, ◌∙◌}
use Rattle.std.specs.Prelude.{Some}
use Rattle.s7_tpkt.specs.Packets.{packet_of}
use Rattle.s7_cotp.specs.Told.{connection_of}
use Rattle.s7_cotp.specs.Spelling.{spelling_of_confirm}
use Rattle.s7_session.specs.Conversing.{link_of}
use Rattle.s7_session.specs.Events.{made, settled, confirmed}
use Rattle.s7_session.proofs.conversation.Conversation.open.Goals as goal

pub returns : goal.returns
unfolding made
returns c =
    let link = link_of c.args.self.now.held in
    let packet = packet_of (spelling_of_confirm (confirmed (connection_of c.args.request.now))) in
    ap (λ (n : ℕ). settled (Some n) link packet []) (sym c.of.ensures)
    ∙ ap (λ (x : List ℕ). settled (Some c.of.result.octets) link x [])
    (sym (c.put_confirm.ensures ∙ ap (λ o. o.unsent ++ packet) c.clear.ensures))
