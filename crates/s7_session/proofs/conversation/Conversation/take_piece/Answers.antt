use Rattle.std.proofs.Common.{ℕ, List, [], ◌++◌, Some, ap, sym, ◌∙◌}
use Rattle.std.specs.Prelude.{option_map}
use Rattle.s7_block.specs.declared.block.BlockName.{BlockName}
use Rattle.s7_wire.specs.Sent.{sent_message}
use Rattle.s7_session.specs.Conversing.{link_of}
use Rattle.s7_session.specs.Events.{settled}
use Rattle.s7_session.specs.LinkState.{LinkState}
use Rattle.s7_session.specs.ServerJobs.{job_of}
use Rattle.s7_session.specs.Transfers.{server_job_octets}
use Rattle.s7_session.proofs.LoadLemmas.{piece_settled}
use Rattle.s7_session.proofs.conversation.Conversation.take_piece.Goals as goal

pub returns-in-Some-clause-made : goal.returns-in-Some-clause-made
returns-in-Some-clause-made c = λ sequence verdicts.
    let n = c.args.size.octets in
    let held = c.args.self.now.held in
    let link = link_of held in
    let k = c.add_piece.ensures in
    let job = job_of c.in-Some.job in
    let new = c.put_job.new.self.outbox.unsent in
    let out : List ℕ → BlockName → List ℕ =
    λ old name. old ++ sent_message n (server_job_octets job.sequence job.function name) in
    piece_settled n link held.download.name held.download.progress
    (record { more = c.args.more; octets = c.args.octets.now }) sequence verdicts job new
    (ap (λ (l : LinkState). l.server_job) (sym k.link) ∙ (sym k.job ∙ ap (option_map job_of) c.in-Some.is))
    (c.put_job.ensures ∙ (ap (λ x. out x c.name-name.result) c.requires.sent ∙ ap (out []) c.name-name.ensures))
    ∙ ap (λ (l : LinkState). settled (Some n) l new verdicts) (sym k.link)
