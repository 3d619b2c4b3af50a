use Rattle.std.proofs.Common.{ℕ, List, [], ◌∷◌, ◌++◌, Some, ap, sym, ◌∙◌}
use Rattle.s7_block.specs.Assembly.{awaiting}
use Rattle.s7_wire.specs.Sent.{sent_message}
use Rattle.s7_session.specs.Conversing.{link_of}
use Rattle.s7_session.specs.Events.{settled}
use Rattle.s7_session.specs.Judgement.{answer_octets, server_job}
use Rattle.s7_session.specs.LinkState.{LinkState, ServerJob}
use Rattle.s7_session.specs.Transfers.{server_job_octets, with_server_job, piece_function}
use Rattle.s7_session.proofs.LoadLemmas.{two_messages}
use Rattle.s7_session.proofs.conversation.Conversation.start_download.Goals as goal

pub returns-clause-made : goal.returns-clause-made
returns-clause-made c = λ verdicts.
    let n = c.args.size.octets in
    let link = link_of c.args.self.now.held in
    let k = c.start_download-job.ensures in
    let begun = with_server_job link piece_function c.args.name (awaiting c.args.octets []) in
    let middle = c.put_answer.new.self.outbox.unsent in
    let new = c.put_job.new.self.outbox.unsent in
    let out : ServerJob → List ℕ =
    λ j. middle ++ sent_message n (server_job_octets j.sequence j.function c.args.name) in
    ap (λ (x : List ℕ). settled (Some n) begun x verdicts)
    (two_messages n (answer_octets c.args.sequence (0x1A ∷ []) []) (server_job link piece_function c.args.name)
    c.args.self.now.sender.outbox.unsent middle new (c.put_job.ensures ∙ ap out k.job) c.put_answer.ensures.unsent
    c.requires.sent)
    ∙ ap (λ (l : LinkState). settled (Some n) l new verdicts) (sym k.link)
