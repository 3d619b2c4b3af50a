use Rattle.std.proofs.Common.{ℕ, ◌++◌, ap, ◌∙◌}
use Rattle.s7_header.specs.declared.user_params.UserParams.{UserParams}
use Rattle.s7_plant.specs.Replies.{said_of}
use Rattle.s7_wire.specs.Sent.{sent_message}
use Rattle.s7_session.specs.Conversing.{link_of}
use Rattle.s7_session.specs.Judgement.{user_octets, user_answer, group_of_answer}
use Rattle.s7_session.specs.Passwords.{no_data}
use Rattle.s7_session.specs.Queries.{group_of, subfunction_of}
use Rattle.s7_session.proofs.SliceLemmas.{error_reply}
use Rattle.s7_session.proofs.conversation.Conversation.put_user_reply.Goals as goal

pub returns-then-self-ne0-clause-sends : goal.returns-then-self-ne0-clause-sends
returns-then-self-ne0-clause-sends c =
    let n = c.args.size.octets in
    let sequence = c.args.sequence in
    let said = said_of c.args.self.now.reply in
    let answer : ℕ → ℕ → ℕ → UserParams = λ group subfunction octet. user_answer (group_of_answer group) subfunction octet said.error in
    let params =
    c.params.ensures
    ∙ (ap (λ x. answer x c.subfunction.result c.count_answer.result) c.group.ensures
    ∙ (ap (λ x. answer (group_of c.args.query) x c.count_answer.result) c.subfunction.ensures
    ∙ ap (λ x. answer (group_of c.args.query) (subfunction_of c.args.query) x) c.count_answer.ensures.octet)) in
    c.put_user.ensures
    ∙ (ap (λ u. u ++ sent_message n (user_octets sequence c.params.result no_data)) c.requires.sent
    ∙ (ap (λ p. sent_message n (user_octets sequence p no_data)) params
    ∙ ap (sent_message n) (error_reply (link_of c.args.self.now.held) c.args.pdu sequence (group_of c.args.query) (subfunction_of c.args.query) said c.if-self-ne0.true)))
