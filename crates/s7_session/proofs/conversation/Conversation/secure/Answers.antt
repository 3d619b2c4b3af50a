use Rattle.std.proofs.Common.{◌++◌, ap, ◌∙◌}
use Rattle.s7_wire.specs.Sent.{sent_message}
use Rattle.s7_session.specs.Judgement.{user_octets, user_answer}
use Rattle.s7_session.specs.Passwords.{no_data}
use Rattle.s7_session.proofs.conversation.Conversation.secure.Goals as goal

pub returns-clause-sends : goal.returns-clause-sends
returns-clause-sends c =
    let n = c.args.size.octets in
    let sequence = c.args.sequence in
    let params = c.params.ensures ∙ ap (λ octet. user_answer 0x85 c.args.subfunction octet c.args.error) (ap (λ l. l.user_sequence) c.secure.ensures) in
    c.put_user.ensures
    ∙ (ap (λ u. u ++ sent_message n (user_octets sequence c.params.result no_data)) c.requires.sent
    ∙ ap (λ p. sent_message n (user_octets sequence p no_data)) params)
