use Rattle.std.proofs.Common.{inr, refl, ap, ◌∙◌, Err}
use Rattle.s7_plant.specs.Replies.{said_of}
use Rattle.s7_plant.specs.Requests.{asked, kept, kept_request}
use Rattle.s7_wire.specs.Sent.{sent_message}
use Rattle.s7_session.specs.Conversing.{link_of}
use Rattle.s7_session.specs.Errors.{FULL}
use Rattle.s7_session.specs.Events.{refusal_sent}
use Rattle.s7_session.specs.Judgement.{plainly, reply_octets}
use Rattle.s7_session.proofs.KeptLemmas.{moment_kept}
use Rattle.s7_session.proofs.AnswerLemmas.{answers_entered, answers_full, answers_memory, looked_not, untimed_at}
use Rattle.s7_session.proofs.AnswerLemmas.{one_message, after_nothing, false_not_true}
use Rattle.s7_session.proofs.conversation.Conversation.ask.Goals as goal

pub returns-in-Ok-clause-answers : goal.returns-in-Ok-clause-answers
returns-in-Ok-clause-answers g c = λ line at.
    let link = link_of c.args.self.now.held in
    let n = c.args.size.octets in
    let ask = asked c.args.self.now.held.right c.args.request in
    let said = said_of c.act.new.reply in
    answers_entered g.D.Doer.stands g.D.Doer.is_full g.D.Doer.may_lack g.D.Doer.did g.D.Doer.keeps line line c.args.doer.now c.act.new.self n link link c.args.sequence (plainly link c.args.sequence (kept_request c.args.request)) at _
    c.in-Ok.number (kept ask) said 0 (looked_not line _ refl) refl (λ e. refl) (untimed_at line.moment (kept ask) (moment_kept c.args.request ∙ c.requires.untimed)) refl refl
    (one_message n (reply_octets c.args.sequence said) c.put_reply.new.self.outbox.unsent
    (after_nothing c.args.self.now.sender.outbox.unsent (sent_message n (reply_octets c.args.sequence said)) c.put_reply.new.self.outbox.unsent c.put_reply.ensures c.requires.sent))
    c.in-Ok.ensures.ok (c.act.ensures.stays_full, c.act.ensures.kept) (λ e. false_not_true (c.in-Ok.ensures.was_full e)) c.in-Ok.ensures.entered

pub returns-in-Err-Full-clause-answers : goal.returns-in-Err-Full-clause-answers
returns-in-Err-Full-clause-answers g c = λ line at.
    let link = link_of c.args.self.now.held in
    let n = c.args.size.octets in
    let f = c.in-Err-Full in
    answers_full g.D.Doer.stands g.D.Doer.is_full g.D.Doer.may_lack g.D.Doer.did g.D.Doer.keeps line line c.args.doer.now c.act.new.self n link link c.args.sequence (plainly link c.args.sequence (kept_request c.args.request)) at _ 0 (looked_not line _ refl) refl refl
    (after_nothing c.args.self.now.sender.outbox.unsent (refusal_sent n c.args.sequence FULL) c.put_refusal.new.self.outbox.unsent c.put_refusal.ensures c.requires.sent)
    f.ensures.err (c.act.ensures.stays_full, c.act.ensures.kept) (c.act.ensures.full f._back (f.is ∙ ap Err f.field-0-is)).1 f.ensures.refused

pub returns-clause-answers : goal.returns-clause-answers
returns-clause-answers g c = λ line at.
    let link = link_of c.args.self.now.held in
    let f = c.in-Err-Memory in
    answers_memory g.D.Doer.stands g.D.Doer.is_full g.D.Doer.may_lack g.D.Doer.did g.D.Doer.keeps line line c.args.doer.now c.act.new.self c.args.size.octets link link c.args.sequence (plainly link c.args.sequence (kept_request c.args.request)) at _
    (looked_not line _ refl) refl c.requires.sent f.ensures.err
    (inr (0, (c.act.ensures.lacked f.field-0-0 (f.is ∙ ap Err f.field-0-is)).1, f.ensures.refused, (c.act.ensures.stays_full, c.act.ensures.kept), refl))
