use Rattle.std.proofs.Common.{inr, refl, sym, ap, ◌∙◌, subst, Err}
use Rattle.s7_plant.specs.Replies.{said_of}
use Rattle.std.specs.Prelude.{◌≡◌, ℕ, Bool, None, Some}
use Rattle.s7_plant.specs.declared.request.Request.{Request}
use Rattle.s7_plant.specs.Requests.{asked, kept, kept_request}
use Rattle.s7_session.specs.declared.query.Query.{Query}
use Rattle.s7_session.specs.Conversing.{link_of}
use Rattle.s7_session.specs.Errors.{FULL, CLOCK_FAILED}
use Rattle.s7_session.specs.Events.{refusal_sent}
use Rattle.s7_session.specs.Judged.{queries}
use Rattle.s7_session.specs.Judgement.{user_reply}
use Rattle.s7_session.specs.Queries.{group_of, subfunction_of, request_at}
use Rattle.s7_session.specs.Telegrams.{IsAt}
use Rattle.s7_session.proofs.KeptLemmas.{kept_query, moment_kept}
use Rattle.s7_session.proofs.AnswerLemmas.{answers_entered, answers_full, answers_memory, answers_clock_failed}
use Rattle.s7_session.proofs.AnswerLemmas.{one_message, after_nothing, false_not_true}
use Rattle.s7_session.proofs.conversation.Conversation.query.Goals as goal

-- what is kept of what user data asks
kept_is : (right : Bool) (r : Request) (q : Query) (moment : ℕ) → r ≡ request_at q moment
    → kept (asked right r) ≡ asked right (request_at q moment)
kept_is right r q moment is = ap (asked right) (ap kept_request is ∙ kept_query q moment)

pub returns-in_default-clause-answers : goal.returns-in_default-clause-answers
returns-in_default-clause-answers g c = λ at.
    let link = link_of c.args.self.now.held in
    let n = c.args.size.octets in
    let k = c.request.ensures in
    answers_clock_failed g.D.Doer.stands g.D.Doer.is_full g.D.Doer.may_lack g.D.Doer.did g.D.Doer.keeps (g.L.Link.shows c.args.line.now) (g.L.Link.shows c.request.new.line) c.args.doer.now
    n link link c.args.sequence (queries link c.args.pdu c.args.sequence c.args.query) at _
    (record { same = k.same; once = k.once; unasked = k.unasked; looks = k.looks }) c.in_default.ensures.none c.in_default.ensures.failed refl
    (after_nothing c.args.self.now.sender.outbox.unsent (refusal_sent n c.args.sequence CLOCK_FAILED) c.put_refusal.new.self.outbox.unsent c.put_refusal.ensures c.requires.sent)

pub returns-in-Ok-clause-answers : goal.returns-in-Ok-clause-answers
returns-in-Ok-clause-answers g c = λ at.
    let link = link_of c.args.self.now.held in
    let n = c.args.size.octets in
    let line = g.L.Link.shows c.args.line.now in
    let k = c.request.ensures in
    let m = c.in-Some.ensures.some in
    let right = c.args.self.now.held.right in
    let ask = asked right c.in-Some.request in
    let said = said_of c.act.new.reply in
    let made = c.put_user_reply in
    answers_entered g.D.Doer.stands g.D.Doer.is_full g.D.Doer.may_lack g.D.Doer.did g.D.Doer.keeps line (g.L.Link.shows c.request.new.line) c.args.doer.now c.act.new.self
    n link (link_of made.new.self.held) c.args.sequence (queries link c.args.pdu c.args.sequence c.args.query) at _
    c.in-Ok.number (kept ask) said m.moment (record { same = k.same; once = k.once; unasked = k.unasked; looks = k.looks }) c.in-Some.ensures.told m.untimed
    (subst (IsAt line.moment) (sym (moment_kept c.in-Some.request)) m.told_is)
    (kept_is right c.in-Some.request c.args.query m.moment m.request_is) (sym made.ensures.link)
    (one_message n (user_reply link c.args.pdu c.args.sequence (group_of c.args.query) (subfunction_of c.args.query) said) _ (sym made.ensures.sends))
    c.in-Ok.ensures.ok (c.act.ensures.stays_full, c.act.ensures.kept)
    (λ e. false_not_true (c.in-Ok.ensures.was_full (subst (g.D.Doer.is_full c.args.doer.now) (sym (kept_is right c.in-Some.request c.args.query m.moment m.request_is)) e)))
    (subst (λ a. g.D.Doer.did c.args.doer.now a (Some (c.in-Ok.number, said)) c.act.new.self) (kept_is right c.in-Some.request c.args.query m.moment m.request_is) c.in-Ok.ensures.entered)

pub returns-in-Err-Full-clause-answers : goal.returns-in-Err-Full-clause-answers
returns-in-Err-Full-clause-answers g c = λ at.
    let link = link_of c.args.self.now.held in
    let n = c.args.size.octets in
    let k = c.request.ensures in
    let m = c.in-Some.ensures.some in
    let f = c.in-Err-Full in
    answers_full g.D.Doer.stands g.D.Doer.is_full g.D.Doer.may_lack g.D.Doer.did g.D.Doer.keeps (g.L.Link.shows c.args.line.now) (g.L.Link.shows c.request.new.line) c.args.doer.now c.act.new.self
    n link link c.args.sequence (queries link c.args.pdu c.args.sequence c.args.query) at _ m.moment
    (record { same = k.same; once = k.once; unasked = k.unasked; looks = k.looks }) c.in-Some.ensures.told refl
    (after_nothing c.args.self.now.sender.outbox.unsent (refusal_sent n c.args.sequence FULL) c.put_refusal-in-Err-Full.new.self.outbox.unsent c.put_refusal-in-Err-Full.ensures c.requires.sent)
    f.ensures.err (c.act.ensures.stays_full, c.act.ensures.kept)
    (subst (g.D.Doer.is_full c.act.new.self) (kept_is c.args.self.now.held.right c.in-Some.request c.args.query m.moment m.request_is) (c.act.ensures.full f.field-0-0 (f.is ∙ ap Err f.field-0-is)).1)
    (subst (λ a. g.D.Doer.did c.args.doer.now a None c.act.new.self) (kept_is c.args.self.now.held.right c.in-Some.request c.args.query m.moment m.request_is) f.ensures.refused)

pub returns-clause-answers : goal.returns-clause-answers
returns-clause-answers g c = λ at.
    let link = link_of c.args.self.now.held in
    let k = c.request.ensures in
    let m = c.in-Some.ensures.some in
    let f = c.in-Err-Memory in
    answers_memory g.D.Doer.stands g.D.Doer.is_full g.D.Doer.may_lack g.D.Doer.did g.D.Doer.keeps (g.L.Link.shows c.args.line.now) (g.L.Link.shows c.request.new.line) c.args.doer.now c.act.new.self
    c.args.size.octets link link c.args.sequence (queries link c.args.pdu c.args.sequence c.args.query) at _
    (record { same = k.same; once = k.once; unasked = k.unasked; looks = k.looks }) c.in-Some.ensures.told c.requires.sent f.ensures.err
    (inr (
      m.moment,
      subst (g.D.Doer.may_lack c.args.doer.now) (kept_is c.args.self.now.held.right c.in-Some.request c.args.query m.moment m.request_is) (c.act.ensures.lacked f.field-0-0 (f.is ∙ ap Err f.field-0-is)).1,
      subst (λ a. g.D.Doer.did c.args.doer.now a None c.act.new.self) (kept_is c.args.self.now.held.right c.in-Some.request c.args.query m.moment m.request_is) f.ensures.refused,
      (c.act.ensures.stays_full, c.act.ensures.kept),
      refl,
    ))
