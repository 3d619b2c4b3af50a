use Rattle.std.proofs.Common.{◌≡◌, sym, ap, ◌∙◌, ℕ, List, [], Bool, true, false, cond, Option, None, Some}
use Rattle.s7_wire.specs.Reading.{message}
use Rattle.s7_session.specs.Conversing.{link_of, tpdu_size_of}
use Rattle.s7_session.specs.Events.{Made, closes, settled, made, is_s7, by_judgement}
use Rattle.s7_session.specs.Judged.{judgement_of}
use Rattle.s7_session.specs.Judgement.{Judgement, judge, sequence_of}
use Rattle.s7_session.specs.LinkState.{LinkState}
use Rattle.s7_session.specs.Verdict.{Verdict}
use Rattle.s7_session.specs.declared.outcome.Outcome.TheVariants.{NotS7}
use Rattle.s7_session.proofs.AnswerLemmas.{answers_settled, answers_closing, same_made}
use Rattle.s7_session.proofs.conversation.Conversation.message.Goals as goal

-- before the connect request
made_before : (size : Option ℕ) (link : LinkState) (m : List ℕ) (at : ℕ) (sent : List ℕ) → size ≡ None → sent ≡ [] → made size link (message m at) [] ≡ settled size link sent []
unfolding made
made_before size link m at sent none unsent =
    ap (λ (s : Option ℕ). made s link (message m at) []) none
    ∙ (ap (λ (x : List ℕ). settled None link x []) (sym unsent) ∙ ap (λ (s : Option ℕ). settled s link sent []) (sym none))

-- a message of another protocol
made_other : (size : Option ℕ) (n : ℕ) (link : LinkState) (m : List ℕ) (at : ℕ) (b : Bool) → size ≡ Some n → b ≡ is_s7 m → b ≡ false
    → made size link (message m at) [] ≡ record { size = size; link = link; out = []; mets = []; verdicts = []; standing = closes (NotS7 at) }
unfolding made
made_other size n link m at b is test other =
    let closing : Option ℕ → Made = λ s. record { size = s; link = link; out = []; mets = []; verdicts = []; standing = closes (NotS7 at) } in
    ap (λ (s : Option ℕ). made s link (message m at) []) is
    ∙ (ap (λ (t : Bool). cond t (by_judgement n link (sequence_of m) [] (judge link m)) (closing (Some n))) (sym test ∙ other)
    ∙ ap closing (sym is))

-- a message that is judged
made_judged : (size : Option ℕ) (n : ℕ) (link : LinkState) (m : List ℕ) (at sequence : ℕ) (b : Bool) (j : Judgement) (vs : List Verdict) → size ≡ Some n → b ≡ is_s7 m → b ≡ true
    → sequence ≡ sequence_of m → j ≡ judge link m → made size link (message m at) vs ≡ by_judgement n link sequence vs j
unfolding made
made_judged size n link m at sequence b j vs is test this sequence_is judged =
    let closing : Made = record { size = Some n; link = link; out = []; mets = []; verdicts = vs; standing = closes (NotS7 at) } in
    ap (λ (s : Option ℕ). made s link (message m at) vs) is
    ∙ (ap (λ (t : Bool). cond t (by_judgement n link (sequence_of m) vs (judge link m)) closing) (sym test ∙ this)
    ∙ (ap (λ (k : ℕ). by_judgement n link k vs (judge link m)) (sym sequence_is)
    ∙ ap (by_judgement n link sequence vs) (sym judged)))

pub returns-in_default-clause-answers : goal.returns-in_default-clause-answers
returns-in_default-clause-answers g c = λ at.
    let link = link_of c.args.self.now.held in
    answers_settled g.D.Doer.stands g.D.Doer.is_full g.D.Doer.may_lack g.D.Doer.did g.D.Doer.keeps (g.L.Link.shows c.args.line.now) c.args.doer.now (made (tpdu_size_of c.args.self.now.size) link (message c.args.octets.now at)) at (tpdu_size_of c.args.self.now.size) link _
    (made_before (tpdu_size_of c.args.self.now.size) link c.args.octets.now at _ (ap tpdu_size_of c.in_default.is) (ap (λ o. o.unsent) c.clear.ensures))

pub returns-then-not-is_s7-clause-answers : goal.returns-then-not-is_s7-clause-answers
returns-then-not-is_s7-clause-answers g c = λ at.
    let link = link_of c.args.self.now.held in
    answers_closing g.D.Doer.stands g.D.Doer.is_full g.D.Doer.may_lack g.D.Doer.did g.D.Doer.keeps (g.L.Link.shows c.args.line.now) c.args.doer.now (made (tpdu_size_of c.args.self.now.size) link (message c.args.octets.now at)) at (tpdu_size_of c.args.self.now.size) link _
    (made_other (tpdu_size_of c.args.self.now.size) c.in-Some.size.octets link c.args.octets.now at c.is_s7.result (ap tpdu_size_of c.in-Some.is) c.is_s7.ensures c.if-not-is_s7.true)
    (ap (λ o. o.unsent) c.clear.ensures)

pub returns-clause-answers : goal.returns-clause-answers
returns-clause-answers g c = λ at.
    let link = link_of c.args.self.now.held in
    let m = c.args.octets.now in
    same_made g.D.Doer.stands g.D.Doer.is_full g.D.Doer.may_lack g.D.Doer.did g.D.Doer.keeps (g.L.Link.shows c.args.line.now) (g.L.Link.shows c.answer.new.line) c.args.doer.now c.answer.new.doer (made (tpdu_size_of c.args.self.now.size) link (message m at)) _ at _ _ _ c.answer.result
    (λ vs. made_judged (tpdu_size_of c.args.self.now.size) c.in-Some.size.octets link m at c.sequence_of.result c.is_s7.result
    (judgement_of link c.sequence_of.result c.judge-judgement.result) vs (ap tpdu_size_of c.in-Some.is) c.is_s7.ensures c.if-not-is_s7.false c.sequence_of.ensures
    (ap (λ k. judgement_of link k c.judge-judgement.result) c.sequence_of.ensures ∙ c.judge-judgement.ensures.judged))
    (c.answer.ensures.answers at)
