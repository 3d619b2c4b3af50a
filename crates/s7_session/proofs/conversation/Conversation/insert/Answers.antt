use Rattle.std.proofs.Common.{inl, refl, sym, ap, ◌∙◌, Bool, cond, List, [], ℕ, Some}
use Rattle.std.specs.Prelude.{option_map}
use Rattle.s7_plant.specs.declared.request.Request.{Request}
use Rattle.s7_plant.specs.declared.request.Request.TheVariants.{Insert}
use Rattle.s7_plant.specs.Requests.{no_room}
use Rattle.s7_session.specs.Conversing.{link_of, sends}
use Rattle.s7_session.specs.Events.{settled, asks, by_judgement}
use Rattle.s7_session.specs.Judgement.{Judgement, refuse, insert, plainly, asks_plainly}
use Rattle.s7_session.specs.declared.held.Held.{Held}
use Rattle.s7_session.specs.declared.judge.Refusal.TheVariants.{NotAllowed}
use Rattle.s7_session.proofs.AnswerLemmas.{answers_settled, answers_memory, looked_not, same_made}
use Rattle.s7_session.proofs.LoadLemmas.{finished_held}
use Rattle.s7_session.proofs.conversation.Conversation.insert.Goals as goal

pub returns-in_default-clause-answers : goal.returns-in_default-clause-answers
returns-in_default-clause-answers g c = λ line at.
    let n = c.args.size.octets in
    let link = link_of c.args.self.now.held in
    let name = c.args.name in
    let r = c.refuse in
    let none =
    finished_held c.args.self.now.held.download name.kind name.number
    ∙ (sym c.image.ensures ∙ ap (option_map (λ octets. octets.now)) c.in_default.is) in
    answers_settled g.D.Doer.stands g.D.Doer.is_full g.D.Doer.may_lack g.D.Doer.did g.D.Doer.keeps line c.args.doer.now _ at _ _ _
    (ap (λ o. by_judgement n link c.args.sequence [] (insert link c.args.sequence name.kind name.number o)) none
    ∙ (ap (λ (x : List ℕ). settled (Some n) link x []) (sym r.ensures.sends)
    ∙ ap (λ (h : Held). settled (Some n) (link_of h) (sends r.new.self) []) (sym r.ensures.held)))

pub returns-then-not-is_insertable-clause-answers : goal.returns-then-not-is_insertable-clause-answers
returns-then-not-is_insertable-clause-answers g c = λ line at.
    let n = c.args.size.octets in
    let link = link_of c.args.self.now.held in
    let name = c.args.name in
    let r = c.refuse-then-not-is_insertable in
    let some =
    finished_held c.args.self.now.held.download name.kind name.number
    ∙ (sym c.image.ensures ∙ ap (option_map (λ octets. octets.now)) c.in-Some.is) in
    let asked : Judgement = asks_plainly link c.args.sequence (Insert name.kind name.number c.in-Some.image.now no_room) in
    answers_settled g.D.Doer.stands g.D.Doer.is_full g.D.Doer.may_lack g.D.Doer.did g.D.Doer.keeps line c.args.doer.now _ at _ _ _
    (ap (λ o. by_judgement n link c.args.sequence [] (insert link c.args.sequence name.kind name.number o)) some
    ∙ (ap (λ (b : Bool). by_judgement n link c.args.sequence [] (cond b asked (refuse NotAllowed))) (sym c.is_insertable.ensures ∙ c.if-not-is_insertable.true)
    ∙ (ap (λ (x : List ℕ). settled (Some n) link x []) (sym r.ensures.sends)
    ∙ ap (λ (h : Held). settled (Some n) (link_of h) (sends r.new.self) []) (sym r.ensures.held))))

pub returns-in-Ok-clause-answers : goal.returns-in-Ok-clause-answers
returns-in-Ok-clause-answers g c = λ line at.
    let n = c.args.size.octets in
    let link = link_of c.args.self.now.held in
    let sequence = c.args.sequence in
    let name = c.args.name in
    let some =
    finished_held c.args.self.now.held.download name.kind name.number
    ∙ (sym c.image.ensures ∙ ap (option_map (λ octets. octets.now)) c.in-Some.is) in
    let asked : Judgement = asks_plainly link sequence (Insert name.kind name.number c.in-Some.image.now no_room) in
    same_made g.D.Doer.stands g.D.Doer.is_full g.D.Doer.may_lack g.D.Doer.did g.D.Doer.keeps line line c.args.doer.now c.ask.new.doer _ _ at _ _ _ _
    (λ vs. ap (λ o. by_judgement n link sequence vs (insert link sequence name.kind name.number o)) some
    ∙ (ap (λ (b : Bool). by_judgement n link sequence vs (cond b asked (refuse NotAllowed))) (sym c.is_insertable.ensures ∙ c.if-not-is_insertable.false)
    ∙ ap (λ (r : Request). asks n link sequence (plainly link sequence r) vs) (sym c.in-Ok.ensures.kept)))
    (c.ask.ensures.answers line at)

pub returns-in-Err-clause-answers : goal.returns-in-Err-clause-answers
returns-in-Err-clause-answers g c = λ line at.
    let n = c.args.size.octets in
    let link = link_of c.args.self.now.held in
    let sequence = c.args.sequence in
    let name = c.args.name in
    let request : Request = Insert name.kind name.number c.in-Some.image.now no_room in
    let some =
    finished_held c.args.self.now.held.download name.kind name.number
    ∙ (sym c.image.ensures ∙ ap (option_map (λ octets. octets.now)) c.in-Some.is) in
    same_made g.D.Doer.stands g.D.Doer.is_full g.D.Doer.may_lack g.D.Doer.did g.D.Doer.keeps line line c.args.doer.now c.args.doer.now _ _ at _ _ _ _
    (λ vs. ap (λ o. by_judgement n link sequence vs (insert link sequence name.kind name.number o)) some
    ∙ ap (λ (b : Bool). by_judgement n link sequence vs (cond b (asks_plainly link sequence request) (refuse NotAllowed))) (sym c.is_insertable.ensures ∙ c.if-not-is_insertable.false))
    (answers_memory g.D.Doer.stands g.D.Doer.is_full g.D.Doer.may_lack g.D.Doer.did g.D.Doer.keeps line line c.args.doer.now c.args.doer.now n link link
    sequence (plainly link sequence request) at _ (looked_not line _ refl) refl c.requires.sent (λ es h. h)
    (inl (refl, refl, refl)))
