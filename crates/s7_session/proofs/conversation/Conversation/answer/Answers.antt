use Rattle.std.proofs.Common.{inl, refl, sym, ap, ◌∙◌, subst, ℕ, List, [], ◌∷◌, Option, Some}
use Rattle.s7_header.specs.Negotiation.{negotiation_spelling}
use Rattle.s7_plant.specs.declared.request.Request.{Request}
use Rattle.s7_plant.specs.declared.request.Request.TheVariants.{Write}
use Rattle.s7_wire.specs.Sent.{sent_messages}
use Rattle.s7_session.specs.Answers.{Answers}
use Rattle.s7_session.specs.Conversing.{link_of, tpdu_size_of, sends}
use Rattle.s7_session.specs.Events.{settled, asks, by_judgement}
use Rattle.s7_session.specs.Judged.{judgement_of, IsWithin}
use Rattle.s7_session.specs.Judgement.{answer_octets, plainly, user_octets, user_answer, secured}
use Rattle.s7_session.specs.Judgement.{slice_octets, slices_left}
use Rattle.s7_session.specs.LinkState.{LinkState, next_octet}
use Rattle.s7_session.specs.Passwords.{no_data}
use Rattle.s7_session.specs.declared.handled.Handled.TheVariants as handled
use Rattle.s7_session.specs.declared.held.Held.{Held}
use Rattle.s7_plant.specs.Requests.{kept_request}
use Rattle.s7_session.proofs.KeptLemmas.{kept_plain}
use Rattle.s7_session.proofs.AnswerLemmas.{answers_settled, answers_memory, looked_not, same_made, one_message}
use Rattle.s7_session.proofs.AnswerLemmas.{after_nothing}
use Rattle.s7_session.proofs.SliceLemmas.{rest_held}
use Rattle.s7_session.proofs.conversation.Conversation.answer.Goals as goal

pub returns-in-Err-clause-answers : goal.returns-in-Err-clause-answers
returns-in-Err-clause-answers g c = λ at.
    let line = g.L.Link.shows c.args.line.now in
    let n = c.args.size.octets in
    let link = link_of c.args.self.now.held in
    let sequence = c.args.sequence in
    let P : Option ℕ → Type 0 = λ s.
    Answers g.D.Doer.stands g.D.Doer.is_full g.D.Doer.may_lack g.D.Doer.did g.D.Doer.keeps line c.args.doer.now line c.args.doer.now
    (λ verdicts. by_judgement n link sequence verdicts (judgement_of link sequence c.args.judgement)) at s link (sends c.args.self.now) handled.NoMemory in
    subst P (sym (ap tpdu_size_of c.requires.size))
    (same_made g.D.Doer.stands g.D.Doer.is_full g.D.Doer.may_lack g.D.Doer.did g.D.Doer.keeps line line c.args.doer.now c.args.doer.now _ _ at _ _ _ _
    (λ vs. ap (λ j. by_judgement n link sequence vs (judgement_of link sequence j)) c.in-Write.is)
    (answers_memory g.D.Doer.stands g.D.Doer.is_full g.D.Doer.may_lack g.D.Doer.did g.D.Doer.keeps line line c.args.doer.now c.args.doer.now n link link sequence
    (plainly link sequence (Write c.in-Write.items c.in-Write.places c.in-Write.body.now)) at _ (looked_not line _ refl) refl c.requires.sent (λ es h. h) (inl (refl, refl, refl))))

pub returns-in-Refuse-clause-answers : goal.returns-in-Refuse-clause-answers
returns-in-Refuse-clause-answers g c = λ at.
    let n = c.args.size.octets in
    let link = link_of c.args.self.now.held in
    let sequence = c.args.sequence in
    let k = c.refuse.ensures in
    let new = c.refuse.new.self in
    answers_settled g.D.Doer.stands g.D.Doer.is_full g.D.Doer.may_lack g.D.Doer.did g.D.Doer.keeps (g.L.Link.shows c.args.line.now) c.args.doer.now _ at _ _ _
    (ap (λ j. by_judgement n link sequence [] (judgement_of link sequence j)) c.in-Refuse.is
    ∙ (ap (λ (x : List ℕ). settled (Some n) link x []) (sym k.sends)
    ∙ (ap (λ (h : Held). settled (Some n) (link_of h) (sends new) []) (sym k.held)
    ∙ ap (λ (s : Option ℕ). settled s (link_of new.held) (sends new) []) (sym (ap tpdu_size_of (k.size ∙ c.requires.size))))))

pub returns-in-Grant-clause-answers : goal.returns-in-Grant-clause-answers
returns-in-Grant-clause-answers g c = λ at.
    let line = g.L.Link.shows c.args.line.now in
    let n = c.args.size.octets in
    let link = link_of c.args.self.now.held in
    let sequence = c.args.sequence in
    let granted = c.in-Grant.granted in
    let next : LinkState = record link { granted = Some granted.pdu } in
    let sent = c.put_grant.new.self.outbox.unsent in
    answers_settled g.D.Doer.stands g.D.Doer.is_full g.D.Doer.may_lack g.D.Doer.did g.D.Doer.keeps (g.L.Link.shows c.args.line.now) c.args.doer.now _ at _ next _
    (ap (λ j. by_judgement n link sequence [] (judgement_of link sequence j)) c.in-Grant.is
    ∙ (ap (λ (x : List ℕ). settled (Some n) next x [])
    (one_message n (answer_octets sequence (negotiation_spelling granted) []) sent (after_nothing c.args.self.now.sender.outbox.unsent _ sent c.put_grant.ensures c.requires.sent))
    ∙ ap (λ (s : Option ℕ). settled s next sent []) (sym (ap tpdu_size_of c.requires.size))))

pub returns-in-Security-clause-answers : goal.returns-in-Security-clause-answers
returns-in-Security-clause-answers g c = λ at.
    let line = g.L.Link.shows c.args.line.now in
    let n = c.args.size.octets in
    let link = link_of c.args.self.now.held in
    let sequence = c.args.sequence in
    let k = c.secure.ensures in
    let sent = sends c.secure.new.self in
    answers_settled g.D.Doer.stands g.D.Doer.is_full g.D.Doer.may_lack g.D.Doer.did g.D.Doer.keeps (g.L.Link.shows c.args.line.now) c.args.doer.now _ at _ _ _
    (ap (λ j. by_judgement n link sequence [] (judgement_of link sequence j)) c.in-Security.is
    ∙ (ap (λ (x : List ℕ). settled (Some n) (secured link c.in-Security.right) x [])
    (one_message n (user_octets sequence (user_answer 0x85 c.in-Security.subfunction (next_octet link.user_sequence) c.in-Security.error) no_data) sent (sym k.sends))
    ∙ (ap (λ (l : LinkState). settled (Some n) l sent []) (sym k.link)
    ∙ ap (λ (s : Option ℕ). settled s (link_of c.secure.new.self.held) sent []) (sym (ap tpdu_size_of (k.size ∙ c.requires.size))))))

pub returns-in-Ask-clause-answers : goal.returns-in-Ask-clause-answers
returns-in-Ask-clause-answers g c = λ at.
    let line = g.L.Link.shows c.args.line.now in
    let n = c.args.size.octets in
    let link = link_of c.args.self.now.held in
    let sequence = c.args.sequence in
    let P : Option ℕ → Type 0 = λ s.
    Answers g.D.Doer.stands g.D.Doer.is_full g.D.Doer.may_lack g.D.Doer.did g.D.Doer.keeps line c.args.doer.now line c.ask.new.doer
    (λ verdicts. by_judgement n link sequence verdicts (judgement_of link sequence c.args.judgement)) at s (link_of c.ask.new.self.held) (sends c.ask.new.self) c.ask.result in
    subst P (sym (ap tpdu_size_of (c.ask.ensures.size ∙ c.requires.size)))
    (same_made g.D.Doer.stands g.D.Doer.is_full g.D.Doer.may_lack g.D.Doer.did g.D.Doer.keeps line line c.args.doer.now c.ask.new.doer _ _ at _ _ _ _
    (λ vs. ap (λ j. by_judgement n link sequence vs (judgement_of link sequence j)) c.in-Ask.is
    ∙ ap (λ (r : Request). asks n link sequence (plainly link sequence r) vs)
    (sym (kept_plain _ c.in-Ask.request (subst (IsWithin c.args.self.now.held.granted) c.in-Ask.is c.requires.within))))
    (c.ask.ensures.answers line at))

pub returns-in-Ok-clause-answers : goal.returns-in-Ok-clause-answers
returns-in-Ok-clause-answers g c = λ at.
    let line = g.L.Link.shows c.args.line.now in
    let n = c.args.size.octets in
    let link = link_of c.args.self.now.held in
    let sequence = c.args.sequence in
    let k = c.ask-in-Ok in
    let P : Option ℕ → Type 0 = λ s.
    Answers g.D.Doer.stands g.D.Doer.is_full g.D.Doer.may_lack g.D.Doer.did g.D.Doer.keeps line c.args.doer.now line k.new.doer
    (λ verdicts. by_judgement n link sequence verdicts (judgement_of link sequence c.args.judgement)) at s (link_of k.new.self.held) (sends k.new.self) k.result in
    subst P (sym (ap tpdu_size_of (k.ensures.size ∙ c.requires.size)))
    (same_made g.D.Doer.stands g.D.Doer.is_full g.D.Doer.may_lack g.D.Doer.did g.D.Doer.keeps line line c.args.doer.now k.new.doer _ _ at _ _ _ _
    (λ vs. ap (λ j. by_judgement n link sequence vs (judgement_of link sequence j)) c.in-Write.is
    ∙ ap (λ (r : Request). asks n link sequence (plainly link sequence (kept_request r)) vs) (sym c.in-Ok.ensures))
    (k.ensures.answers line at))

pub returns-in-Query-clause-answers : goal.returns-in-Query-clause-answers
returns-in-Query-clause-answers g c = λ at.
    let line = g.L.Link.shows c.args.line.now in
    let n = c.args.size.octets in
    let link = link_of c.args.self.now.held in
    let sequence = c.args.sequence in
    let k = c.query in
    let line' = g.L.Link.shows k.new.line in
    let P : Option ℕ → Type 0 = λ s.
    Answers g.D.Doer.stands g.D.Doer.is_full g.D.Doer.may_lack g.D.Doer.did g.D.Doer.keeps line c.args.doer.now line' k.new.doer
    (λ verdicts. by_judgement n link sequence verdicts (judgement_of link sequence c.args.judgement)) at s (link_of k.new.self.held) (sends k.new.self) k.result in
    subst P (sym (ap tpdu_size_of (k.ensures.size ∙ c.requires.size)))
    (same_made g.D.Doer.stands g.D.Doer.is_full g.D.Doer.may_lack g.D.Doer.did g.D.Doer.keeps line line' c.args.doer.now k.new.doer _ _ at _ _ _ _
    (λ vs. ap (λ j. by_judgement n link sequence vs (judgement_of link sequence j)) c.in-Query.is)
    (k.ensures.answers at))

pub returns-in-Further-clause-answers : goal.returns-in-Further-clause-answers
returns-in-Further-clause-answers g c = λ at.
    let n = c.args.size.octets in
    let link = link_of c.args.self.now.held in
    let sequence = c.args.sequence in
    let a = c.in-Further.answer in
    let pdu = c.in-Further.pdu in
    let rest = c.args.self.now.held.slices.rest in
    let k = c.put_slice.ensures in
    let sent = sends c.put_slice.new.self in
    let next : List ℕ → LinkState = λ xs. record link { sliced = slices_left a.group a.subfunction a.sequence pdu xs } in
    let slice : List ℕ → List ℕ = λ xs. slice_octets sequence a.group a.subfunction a.sequence pdu xs in
    answers_settled g.D.Doer.stands g.D.Doer.is_full g.D.Doer.may_lack g.D.Doer.did g.D.Doer.keeps (g.L.Link.shows c.args.line.now) c.args.doer.now _ at _ _ _
    (ap (λ j. by_judgement n link sequence [] (judgement_of link sequence j)) c.in-Further.is
    ∙ (ap (λ (xs : List ℕ). settled (Some n) (next xs) (sent_messages n (slice xs ∷ [])) []) (rest_held c.args.self.now.held.slices)
    ∙ (ap (λ (x : List ℕ). settled (Some n) (next rest) x []) (one_message n (slice rest) sent (sym k.sends))
    ∙ (ap (λ (l : LinkState). settled (Some n) l sent []) (sym k.link)
    ∙ ap (λ (s : Option ℕ). settled s (link_of c.put_slice.new.self.held) sent []) (sym (ap tpdu_size_of (k.size ∙ c.requires.size)))))))

pub returns-in-Insert-clause-answers : goal.returns-in-Insert-clause-answers
returns-in-Insert-clause-answers g c = λ at.
    let line = g.L.Link.shows c.args.line.now in
    let n = c.args.size.octets in
    let link = link_of c.args.self.now.held in
    let sequence = c.args.sequence in
    let k = c.insert in
    let P : Option ℕ → Type 0 = λ s.
    Answers g.D.Doer.stands g.D.Doer.is_full g.D.Doer.may_lack g.D.Doer.did g.D.Doer.keeps line c.args.doer.now line k.new.doer
    (λ verdicts. by_judgement n link sequence verdicts (judgement_of link sequence c.args.judgement)) at s (link_of k.new.self.held) (sends k.new.self) k.result in
    subst P (sym (ap tpdu_size_of (k.ensures.size ∙ c.requires.size)))
    (same_made g.D.Doer.stands g.D.Doer.is_full g.D.Doer.may_lack g.D.Doer.did g.D.Doer.keeps line line c.args.doer.now k.new.doer _ _ at _ _ _ _
    (λ vs. ap (λ j. by_judgement n link sequence vs (judgement_of link sequence j)) c.in-Insert.is)
    (k.ensures.answers line at))

pub returns-in-Upload-clause-answers : goal.returns-in-Upload-clause-answers
returns-in-Upload-clause-answers g c = λ at.
    let line = g.L.Link.shows c.args.line.now in
    let n = c.args.size.octets in
    let link = link_of c.args.self.now.held in
    let sequence = c.args.sequence in
    let k = c.start_upload in
    let P : Option ℕ → Type 0 = λ s.
    Answers g.D.Doer.stands g.D.Doer.is_full g.D.Doer.may_lack g.D.Doer.did g.D.Doer.keeps line c.args.doer.now line k.new.doer
    (λ verdicts. by_judgement n link sequence verdicts (judgement_of link sequence c.args.judgement)) at s (link_of k.new.self.held) (sends k.new.self) k.result in
    subst P (sym (ap tpdu_size_of (k.ensures.size ∙ c.requires.size)))
    (same_made g.D.Doer.stands g.D.Doer.is_full g.D.Doer.may_lack g.D.Doer.did g.D.Doer.keeps line line c.args.doer.now k.new.doer _ _ at _ _ _ _
    (λ vs. ap (λ j. by_judgement n link sequence vs (judgement_of link sequence j)) c.in-Upload.is)
    (k.ensures.answers line at))

pub returns-in-Slice-clause-answers : goal.returns-in-Slice-clause-answers
returns-in-Slice-clause-answers g c = λ at.
    let k = c.transfer.ensures in
    let new = c.transfer.new.self in
    answers_settled g.D.Doer.stands g.D.Doer.is_full g.D.Doer.may_lack g.D.Doer.did g.D.Doer.keeps (g.L.Link.shows c.args.line.now) c.args.doer.now _ at _ _ _
    (k.made []
    ∙ ap (λ (s : Option ℕ). settled s (link_of new.held) (sends new) []) (sym (ap tpdu_size_of (k.size ∙ c.requires.size))))
