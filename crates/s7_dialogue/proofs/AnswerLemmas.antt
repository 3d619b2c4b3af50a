-- What a refusal answers.
use Rattle.std.proofs.Common.{◌≡◌, ℕ, true, false, cond, eqb, Option, Some, None, List, Ok, refl, sym, ap, ◌∙◌, subst}
use Rattle.std.specs.Prelude.{◌==◌, ◌&&◌, if◌then◌else◌, IfSome, IfNone}
use Rattle.std.proofs.Math.Path.{ap₂}
use Rattle.std.proofs.lemmas.Bool.{eq-eqb}
use Rattle.s7_header.specs.Header.{header_of, params_of, body_of}
use Rattle.s7_header.specs.declared.header.Header.{Header}
use Rattle.s7_header.specs.declared.header.Kind.{Kind}
use Rattle.s7_header.specs.declared.header.Kind.TheVariants.{Ack, AckData}
use Rattle.s7_dialogue.specs.declared.answers.answer.Asked.{Asked}
use Rattle.s7_dialogue.specs.declared.answers.answer.Asked.TheVariants as asked
use Rattle.s7_dialogue.specs.declared.answers.answer.Answer.{Answer}
use Rattle.s7_dialogue.specs.Question.{Question, negotiates, reads, writes}
use Rattle.s7_dialogue.specs.Answer as spelled
use Rattle.s7_dialogue.specs.Answered.{IsTold}
use Rattle.s7_dialogue.specs.Told.{IsAsked, TellsSome}

pub told_some : (question : Question) (result : Option Answer) (answer : Option spelled.Answer)
    → IsTold question result answer → IfSome result (λ told. TellsSome question told answer)
told_some question None answer told = tt
told_some question (Some result) answer told = told

pub told_none : (question : Question) (result : Option Answer) (answer : Option spelled.Answer)
    → IsTold question result answer → IfNone result (answer ≡ None)
told_none question None answer told = told
told_none question (Some result) answer told = tt

-- a message with a header of this kind, and the sequence
pub at_kind : (question : Question) (sequence : ℕ) (message : List ℕ) (h : Header) (kind : Kind)
    → spelled.awaits_server question ≡ false
    → header_of message ≡ Ok h → h.sequence ≡ sequence → h.kind ≡ kind
    → spelled.answer_of question sequence message ≡ spelled.by_kind kind question h message
unfolding spelled.answer_of
at_kind question sequence message h kind mine read same is =
    ap (spelled.by_header question sequence message) read
    ∙ (ap
    (λ b. cond b (spelled.by_call h.kind question h message)
    (cond (eqb h.sequence sequence) (spelled.by_kind h.kind question h message) None)) mine
    ∙ rw (eq-eqb h.sequence sequence same) (ap (λ k. spelled.by_kind k question h message) is))

-- or where a job of the server's is awaited
pub at_call : (question : Question) (sequence : ℕ) (message : List ℕ) (h : Header)
    → spelled.awaits_server question ≡ true → header_of message ≡ Ok h
    → spelled.answer_of question sequence message ≡ spelled.by_call h.kind question h message
unfolding spelled.answer_of
at_call question sequence message h awaits read =
    ap (spelled.by_header question sequence message) read
    ∙ ap
    (λ b. cond b (spelled.by_call h.kind question h message)
    (cond (eqb h.sequence sequence) (spelled.by_kind h.kind question h message) None)) awaits

-- none is awaited by what is kept of a telegram
mine : (kept : Asked) (question : Question) → IsAsked kept question → spelled.awaits_server question ≡ false
mine asked.Negotiation (negotiates n) is = refl
mine (asked.Read kept) (reads items) is = refl
mine (asked.Write kept) (writes items octets) is = refl
mine _ _ is = absurd is

told_at : (kept : Asked) (question : Question) (sequence : ℕ) (message : List ℕ) (h : Header) (kind : Kind)
    (result : Option Answer) → IsAsked kept question → header_of message ≡ Ok h → h.sequence ≡ sequence → h.kind ≡ kind
    → IsTold question result (spelled.by_kind kind question h message)
    → IsTold question result (spelled.answer_of question sequence message)
told_at kept question sequence message h kind result is read same kind_is told =
    subst (IsTold question result)
    (sym (at_kind question sequence message h kind (mine kept question is) read same kind_is)) told

pub refusal_told : (kept : Asked) (question : Question) (sequence : ℕ) (message : List ℕ) (h : Header)
    (result : Option Answer) → IsAsked kept question → header_of message ≡ Ok h → h.sequence ≡ sequence → h.kind ≡ Ack
    → IsTold question result (if h.param_len == 0 && h.body_len == 0 then Some (spelled.refuses h.error) else None)
    → IsTold question result (spelled.answer_of question sequence message)
refusal_told kept question sequence message h result is read same kind told =
    told_at kept question sequence message h Ack result is read same kind told

-- what an acknowledgement with data answers
pub acknowledgement_told : (kept : Asked) (question : Question) (sequence : ℕ) (message params body : List ℕ)
    (h : Header) (result : Option Answer)
    → IsAsked kept question → header_of message ≡ Ok h → h.sequence ≡ sequence → h.kind ≡ AckData
    → params ≡ params_of message h → body ≡ body_of message h
    → IsTold question result (if h.error == 0 then spelled.acknowledged question params body else None)
    → IsTold question result (spelled.answer_of question sequence message)
acknowledgement_told kept question sequence message params body h result is read same kind front back told =
    told_at kept question sequence message h AckData result is read same kind
    (subst (IsTold question result)
    (ap₂ (λ xs ys. if h.error == 0 then spelled.acknowledged question xs ys else None) front back) told)
