use Rattle.std.proofs.Common.{Option, Some, None, [], length, refl, sym, ap, ◌∙◌, subst, arith}
use Rattle.std.proofs.lemmas.List.{with_items_is}
use Rattle.std.specs.Prelude.{IfNone}
use Rattle.s7_dialogue.specs.declared.stages.running.Stage.TheVariants as stage
use Rattle.s7_dialogue.specs.Stages.{can_fly, is_ready}
use Rattle.s7_dialogue.proofs.UnputLemmas.{few_unput}
use Rattle.s7_dialogue.proofs.KeepLemmas.{by_kind}
use Rattle.s7_dialogue.proofs.FollowLemmas.{follows_as}
use Rattle.s7_dialogue.specs.GoesOn.{refusal_by}
use Rattle.s7_dialogue.specs.Taking.{IsFor}
use Rattle.s7_dialogue.proofs.NoteLemmas.{ready_as, HasNoted, noted_refusal, noted_kept, follows_noted, unput_noted}
use Rattle.s7_dialogue.proofs.TakeLemmas.{none_taken, taken_on, not_for_items, taken_grant}
use Rattle.s7_dialogue.proofs.SingleTakeLemmas.{writable_alone, none_alone, told_alone}
use Rattle.s7_dialogue.proofs.ReadyLemmas.{answered_ready, taken_flies}
use Rattle.s7_dialogue.proofs.stages.running.Running.take.Goals as goal
use Rattle.s7_dialogue.proofs.stages.running.Running.take.Goals.{in-Read, in-Read-2, in-Some, in-None}

-- general: what there is, where there is no value
none_if : {A P : Type 0} (o : Option A) → P → IfNone o P
none_if None p = p
none_if (Some x) p = tt

pub answered-requires : goal.answered-requires
answered-requires c = writable_alone c.args.self.now c.in-Single.single c.in-Single.is

pub returns-in_err-told-in-Single-clause-none : goal.returns-in_err-told-in-Single-clause-none
returns-in_err-told-in-Single-clause-none c =
    none_if c.from_residual.result
    (λ granted rows follows.
    none_alone c.args.self.now c.in-Single.single c.as_slice.result.now c.args.config.now granted rows
    c.args.message.now c.in-Single.is c.as_slice.ensures.value c.in_err-told-in-Single.ensures.none follows)

pub returns-in_err-told-in-Single-clause-few : goal.returns-in_err-told-in-Single-clause-few
returns-in_err-told-in-Single-clause-few c = λ config size least.
    let r = c.args.self.now in
    few_unput config size r.job (length r.found.items) (stage.Single c.in-Single.single) least
    (ap (is_ready r.job (length r.found.items)) (sym c.in-Single.is) ∙ r.ready)

pub bring-requires : goal.bring-requires
bring-requires c = (
  c.args.message.now,
  told_alone _ c.in-Single.single c.as_slice.result.now c.args.message.now c.in_ok-told-in-Single.told refl
      c.as_slice.ensures.value c.in_ok-told-in-Single.ensures.some,
)

pub returns-in_ok-told-in-Single-clause-some : goal.returns-in_ok-told-in-Single-clause-some
returns-in_ok-told-in-Single-clause-some c = λ granted course follows same none.
    c.bring.ensures.reached c.args.message.now
    (told_alone _ c.in-Single.single c.as_slice.result.now c.args.message.now c.in_ok-told-in-Single.told refl
    c.as_slice.ensures.value c.in_ok-told-in-Single.ensures.some)
    c.args.config.now granted course
    (follows_as c.args.self.now _ (stage.Single c.in-Single.single) c.args.config.now granted course.rows
    c.in-Single.is refl refl refl refl follows)
    same

pub returns-in_err-flight-in-Asking-clause-none : goal.returns-in_err-flight-in-Asking-clause-none
returns-in_err-flight-in-Asking-clause-none c =
    none_if c.from_residual-in_err-flight-in-Asking.result
    (λ granted rows follows.
    none_taken c.args.message.now c.args.self.now c.in-Asking.asking c.args.config.now granted rows c.in-Asking.is
    c.in_err-flight-in-Asking.ensures.none follows)

pub returns-in_err-flight-in-Asking-clause-few : goal.returns-in_err-flight-in-Asking-clause-few
returns-in_err-flight-in-Asking-clause-few c = λ config size least.
    let r = c.args.self.now in
    few_unput config size r.job (length r.found.items) (stage.Asking c.answered-in-Asking.new.self) least
    (answered_ready c.args.message.now r c.in-Asking.asking c.answered-in-Asking.new.self c.answered-in-Asking.result
    c.in-Asking.is c.answered-in-Asking.ensures.some c.answered-in-Asking.ensures.unchanged)

pub returns-in_default-clause-some : goal.returns-in_default-clause-some
returns-in_default-clause-some c = λ granted course follows same none.
    let by =
    taken_grant c.args.message.now c.args.config.now granted course c.args.self.now c.end.new.self c.in-Asking.asking
    c.answered-in-Asking.new.self c.in_ok-flight-in-Asking.flight c.in_ok-flight-in-Asking.answer _ c.args.sequence
    c.in-Asking.is c.in_ok-flight-in-Asking.ensures.some
    (not_for_items c.in_ok-flight-in-Asking.flight.asked c.in_default.not-Read c.in_default.not-Write) follows same
    c.negotiated-code.ensures.ends (c.end.ensures.ends []) c.end.ensures.over in
    (by.rows, by.fills, by.reached)

pub invariant_of-self-in-Some : goal.invariant_of-self-in-Some
invariant_of-self-in-Some c =
    let r = c.args.self.now in
    record {
      ready =
          ready_as r.job (length r.found.items) c.answered-in-Asking.new.self c.refuse.new.self
          c.refuse.ensures.flights c.refuse.ensures.same
          ∙ answered_ready c.args.message.now r c.in-Asking.asking c.answered-in-Asking.new.self
          c.answered-in-Asking.result c.in-Asking.is c.answered-in-Asking.ensures.some
          c.answered-in-Asking.ensures.unchanged;
    }

pub keep-requires-clause-flies : goal.keep-requires-clause-flies
keep-requires-clause-flies c = (
  c.args.self.now.job,
  ap (λ xs. can_fly c.args.self.now.job (length xs) c.in_ok-flight-in-Asking.flight) c.as_mut_slice.ensures.value
      ∙ taken_flies c.args.message.now c.args.self.now c.in-Asking.asking c.answered-in-Asking.new.self
      c.in_ok-flight-in-Asking.flight c.in_ok-flight-in-Asking.answer c.in-Asking.is
      c.in_ok-flight-in-Asking.ensures.some,
)

pub invariant_of-self-in-None : goal.invariant_of-self-in-None
invariant_of-self-in-None c =
    let r = c.args.self.now in
    let found =
    with_items_is r.found c.keep.new.found (omega (arith, c.keep.auto.found, c.as_mut_slice.ensures.len)) in
    record {
      ready =
          ap (λ n. is_ready r.job n (stage.Asking c.answered-in-Asking.new.self))
          (omega (arith, ap length found, c.keep.auto.found, ap length c.as_mut_slice.ensures.value))
          ∙ answered_ready c.args.message.now r c.in-Asking.asking c.answered-in-Asking.new.self
          c.answered-in-Asking.result c.in-Asking.is c.answered-in-Asking.ensures.some
          c.answered-in-Asking.ensures.unchanged;
    }

is_for : (c : goal.After-go_on) → IsFor c.match-flight.items.now c.in_ok-flight-in-Asking.flight.asked
is_for c =
    let flight = c.in_ok-flight-in-Asking.flight in
    elim c.match-flight.branch [
      | in-Read w ↦ subst (λ items. IsFor items flight.asked) (sym (ap (λ items. items.now) w.items-is)) w.in-Read.is
      | in-Read-2 w ↦ subst (λ items. IsFor items flight.asked) (sym (ap (λ items. items.now) w.items-is)) w.in-Read.is
    ]

noted : (c : goal.After-go_on)
    → HasNoted c.refusal_of.result c.match-flight.items.now c.in_ok-flight-in-Asking.flight
    c.in_ok-flight-in-Asking.answer c.answered-in-Asking.new.self c.args.self.now c.match-refusal_of.self
noted c =
    let r = c.args.self.now in
    elim c.match-refusal_of.branch [
      | in-Some w ↦
          noted_refusal c.refusal_of.result w.in-Some.number _ _ _ _ w.refuse.new.self r _ w.in-Some.is
          w.refuse.ensures (ap (λ s. s.stage) w.self-is) (ap (λ s. s.job) w.self-is)
          (ap (λ s. s.found.items) w.self-is) (ap (λ s. s.codes) w.self-is)
      | in-None w ↦
          noted_kept c.refusal_of.result _ _ _ _ r _ w.as_mut_slice.result.now w.keep.new.found w.keep.new.codes
          w.in-None.is w.as_mut_slice.ensures.value
          (ap (λ s. s.found.items) w.self-is
          ∙ with_items_is r.found w.keep.new.found (omega (arith, w.keep.auto.found, w.as_mut_slice.ensures.len)))
          (ap (λ s. s.codes) w.self-is) w.keep.ensures (ap (λ s. s.stage) w.self-is) (ap (λ s. s.job) w.self-is)
    ]

pub returns-after-refusal_of-clause-some : goal.returns-after-refusal_of-clause-some
returns-after-refusal_of-clause-some c = λ granted course follows same none.
    let r = c.args.self.now in
    let config = c.args.config.now in
    let items = c.match-flight.items.now in
    let flight = c.in_ok-flight-in-Asking.flight in
    let answer = c.in_ok-flight-in-Asking.answer in
    let asks = c.answered-in-Asking.new.self in
    let kind = by_kind items flight.asked (is_for c) in
    let n = noted c in
    let by =
    taken_on c.args.message.now config granted course r c.match-refusal_of.self c.go_on.new.self c.in-Asking.asking
    asks flight answer kind.0 items c.go_on.result c.in-Asking.is c.in_ok-flight-in-Asking.ensures.some kind.1 follows
    none
    (λ rows taken conducts.
    follows_noted c.refusal_of.result config granted rows asks r c.match-refusal_of.self flight answer kind.0 items
    taken kind.1
    (λ w is x telling. c.refusal_of.ensures w is x telling ∙ ap (λ alone. refusal_by alone x) c.is_alone.ensures) n
    conducts)
    (unput_noted c.refusal_of.result items flight answer asks r c.match-refusal_of.self config course.size n) n.job
    (λ now on next put. c.go_on.ensures.reached config granted now on (next ∙ same) put) in
    (by.rows, by.fills, by.reached)
