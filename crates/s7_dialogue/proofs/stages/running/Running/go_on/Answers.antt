use Rattle.std.proofs.Common.{length, refl, sym, ap, ◌∙◌}
use Rattle.s7_dialogue.specs.declared.stages.running.Stage.TheVariants as stage
use Rattle.s7_dialogue.specs.Stages.{can_ask_single, is_ready}
use Rattle.s7_dialogue.proofs.UnputLemmas.{few_unput}
use Rattle.s7_dialogue.proofs.FollowLemmas.{follows_at, conducts_at}
use Rattle.s7_dialogue.proofs.ReachLemmas.{reached_waiting, reached_end}
use Rattle.s7_dialogue.proofs.SingleLemmas.{single_few}
use Rattle.s7_dialogue.proofs.SingleAskLemmas.{reached_alone}
use Rattle.s7_dialogue.proofs.stages.running.Running.go_on.Goals as goal

pub returns-then-is_empty-clause-reached : goal.returns-then-is_empty-clause-reached
returns-then-is_empty-clause-reached c = λ config granted course follows same none.
    let r = c.args.self.now in
    reached_end r c.settle.new.self config granted c.in-Asking.asking c.ask_on-last.new.self course
    c.ask_on-last.result c.is_empty.result
    c.in-Asking.is
    (c.ask_on-last.ensures.asks config granted r.job r.found.items r.codes course
    (conducts_at r c.in-Asking.asking config granted course.rows c.in-Asking.is follows) same)
    none c.is_empty.ensures c.if-is_empty.true c.ask_on-last.ensures.all
    (λ rows done conducts. c.settle.ensures.settles config granted rows done
    (follows_at _ c.ask_on-last.new.self config granted rows refl conducts))
    c.settle.ensures.over

pub returns-else-is_empty-clause-reached : goal.returns-else-is_empty-clause-reached
returns-else-is_empty-clause-reached c = λ config granted course follows same none.
    let r = c.args.self.now in
    reached_waiting r _ config granted c.in-Asking.asking c.ask_on-last.new.self course c.ask_on-last.result
    c.is_empty.result
    c.in-Asking.is refl refl refl refl
    (c.ask_on-last.ensures.asks config granted r.job r.found.items r.codes course
    (conducts_at r c.in-Asking.asking config granted course.rows c.in-Asking.is follows) same)
    none c.is_empty.ensures c.if-is_empty.false

pub returns-else-is_empty-clause-few : goal.returns-else-is_empty-clause-few
returns-else-is_empty-clause-few c = λ config size least.
    let r = c.args.self.now in
    few_unput config size r.job (length r.found.items) (stage.Asking c.ask_on-last.new.self) least
    (c.ask_on-last.ensures.ready r.job (length r.found.items)
    (ap (is_ready r.job (length r.found.items)) (sym c.in-Asking.is) ∙ r.ready))

pub returns-in-Single-clause-reached : goal.returns-in-Single-clause-reached
returns-in-Single-clause-reached c = λ config granted course follows same none.
    reached_alone c.args.self.now _ c.in-Single.single c.ask_on.new.self config granted course c.ask_on.result
    c.args.sequence c.in-Single.is refl refl refl refl c.ask_on.ensures.asks c.ask_on.ensures.waits
    c.ask_on.ensures.ask c.ask_on.ensures.len follows same none

pub returns-in-Single-clause-few : goal.returns-in-Single-clause-few
returns-in-Single-clause-few c = λ config size least.
    let r = c.args.self.now in
    single_few config size r.job (length r.found.items) c.ask_on.new.self least
    (ap (can_ask_single r.job (length r.found.items)) c.ask_on.ensures.ask
    ∙ (ap (is_ready r.job (length r.found.items)) (sym c.in-Single.is) ∙ r.ready))
