use Rattle.std.proofs.Common.{subst, ◌∙◌, ap}
use Rattle.s7_dialogue.specs.Answer.{tells}
use Rattle.s7_dialogue.specs.DataItems.{answers_in}
use Rattle.s7_dialogue.specs.GoesOn.{refusal_by}
use Rattle.std.proofs.Common.{true}
use Rattle.s7_dialogue.specs.Taking.{TellsFor}
use Rattle.s7_dialogue.proofs.TakingLemmas.{item_refusal}
use Rattle.s7_dialogue.proofs.answers.taking.refusal_of.Goals as goal

pub returns-then-alone : goal.returns-then-alone
returns-then-alone c = λ write items x h.
    item_refusal c.args.alone write items c.in-Items.answers x c.item_refusal.result
    (subst (λ t. TellsFor write items t x) c.in-Items.is h) c.if-alone.true
    (c.item_refusal.ensures ∙ ap (λ xs. refusal_by true (tells (answers_in xs))) c.as_slice.ensures.value)
