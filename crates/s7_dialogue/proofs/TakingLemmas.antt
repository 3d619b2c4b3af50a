-- Lemmas on what an answer tells.
use Rattle.std.proofs.Common.{◌≡◌, ℕ, Bool, true, false, Option, List, sym, ◌∙◌}
use Rattle.std.proofs.Math.Path.{ap₂}
use Rattle.s7_item.specs.declared.item.Item.{Item}
use Rattle.s7_dialogue.specs.declared.answers.answer.Answer.TheVariants as told
use Rattle.s7_dialogue.specs.Answer.{Answer, tells}
use Rattle.s7_dialogue.specs.DataItems.{answers_in}
use Rattle.s7_dialogue.specs.GoesOn.{refusal_by}
use Rattle.s7_dialogue.specs.Taking.{TellsFor}

-- one item that was read refuses by its code
pub item_refusal : (alone write : Bool) (items : List Item) (answers : _) (x : Answer) (number : Option ℕ)
    → TellsFor write items (told.Items answers) x → alone ≡ true
    → number ≡ refusal_by true (tells (answers_in answers.items)) → number ≡ refusal_by alone x
item_refusal alone true items answers x number h is n = absurd h.1
item_refusal alone false items answers x number h is n =
    n ∙ sym (ap₂ refusal_by is h.1.2)
