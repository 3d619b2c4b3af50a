-- Exchanges of which no answer refuses, by what is asked.
use Rattle.std.proofs.Common.{◌≡◌, ℕ, ◌+◌, Bool, Option, None, List, [], ◌∷◌, ◌++◌, refl, ap, ◌∙◌}
use Rattle.std.specs.List.{AllByRecursion}
use Rattle.s7_area.specs.Memory.{Memory}
use Rattle.s7_plant.specs.declared.request.Ask.{Ask}
use Rattle.s7_plant.specs.Replies.{Said}
use Rattle.s7_dialogue.specs.Question.{Question}
use Rattle.s7_dialogue.specs.Answer.{Answer}
use Rattle.s7_dialogue.specs.Flight.{answers_of}
use Rattle.s7_dialogue.specs.Dialogue.{first_or, first_refusal}
use Rattle.s7_session.specs.Verdict.{Verdict}
use Rattle.s7_rig.specs.Exchanges.{HasTold}
use Rattle.s7_rig.proofs.Conversing.{Exchange, entries_of, rows_of, verdicts_met, AreTold}
use Rattle.s7_rig.proofs.UnrefusedLemmas.{AnyUndone, undone_within, undone_behind}
use Rattle.s7_rig.proofs.ShapeLemmas.{AreAllowed}

-- what was entered for the exchanges is allowed, and none met a full history or a clock that failed
abbrev pub AreSound : Memory → Bool → List Exchange → Type 0
AreSound n right xs = AreAllowed n right (entries_of xs) × (AnyUndone (verdicts_met xs) → ⊥)

module _ (n : Memory) (right : Bool) (pdu : ℕ) where
  shaped_front : (xs ys : List (Ask × Said)) → AreAllowed n right (xs ++ ys) → AreAllowed n right xs
  shaped_front [] ys all = tt
  shaped_front (x ∷ xs) ys all = (all.0, shaped_front xs ys all.1)

  shaped_behind : (xs ys : List (Ask × Said)) → AreAllowed n right (xs ++ ys) → AreAllowed n right ys
  shaped_behind [] ys all = all
  shaped_behind (x ∷ xs) ys all = shaped_behind xs ys all.1

  -- the first of them is
  pub sound_first : (x : Exchange) (xs : List Exchange) → AreSound n right (x ∷ xs)
      → AreAllowed n right x.entries × (AnyUndone x.verdicts → ⊥)
  sound_first x xs sound = (
    shaped_front x.entries (entries_of xs) sound.0,
    λ any. sound.1 (undone_within x.verdicts (verdicts_met xs) any),
  )

  -- and so are the others
  sound_others : (x : Exchange) (xs : List Exchange) → AreSound n right (x ∷ xs) → AreSound n right xs
  sound_others x xs sound = (
    shaped_behind x.entries (entries_of xs) sound.0,
    λ any. sound.1 (undone_behind x.verdicts (verdicts_met xs) any),
  )

  -- no answer to such a question refuses
  abbrev pub NoneRefuses : (Answer → Option ℕ) → (Question → Type 0) → Type 0
  NoneRefuses refusal P =
      (own : List Verdict) → (AnyUndone own → ⊥) → (question : Question) (answer : Answer) (new : List (Ask × Said))
      → HasTold pdu own question answer new → AreAllowed n right new → P question → refusal answer ≡ None

  -- then none of the answers does
  pub unrefused : (refusal : Answer → Option ℕ) (P : Question → Type 0) → NoneRefuses refusal P → (place : ℕ)
      (xs : List Exchange) → AllByRecursion (λ (x : Exchange). P x.question) xs → AreTold pdu xs → AreSound n right xs
      → first_refusal refusal place (answers_of (rows_of xs)) ≡ None
  unrefused refusal P each place [] asked told sound = refl
  unrefused refusal P each place (x ∷ xs) asked told sound =
      let first = sound_first x xs sound in
      let good = each x.verdicts first.1 x.question x.answer x.entries told.0 first.0 asked.0 in
      ap (λ r. first_or r place (first_refusal refusal (place + 1) (answers_of (rows_of xs)))) good
      ∙ unrefused refusal P each (place + 1) xs asked.1 told.1 (sound_others x xs sound)
