-- What the job of an upload asks: its start, slices, and its end.
use Rattle.std.proofs.Common.{◌≡◌, ℕ, Bool, true, false, cond, Option, Some, List, [], ◌∷◌, subst}
use Rattle.s7_block.specs.declared.block.BlockName.{BlockName}
use Rattle.s7_dialogue.specs.Question.{Question, starts_upload, slices_upload, ends_upload}
use Rattle.s7_dialogue.specs.Answer.{Answer, uploads, slices}
use Rattle.s7_dialogue.specs.Dialogue.{octets_brought, last_answer, behind_slice, behind_start, behind_first, next_slice}
use Rattle.s7_dialogue.proofs.FlightLemmas.{same_some}

module _ (P : Question → Type 0) (slice : (id size : ℕ) (so_far : List ℕ) → P (slices_upload id size so_far))
    (end : (id : ℕ) → P (ends_upload id)) where
  of_more : (id size : ℕ) (so_far : List ℕ) (more : Bool) (q : Question)
      → Some (cond more (slices_upload id size so_far) (ends_upload id)) ≡ Some q → P q
  of_more id size so_far true q is = subst P (same_some (slices_upload id size so_far) q is) (slice id size so_far)
  of_more id size so_far false q is = subst P (same_some (ends_upload id) q is) (end id)

  of_last : (id size : ℕ) (so_far : List ℕ) (last : Option Answer) (q : Question)
      → behind_slice id size so_far last ≡ Some q → P q
  of_last id size so_far (Some (slices more octets)) q is = of_more id size so_far more q is
  of_last id size so_far _ q is = absurd (cc)

  of_start : (id size : ℕ) (answers : List (Option Answer)) (q : Question) → behind_start id size answers ≡ Some q
      → P q
  of_start id size [] q is = subst P (same_some (slices_upload id size []) q is) (slice id size [])
  of_start id size (answer ∷ answers) q is =
      of_last id size (octets_brought (answer ∷ answers)) (last_answer answer answers) q is

  of_first : (first : Option Answer) (answers : List (Option Answer)) (q : Question)
      → behind_first first answers ≡ Some q → P q
  of_first (Some (uploads id size)) answers q is = of_start id size answers q is
  of_first _ answers q is = absurd (cc)

  -- what holds of these holds of each question of the job
  pub of_upload : (name : BlockName) (answers : List (Option Answer)) (q : Question) → P (starts_upload name)
      → next_slice name answers ≡ Some q → P q
  of_upload name [] q start is = subst P (same_some (starts_upload name) q is) start
  of_upload name (first ∷ answers) q start is = of_first first answers q is
