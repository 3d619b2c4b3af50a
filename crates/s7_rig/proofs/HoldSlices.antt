-- Slices of an upload, and its end, are asked of a link that holds it.
use Rattle.std.proofs.Common.{◌≡◌, ℕ, Bool, true, false, cond, Option, Some, List, [], ◌∷◌, ◌++◌, ap, ap₂, sym, ◌∙◌}
use Rattle.std.proofs.Common.{subst, append-nil}
use Rattle.s7_block.specs.declared.block.BlockName.{BlockName}
use Rattle.s7_dialogue.specs.Question.{Question, starts_upload, slices_upload, ends_upload}
use Rattle.s7_dialogue.specs.Answer.{Answer, uploads, slices}
use Rattle.s7_dialogue.specs.Dialogue.{octets_in, octets_brought, last_answer, behind_slice, behind_start, behind_first}
use Rattle.s7_dialogue.specs.Dialogue.{next_slice}
use Rattle.s7_dialogue.proofs.FlightLemmas.{same_some}
use Rattle.s7_session.specs.LinkState.{LinkState}
use Rattle.s7_rig.specs.Exchanges.{IsReadyFor, HoldsUpload, GoesOn}
use Rattle.s7_rig.proofs.HoldPieces.{brought_more, last_more}

-- the next slice, or the end, by what the link holds
next_ready : (link : LinkState) (id size : ℕ) (so_far : List ℕ) (more : Bool) (next : Question)
    → HoldsUpload more link id size so_far
    → Some (cond more (slices_upload id size so_far) (ends_upload id)) ≡ Some next → IsReadyFor link next
next_ready link id size so_far true next holds is =
    subst (IsReadyFor link) (same_some (slices_upload id size so_far) next is) holds
next_ready link id size so_far false next holds is =
    subst (IsReadyFor link) (same_some (ends_upload id) next is) holds

-- ---- behind one answer

behind_start_ready : (link : LinkState) (name : BlockName) (answer : Answer) (next : Question)
    → GoesOn link (starts_upload name) answer → behind_first (Some answer) [] ≡ Some next → IsReadyFor link next
behind_start_ready link name (uploads id size) next goes is =
    subst (IsReadyFor link) (same_some (slices_upload id size []) next is) goes
behind_start_ready link name _ next goes is = absurd (cc)

behind_slice_ready : (link : LinkState) (id size : ℕ) (so_far : List ℕ) (answer : Answer) (next : Question)
    → GoesOn link (slices_upload id size so_far) answer
    → behind_slice id size (so_far ++ octets_in answer) (Some answer) ≡ Some next → IsReadyFor link next
behind_slice_ready link id size so_far (slices more octets) next goes is =
    next_ready link id size (so_far ++ octets) more next goes is
behind_slice_ready link id size so_far _ next goes is = absurd (cc)

-- nothing is asked behind an end
none_behind_end : (link : LinkState) (id size : ℕ) (so_far : List ℕ) (answer : Answer) (next : Question)
    → GoesOn link (ends_upload id) answer → behind_slice id size so_far (Some answer) ≡ Some next → ⊥
none_behind_end link id size so_far (slices more octets) next goes is = goes
none_behind_end link id size so_far _ next goes is = absurd (cc)

-- ---- behind the answer to what was asked there

module _ (link : LinkState) (question : Question) (answer : Answer) (next : Question) where
  asked_ready : (id size : ℕ) (so_far : List ℕ) (more : Bool)
      → Some (cond more (slices_upload id size so_far) (ends_upload id)) ≡ Some question → GoesOn link question answer
      → behind_slice id size (so_far ++ octets_in answer) (Some answer) ≡ Some next → IsReadyFor link next
  asked_ready id size so_far true asked goes is =
      behind_slice_ready link id size so_far answer next
      (subst (λ q. GoesOn link q answer) (sym (same_some (slices_upload id size so_far) question asked)) goes) is
  asked_ready id size so_far false asked goes is =
      absurd (none_behind_end link id size (so_far ++ octets_in answer) answer next
      (subst (λ q. GoesOn link q answer) (sym (same_some (ends_upload id) question asked)) goes) is)

  last_ready : (id size : ℕ) (so_far : List ℕ) (last : Option Answer) → behind_slice id size so_far last ≡ Some question
      → GoesOn link question answer → behind_slice id size (so_far ++ octets_in answer) (Some answer) ≡ Some next
      → IsReadyFor link next
  last_ready id size so_far (Some (slices more octets)) asked goes is = asked_ready id size so_far more asked goes is
  last_ready id size so_far _ asked goes is = absurd (cc)

  started_ready : (id size : ℕ) (answers : List (Option Answer)) → behind_start id size answers ≡ Some question
      → GoesOn link question answer → behind_start id size (answers ++ Some answer ∷ []) ≡ Some next
      → IsReadyFor link next
  started_ready id size [] asked goes is =
      behind_slice_ready link id size [] answer next
      (subst (λ q. GoesOn link q answer) (sym (same_some (slices_upload id size []) question asked)) goes)
      (ap (λ so_far. behind_slice id size so_far (Some answer)) (sym (append-nil (octets_in answer))) ∙ is)
  started_ready id size (first ∷ answers) asked goes is =
      last_ready id size (octets_brought (first ∷ answers)) (last_answer first answers) asked goes
      (ap₂ (behind_slice id size) (sym (brought_more (first ∷ answers) answer))
      (sym (last_more first answers (Some answer))) ∙ is)

  first_ready : (first : Option Answer) (answers : List (Option Answer)) → behind_first first answers ≡ Some question
      → GoesOn link question answer → behind_first first (answers ++ Some answer ∷ []) ≡ Some next
      → IsReadyFor link next
  first_ready (Some (uploads id size)) answers asked goes is = started_ready id size answers asked goes is
  first_ready _ answers asked goes is = absurd (cc)

  -- a link that goes on from the answer to one question is ready for the next
  pub slice_ready : (name : BlockName) (answers : List (Option Answer)) → next_slice name answers ≡ Some question
      → GoesOn link question answer → next_slice name (answers ++ Some answer ∷ []) ≡ Some next → IsReadyFor link next
  slice_ready name [] asked goes is =
      behind_start_ready link name answer next
      (subst (λ q. GoesOn link q answer) (sym (same_some (starts_upload name) question asked)) goes) is
  slice_ready name (first ∷ answers) asked goes is = first_ready first answers asked goes is
