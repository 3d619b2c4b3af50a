-- Lemmas on what an upload asks, by the answers before it.
use Rattle.std.proofs.Common.{◌≡◌, ◌⊎◌, inl, inr, ℕ, true, false, Option, Some, None, List, [], ◌∷◌, ◌++◌, refl, sym, ap, ◌∙◌, subst}
use Rattle.s7_block.specs.declared.block.BlockName.{BlockName}
use Rattle.s7_dialogue.specs.Question.{Question, starts_upload, slices_upload, ends_upload}
use Rattle.s7_dialogue.specs.Answer.{Answer, uploads, slices}
use Rattle.s7_dialogue.specs.Dialogue.{octets_brought, last_answer, behind_slice, behind_start, next_slice}
use Rattle.s7_dialogue.proofs.FlightLemmas.{same_some}
use Rattle.s7_dialogue.proofs.BringLemmas.{last_is}

-- a slice or the end of the upload of this id is asked for, of an image of so many octets
abbrev pub IsOf : ℕ → ℕ → Question → Type 0
IsOf id size (slices_upload other others so_far) = (other ≡ id) × (others ≡ size)
IsOf id size (ends_upload other) = other ≡ id
IsOf id size _ = ⊥

slice_of : (id size : ℕ) (so_far : List ℕ) (last : Option Answer) (question : Question)
    → behind_slice id size so_far last ≡ Some question → IsOf id size question
slice_of id size so_far (Some (slices true octets)) question is =
    subst (IsOf id size) (same_some (slices_upload id size so_far) question is) (refl, refl)
slice_of id size so_far (Some (slices false octets)) question is =
    subst (IsOf id size) (same_some (ends_upload id) question is) refl
slice_of id size so_far (Some _) question is = absurd (cc)
slice_of id size so_far None question is = absurd (cc)

behind_of : (id size : ℕ) (answers : List (Option Answer)) (question : Question)
    → behind_start id size answers ≡ Some question → IsOf id size question
behind_of id size [] question is =
    subst (IsOf id size) (same_some (slices_upload id size []) question is) (refl, refl)
behind_of id size (answer ∷ answers) question is =
    slice_of id size (octets_brought (answer ∷ answers)) (last_answer answer answers) question is

-- the first answer started the upload that the question is of
pub record IsUnderWay (answers : List (Option Answer)) (question : Question) : Type 0 where
  pub id : ℕ
  pub size : ℕ
  pub rest : List (Option Answer)
  pub first : answers ≡ Some (uploads id size) ∷ rest
  pub of : IsOf id size question

-- what an upload asks: its start, or more once it is under way
pub upload_asks : (name : BlockName) (answers : List (Option Answer)) (question : Question)
    → next_slice name answers ≡ Some question
    → ((answers ≡ []) × (starts_upload name ≡ question)) ⊎ IsUnderWay answers question
upload_asks name [] question is = inl (refl, same_some (starts_upload name) question is)
upload_asks name (Some (uploads id size) ∷ rest) question is =
    inr (record { id = id; size = size; rest = rest; first = refl; of = behind_of id size rest question is })
upload_asks name (Some _ ∷ rest) question is = absurd (cc)
upload_asks name (None ∷ rest) question is = absurd (cc)

started_behind : (name : BlockName) (id size : ℕ) (rest : List (Option Answer)) (answer : Option Answer)
    → next_slice name (Some (uploads id size) ∷ (rest ++ answer ∷ []))
    ≡ behind_slice id size (octets_brought (Some (uploads id size) ∷ (rest ++ answer ∷ []))) answer
started_behind name id size [] answer = refl
started_behind name id size (first ∷ rest) answer =
    ap (behind_slice id size (octets_brought (first ∷ (rest ++ answer ∷ [])))) (last_is first rest answer)

-- once it is under way, what is asked next depends on the last answer alone
pub slice_behind : (name : BlockName) (id size : ℕ) (answers rest : List (Option Answer)) (answer : Option Answer)
    → answers ≡ Some (uploads id size) ∷ rest
    → next_slice name (answers ++ answer ∷ []) ≡ behind_slice id size (octets_brought (answers ++ answer ∷ [])) answer
slice_behind name id size answers rest answer first =
    ap (λ (xs : List (Option Answer)). next_slice name (xs ++ answer ∷ [])) first
    ∙ (started_behind name id size rest answer
    ∙ ap (λ (xs : List (Option Answer)). behind_slice id size (octets_brought (xs ++ answer ∷ [])) answer) (sym first))
