-- What a job that reads or fills a whole data block asks of its link: further octets of the head of one that holds them.
use Rattle.std.proofs.Common.{◌≡◌, ℕ, Bool, true, false, Option, Some, List, [], ◌∷◌, ◌++◌, ap, sym, ◌∙◌}
use Rattle.std.specs.Prelude.{slice_get}
use Rattle.std.specs.List.{AllByRecursion}
use Rattle.s7_item.specs.declared.item.Item.{Item}
use Rattle.s7_dialogue.specs.declared.questions.subject.Subject.{Subject}
use Rattle.s7_dialogue.specs.declared.questions.subject.Subject.TheVariants.{DataHead}
use Rattle.s7_dialogue.specs.DataBlocks.{data_length}
use Rattle.s7_dialogue.specs.Question.{Question, reads, writes}
use Rattle.s7_dialogue.specs.Answer.{Answer, brings}
use Rattle.s7_dialogue.specs.Dialogue.{octets_brought, behind, count_of_data, next_piece, next_of_data}
use Rattle.s7_dialogue.specs.Dialogue.{read_questions, write_questions}
use Rattle.s7_client.proofs.FitLemmas.{one_of_all}
use Rattle.s7_session.specs.LinkState.{LinkState}
use Rattle.s7_rig.specs.Exchanges.{IsReadyFor, GoesOn}
use Rattle.s7_rig.proofs.HoldPieces.{last_more, piece_ready}
use Rattle.s7_rig.proofs.DataAsksLemmas.{of_either}

-- the question reads or writes items
abbrev pub IsOfItems : Question → Type 0
IsOfItems (reads items) = Unit {0}
IsOfItems (writes items octets) = Unit {0}
IsOfItems _ = ⊥

pub reads_items : (groups : List (List Item)) → AllByRecursion IsOfItems (read_questions groups)
reads_items [] = tt
reads_items (group ∷ groups) = (tt, reads_items groups)

pub writes_items : (groups : List (List Item)) (octets : List ℕ)
    → AllByRecursion IsOfItems (write_questions groups octets)
writes_items [] octets = tt
writes_items (group ∷ groups) octets = (tt, writes_items groups _)

-- it wants nothing of its link
items_ready : (link : LinkState) (q : Question) → IsOfItems q → IsReadyFor link q
items_ready link (reads items) of_items = tt
items_ready link (writes items octets) of_items = tt
items_ready link _ of_items = absurd of_items

-- and no user data answers it, behind which more octets could be asked for
never_brings : (link : LinkState) (q : Question) (octet : ℕ) (more : Bool) (piece : List ℕ) → IsOfItems q
    → GoesOn link q (brings octet more piece) → ⊥
never_brings link (reads items) octet more piece of_items goes = goes
never_brings link (writes items octets) octet more piece of_items goes = goes
never_brings link _ octet more piece of_items goes = of_items

none_behind : (link : LinkState) (subject : Subject) (so_far : List ℕ) (q : Question) (answer : Answer)
    (next : Question) → IsOfItems q → GoesOn link q answer → behind subject so_far (Some answer) ≡ Some next → ⊥
none_behind link subject so_far q (brings octet true piece) next of_items goes is =
    never_brings link q octet true piece of_items goes
none_behind link subject so_far q (brings octet false piece) next of_items goes is = absurd (cc)
none_behind link subject so_far q _ next of_items goes is = absurd (cc)

module _ (link : LinkState) (octets : List ℕ) (questions : ℕ → List Question)
    (each : (size : ℕ) → AllByRecursion IsOfItems (questions size)) where
  -- the question behind the head
  abbrev part_behind : List (Option Answer) → Option Question
  part_behind answers = slice_get (questions (data_length (octets_brought answers))) (count_of_data answers)

  is_of_items : (answers : List (Option Answer)) (q : Question) → part_behind answers ≡ Some q → IsOfItems q
  is_of_items answers q asked =
      one_of_all IsOfItems (questions (data_length (octets_brought answers))) (count_of_data answers) q
      (each (data_length (octets_brought answers))) asked

  further_ready : (first : Option Answer) (answers : List (Option Answer)) (q : Question) (answer : Answer)
      (next : Question) → next_of_data octets questions (first ∷ answers) ≡ Some q → GoesOn link q answer
      → next_piece DataHead octets (first ∷ (answers ++ Some answer ∷ [])) ≡ Some next → IsReadyFor link next
  further_ready first answers q answer next asked goes is =
      of_either (IsReadyFor link next) (next_piece DataHead octets (first ∷ answers)) (part_behind (first ∷ answers)) q
      (λ piece. piece_ready link DataHead octets (first ∷ answers) q answer next piece goes is)
      (λ part.
      let so_far : List ℕ = octets_brought (first ∷ (answers ++ Some answer ∷ [])) in
      absurd
      (none_behind link DataHead so_far q answer next (is_of_items (first ∷ answers) q part) goes
      (ap (behind DataHead so_far) (sym (last_more first answers (Some answer))) ∙ is)))
      asked

  -- a link that goes on from the answer to one question is ready for the next
  pub data_ready : (answers : List (Option Answer)) (q : Question) (answer : Answer) (next : Question)
      → next_of_data octets questions answers ≡ Some q → GoesOn link q answer
      → next_of_data octets questions (answers ++ Some answer ∷ []) ≡ Some next → IsReadyFor link next
  data_ready [] q answer next asked goes is =
      of_either (IsReadyFor link next) (next_piece DataHead octets (Some answer ∷ [])) (part_behind (Some answer ∷ []))
      next (λ piece. piece_ready link DataHead octets [] q answer next asked goes piece)
      (λ part. items_ready link next (is_of_items (Some answer ∷ []) next part)) is
  data_ready (first ∷ answers) q answer next asked goes is =
      let all : List (Option Answer) = first ∷ (answers ++ Some answer ∷ []) in
      of_either (IsReadyFor link next) (next_piece DataHead octets all) (part_behind all) next
      (λ piece. further_ready first answers q answer next asked goes piece)
      (λ part. items_ready link next (is_of_items all next part)) is
