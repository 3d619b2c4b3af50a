-- Further octets are asked of a link that holds them.
use Rattle.std.proofs.Common.{◌≡◌, ℕ, Bool, true, false, cond, Option, None, Some, List, [], ◌∷◌, ◌++◌, refl, ap, ap₂}
use Rattle.std.proofs.Common.{sym, ◌∙◌, subst, append-nil}
use Rattle.std.proofs.lemmas.List.Concat.{flat_map-append}
use Rattle.s7_dialogue.specs.declared.questions.subject.Subject.{Subject}
use Rattle.s7_dialogue.specs.UserData.{comes_in_pieces}
use Rattle.s7_dialogue.specs.Question.{Question, asks, asks_further}
use Rattle.s7_dialogue.specs.Answer.{Answer, brings}
use Rattle.s7_dialogue.specs.Dialogue.{octets_in, of_answer, octets_brought, behind, last_answer, next_piece}
use Rattle.s7_dialogue.proofs.FlightLemmas.{same_some}
use Rattle.s7_session.specs.LinkState.{LinkState}
use Rattle.s7_rig.specs.Exchanges.{IsReadyFor, GoesOn}

-- what is asked of what comes in pieces
piece_is : (pieces : Bool) (further next : Question) → cond pieces (Some further) None ≡ Some next → further ≡ next
piece_is true further next is = same_some further next is
piece_is false further next is = absurd (cc)

-- what is asked behind octets is what follows an answer that says that more do
pub behind_is : (subject : Subject) (so_far : List ℕ) (last : Option Answer) (question : Question)
    → behind subject so_far last ≡ Some question → (octet : ℕ) × (question ≡ asks_further subject octet so_far)
behind_is subject so_far (Some (brings octet true piece)) question is =
    (octet, sym (piece_is (comes_in_pieces subject) (asks_further subject octet so_far) question is))
behind_is subject so_far (Some (brings octet false piece)) question is = absurd (cc)
behind_is subject so_far _ question is = absurd (cc)

-- the link holds them behind the first octets
first_piece : (link : LinkState) (subject : Subject) (octets : List ℕ) (answer : Answer) (next : Question)
    → GoesOn link (asks subject octets) answer → behind subject (octets_in answer) (Some answer) ≡ Some next
    → IsReadyFor link next
first_piece link subject octets (brings octet true piece) next goes is =
    subst (IsReadyFor link) (piece_is (comes_in_pieces subject) (asks_further subject octet piece) next is) (goes refl)
first_piece link subject octets (brings octet false piece) next goes is = absurd (cc)
first_piece link subject octets _ next goes is = absurd (cc)

-- and behind each further piece
further_piece : (link : LinkState) (subject : Subject) (asked : ℕ) (so_far : List ℕ) (answer : Answer)
    (next : Question) → GoesOn link (asks_further subject asked so_far) answer
    → behind subject (so_far ++ octets_in answer) (Some answer) ≡ Some next → IsReadyFor link next
further_piece link subject asked so_far (brings octet true piece) next goes is =
    subst (IsReadyFor link) (piece_is (comes_in_pieces subject) (asks_further subject octet (so_far ++ piece)) next is)
    (goes refl)
further_piece link subject asked so_far (brings octet false piece) next goes is = absurd (cc)
further_piece link subject asked so_far _ next goes is = absurd (cc)

pub brought_more : (answers : List (Option Answer)) (answer : Answer)
    → octets_brought (answers ++ Some answer ∷ []) ≡ octets_brought answers ++ octets_in answer
brought_more answers answer =
    flat_map-append (of_answer octets_in) answers (Some answer ∷ [])
    ∙ ap (λ octets. octets_brought answers ++ octets) (append-nil (octets_in answer))

pub last_more : (first : Option Answer) (answers : List (Option Answer)) (answer : Option Answer)
    → last_answer first (answers ++ answer ∷ []) ≡ answer
last_more first [] answer = refl
last_more first (next ∷ answers) answer = last_more next answers answer

-- a link that goes on from the answer to one question is ready for the next
pub piece_ready : (link : LinkState) (subject : Subject) (octets : List ℕ) (answers : List (Option Answer))
    (question : Question) (answer : Answer) (next : Question) → next_piece subject octets answers ≡ Some question
    → GoesOn link question answer → next_piece subject octets (answers ++ Some answer ∷ []) ≡ Some next
    → IsReadyFor link next
piece_ready link subject octets [] question answer next asked goes is =
    first_piece link subject octets answer next
    (subst (λ q. GoesOn link q answer) (sym (same_some (asks subject octets) question asked)) goes)
    (ap (λ so_far. behind subject so_far (Some answer)) (sym (append-nil (octets_in answer))) ∙ is)
piece_ready link subject octets (first ∷ answers) question answer next asked goes is =
    let so_far = octets_brought (first ∷ answers) in
    let further = behind_is subject so_far (last_answer first answers) question asked in
    further_piece link subject further.0 so_far answer next (subst (λ q. GoesOn link q answer) further.1 goes)
    (ap₂ (behind subject) (sym (brought_more (first ∷ answers) answer)) (sym (last_more first answers (Some answer)))
    ∙ is)
