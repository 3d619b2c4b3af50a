-- How a session judges the questions of an upload.
use Rattle.std.proofs.Common.{◌≡◌, ℕ, true, cond, List, [], ◌∷◌, refl, ap, ◌∙◌}
use Rattle.std.specs.Prelude.{Option, None, Some}
use Rattle.std.proofs.lemmas.Bool.{eq-eqb}
use Rattle.s7_block.specs.declared.block.BlockName.{BlockName}
use Rattle.s7_block.specs.Sides.{left_in, is_held}
use Rattle.s7_block.specs.Slices.{first_piece, left_behind}
use Rattle.s7_dialogue.specs.Question.{starts_upload, slices_upload, ends_upload, question_octets, params_of}
use Rattle.s7_session.specs.Judgement.{Judgement, own, judge, function_at, upload_started, slice_answer, upload_sliced}
use Rattle.s7_session.specs.Judgement.{answer_octets}
use Rattle.s7_session.specs.LinkState.{LinkState}
use Rattle.s7_session.specs.Transfers.{end_function}
use Rattle.s7_block.specs.Slices.{image_room}
use Rattle.s7_rig.specs.Exchanges.{HoldsImage, uploaded_of}
use Rattle.s7_rig.proofs.JudgedLemmas.{chosen}
use Rattle.s7_rig.proofs.UserJudgedLemmas.{IsSent, judged_sent}

-- the upload starts of the block that the octets name, if they name one
pub judged_start : (link : LinkState) (pdu s : ℕ) (name : BlockName) (block : Option BlockName)
    → IsSent link pdu s (starts_upload name) → uploaded_of name ≡ block
    → judge link (question_octets s (starts_upload name)) ≡ upload_started link s block
judged_start link pdu s name block sent is =
    judged_sent link pdu s (starts_upload name) sent
    ∙ (ap (λ g. function_at link g 0x1D s (params_of (starts_upload name)) []) sent.granted
    ∙ ap (upload_started link s) is)

-- ---- slices

-- the first of the octets that are left is given
abbrev pub gives_slice : LinkState → ℕ → ℕ → ℕ → List ℕ → Judgement
gives_slice link pdu s id rest =
    own (slice_answer s (first_piece (image_room pdu) rest) ∷ [])
    (record link { upload = Some (record { id = id; left = left_behind (image_room pdu) rest }) })

left_of : (link : LinkState) (id size : ℕ) (so_far : List ℕ) (h : HoldsImage link id size so_far)
    → left_in link.upload id ≡ Some h.rest
left_of link id size so_far h =
    ap (λ u. left_in u id) h.is ∙ ap (λ b. cond b (Some h.rest) None) (eq-eqb id id refl)

pub judged_slice : (link : LinkState) (pdu s id size : ℕ) (so_far : List ℕ)
    → IsSent link pdu s (slices_upload id size so_far) → (h : HoldsImage link id size so_far)
    → judge link (question_octets s (slices_upload id size so_far)) ≡ gives_slice link pdu s id h.rest
judged_slice link pdu s id size so_far sent h =
    let q = slices_upload id size so_far in
    judged_sent link pdu s q sent
    ∙ (ap (λ g. function_at link g 0x1E s (params_of q) []) sent.granted
    ∙ ap (upload_sliced link pdu s id) (left_of link id size so_far h))

-- ---- the end

-- an upload that is held ends
pub judged_end : (link : LinkState) (pdu s id : ℕ) → IsSent link pdu s (ends_upload id)
    → is_held link.upload id ≡ true
    → judge link (question_octets s (ends_upload id))
    ≡ own (answer_octets s (end_function ∷ []) [] ∷ []) (record link { upload = None })
judged_end link pdu s id sent held =
    judged_sent link pdu s (ends_upload id) sent
    ∙ (ap (λ g. function_at link g 0x1F s (params_of (ends_upload id)) []) sent.granted
    ∙ chosen _ _ _ held)
