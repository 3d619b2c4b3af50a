-- What a client hears of an upload, and what is left of it on the link.
use Rattle.std.proofs.Common.{◌≡◌, ℕ, ◌+◌, ◌-◌, ◌<◌, ◌≤◌, Bool, true, false, ◌||◌, cond, ltb, List, [], ◌∷◌, ◌++◌}
use Rattle.std.proofs.Common.{length, take, drop, refl, ap, ◌∙◌, arith, length-append}
use Rattle.std.specs.Prelude.{None, Some, not, option_map}
use Rattle.std.proofs.lemmas.Bool.{and_from, eq-eqb, ne_eqb, le-leb, le-ltb, ltb-true, ltb-false}
use Rattle.std.proofs.lemmas.List.{length-take, length-take-le, take_all}
use Rattle.std.proofs.lemmas.Slice.Eq.{bytes_eq-Decides}
use Rattle.s7_outer.specs.Numbers.{two_octets}
use Rattle.s7_header.specs.Negotiation.{most_pdu}
use Rattle.s7_block.specs.declared.block.BlockName.{BlockName}
use Rattle.s7_block.specs.Assembly.{is_wrong}
use Rattle.s7_block.specs.Sides.{is_held}
use Rattle.s7_block.specs.Slices.{Piece, first_piece, left_behind}
use Rattle.s7_block.proofs.DigitLemmas.{names_read}
use Rattle.s7_plant.specs.Answers.{upload_params}
use Rattle.s7_dialogue.specs.Question.{starts_upload, slices_upload, ends_upload}
use Rattle.s7_dialogue.specs.Answer.{uploads, slices, uploaded, sliced, answer_of}
use Rattle.s7_dialogue.specs.Uploads.{upload_size, slice_in, fitting}
use Rattle.s7_session.specs.Judgement.{answer_octets, slice_answer}
use Rattle.s7_session.specs.LinkState.{LinkState}
use Rattle.s7_session.specs.Transfers.{slice_function, end_function, more_octet, image_data, is_image_data, with_id}
use Rattle.s7_rig.specs.Exchanges.{HoldsUpload}
use Rattle.s7_rig.proofs.AnsweredLemmas.{answer_is_heard, length-answer}
use Rattle.s7_rig.proofs.UserHeardLemmas.{joined}

-- ---- the start

size_read : (id n : ℕ) → n ≤ 65572 → upload_size (with_id (upload_params n) id) ≡ Some n
size_read id n most = names_read.numbers 7 n (omega (arith, most))

-- a start is heard with its id and the length of the image
pub start_is_heard : (name : BlockName) (s id n : ℕ) → s < 65536 → n ≤ 65572
    → answer_of (starts_upload name) s (answer_octets s (with_id (upload_params n) id) []) ≡ Some (uploads id n)
start_is_heard name s id n low most =
    answer_is_heard (starts_upload name) s (with_id (upload_params n) id) [] refl (omega (arith, low)) (omega arith)
    (omega arith)
    ∙ ap (option_map (uploads id)) (size_read id n most)

-- ---- slices

pub data_is_image : (octets : List ℕ) → is_image_data (image_data octets) ≡ true
data_is_image octets =
    let body = image_data octets in
    let same : length octets ≡ length body - 4 = omega arith in
    and_from _ _ (le-leb 4 (length body) (omega arith))
    ((bytes_eq-Decides (take 4 body) (two_octets (length body - 4) ++ 0x00 ∷ 0xFB ∷ [])).1
    (ap (λ n. two_octets n ++ 0x00 ∷ 0xFB ∷ []) same))

piece_is_read : (more : Bool) (octets : List ℕ)
    → slice_in (slice_function ∷ more_octet more ∷ []) (image_data octets)
    ≡ Some (record { more = more; octets = octets })
piece_is_read true octets =
    ap (λ b. cond b (Some (record { more = true; octets = octets })) None) (data_is_image octets)
piece_is_read false octets =
    ap (λ b. cond b (Some (record { more = false; octets = octets })) None) (data_is_image octets)

none_wrong : (a b c d : Bool) → a ≡ false → b ≡ false → c ≡ false → d ≡ false → (a || b || c || d) ≡ false
none_wrong a b c d no_a no_b no_c no_d = rw (no_a, no_b, no_c, no_d) refl

-- the first octets of the rest of an image go on with those before them, where it has no more octets than it may
pub piece_fits : (limit size : ℕ) (so_far rest : List ℕ) (room : ℕ) (more : Bool) → 0 < room
    → length (so_far ++ rest) ≡ size → size ≤ limit → ltb room (length rest) ≡ more
    → is_wrong limit size so_far (record { more = more; octets = take room rest }) ≡ false
piece_fits limit size so_far rest room true some whole most more =
    let over = ltb-true room (length rest) more in
    let taken = length-take-le room rest (omega (arith, over)) in
    let all = length-append so_far rest in
    none_wrong _ _ _ _ (le-ltb size (length so_far + length (take room rest)) (omega (arith, taken, over, all, whole)))
    (le-ltb limit (length so_far + length (take room rest)) (omega (arith, taken, over, all, whole, most)))
    (ne_eqb (length (take room rest)) 0 (λ e. omega (arith, e, taken, some))) refl
piece_fits limit size so_far rest room false some whole most more =
    let same = ap length (take_all room rest (ltb-false room (length rest) more)) in
    let all = length-append so_far rest in
    none_wrong _ _ _ _ (le-ltb size (length so_far + length (take room rest)) (omega (arith, same, all, whole)))
    (le-ltb limit (length so_far + length (take room rest)) (omega (arith, same, all, whole, most))) refl
    (ap not (eq-eqb (length so_far + length (take room rest)) size (omega (arith, same, all, whole))))

slice_by : (s id size room : ℕ) (so_far rest : List ℕ) (more : Bool) → s < 65536 → 0 < room → room ≤ most_pdu
    → length (so_far ++ rest) ≡ size → size ≤ 65572 → ltb room (length rest) ≡ more
    → answer_of (slices_upload id size so_far) s (slice_answer s (record { more = more; octets = take room rest }))
    ≡ Some (slices more (take room rest))
slice_by s id size room so_far rest more low some few whole most is =
    let piece : Piece = record { more = more; octets = take room rest } in
    answer_is_heard (slices_upload id size so_far) s (slice_function ∷ more_octet more ∷ [])
    (image_data (take room rest)) refl (omega (arith, low)) (omega arith) (omega (arith, length-take room rest, few))
    ∙ (ap (λ read. option_map sliced (fitting size so_far read)) (piece_is_read more (take room rest))
    ∙ ap (λ wrong. option_map sliced (cond wrong None (Some piece)))
    (piece_fits 65572 size so_far rest room more some whole most is))

-- the first octets are heard, as many as a telegram takes
pub slice_is_heard : (s id size room : ℕ) (so_far rest : List ℕ) → s < 65536 → 0 < room → room ≤ most_pdu
    → length (so_far ++ rest) ≡ size → size ≤ 65572
    → answer_of (slices_upload id size so_far) s (slice_answer s (first_piece room rest))
    ≡ Some (slices (ltb room (length rest)) (take room rest))
slice_is_heard s id size room so_far rest low some few whole most =
    slice_by s id size room so_far rest (ltb room (length rest)) low some few whole most refl

pub length-slice : (s room : ℕ) (rest : List ℕ)
    → (18 ≤ length (slice_answer s (first_piece room rest)))
    × (length (slice_answer s (first_piece room rest)) ≤ 18 + room)
length-slice s room rest =
    let params : List ℕ = slice_function ∷ more_octet (ltb room (length rest)) ∷ [] in
    let long = length-answer s params (image_data (take room rest)) in
    (omega (arith, long), omega (arith, long, length-take room rest))

-- the octets behind them are held, or the upload until its end
pub rest_is_held : (link : LinkState) (id size room : ℕ) (so_far rest : List ℕ) (more : Bool)
    → link.upload ≡ Some (record { id = id; left = left_behind room rest }) → length (so_far ++ rest) ≡ size
    → size ≤ 65572 → ltb room (length rest) ≡ more → HoldsUpload more link id size (so_far ++ take room rest)
rest_is_held link id size room so_far rest true held whole most more = record {
  rest = drop room rest;
  is = held ∙ ap (λ b. Some (record { id = id; left = cond b (Some (drop room rest)) None })) more;
  whole = ap length (joined so_far rest room) ∙ whole;
  most = most;
}
rest_is_held link id size room so_far rest false held whole most more =
    ap (λ upload. is_held upload id) held ∙ eq-eqb id id refl

-- ---- the end

pub end_is_heard : (s id : ℕ) → s < 65536
    → answer_of (ends_upload id) s (answer_octets s (end_function ∷ []) []) ≡ Some uploaded
end_is_heard s id low =
    answer_is_heard (ends_upload id) s (end_function ∷ []) [] refl (omega (arith, low)) (omega arith) (omega arith)
