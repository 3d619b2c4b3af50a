-- How a session judges the messages of a download.
use Rattle.std.proofs.Common.{◌≡◌, ℕ, ◌+◌, ◌-◌, ◌<◌, ◌≤◌, Bool, true, false, ◌&&◌, cond, leb, ltb, List, [], ◌∷◌, ◌++◌}
use Rattle.std.proofs.Common.{length, take, drop, refl, ap, sym, ◌∙◌, arith, length-drop}
use Rattle.std.specs.Prelude.{Option, None, Some, is_some, nat_eq, slice_index}
use Rattle.std.specs.Option.{option_eq}
use Rattle.std.proofs.Math.Seq.{take-add}
use Rattle.std.proofs.lemmas.Bool.{and_from, and_parts, eq-eqb, le-leb, lt-ltb, leb-true, ltb-false}
use Rattle.std.proofs.lemmas.Bool.Decides.{nat_tests}
use Rattle.std.proofs.lemmas.List.{length-take, take-append-drop, take_all}
use Rattle.s7_block.specs.Assembly.{Progress, awaiting, whole, with_piece, idle}
use Rattle.s7_block.specs.Heads.{begins_head, head_of, is_of_block, head_agrees, two_at}
use Rattle.s7_block.specs.Kinds.{head_code, is_stored_kind}
use Rattle.s7_block.specs.Names.{digits, is_name, number_in}
use Rattle.s7_block.specs.Slices.{Piece}
use Rattle.s7_block.specs.Telegrams.{announce_function, piece_function, close_function, image_data}
use Rattle.s7_block.proofs.DigitLemmas.{names_read}
use Rattle.s7_clock.specs.Control.{control_spelling, is_control}
use Rattle.s7_clock.specs.declared.control.Control.TheVariants as control
use Rattle.s7_clock.proofs.ControlLemmas.{control_again}
use Rattle.s7_plant.specs.declared.request.Request.TheVariants as plain
use Rattle.s7_plant.specs.Requests.{no_room}
use Rattle.s7_dialogue.specs.Checks.{check_image}
use Rattle.s7_dialogue.specs.Codes.{no_fault, invalid_parameters}
use Rattle.s7_dialogue.specs.Downloads.{name_in, announce_params, piece_params}
use Rattle.s7_block.specs.Slices.{image_room}
use Rattle.s7_dialogue.specs.Question.{announces, gives, inserts, question_octets, params_of}
use Rattle.s7_session.specs.Judgement.{judge, own, asks_plainly, answer_octets, control_in, function_at}
use Rattle.s7_session.specs.Judgement.{download_started, goes_on, piece_came, server_job, pdu_limit, insert}
use Rattle.s7_session.specs.LinkState.{LinkState}
use Rattle.s7_session.specs.Transfers.{announced, download_announced, size_announced, piece_in}
use Rattle.s7_session.specs.Transfers.{is_image_data, with_server_job, finished}
use Rattle.s7_rig.specs.Exchanges.{HoldsPieces, HoldsWhole}
use Rattle.s7_rig.proofs.DeleteLemmas.{block_named}
use Rattle.s7_rig.proofs.DownloadServedLemmas.{judged_answer}
use Rattle.s7_rig.proofs.JudgedLemmas.{chosen, not_refused}
use Rattle.s7_rig.proofs.UploadHeardLemmas.{data_is_image, piece_fits}
use Rattle.s7_rig.proofs.UserJudgedLemmas.{IsSent, RefusesWith, judged_sent}

-- ---- images

-- What is known of an image that passes its check.
pub record IsChecked (image : List ℕ) : Type 0 where
  pub least : 36 ≤ length image
  pub most : length image ≤ 65536
  pub agrees : head_agrees image (name_in image).kind (name_in image).number ≡ true
  pub body : two_at image 34 ≤ 65500
  pub is_named : is_name (name_in image).kind (name_in image).number ≡ true

agrees_if : (agrees : Bool) → cond agrees no_fault invalid_parameters ≡ no_fault → agrees ≡ true
agrees_if true good = refl
agrees_if false good = absurd (omega (arith, good))

some_of : (found : Option ℕ) (n : ℕ) → option_eq nat_eq found (Some n) ≡ true → is_some found ≡ true
some_of None n same = absurd (cc)
some_of (Some k) n same = refl

checked_by : (image : List ℕ) → head_agrees image (name_in image).kind (name_in image).number ≡ true → IsChecked image
unfolding head_agrees
checked_by image agrees =
    let name = name_in image in
    let parts = and_parts _ (is_of_block (length image) name.kind name.number (head_of image)) agrees in
    let front = and_parts _ _ (and_parts _ (begins_head image) parts.0).0 in
    let least = leb-true 36 (length image) front.0 in
    let most = leb-true (length image) 65536 front.1 in
    let head = and_parts _ (leb (two_at image 34) (length image - 36)) parts.1 in
    let code = and_parts _ _ (and_parts _ _ head.0).0 in
    record {
      least = least;
      most = most;
      agrees = agrees;
      body = omega (arith, leb-true (two_at image 34) (length image - 36) head.1, most);
      is_named = and_from _ _ (some_of (head_code name.kind) (slice_index image 5) code.0)
          (lt-ltb name.number 65536 (omega arith));
    }

pub checked : (image : List ℕ) → check_image image ≡ no_fault → IsChecked image
checked image good =
    checked_by image (agrees_if (head_agrees image (name_in image).kind (name_in image).number) good)

-- ---- pieces

abbrev part : Bool → List ℕ → Piece
part more octets = record { more = more; octets = octets }

piece_by : (more : Bool) (octets : List ℕ) (pdu : ℕ) → length octets ≤ image_room pdu
    → cond (is_image_data (image_data octets) && leb (length (image_data octets) - 4) (image_room pdu))
    (Some (part more octets)) None
    ≡ Some (part more octets)
piece_by more octets pdu few =
    let room = le-leb (length (image_data octets) - 4) (image_room pdu) (omega (arith, few)) in
    ap (λ b. cond b (Some (part more octets)) None) (and_from _ _ (data_is_image octets) room)

piece_is_read : (pdu : ℕ) (more : Bool) (octets : List ℕ) → length octets ≤ image_room pdu
    → piece_in pdu (piece_params (part more octets)) (image_data octets) ≡ Some (part more octets)
piece_is_read pdu true octets few = piece_by true octets pdu few
piece_is_read pdu false octets few = piece_by false octets pdu few

-- how far a download is where its image came up to a place, and more of it is to come or not
abbrev pub given_to : Bool → List ℕ → ℕ → Progress
given_to true image place = awaiting (length image) (take place image)
given_to false image place = whole image

taken_to : (more : Bool) (image : List ℕ) (room from : ℕ) → ltb room (length (drop from image)) ≡ more
    → cond more (awaiting (length image) (take from image ++ take room (drop from image)))
    (whole (take from image ++ take room (drop from image)))
    ≡ given_to more image (from + room)
taken_to true image room from is = ap (awaiting (length image)) (sym (take-add from room image))
taken_to false image room from is =
    ap whole (ap (λ rest. take from image ++ rest) (take_all room (drop from image) (ltb-false room _ is))
    ∙ take-append-drop from image)

piece_taken : (more : Bool) (image : List ℕ) (room from : ℕ) → 0 < room → length image ≤ 65536
    → ltb room (length (drop from image)) ≡ more
    → with_piece 65536 (awaiting (length image) (take from image)) (part more (take room (drop from image)))
    ≡ given_to more image (from + room)
piece_taken more image room from some most is =
    let octets = take from image ++ take room (drop from image) in
    ap (λ wrong. cond wrong idle (cond more (awaiting (length image) octets) (whole octets)))
    (piece_fits 65536 (length image) (take from image) (drop from image) room more some
    (ap length (take-append-drop from image)) most is)
    ∙ taken_to more image room from is

-- others follow a piece where the image goes on behind it
pub more_follows : (image : List ℕ) (room from : ℕ)
    → ltb room (length (drop from image)) ≡ ltb (from + room) (length image)
more_follows image room from = grind (arith, nat_tests, length-drop from image)

-- the function of the server's job then, and the link that sent it
abbrev pub asked_behind : Bool → ℕ
asked_behind more = cond more piece_function close_function

abbrev pub link_behind : Bool → LinkState → List ℕ → ℕ → LinkState
link_behind more link image place =
    with_server_job link (asked_behind more) (name_in image) (given_to more image place)

-- the server's job that asks on
abbrev pub job_behind : Bool → LinkState → List ℕ → List ℕ
job_behind more link image = server_job link (asked_behind more) (name_in image)

goes_on_by : (more : Bool) (link : LinkState) (image : List ℕ) (place : ℕ)
    → goes_on link (name_in image) (given_to more image place)
    ≡ own (job_behind more link image ∷ []) (link_behind more link image place)
goes_on_by true link image place = refl
goes_on_by false link image place = refl

given_by : (more : Bool) (link : LinkState) (pdu : ℕ) (image : List ℕ) (room from call : ℕ) → link.granted ≡ Some pdu
    → room ≡ image_room pdu → 0 < room → length image ≤ 65536 → HoldsPieces link image from call
    → ltb room (length (drop from image)) ≡ more
    → piece_came link link.download
    (piece_in (pdu_limit link.granted) (piece_params (part more (take room (drop from image))))
    (image_data (take room (drop from image))))
    ≡ own (job_behind more link image ∷ []) (link_behind more link image (from + room))
given_by more link pdu image room from call granted fits some most held is =
    let octets = take room (drop from image) in
    let piece = part more octets in
    ap (λ g. piece_came link link.download (piece_in (pdu_limit g) (piece_params piece) (image_data octets))) granted
    ∙ (ap (piece_came link link.download)
    (piece_is_read pdu more octets (omega (arith, length-take room (drop from image), fits)))
    ∙ (ap (λ held. piece_came link held (Some piece)) held.download
    ∙ (ap (goes_on link (name_in image)) (piece_taken more image room from some most is)
    ∙ goes_on_by more link image (from + room))))

-- a piece is taken, and the server goes on
pub judged_given : (link : LinkState) (pdu s : ℕ) (image : List ℕ) (room from call : ℕ) (more : Bool)
    → link.granted ≡ Some pdu → room ≡ image_room pdu → 0 < room → length image ≤ 65536
    → HoldsPieces link image from call → ltb (from + room) (length image) ≡ more
    → judge link (question_octets s (gives image room from call))
    ≡ own (job_behind more link image ∷ []) (link_behind more link image (from + room))
judged_given link pdu s image room from call more granted fits some most held is =
    let octets = take room (drop from image) in
    let follows = more_follows image room from ∙ is in
    judged_answer link call piece_function (params_of (gives image room from call)) (image_data octets) held.job
    ∙ (ap (λ m. piece_came link link.download (piece_in (pdu_limit link.granted)
    (piece_params (part m octets)) (image_data octets))) follows
    ∙ given_by more link pdu image room from call granted fits some most held follows)

-- ---- the announcement

size_is_read : (len body : ℕ) → len ≤ 65536 → body ≤ 65500
    → size_announced (0x0D ∷ 0x31 ∷ digits 6 len ++ digits 6 body) ≡ Some len
size_is_read len body most few =
    ap (λ read. cond (is_some read) (number_in (digits 6 len)) None) (names_read.numbers 6 body (omega (arith, few)))
    ∙ names_read.numbers 6 len (omega (arith, most))

announcement_read : (image : List ℕ) → IsChecked image
    → download_announced (announce_params image) ≡ Some (record { name = name_in image; size = length image })
announcement_read image is =
    let octets : List ℕ = 0x0D ∷ 0x31 ∷ digits 6 (length image) ++ digits 6 (two_at image 34) in
    ap (λ name. announced name (size_announced octets)) (names_read.names (name_in image) 0x50 is.is_named)
    ∙ ap (announced (Some (name_in image))) (size_is_read (length image) (two_at image 34) is.most is.body)

-- a download begins of a block whose kind is stored
judged_announcement : (link : LinkState) (pdu s : ℕ) (image : List ℕ) → IsSent link pdu s (announces image)
    → IsChecked image
    → judge link (question_octets s (announces image))
    ≡ download_started link s (Some (record { name = name_in image; size = length image }))
judged_announcement link pdu s image sent is =
    judged_sent link pdu s (announces image) sent
    ∙ (ap (λ g. function_at link g announce_function s (params_of (announces image)) []) sent.granted
    ∙ ap (download_started link s) (announcement_read image is))

pub judged_stored : (link : LinkState) (pdu s : ℕ) (image : List ℕ) → IsSent link pdu s (announces image)
    → IsChecked image → is_stored_kind (name_in image).kind ≡ true
    → judge link (question_octets s (announces image))
    ≡ own (answer_octets s (announce_function ∷ []) [] ∷ job_behind true link image ∷ [])
    (link_behind true link image 0)
judged_stored link pdu s image sent is stored =
    judged_announcement link pdu s image sent is
    ∙ chosen _ _ _
    (and_from _ _ (and_from _ _ stored (le-leb 36 (length image) is.least)) (le-leb (length image) 65536 is.most))

-- and of another it is refused
pub judged_unstored : (link : LinkState) (pdu s : ℕ) (image : List ℕ) → IsSent link pdu s (announces image)
    → IsChecked image → is_stored_kind (name_in image).kind ≡ false
    → RefusesWith (judge link (question_octets s (announces image))) 0x8F03
judged_unstored link pdu s image sent is stored = (
  _,
  judged_announcement link pdu s image sent is
      ∙ not_refused _ _ _ (ap (λ b. b && leb 36 (length image) && leb (length image) 65536) stored),
  refl,
)

-- ---- the insertion

pub finished_of : (link : LinkState) (image : List ℕ) (call : ℕ) → HoldsWhole link image call
    → finished link.download (name_in image).kind (name_in image).number ≡ Some image
finished_of link image call held =
    let name = name_in image in
    ap (λ download. finished download name.kind name.number) held.download
    ∙ ap (λ b. cond b (Some image) None)
    (and_from _ _ (eq-eqb name.kind name.kind refl) (eq-eqb name.number name.number refl))

-- a download that is whole is inserted
pub judged_insertion : (link : LinkState) (pdu s call : ℕ) (image : List ℕ) → IsSent link pdu s (inserts image call)
    → IsChecked image → is_stored_kind (name_in image).kind ≡ true
    → finished link.download (name_in image).kind (name_in image).number ≡ Some image
    → judge link (question_octets s (inserts image call))
    ≡ asks_plainly link s (plain.Insert (name_in image).kind (name_in image).number image no_room)
judged_insertion link pdu s call image sent is stored held =
    let name = name_in image in
    let c = control.Insert name.kind name.number in
    let read : is_control c ≡ true = sym (block_named name.kind name.number) ∙ is.is_named in
    judged_sent link pdu s (inserts image call) sent
    ∙ (ap (λ g. function_at link g 0x28 s (control_spelling c) []) sent.granted
    ∙ (ap (control_in link s []) (control_again c read)
    ∙ (ap (insert link s name.kind name.number) held ∙ chosen _ _ _ (and_from _ _ stored is.agrees))))
