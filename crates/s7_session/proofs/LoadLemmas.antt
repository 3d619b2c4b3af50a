-- What uploads and downloads are answered.
use Rattle.std.proofs.Common.{◌≡◌, ℕ, List, [], ◌∷◌, ◌++◌, refl, ap, sym, ◌∙◌, append-nil}
use Rattle.std.specs.Prelude.{Bool, true, false, cond, Option, None, Some, option_map}
use Rattle.s7_block.specs.declared.block.BlockName.{BlockName}
use Rattle.s7_block.specs.Assembly.{Progress, idle, awaiting, whole, whole_image, with_piece}
use Rattle.s7_block.specs.Sides.{Upload, Downloads, upload_after, is_named, finished_image}
use Rattle.s7_block.specs.Slices.{Piece, first_piece, left_behind}
use Rattle.s7_wire.specs.Sent.{sent_message, sent_messages}
use Rattle.s7_session.specs.Conversing.{held_as}
use Rattle.s7_session.specs.Events.{settled, by_judgement}
use Rattle.s7_session.specs.Judgement.{asked_next, piece_came, upload_sliced, slice_answer}
use Rattle.s7_session.specs.LinkState.{LinkState, ServerJob}
use Rattle.s7_session.specs.Transfers.{server_job_octets, piece_left, with_next_piece, finished}
use Rattle.s7_block.specs.Slices.{image_room}
use Rattle.s7_session.specs.Verdict.{Verdict}

-- two messages go out, where nothing was to be sent before
pub two_messages : (n : ℕ) (a b old middle new : List ℕ) → new ≡ middle ++ sent_message n b
    → middle ≡ old ++ sent_message n a → old ≡ [] → sent_messages n (a ∷ b ∷ []) ≡ new
two_messages n a b old middle new e e' none =
    ap (λ x. sent_message n a ++ x) (append-nil (sent_message n b))
    ∙ sym (e ∙ ap (λ x. x ++ sent_message n b) (e' ∙ ap (λ x. x ++ sent_message n a) none))

same_piece : (a b : Piece) → Some a ≡ Some b → a ≡ b
same_piece a b e = cc

same_job : (a b : ServerJob) → Some a ≡ Some b → a ≡ b
same_job a b e = cc

-- the server's job that goes out
job_sent : (n : ℕ) (name : BlockName) (a b : ServerJob) (out : List ℕ) → Some a ≡ Some b
    → out ≡ sent_message n (server_job_octets b.sequence b.function name)
    → sent_messages n (server_job_octets a.sequence a.function name ∷ []) ≡ out
job_sent n name a b out e is =
    append-nil _
    ∙ (ap (λ (j : ServerJob). sent_message n (server_job_octets j.sequence j.function name)) (same_job a b e) ∙ sym is)

-- behind a piece that leaves a job of the server's, this goes out
next_sent : (n : ℕ) (link : LinkState) (name : BlockName) (next : Progress) (job : ServerJob) (out : List ℕ)
    → (piece_left link name next).server_job ≡ Some job
    → out ≡ sent_message n (server_job_octets job.sequence job.function name)
    → sent_messages n (asked_next link name next) ≡ out
next_sent n link name idle job out e is = absurd (cc)
next_sent n link name (awaiting len octets) job out e is = job_sent n name _ job out e is
next_sent n link name (whole octets) job out e is = job_sent n name _ job out e is

goes_settled : (n : ℕ) (link : LinkState) (name : BlockName) (next : Progress) (job : ServerJob) (out : List ℕ)
    (verdicts : List Verdict) → (piece_left link name next).server_job ≡ Some job
    → out ≡ sent_message n (server_job_octets job.sequence job.function name)
    → settled (Some n) (piece_left link name next) (sent_messages n (asked_next link name next)) verdicts
    ≡ settled (Some n) (piece_left link name next) out verdicts
goes_settled n link name next job out verdicts e is =
    ap (λ (x : List ℕ). settled (Some n) (piece_left link name next) x verdicts) (next_sent n link name next job out e is)

pub piece_settled : (n : ℕ) (link : LinkState) (name : BlockName) (progress : Progress) (piece : Piece) (sequence : ℕ)
    (verdicts : List Verdict) (job : ServerJob) (out : List ℕ)
    → (with_next_piece link (held_as name progress) piece).server_job ≡ Some job
    → out ≡ sent_message n (server_job_octets job.sequence job.function name)
    → by_judgement n link sequence verdicts (piece_came link (held_as name progress) (Some piece))
    ≡ settled (Some n) (with_next_piece link (held_as name progress) piece) out verdicts
piece_settled n link name idle piece sequence verdicts job out e is = absurd (cc)
piece_settled n link name (awaiting len octets) piece sequence verdicts job out e is =
    goes_settled n link name (with_piece 65536 (awaiting len octets) piece) job out verdicts e is
piece_settled n link name (whole octets) piece sequence verdicts job out e is =
    goes_settled n link name (with_piece 65536 (whole octets) piece) job out verdicts e is

-- ---- uploads

-- a slice of the upload that is held
pub slice_settled : (n : ℕ) (link : LinkState) (pdu sequence id : ℕ) (left : Option (List ℕ)) (piece : Piece)
    (held : Option Upload) (verdicts : List Verdict) (out : List ℕ)
    → option_map (first_piece (image_room pdu)) left ≡ Some piece → held ≡ upload_after link.upload id (image_room pdu) left
    → out ≡ sent_message n (slice_answer sequence piece)
    → by_judgement n link sequence verdicts (upload_sliced link pdu sequence id left)
    ≡ settled (Some n) (record link { upload = held }) out verdicts
slice_settled n link pdu sequence id None piece held verdicts out e h is = absurd (cc)
slice_settled n link pdu sequence id (Some octets) piece held verdicts out e h is =
    let next : LinkState = record link { upload = Some (record { id = id; left = left_behind (image_room pdu) octets }) } in
    ap (λ (x : List ℕ). settled (Some n) next x verdicts)
    (append-nil _ ∙ (ap (λ (p : Piece). sent_message n (slice_answer sequence p)) (same_piece _ piece e) ∙ sym is))
    ∙ ap (λ (u : Option Upload). settled (Some n) (record link { upload = u }) out verdicts) (sym h)

-- ---- inserts

none_both : (b : Bool) → cond {A = Option (List ℕ)} b None None ≡ None
none_both true = refl
none_both false = refl

finished_by : (name : BlockName) (progress : Progress) (kind number : ℕ)
    → finished (held_as name progress) kind number
    ≡ cond (is_named name kind number) (whole_image progress) None
finished_by name idle kind number = sym (none_both (is_named name kind number))
finished_by name (awaiting len octets) kind number = refl
finished_by name (whole octets) kind number = refl

-- the image of the finished download, as the side holds it
pub finished_held : (d : Downloads) (kind number : ℕ)
    → finished (held_as d.name d.progress) kind number ≡ finished_image d kind number
finished_held d kind number = finished_by d.name d.progress kind number
