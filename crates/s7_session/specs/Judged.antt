-- The meaning of the code's judgement, for a message of this sequence on a link in this state.
use Rattle.std.specs.Prelude.{◌≡◌, ℕ, ◌+◌, ◌≤◌, [], ◌∷◌, length, All, Option, None, Some}
use Rattle.s7_header.specs.Negotiation.{negotiation_spelling, IsGrant}
use Rattle.s7_item.specs.declared.places.DataPlace.{DataPlace}
use Rattle.s7_item.specs.Sizes.{answer_size}
use Rattle.s7_plant.specs.declared.request.Request.{Request}
use Rattle.s7_plant.specs.declared.request.Request.TheVariants.{Read, Write, Szl, ClockRead, ClockSet}
use Rattle.s7_plant.specs.declared.request.Request.TheVariants.{Start, Stop, Compress, CopyRam}
use Rattle.s7_plant.specs.declared.request.Request.TheVariants.{ListAll, ListOf, Info, StartUpload, Insert, Delete}
use Rattle.s7_block.specs.Sides.{left_in}
use Rattle.s7_session.specs.Transfers.{finished}
use Rattle.s7_session.specs.declared.judge.Judgement.{Judgement}
use Rattle.s7_session.specs.declared.judge.Judgement.TheVariants as code
use Rattle.s7_session.specs.declared.query.Query.{Query}
use Rattle.s7_session.specs.LinkState.{LinkState}
use Rattle.s7_session.specs.Judgement.{Asking, refuse, own, ask, answer_octets, asks_plainly, by_user, security_answer}
use Rattle.s7_session.specs.Judgement.{slice_octets, slices_left, insert, by_upload, upload_sliced, upload_ended}
use Rattle.s7_session.specs.Judgement.{download_begun, piece_came, dropped}
use Rattle.s7_session.specs.Judgement as judgement
use Rattle.s7_session.specs.Queries.{group_of, subfunction_of, is_timed, request_at, IsReadyQuery}
use Rattle.s7_session.specs.Slices.{rest_of}

-- what user data asks, on a link with this PDU
abbrev pub queries : LinkState → ℕ → ℕ → Query → Asking
queries link pdu sequence query =
    by_user link pdu sequence (group_of query) (subfunction_of query) (is_timed query) (request_at query)

abbrev pub judgement_of : LinkState → ℕ → Judgement → judgement.Judgement
judgement_of link sequence (code.Refuse refusal) = refuse refusal
judgement_of link sequence (code.Grant n) =
    own (answer_octets sequence (negotiation_spelling n) [] ∷ []) (record link { granted = Some n.pdu })
judgement_of link sequence (code.Ask request) = asks_plainly link sequence request
judgement_of link sequence (code.Write items places body) = asks_plainly link sequence (Write items places body.now)
judgement_of link sequence (code.Security subfunction error right) =
    security_answer link sequence subfunction error right
judgement_of link sequence (code.Query pdu query) = ask (queries link pdu sequence query)
judgement_of link sequence (code.Further pdu answer) =
    own
    (slice_octets sequence answer.group answer.subfunction answer.sequence pdu (rest_of link.sliced) ∷ [])
    (record link {
      sliced = slices_left answer.group answer.subfunction answer.sequence pdu (rest_of link.sliced);
    })
judgement_of link sequence (code.Insert name) =
    insert link sequence name.kind name.number (finished link.download name.kind name.number)
judgement_of link sequence (code.Upload name) = ask (by_upload link sequence name)
judgement_of link sequence (code.Slice pdu id) = upload_sliced link pdu sequence id (left_in link.upload id)
judgement_of link sequence (code.End id) = upload_ended link sequence id
judgement_of link sequence (code.Download name size) = download_begun link sequence name size
judgement_of link sequence (code.Piece more octets) =
    piece_came link link.download (Some (record { more = more; octets = octets.now }))
judgement_of link sequence code.Closed = own [] (record link { server_job = None })
judgement_of link sequence code.Dropped = dropped link

-- a request without data to copy: a read whose full answer fits the PDU, or a control
abbrev pub IsPlain : Option ℕ → Request → Type 0
IsPlain granted (Read items) = (pdu : ℕ) × (granted ≡ Some pdu) × (answer_size items ≤ pdu)
IsPlain granted (Write items places octets) = ⊥
IsPlain granted (Szl id index) = ⊥
IsPlain granted (ClockRead moment) = ⊥
IsPlain granted (ClockSet moment value) = ⊥
IsPlain granted (Start cold) = Unit {0}
IsPlain granted Stop = Unit {0}
IsPlain granted Compress = Unit {0}
IsPlain granted CopyRam = Unit {0}
IsPlain granted ListAll = ⊥
IsPlain granted (ListOf kind) = ⊥
IsPlain granted (Info kind number) = ⊥
IsPlain granted (StartUpload kind number) = ⊥
IsPlain granted (Insert kind number image spare) = ⊥
IsPlain granted (Delete kind number) = Unit {0}

-- what is granted is within the server's bounds, what asks the plant is ready and has an answer that fits the PDU, and
-- slices are cut by the PDU that was granted
abbrev pub IsWithin : Option ℕ → Judgement → Type 0
IsWithin granted (code.Refuse refusal) = Unit {0}
IsWithin granted (code.Grant n) = IsGrant n
IsWithin granted (code.Ask request) = IsPlain granted request
IsWithin granted (code.Write items places body) =
    (pdu : ℕ) × (granted ≡ Some pdu) × (14 + length items ≤ pdu) × (length places ≡ length items)
    × All (λ (place : DataPlace). place.from + place.len ≤ length body.now) places
IsWithin granted (code.Security subfunction error right) = Unit {0}
IsWithin granted (code.Query pdu query) = (granted ≡ Some pdu) × IsReadyQuery query
IsWithin granted (code.Further pdu answer) = granted ≡ Some pdu
IsWithin granted (code.Insert name) = Unit {0}
IsWithin granted (code.Upload name) = Unit {0}
IsWithin granted (code.Slice pdu id) = granted ≡ Some pdu
IsWithin granted (code.End id) = Unit {0}
IsWithin granted (code.Download name size) = Unit {0}
IsWithin granted (code.Piece more octets) = Unit {0}
IsWithin granted code.Closed = Unit {0}
IsWithin granted code.Dropped = Unit {0}

-- a job of an upload or of a download that asks nothing of the plant, or an answer to the server's own job
abbrev pub IsTransfer : Judgement → Type 0
IsTransfer (code.Refuse refusal) = ⊥
IsTransfer (code.Grant n) = ⊥
IsTransfer (code.Ask request) = ⊥
IsTransfer (code.Write items places body) = ⊥
IsTransfer (code.Security subfunction error right) = ⊥
IsTransfer (code.Query pdu query) = ⊥
IsTransfer (code.Further pdu answer) = ⊥
IsTransfer (code.Insert name) = ⊥
IsTransfer (code.Upload name) = ⊥
IsTransfer (code.Slice pdu id) = Unit {0}
IsTransfer (code.End id) = Unit {0}
IsTransfer (code.Download name size) = Unit {0}
IsTransfer (code.Piece more octets) = Unit {0}
IsTransfer code.Closed = Unit {0}
IsTransfer code.Dropped = Unit {0}
