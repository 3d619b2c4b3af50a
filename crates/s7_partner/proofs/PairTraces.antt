-- What a partner does on a link that was negotiated, as a trace that has what it says, hears and hands out.
use Rattle.std.proofs.Common.{◌≡◌, ℕ, suc, ◌+◌, Bool, true, false, List, [], ◌∷◌, ◌++◌, length, nat_lt}
use Rattle.std.specs.Prelude.{Option, None, Some, is_none}
use Rattle.s7_partner.specs.Telegrams.{Piece, piece_from, room, piece_in, confirms, sequence_of}
use Rattle.s7_partner.specs.States.{Sending, Receiving, Block, going, State, Parcel, next_number}
use Rattle.s7_partner.specs.Pieces.{block_for}
use Rattle.s7_partner.proofs.PairTelegrams.{Said, piece, receipt}

-- ---- states

-- a fragment that is out, of the block that is being sent
pub record Out : Type 0 where
  pub number : ℕ
  pub rid : ℕ
  pub body : List ℕ
  pub from : ℕ
  pub sequence : ℕ

pub data Sender : Type 0 where
  -- nothing is being sent, and the last send had this number
  idle : (number : ℕ) → Sender
  busy : (out : Out) → Sender

pub data Pending : Type 0 where
  nothing : Pending
  -- a block came whole
  whole : (block : Block) → Pending
  -- it was handed out
  handed : (block : Block) → Pending

abbrev pub number_of : Sender → ℕ
number_of (idle number) = number
number_of (busy out) = out.number

abbrev pub sending_of : Sender → Option Sending
sending_of (idle number) = None
sending_of (busy out) = Some (record {
  number = out.number;
  rid = out.rid;
  body = out.body;
  from = out.from;
  sequence = Some out.sequence;
})

abbrev pub whole_of : Pending → Option Block
whole_of nothing = None
whole_of (whole block) = Some block
whole_of (handed block) = None

abbrev pub handed_of : Pending → Option Block
handed_of nothing = None
handed_of (whole block) = None
handed_of (handed block) = Some block

-- the state where fragments go
abbrev pub at : State → ℕ → Sender → Option Receiving → Pending → State
at s pdu x r e = record s {
  stage = going pdu;
  number = number_of x;
  sending = sending_of x;
  receiving = r;
  whole = whole_of e;
  handed = handed_of e;
}

abbrev pub piece_out : ℕ → Out → Piece
piece_out pdu out = piece_from pdu out.number out.rid out.body out.from

abbrev pub first_out : ℕ → ℕ → List ℕ → ℕ → Out
first_out number rid body sequence =
    record { number = number; rid = rid; body = body; from = 0; sequence = sequence }

abbrev pub next_out : ℕ → Out → ℕ → Out
next_out pdu out sequence = record out { from = out.from + room pdu; sequence = sequence }

-- further fragments follow the one that is out
abbrev pub has_more : ℕ → Out → Bool
has_more pdu out = nat_lt (out.from + room pdu) (length out.body)

abbrev pub with_octets : Receiving → Piece → Receiving
with_octets r p = record r { octets = r.octets ++ p.octets }

abbrev pub block_of : List ℕ → Receiving → Piece → Block
block_of m r p =
    record { rid = r.rid; octets = r.octets ++ p.octets; sequence = sequence_of m; number = p.number }

-- ---- traces

pub data Trace (pdu : ℕ) : Sender → Option Receiving → Pending → Type 0 where
  ends : {x : Sender} {r : Option Receiving} {e : Pending} → Trace pdu x r e
  -- a message is read that closes it
  closes : {x : Sender} {r : Option Receiving} (m : List ℕ) → Trace pdu x r nothing
  -- a block is given, and its first fragment goes out
  gave : {r : Option Receiving} {e : Pending} (number rid : ℕ) (body : List ℕ) (sequence : ℕ)
      → Trace pdu (busy (first_out (next_number number) rid body sequence)) r e → Trace pdu (idle number) r e
  -- a fragment is acknowledged, and the next one goes out
  went_on : {r : Option Receiving} (out : Out) (m : List ℕ) (sequence : ℕ) → confirms out.sequence out.number m ≡ true
      → has_more pdu out ≡ true → Trace pdu (busy (next_out pdu out sequence)) r nothing
      → Trace pdu (busy out) r nothing
  -- the last fragment is acknowledged
  was_sent : {r : Option Receiving} (out : Out) (m : List ℕ) → confirms out.sequence out.number m ≡ true
      → has_more pdu out ≡ false → Trace pdu (idle out.number) r nothing → Trace pdu (busy out) r nothing
  -- a fragment comes that others follow, and is acknowledged
  kept_on : {x : Sender} (r : Option Receiving) (m : List ℕ) (p : Piece) (b : Receiving)
      → piece_in (is_none r) m ≡ Some p → block_for r p ≡ Some b → p.more ≡ true
      → Trace pdu x (Some (with_octets b p)) nothing → Trace pdu x r nothing
  -- the last fragment of a block comes
  came_whole : {x : Sender} (r : Option Receiving) (m : List ℕ) (p : Piece) (b : Receiving)
      → piece_in (is_none r) m ≡ Some p → block_for r p ≡ Some b → p.more ≡ false
      → Trace pdu x None (whole (block_of m b p)) → Trace pdu x r nothing
  -- the block is handed out
  hands_out : {x : Sender} {r : Option Receiving} (block : Block) → Trace pdu x r (handed block)
      → Trace pdu x r (whole block)
  -- and its last fragment is acknowledged
  confirms_it : {x : Sender} {r : Option Receiving} (block : Block) → Trace pdu x r nothing
      → Trace pdu x r (handed block)

abbrev pub parcel_in : Block → Parcel
parcel_in block = record { rid = block.rid; body = block.octets }

abbrev pub said : (pdu : ℕ) {x : Sender} {r : Option Receiving} {e : Pending} → Trace pdu x r e → List Said
said pdu ends = []
said pdu (closes m) = []
said pdu (gave number rid body sequence t) =
    piece sequence (piece_out pdu (first_out (next_number number) rid body sequence)) ∷ said pdu t
said pdu (went_on out m sequence is more t) = piece sequence (piece_out pdu (next_out pdu out sequence)) ∷ said pdu t
said pdu (was_sent out m is more t) = said pdu t
said pdu (kept_on r m p b is of more t) = receipt (sequence_of m) p.number ∷ said pdu t
said pdu (came_whole r m p b is of more t) = said pdu t
said pdu (hands_out block t) = said pdu t
said pdu (confirms_it block t) = receipt block.sequence block.number ∷ said pdu t

abbrev pub given : (pdu : ℕ) {x : Sender} {r : Option Receiving} {e : Pending} → Trace pdu x r e → List Parcel
given pdu ends = []
given pdu (closes m) = []
given pdu (gave number rid body sequence t) = record { rid = rid; body = body } ∷ given pdu t
given pdu (went_on out m sequence is more t) = given pdu t
given pdu (was_sent out m is more t) = given pdu t
given pdu (kept_on r m p b is of more t) = given pdu t
given pdu (came_whole r m p b is of more t) = given pdu t
given pdu (hands_out block t) = given pdu t
given pdu (confirms_it block t) = given pdu t

abbrev pub heard : (pdu : ℕ) {x : Sender} {r : Option Receiving} {e : Pending} → Trace pdu x r e → List (List ℕ)
heard pdu ends = []
heard pdu (closes m) = m ∷ []
heard pdu (gave number rid body sequence t) = heard pdu t
heard pdu (went_on out m sequence is more t) = m ∷ heard pdu t
heard pdu (was_sent out m is more t) = m ∷ heard pdu t
heard pdu (kept_on r m p b is of more t) = m ∷ heard pdu t
heard pdu (came_whole r m p b is of more t) = m ∷ heard pdu t
heard pdu (hands_out block t) = heard pdu t
heard pdu (confirms_it block t) = heard pdu t

-- what is handed out
abbrev pub delivered : (pdu : ℕ) {x : Sender} {r : Option Receiving} {e : Pending} → Trace pdu x r e → List Parcel
delivered pdu ends = []
delivered pdu (closes m) = []
delivered pdu (gave number rid body sequence t) = delivered pdu t
delivered pdu (went_on out m sequence is more t) = delivered pdu t
delivered pdu (was_sent out m is more t) = delivered pdu t
delivered pdu (kept_on r m p b is of more t) = delivered pdu t
delivered pdu (came_whole r m p b is of more t) = delivered pdu t
delivered pdu (hands_out block t) = parcel_in block ∷ delivered pdu t
delivered pdu (confirms_it block t) = delivered pdu t

-- how many sends end
abbrev pub ended : (pdu : ℕ) {x : Sender} {r : Option Receiving} {e : Pending} → Trace pdu x r e → ℕ
ended pdu ends = 0
ended pdu (closes m) = 0
ended pdu (gave number rid body sequence t) = ended pdu t
ended pdu (went_on out m sequence is more t) = ended pdu t
ended pdu (was_sent out m is more t) = suc (ended pdu t)
ended pdu (kept_on r m p b is of more t) = ended pdu t
ended pdu (came_whole r m p b is of more t) = ended pdu t
ended pdu (hands_out block t) = ended pdu t
ended pdu (confirms_it block t) = ended pdu t
