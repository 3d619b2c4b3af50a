-- What partners send each other (Snap7 1.4 reference manual, `Par_BSend` and `Par_BRecv`): the fragments of a
-- block, and the acknowledgement of each. Both are user data, of the groups 46 and 86. Their octets are this
-- profile's own.
use Rattle.std.specs.Prelude.{ℕ, ◌+◌, ◌-◌, ◌*◌, ◌/◌, ◌%◌, Bool, true, false, ◌==◌, ◌&&◌, nat_le, nat_lt}
use Rattle.std.specs.Prelude.{if◌then◌else◌, List, [], ◌∷◌, ◌++◌, length, take, drop, slice_index, Option, None, Some}
use Rattle.std.specs.Prelude.{Result, Ok, Err}
use Rattle.std.specs.Str.{bytes_eq}
use Rattle.s7_outer.specs.Numbers.{two_octets}
use Rattle.s7_header.specs.Octets.{number_at}
use Rattle.s7_header.specs.declared.header.Header.{Header}
use Rattle.s7_header.specs.declared.header.Kind.{Kind}
use Rattle.s7_header.specs.declared.header.Kind.TheVariants.{Job, Ack, AckData, User}
use Rattle.s7_header.specs.declared.faults.HeaderFault.{HeaderFault}
use Rattle.s7_header.specs.declared.faults.BadParams.{BadParams}
use Rattle.s7_header.specs.declared.user_params.UserParams.{UserParams}
use Rattle.s7_header.specs.Header.{header_of, params_of, body_of}
use Rattle.s7_header.specs.UserParams.{user_spelling, user_params_of}
use Rattle.s7_dialogue.specs.UserData.{no_data, data_of, octets_in}
use Rattle.s7_dialogue.specs.Question.{message_octets}

-- ---- what is sent

-- A fragment of a block.
pub record Piece : Type 0 where
  -- the number of the send to which it belongs, from 1 to 255
  pub number : ℕ
  -- the identifier by which the two partners know the block (R_ID)
  pub rid : ℕ
  -- the number of octets of the block, which the first fragment states
  pub total : Option ℕ
  pub octets : List ℕ
  -- whether further fragments follow
  pub more : Bool

abbrev pub four_octets : ℕ → List ℕ
four_octets n = n / 16777216 ∷ n / 65536 % 256 ∷ n / 256 % 256 ∷ n % 256 ∷ []

-- the first octets of the data of each fragment
abbrev pub piece_head : List ℕ
piece_head = 0x12 ∷ 0x06 ∷ 0x13 ∷ 0x00 ∷ []

abbrev pub total_octets : Option ℕ → List ℕ
total_octets None = []
total_octets (Some total) = two_octets total

abbrev pub piece_params : Piece → UserParams
piece_params p = record {
  answer = true;
  group = 0x46;
  sub = 0x01;
  sequence = 0;
  unit = p.number;
  more = if p.more then 1 else 0;
  error = 0;
}

abbrev pub piece_data : Piece → List ℕ
piece_data p = piece_head ++ (four_octets p.rid ++ (total_octets p.total ++ p.octets))

-- the message of a fragment with this sequence
abbrev pub piece_message : ℕ → Piece → List ℕ
piece_message sequence p = message_octets User sequence (user_spelling (piece_params p)) (data_of (piece_data p))

-- the parameters of the acknowledgement of a fragment of this number
abbrev pub confirm_params : ℕ → UserParams
confirm_params number = record {
  answer = true;
  group = 0x86;
  sub = 0x01;
  sequence = 0;
  unit = number;
  more = 0;
  error = 0;
}

abbrev pub confirm_message : ℕ → ℕ → List ℕ
confirm_message sequence number = message_octets User sequence (user_spelling (confirm_params number)) no_data

-- the number of octets of its block that a fragment has; the last one may have fewer
abbrev pub room : ℕ → ℕ
room pdu = pdu - 36

-- the fragment of a block from this offset on
abbrev pub piece_from : ℕ → ℕ → ℕ → List ℕ → ℕ → Piece
piece_from pdu number rid body from = record {
  number = number;
  rid = rid;
  total = if from == 0 then Some (length body) else None;
  octets = take (room pdu) (drop from body);
  more = nat_lt (from + room pdu) (length body);
}

-- ---- what is read

abbrev pub number_of_four : ℕ → ℕ → ℕ → ℕ → ℕ
number_of_four a b c d = 256 * (256 * (256 * a + b) + c) + d

abbrev pub rid_in : List ℕ → ℕ
rid_in octets =
    number_of_four (slice_index octets 4) (slice_index octets 5) (slice_index octets 6) (slice_index octets 7)

-- the fragment in these data; the data of the first one of a block state the block's number of octets
abbrev pub piece_of_data : Bool → UserParams → List ℕ → Option Piece
piece_of_data first params octets =
    if bytes_eq (take 4 octets) piece_head && nat_le (if first then 10 else 8) (length octets)
    then Some (record {
      number = params.unit;
      rid = rid_in octets;
      total = if first then Some (number_at octets 8) else None;
      octets = drop (if first then 10 else 8) octets;
      more = params.more == 1;
    })
    else None

abbrev pub piece_of_octets : Bool → UserParams → Option (List ℕ) → Option Piece
piece_of_octets first params None = None
piece_of_octets first params (Some octets) = piece_of_data first params octets

-- these are the parameters of a fragment, with the number of a send; the sequence octet is ignored
abbrev pub is_piece : UserParams → Bool
is_piece params =
    (params.answer && params.group == 0x46)
    && ((params.sub == 0x01 && nat_lt 0 params.unit) && (nat_le params.more 1 && params.error == 0))

abbrev pub piece_by : Bool → Header → List ℕ → Result UserParams BadParams → Option Piece
piece_by first h message (Err bad) = None
piece_by first h message (Ok params) =
    if is_piece params then piece_of_octets first params (octets_in (body_of message h)) else None

abbrev pub piece_of_kind : Bool → Header → List ℕ → Kind → Option Piece
piece_of_kind first h message User = piece_by first h message (user_params_of (params_of message h))
piece_of_kind first h message Job = None
piece_of_kind first h message Ack = None
piece_of_kind first h message AckData = None

abbrev pub piece_of_header : Bool → List ℕ → Result Header HeaderFault → Option Piece
piece_of_header first message (Err fault) = None
piece_of_header first message (Ok h) = piece_of_kind first h message h.kind

-- THE FRAGMENT in a message: the first one of a block, or a further one
unfoldable pub piece_in : Bool → List ℕ → Option Piece
piece_in first message = piece_of_header first message (header_of message)

-- the sequence of a message
abbrev pub sequence_of : List ℕ → ℕ
sequence_of message = number_at message 4

-- these are the parameters of the acknowledgement of a fragment of this number; the sequence octet is ignored
abbrev pub is_confirm : ℕ → UserParams → Bool
is_confirm number params =
    ((params.answer && params.group == 0x86) && (params.sub == 0x01 && params.unit == number))
    && (params.more == 0 && params.error == 0)

abbrev pub confirms_by : ℕ → Header → List ℕ → Result UserParams BadParams → Bool
confirms_by number h message (Err bad) = false
confirms_by number h message (Ok params) = is_confirm number params && bytes_eq (body_of message h) no_data

abbrev pub confirms_of_kind : ℕ → Header → List ℕ → Kind → Bool
confirms_of_kind number h message User = confirms_by number h message (user_params_of (params_of message h))
confirms_of_kind number h message Job = false
confirms_of_kind number h message Ack = false
confirms_of_kind number h message AckData = false

abbrev pub confirms_header : ℕ → ℕ → List ℕ → Result Header HeaderFault → Bool
confirms_header sequence number message (Err fault) = false
confirms_header sequence number message (Ok h) =
    h.sequence == sequence && confirms_of_kind number h message h.kind

-- A MESSAGE ACKNOWLEDGES the fragment of this sequence and number
unfoldable pub confirms : ℕ → ℕ → List ℕ → Bool
confirms sequence number message = confirms_header sequence number message (header_of message)
