-- The header at the beginning of an S7 message (Snap7 1.4 sources, s7_types.h: TS7ReqHeader, TS7ResHeader17,
-- TS7ResHeader23): 32, the type octet, two octets, the sequence, the lengths of parameters and data, and for an
-- acknowledgement an error word. All numbers are big-endian. The refusals are this profile's own.
use Rattle.std.specs.Prelude.{◌≡◌, ℕ, ◌+◌, ◌^◌, ◌<◌, Bool, true, false, ◌==◌, nat_lt, if◌then◌else◌, List, [], ◌∷◌, ◌++◌, length, take, drop, slice_index, Option, None, Some, Result, Ok, Err}
use Rattle.std.specs.Bool.{OnFalse}
use Rattle.s7_outer.specs.Numbers.{two_octets}
use Rattle.s7_header.specs.Octets.{number_at}
use Rattle.s7_header.specs.declared.header.Kind.{Kind}
use Rattle.s7_header.specs.declared.header.Kind.TheVariants.{Job, Ack, AckData, User}
use Rattle.s7_header.specs.declared.header.Header.{Header}
use Rattle.s7_header.specs.declared.faults.HeaderFault.{HeaderFault}
use Rattle.s7_header.specs.declared.faults.HeaderFault.TheVariants.{Short, BadId, BadType, Lengths}

-- the type octet of a kind
abbrev pub type_octet : Kind → ℕ
type_octet Job = 1
type_octet Ack = 2
type_octet AckData = 3
type_octet User = 7

-- whether headers of the kind have an error word
abbrev pub has_error : Kind → Bool
has_error Job = false
has_error Ack = true
has_error AckData = true
has_error User = false

-- the length of headers of the kind
abbrev pub header_len : Kind → ℕ
header_len kind = if has_error kind then 12 else 10

-- the octets of the error word; only some kinds have it
abbrev pub error_octets : Kind → ℕ → List ℕ
error_octets kind error = if has_error kind then two_octets error else []

-- the octets of a header, with these two octets at the offsets that are ignored
abbrev pub header_octets : ℕ → ℕ → Header → List ℕ
header_octets first second h =
    0x32 ∷ type_octet h.kind ∷ first ∷ second ∷ (two_octets h.sequence ++ two_octets h.param_len ++ two_octets h.body_len ++ error_octets h.kind h.error)

-- the octets that are written for a header
abbrev pub spelling_of : Header → List ℕ
spelling_of h = header_octets 0 0 h

-- the fields are numbers of two octets, and the error is 0 for kinds without an error word
pub record IsHeader (h : Header) : Type 0 where
  pub sequence : h.sequence < 2 ^ 16
  pub param_len : h.param_len < 2 ^ 16
  pub body_len : h.body_len < 2 ^ 16
  pub error : h.error < 2 ^ 16
  pub no_error : OnFalse (has_error h.kind) (h.error ≡ 0)

-- The message is the header, followed by parameters and data of the lengths that it states.
pub record SpellsHeader (message : List ℕ) (h : Header) : Type 0 where
  pub first : ℕ
  pub second : ℕ
  pub params : List ℕ
  pub body : List ℕ
  pub octets : message ≡ header_octets first second h ++ params ++ body
  pub params_len : length params ≡ h.param_len
  pub body_len : length body ≡ h.body_len
  pub is_header : IsHeader h

-- the kind that has the type octet
abbrev pub kind_of : ℕ → Option Kind
kind_of octet =
    if octet == 1 then Some Job else (if octet == 2 then Some Ack else (if octet == 3 then Some AckData else (if octet == 7 then Some User else None)))

-- the fields of a header of the kind, read at their offsets
abbrev pub fields_of : Kind → List ℕ → Header
fields_of kind message = record {
  kind = kind;
  sequence = number_at message 4;
  param_len = number_at message 6;
  body_len = number_at message 8;
  error = if has_error kind then number_at message 10 else 0;
}

-- the length of header, parameters and data together
abbrev pub whole_len : Header → ℕ
whole_len h = header_len h.kind + h.param_len + h.body_len

-- the header, if its lengths add up to the message
abbrev pub if_adds_up : Header → ℕ → Result Header HeaderFault
if_adds_up h len = if whole_len h == len then Ok h else Err Lengths

-- the header of a message of this kind, or the first refusal that applies
abbrev pub header_with : Option Kind → List ℕ → Result Header HeaderFault
header_with None message = Err BadType
header_with (Some kind) message = if nat_lt (length message) (header_len kind) then Err Short else if_adds_up (fields_of kind message) (length message)

-- the header of a message, or the first refusal that applies
unfoldable pub header_of : List ℕ → Result Header HeaderFault
header_of message =
    if nat_lt (length message) 10 then Err Short else (if slice_index message 0 == 0x32 then header_with (kind_of (slice_index message 1)) message else Err BadId)

-- the parameters that follow the header
abbrev pub params_of : List ℕ → Header → List ℕ
params_of message h = take h.param_len (drop (header_len h.kind) message)

-- the data that follow the parameters
abbrev pub body_of : List ℕ → Header → List ℕ
body_of message h = drop h.param_len (drop (header_len h.kind) message)

-- the header of a refusal: an acknowledgement of this sequence, with an error word and nothing else
-- (Snap7 1.4 sources, s7_types.h: TS7ResHeader23)
abbrev pub refusal_of : ℕ → ℕ → Header
refusal_of sequence error = record { kind = Ack; sequence = sequence; param_len = 0; body_len = 0; error = error }
