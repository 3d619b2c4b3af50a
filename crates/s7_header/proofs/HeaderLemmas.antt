-- A header that is read, and the octets that spell it.
use Rattle.std.proofs.Common.{◌≡◌, ℕ, ◌<◌, ◌≤◌, ◌^◌, Bool, true, false, ltb, eqb, cond, List, ◌++◌, length, take, drop, slice_index, Option, None, Some, Ok, refl, sym, ap, ◌∙◌, subst, arith, length-drop, length-append, append_assoc}
use Rattle.std.specs.Bool.{OnFalse}
use Rattle.std.proofs.lemmas.Bool.{ltb-false, le-ltb, eqb-true, eq-eqb}
use Rattle.std.proofs.lemmas.Bool.Decides.{nat_tests}
use Rattle.std.proofs.lemmas.List.{take-append-drop, length-take-le}
use Rattle.s7_outer.specs.Numbers.{AreOctets}
use Rattle.s7_header.specs.Octets.{number_at}
use Rattle.s7_header.specs.Header.{type_octet, has_error, header_len, error_octets, header_octets, IsHeader, SpellsHeader, kind_of, fields_of, whole_len, if_adds_up, header_with, header_of}
use Rattle.s7_header.specs.declared.header.Kind.{Kind}
use Rattle.s7_header.specs.declared.header.Kind.TheVariants.{Job, Ack, AckData, User}
use Rattle.s7_header.specs.declared.header.Header.{Header}
use Rattle.s7_header.specs.declared.faults.HeaderFault.TheVariants.{Short, BadId, Lengths}
use Rattle.s7_header.proofs.Chosen.{not_refused, passed}
use Rattle.s7_header.proofs.OctetLemmas.{two_of_number, number_at_fits, one_cell, two_cells}

-- what is known of a message whose header was read
pub record IsRead (message : List ℕ) (h : Header) : Type 0 where
  pub id : slice_index message 0 ≡ 0x32
  pub kind : kind_of (slice_index message 1) ≡ Some h.kind
  pub least : 10 ≤ length message
  pub long : header_len h.kind ≤ length message
  pub fields : fields_of h.kind message ≡ h
  pub whole : whole_len h ≡ length message

read_with : (found : Option Kind) (message : List ℕ) (h : Header) → found ≡ kind_of (slice_index message 1) → slice_index message 0 ≡ 0x32 → 10 ≤ length message
    → header_with found message ≡ Ok h → IsRead message h
read_with None message h e id least r = cc
read_with (Some kind) message h e id least r =
    let long = not_refused (ltb (length message) (header_len kind)) Short (if_adds_up (fields_of kind message) (length message)) h r in
    let whole = passed (eqb (whole_len (fields_of kind message)) (length message)) Lengths (Ok (fields_of kind message)) h long.1 in
    let fields : fields_of kind message ≡ h = cc in
    let P : Header → Type 0 = λ x. IsRead message x in
    subst P fields
    (record {
      id = id;
      kind = sym e;
      least = least;
      long = ltb-false (length message) (header_len kind) long.0;
      fields = refl;
      whole = eqb-true (whole_len (fields_of kind message)) (length message) whole.0;
    })

is_read : (message : List ℕ) (h : Header) → header_of message ≡ Ok h → IsRead message h
unfolding header_of
is_read message h r =
    let least = not_refused (ltb (length message) 10) Short _ h r in
    let id = passed (eqb (slice_index message 0) 0x32) BadId _ h least.1 in
    read_with (kind_of (slice_index message 1)) message h refl (eqb-true (slice_index message 0) 0x32 id.0) (ltb-false (length message) 10 least.0) id.1

-- header, parameters and data add up to the message
pub fits : (message : List ℕ) (h : Header) → header_of message ≡ Ok h → whole_len h ≡ length message
fits message h r = (is_read message h r).whole

-- the other way round
reads : (message : List ℕ) (h : Header) → IsRead message h → header_of message ≡ Ok h
unfolding header_of
reads message h r =
    let least = le-ltb (length message) 10 r.least in
    let id = eq-eqb (slice_index message 0) 0x32 r.id in
    let long = le-ltb (length message) (header_len h.kind) r.long in
    let fields = r.fields in
    let whole : eqb (whole_len (fields_of h.kind message)) (length message) ≡ true = ap (λ x. eqb (whole_len x) (length message)) fields ∙ eq-eqb (whole_len h) (length message) r.whole in
    rw (least, id, r.kind, long, whole) (ap (λ x. Ok x) fields)

kind_is_type : (octet : ℕ) (kind : Kind) → kind_of octet ≡ Some kind → octet ≡ type_octet kind
kind_is_type octet kind h = grind (arith, nat_tests)

type_is_kind : (kind : Kind) → kind_of (type_octet kind) ≡ Some kind
type_is_kind Job = refl
type_is_kind Ack = refl
type_is_kind AckData = refl
type_is_kind User = refl

error_fits : (has : Bool) (n : ℕ) → n < 2 ^ 16 → cond has n 0 < 2 ^ 16
error_fits true n h = h
error_fits false n h = omega arith

no_error_is : (has : Bool) (n : ℕ) → OnFalse has (cond has n 0 ≡ 0)
no_error_is true n = tt
no_error_is false n = refl

fields_fit : (kind : Kind) (message : List ℕ) → AreOctets message → IsHeader (fields_of kind message)
fields_fit kind message are = record {
  sequence = number_at_fits message 4 are;
  param_len = number_at_fits message 6 are;
  body_len = number_at_fits message 8 are;
  error = error_fits (has_error kind) (number_at message 10) (number_at_fits message 10 are);
  no_error = no_error_is (has_error kind) (number_at message 10);
}

error_front : (kind : Kind) (message : List ℕ) → header_len kind ≤ length message → AreOctets message
    → drop 10 message ≡ error_octets kind (fields_of kind message).error ++ drop (header_len kind) message
error_front Job message h are = refl
error_front Ack message h are = two_cells message 10 h are
error_front AckData message h are = two_cells message 10 h are
error_front User message h are = refl

-- the octets of the header at the front of a message
header_front : (kind : Kind) (message : List ℕ) → slice_index message 0 ≡ 0x32 → slice_index message 1 ≡ type_octet kind → 10 ≤ length message → header_len kind ≤ length message → AreOctets message
    → message ≡ header_octets (slice_index message 2) (slice_index message 3) (fields_of kind message) ++ drop (header_len kind) message
header_front kind message id octet least long are =
    let none : drop 0 message ≡ message = refl in
    let one = one_cell message 0 (omega arith) in
    let two = one_cell message 1 (omega arith) in
    let three = one_cell message 2 (omega arith) in
    let four = one_cell message 3 (omega arith) in
    let sequence = two_cells message 4 (omega arith) are in
    let param_len = two_cells message 6 (omega arith) are in
    let body_len = two_cells message 8 (omega arith) are in
    let error = error_front kind message long are in
    cc

spells_fields : (kind : Kind) (message : List ℕ) → AreOctets message → IsRead message (fields_of kind message) → SpellsHeader message (fields_of kind message)
spells_fields kind message are r =
    let h = fields_of kind message in
    let rest = drop (header_len kind) message in
    let front = header_front kind message r.id (kind_is_type (slice_index message 1) kind r.kind) r.least r.long are in
    let all : take h.param_len rest ++ drop h.param_len rest ≡ rest = take-append-drop h.param_len rest in
    let whole = r.whole in
    record {
      first = slice_index message 2;
      second = slice_index message 3;
      params = take h.param_len rest;
      body = drop h.param_len rest;
      octets = front ∙ ap (λ x. header_octets (slice_index message 2) (slice_index message 3) h ++ x) (sym all)
          ∙ sym (append_assoc (header_octets (slice_index message 2) (slice_index message 3) h) (take h.param_len rest) (drop h.param_len rest));
      params_len = length-take-le h.param_len rest (omega (arith, whole, length-drop (header_len kind) message));
      body_len = omega (arith, whole, length-drop (header_len kind) message, length-drop h.param_len rest);
      is_header = fields_fit kind message are;
    }

-- what is read is spelled
pub spells : (message : List ℕ) (h : Header) → AreOctets message → header_of message ≡ Ok h → SpellsHeader message h
spells message h are r =
    let read = is_read message h r in
    let P : Header → Type 0 = λ x. IsRead message x in
    let Q : Header → Type 0 = λ x. SpellsHeader message x in
    subst Q read.fields (spells_fields h.kind message are (subst P (sym read.fields) read))

-- what is spelled is read
spelled_at : (kind : Kind) (first second sequence param_len body_len error : ℕ) (params body : List ℕ) → length params ≡ param_len → length body ≡ body_len → OnFalse (has_error kind) (error ≡ 0)
    → (let h : Header = record { kind = kind; sequence = sequence; param_len = param_len; body_len = body_len; error = error } in IsRead (header_octets first second h ++ params ++ body) h)
spelled_at Job first second sequence param_len body_len error params body p b e =
    let s = two_of_number sequence in
    let n = two_of_number param_len in
    let m = two_of_number body_len in
    record { id = refl; kind = refl; least = omega arith; long = omega arith; fields = cc; whole = omega (arith, length-append params body) }
spelled_at Ack first second sequence param_len body_len error params body p b e =
    let s = two_of_number sequence in
    let n = two_of_number param_len in
    let m = two_of_number body_len in
    let w = two_of_number error in
    record { id = refl; kind = refl; least = omega arith; long = omega arith; fields = cc; whole = omega (arith, length-append params body) }
spelled_at AckData first second sequence param_len body_len error params body p b e =
    let s = two_of_number sequence in
    let n = two_of_number param_len in
    let m = two_of_number body_len in
    let w = two_of_number error in
    record { id = refl; kind = refl; least = omega arith; long = omega arith; fields = cc; whole = omega (arith, length-append params body) }
spelled_at User first second sequence param_len body_len error params body p b e =
    let s = two_of_number sequence in
    let n = two_of_number param_len in
    let m = two_of_number body_len in
    record { id = refl; kind = refl; least = omega arith; long = omega arith; fields = cc; whole = omega (arith, length-append params body) }

pub spelled : (first second : ℕ) (h : Header) (params body : List ℕ) → IsHeader h → length params ≡ h.param_len → length body ≡ h.body_len → header_of (header_octets first second h ++ params ++ body) ≡ Ok h
spelled first second h params body is p b =
    reads (header_octets first second h ++ params ++ body) h
    (spelled_at h.kind first second h.sequence h.param_len h.body_len h.error params body p b is.no_error)

pub read_of_spelled : (message : List ℕ) (h : Header) → SpellsHeader message h → header_of message ≡ Ok h
read_of_spelled message h s = ap header_of s.octets ∙ spelled s.first s.second h s.params s.body s.is_header s.params_len s.body_len

pub one_header : (message : List ℕ) (g h : Header) → SpellsHeader message g → SpellsHeader message h → g ≡ h
one_header message g h s t =
    let first = read_of_spelled message g s in
    let second = read_of_spelled message h t in
    cc
