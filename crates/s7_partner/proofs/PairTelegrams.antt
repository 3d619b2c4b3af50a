-- What partners say to each other, and that it isn't read as anything else.
use Rattle.std.proofs.Common.{◌≡◌, ◌⊎◌, inl, inr, ℕ, ◌+◌, ◌/◌, ◌%◌, ◌==◌, ◌&&◌, Bool, true, false, cond, List, []}
use Rattle.std.proofs.Common.{◌∷◌, length, take, drop, refl, ap, sym, ◌∙◌, subst, arith, Ok, length-append}
use Rattle.std.specs.Prelude.{Option, None, Some, Result, Err, nat_le, if◌then◌else◌}
use Rattle.std.specs.Str.{bytes_eq}
use Rattle.std.proofs.lemmas.Bool.{le-ltb, eq-eqb}
use Rattle.std.proofs.Math.Seq.{take-append_seam, drop-append_seam}
use Rattle.s7_header.specs.declared.header.Header.{Header}
use Rattle.s7_header.specs.declared.header.Kind.TheVariants.{User}
use Rattle.s7_header.specs.declared.faults.HeaderFault.{HeaderFault}
use Rattle.s7_header.specs.declared.faults.HeaderFault.TheVariants.{Short, Lengths}
use Rattle.s7_header.specs.Header.{fields_of, if_adds_up, header_of, params_of, body_of}
use Rattle.s7_header.specs.UserParams.{user_spelling, user_params_of}
use Rattle.s7_header.proofs.OctetLemmas.{two_of_number}
use Rattle.s7_header.proofs.UserLemmas.{spelled_user}
use Rattle.s7_dialogue.specs.Question.{message_octets}
use Rattle.s7_dialogue.specs.UserData.{data_of, has_octets, octets_in}
use Rattle.s7_partner.specs.Telegrams.{Piece, piece_head, number_of_four, piece_params, piece_data, piece_message}
use Rattle.s7_partner.specs.Telegrams.{confirm_message, piece_of_data, piece_of_octets, is_piece, piece_by}
use Rattle.s7_partner.specs.Telegrams.{piece_of_header, piece_in, confirms_by, confirms_header, confirms}

-- ---- what is said

pub data Said : Type 0 where
  -- a fragment goes out under a sequence
  piece : (sequence : ℕ) → (p : Piece) → Said
  -- a fragment of this sequence and number is acknowledged
  receipt : (sequence number : ℕ) → Said

abbrev pub octets_of : Said → List ℕ
octets_of (piece sequence p) = piece_message sequence p
octets_of (receipt sequence number) = confirm_message sequence number

abbrev pub messages_of : List Said → List (List ℕ)
messages_of [] = []
messages_of (x ∷ xs) = octets_of x ∷ messages_of xs

-- ---- headers

abbrev user_header : ℕ → List ℕ → List ℕ → Header
user_header sequence params body =
    record { kind = User; sequence = sequence; param_len = length params; body_len = length body; error = 0 }

header_fields : (sequence : ℕ) (params body : List ℕ)
    → fields_of User (message_octets User sequence params body) ≡ user_header sequence params body
header_fields sequence params body =
    let s = two_of_number sequence in
    let n = two_of_number (length params) in
    let m = two_of_number (length body) in
    cc

header_read : (sequence : ℕ) (params body : List ℕ)
    → header_of (message_octets User sequence params body) ≡ Ok (user_header sequence params body)
unfolding header_of
header_read sequence params body =
    let m = message_octets User sequence params body in
    let long : length m ≡ 10 + length params + length body = omega (arith, length-append params body) in
    let short : Result Header HeaderFault = Err Short in
    ap (λ t. cond t short (cond t short (if_adds_up (fields_of User m) (length m))))
    (le-ltb (length m) 10 (omega (arith, long)))
    ∙ (ap (λ h. if_adds_up h (length m)) (header_fields sequence params body)
    ∙ ap (λ t. cond t (Ok (user_header sequence params body)) (Err Lengths))
    (eq-eqb (10 + length params + length body) (length m) (sym long)))

params_read : (sequence : ℕ) (params body : List ℕ)
    → params_of (message_octets User sequence params body) (user_header sequence params body) ≡ params
params_read sequence params body = take-append_seam params body

body_read : (sequence : ℕ) (params body : List ℕ)
    → body_of (message_octets User sequence params body) (user_header sequence params body) ≡ body
body_read sequence params body = drop-append_seam params body

-- ---- a fragment

abbrev piece_user : Piece → List ℕ
piece_user p = user_spelling (piece_params p)

abbrev piece_header : ℕ → Piece → Header
piece_header sequence p = user_header sequence (piece_user p) (data_of (piece_data p))

piece_header_read : (sequence : ℕ) (p : Piece) → header_of (piece_message sequence p) ≡ Ok (piece_header sequence p)
piece_header_read sequence p = header_read sequence (piece_user p) (data_of (piece_data p))

piece_params_read : (sequence : ℕ) (p : Piece)
    → user_params_of (params_of (piece_message sequence p) (piece_header sequence p)) ≡ Ok (piece_params p)
piece_params_read sequence p =
    ap user_params_of (params_read sequence (piece_user p) (data_of (piece_data p)))
    ∙ spelled_user (piece_params p) (record { form = tt; error = omega arith })

never : (b : Bool) → b && false ≡ false
never true = refl
never false = refl

-- it is no acknowledgement
pub piece_no_receipt : (s n sequence : ℕ) (p : Piece) → confirms s n (piece_message sequence p) ≡ false
unfolding confirms
piece_no_receipt s n sequence p =
    let m = piece_message sequence p in
    let h = piece_header sequence p in
    ap (confirms_header s n m) (piece_header_read sequence p)
    ∙ (ap (λ r. sequence == s && confirms_by n h m r) (piece_params_read sequence p) ∙ never (sequence == s))

-- an option that has this value where it has one
abbrev pub IsOnly : Option Piece → Piece → Type 0
IsOnly o p = (o ≡ None) ⊎ (o ≡ Some p)

if_only : (b : Bool) (o : Option Piece) (p : Piece) → IsOnly o p → IsOnly (if b then o else None) p
if_only true o p h = h
if_only false o p h = inl refl

-- the data's octets are read as they are, or not at all
octets_only : (x : ℕ) (xs : List ℕ) (f : Option (List ℕ) → Option Piece) (p : Piece) → f None ≡ None
    → IsOnly (f (Some (x ∷ xs))) p → IsOnly (f (octets_in (data_of (x ∷ xs)))) p
octets_only x xs f p none some = by (has_octets (data_of (x ∷ xs)))
  where
    by : (b : Bool) → IsOnly (f (if b then Some (x ∷ xs) else None)) p
    by true = some
    by false = inl none

abbrev pub total_if : Bool → ℕ → Option ℕ
total_if true total = Some total
total_if false total = None

more_again : (b : Bool) → (if b then 1 else 0) == 1 ≡ b
more_again true = refl
more_again false = refl

four_again : (n : ℕ) → number_of_four (n / 16777216) (n / 65536 % 256) (n / 256 % 256) (n % 256) ≡ n
four_again n = omega arith

-- a first fragment of a block, or a further one
abbrev pub piece_with : Bool → ℕ → ℕ → ℕ → List ℕ → Bool → Piece
piece_with first number rid total octets more =
    record { number = number; rid = rid; total = total_if first total; octets = octets; more = more }

data_only : (first : Bool) (number rid total : ℕ) (octets : List ℕ) (more : Bool)
    → (let p = piece_with first number rid total octets more in
    IsOnly (piece_of_data first (piece_params p) (piece_data p)) p)
data_only true number rid total octets more =
    let p = piece_with true number rid total octets more in
    let d = piece_data p in
    let r = four_again rid in
    let t = two_of_number total in
    let m = more_again more in
    if_only (bytes_eq (take 4 d) piece_head && nat_le 10 (length d)) _ p (inr (cc))
data_only false number rid total octets more =
    let p = piece_with false number rid total octets more in
    let d = piece_data p in
    let r = four_again rid in
    let m = more_again more in
    if_only (bytes_eq (take 4 d) piece_head && nat_le 8 (length d)) _ p (inr (cc))

-- it is read as that fragment, or as none
pub piece_again : (first : Bool) (sequence number rid total : ℕ) (octets : List ℕ) (more : Bool)
    → (let p = piece_with first number rid total octets more in
    IsOnly (piece_in first (piece_message sequence p)) p)
unfolding piece_in
piece_again first sequence number rid total octets more =
    let p = piece_with first number rid total octets more in
    let m = piece_message sequence p in
    let h = piece_header sequence p in
    let by : List ℕ → Option Piece = λ body.
    if is_piece (piece_params p) then piece_of_octets first (piece_params p) (octets_in body) else None in
    let is : piece_of_header first m (header_of m) ≡ by (data_of (piece_data p)) =
    ap (piece_of_header first m) (piece_header_read sequence p)
    ∙ (ap (piece_by first h m) (piece_params_read sequence p)
    ∙ ap by (body_read sequence (piece_user p) (data_of (piece_data p)))) in
    subst (λ o. IsOnly o p) (sym is)
    (if_only (is_piece (piece_params p)) (piece_of_octets first (piece_params p) (octets_in (data_of (piece_data p)))) p
    (octets_only 0x12 (drop 1 (piece_data p)) (piece_of_octets first (piece_params p)) p refl
    (data_only first number rid total octets more)))

-- ---- an acknowledgement

-- it is no fragment
pub receipt_no_piece : (first : Bool) (sequence number : ℕ) → piece_in first (confirm_message sequence number) ≡ None
unfolding piece_in header_of user_params_of
receipt_no_piece first sequence number = refl
