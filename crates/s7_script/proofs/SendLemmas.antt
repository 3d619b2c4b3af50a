-- The blocks of lines one by one.
use Rattle.std.proofs.Common.{◌≡◌, ◌==◌, ◌+◌, ◌*◌, ◌/◌, ◌%◌, ◌<◌, ◌≤◌, ℕ, Bool, true, false, refl, ap, subst, ◌∙◌, List, []}
use Rattle.std.proofs.Common.{◌∷◌, ◌++◌, length, Ok, append-nil, arith, if◌then◌else◌, nat_le, codes, le-leb}
use Rattle.std.proofs.lemmas.Bool.Decides.{nat_tests}
use Rattle.std.specs.Prelude.{Option, Some, None, Result, Err, IfOk}
use Rattle.std.specs.List.{All}
use Rattle.std.proofs.lemmas.List.Elements.{All-append, All-cons, All-nil, All-head, All-tail, All-weaker}
use Rattle.std.specs.Str.{bytes_eq}
use Rattle.hex.specs.Hex.{IsBytes, decode_of, encode_lower, lower_digits}
use Rattle.hex.specs.declared.error.FromHexError.{FromHexError}
use Rattle.hex.proofs.HexLemmas.{decode_of-ok, decode_of-encode_lower, length-encode_with}
use Rattle.s7_text.specs.Lines.{Text, lines, is_passed, next_line}
use Rattle.s7_text.specs.Fields.{field_of, first_field, rest_of, fields_after}
use Rattle.s7_text.proofs.LineLemmas.{isn't}
use Rattle.s7_script.specs.Printing.{four_octets}
use Rattle.s7_script.specs.Script.{LineFails, ◌>>=◌, ended}
use Rattle.s7_script.specs.ScriptShown.{appended}
use Rattle.s7_script.specs.Sends.{Send, IsSized, four_octets_in, with_body, with_digits, with_hex, block_sent, send_of}
use Rattle.s7_script.specs.Sends.{at_line, line_sends, send_lines, sends}
use Rattle.s7_script.specs.SendSpelling.{IsSendable, SendsReadBack, block_of, on_lines, send_text, sends_text}
use Rattle.s7_script.specs.declared.scripts.script_fault.ScriptKind.{ScriptKind}
use Rattle.s7_script.specs.declared.scripts.script_fault.ScriptKind.TheVariants as kind
use Rattle.s7_script.specs.declared.sends.send_list.SendLine.{SendLine}
use Rattle.s7_script.specs.declared.scripts.script_fault.ScriptFault.{ScriptFault}
use Rattle.s7_script.proofs.LawLemmas.{AllPlain, Lacks, drop_front, lacks_by_test, line_then, plain-append, plain_by_test}
use Rattle.s7_script.proofs.LawLemmas.{position_at, position_none, take_front}
use Rattle.s7_script.proofs.OctetLemmas.{bytes_of, encoded_hex, hex_plain, hex_spaceless, is_bytes}
use Rattle.s7_script.proofs.ScriptLemmas.{append-fail, append-step}

pub sends-step : (found new : List SendLine) (line : ℕ) (text : Text) (rest : List Text) → appended found (line_sends line text) ≡ Ok new
    → appended found (send_lines line (text ∷ rest)) ≡ appended new (send_lines (next_line line) rest)
unfolding send_lines
sends-step found new line text rest h = append-step found new (line_sends line text) (send_lines (next_line line) rest) h

pub sends-fail : (found : List SendLine) (line : ℕ) (text : Text) (rest : List Text) (e : ScriptFault) → LineFails e e.kind (line_sends line text)
    → LineFails e e.kind (appended found (send_lines line (text ∷ rest)))
unfolding send_lines
sends-fail found line text rest e h = append-fail found (line_sends line text) (send_lines (next_line line) rest) e h

-- nothing is left
pub sends-ended : (found : List SendLine) (line : ℕ) → appended found (send_lines line []) ≡ Ok found
unfolding send_lines
sends-ended found line = ap Ok (append-nil found)

-- ---- each block can be written

abbrev CanBeWritten : SendLine → Type 0
CanBeWritten line = IsSendable (block_of line)

if_either : {A E : Type 0} (P : A → Type 0) (b : Bool) (r s : Result A E) → (b ≡ true → IfOk r P)
    → (b ≡ false → IfOk s P) → IfOk (if b then r else s) P
if_either P true r s h k = h refl
if_either P false r s h k = k refl

ended_sendable : (s : Send) (rest : Option Text) → IsSendable s → IfOk (ended s rest) IsSendable
ended_sendable s None h = h
ended_sendable s (Some rest) h = tt

within_size : (n : ℕ) → nat_le n 65535 ≡ true → n ≤ 65535
within_size n e = grind (arith, nat_tests)

some_digits : (n : ℕ) → (n == 0) ≡ false → 0 < n
some_digits n e = grind (arith, nat_tests)

body_sendable : (rid : ℕ) → rid < 4294967296 → (field : Text) (rest : Option Text)
    (r : Result (List ℕ) FromHexError) → decode_of field ≡ r → 0 < length field
    → IfOk (with_body rid rest r) IsSendable
body_sendable rid low field rest (Err e) is some = tt
body_sendable rid low field rest (Ok octets) is some =
    let found = decode_of-ok field octets is in
    if_either IsSendable (nat_le (length octets) 65535) _ _
    (λ few. ended_sendable _ rest (record {
      numbered = low;
      some = omega (arith, found.2, some);
      most = within_size (length octets) few;
      octets = found.3;
    }))
    (λ many. tt)

digits_sendable : (rid : ℕ) → rid < 4294967296 → (field : Text) (rest : Option Text)
    → IfOk (with_digits rid field rest) IsSendable
digits_sendable rid low field rest =
    if_either IsSendable (length field == 0) _ _ (λ none. tt)
    (λ some. body_sendable rid low field rest (decode_of field) refl (some_digits (length field) some))

hex_sendable : (rid : ℕ) → rid < 4294967296 → (o : Option Text) → IfOk (with_hex rid o) IsSendable
hex_sendable rid low None = tt
hex_sendable rid low (Some text) = digits_sendable rid low (field_of text) (rest_of text)

four_low : (a b c d : ℕ) → a < 256 → b < 256 → c < 256 → d < 256
    → ((a * 256 + b) * 256 + c) * 256 + d < 4294967296
four_low a b c d p q r s = omega (arith, p, q, r, s)

number_low : (field : Text) (r : Result (List ℕ) FromHexError) → decode_of field ≡ r
    → IfOk (four_octets_in r) (λ rid. rid < 4294967296)
number_low field (Err e) is = tt
number_low field (Ok []) is = tt
number_low field (Ok (a ∷ [])) is = tt
number_low field (Ok (a ∷ b ∷ [])) is = tt
number_low field (Ok (a ∷ b ∷ c ∷ [])) is = tt
number_low field (Ok (a ∷ b ∷ c ∷ d ∷ [])) is =
    let octets = (decode_of-ok field (a ∷ b ∷ c ∷ d ∷ []) is).3 in
    four_low a b c d (octets 0) (octets 1) (octets 2) (octets 3)
number_low field (Ok (a ∷ b ∷ c ∷ d ∷ e ∷ es)) is = tt

bound_sendable : (r : Result ℕ ScriptKind) (o : Option Text) → IfOk r (λ rid. rid < 4294967296)
    → IfOk (r >>= (λ rid. with_hex rid o)) IsSendable
bound_sendable (Ok rid) o low = hex_sendable rid low o
bound_sendable (Err e) o low = tt

block_sendable : (o : Option Text) → IfOk (block_sent o) IsSendable
block_sendable None = tt
block_sendable (Some text) =
    bound_sendable (four_octets_in (decode_of (field_of text))) (rest_of text)
    (number_low (field_of text) (decode_of (field_of text)) refl)

send_sendable : (text : Text) → IfOk (send_of text) IsSendable
send_sendable text =
    if_either IsSendable (bytes_eq (field_of text) (codes "send")) _ _ (λ e. block_sendable (rest_of text)) (λ e. tt)

at_line_sendable : (line : ℕ) (r : Result Send ScriptKind) → IfOk r IsSendable
    → IfOk (at_line line r) (All CanBeWritten)
at_line_sendable line (Ok s) h = All-cons CanBeWritten _ [] h (All-nil CanBeWritten)
at_line_sendable line (Err e) h = tt

line_sendable : (line : ℕ) (text : Text) → IfOk (line_sends line text) (All CanBeWritten)
line_sendable line text =
    if_either (All CanBeWritten) (is_passed text) _ _ (λ e. All-nil CanBeWritten)
    (λ e. at_line_sendable line (send_of text) (send_sendable text))

both_sendable : (a b : Result (List SendLine) ScriptFault) → IfOk a (All CanBeWritten) → IfOk b (All CanBeWritten)
    → IfOk (a >>= (λ found. b >>= (λ others. Ok (found ++ others)))) (All CanBeWritten)
both_sendable (Ok xs) (Ok ys) h k = All-append CanBeWritten xs ys h k
both_sendable (Ok xs) (Err e) h k = tt
both_sendable (Err e) b h k = tt

lines_sendable : (line : ℕ) (texts : List Text) → IfOk (send_lines line texts) (All CanBeWritten)
unfolding send_lines
lines_sendable line [] = All-nil CanBeWritten
lines_sendable line (text ∷ rest) =
    both_sendable (line_sends line text) (send_lines (next_line line) rest) (line_sendable line text)
    (lines_sendable (next_line line) rest)

sendable_by : (found : List SendLine) (r : Result (List SendLine) ScriptFault) → r ≡ Ok found
    → IfOk r (All CanBeWritten) → All CanBeWritten found
sendable_by found (Ok xs) e h = subst (All CanBeWritten) (same xs found e) h
  where
    same : (x y : List SendLine) → ◌≡◌ {A = Result (List SendLine) ScriptFault} (Ok x) (Ok y) → x ≡ y
    same x y e = cc
sendable_by found (Err e) is h = absurd (cc)

-- THE BLOCKS OF A SENDS FILE can be written.
pub sends_sendable : (text : Text) (found : List SendLine) → sends text ≡ Ok found → All CanBeWritten found
sends_sendable text found e = sendable_by found (sends text) e (lines_sendable 1 (lines text))

-- They have from 1 to 65,535 octets each.
pub sends_sized : (text : Text) (found : List SendLine) → sends text ≡ Ok found → All IsSized found
sends_sized text found e =
    All-weaker CanBeWritten IsSized (λ line h. (h.some, h.most)) found (sends_sendable text found e)

-- ---- what is written is read

four_whole : (n : ℕ) → ((n / 16777216 * 256 + n / 65536 % 256) * 256 + n / 256 % 256) * 256 + n % 256 ≡ n
four_whole n = omega arith

four_bytes : (n : ℕ) → n < 4294967296 → IsBytes (four_octets n)
four_bytes n low =
    is_bytes (four_octets n) (omega (arith, low), (omega arith, (omega arith, (omega arith, tt))))

number_back : (n : ℕ) → n < 4294967296 → four_octets_in (decode_of (encode_lower (four_octets n))) ≡ Ok n
number_back n low =
    ap four_octets_in (decode_of-encode_lower (four_octets n) (four_bytes n low)) ∙ ap Ok (four_whole n)

octets_spaceless : (xs : List ℕ) → IsBytes xs → Lacks 32 (encode_lower xs)
octets_spaceless xs octets = hex_spaceless (encode_lower xs) (encoded_hex xs (bytes_of xs octets))

pub first_is : (front rest : Text) → Lacks 32 front → field_of (front ++ 32 ∷ rest) ≡ front
first_is front rest h =
    ap (first_field (front ++ 32 ∷ rest)) (position_at 32 front rest h) ∙ take_front front (32 ∷ rest)

pub rest_is : (front rest : Text) → Lacks 32 front → rest_of (front ++ 32 ∷ rest) ≡ Some rest
rest_is front rest h =
    ap (fields_after (front ++ 32 ∷ rest)) (position_at 32 front rest h) ∙ ap Some (drop_front front 32 rest)

pub last_field : (text : Text) → Lacks 32 text → field_of text ≡ text
last_field text h = ap (first_field text) (position_none 32 text h)

pub no_rest : (text : Text) → Lacks 32 text → rest_of text ≡ None
no_rest text h = ap (fields_after text) (position_none 32 text h)

some_text : (xs : List ℕ) → 0 < length xs → (length (encode_lower xs) == 0) ≡ false
some_text xs some = isn't (length (encode_lower xs)) 0 (λ e. omega (arith, e, some, length-encode_with lower_digits xs))

body_back : (s : Send) → IsSendable s → with_hex s.rid (Some (encode_lower s.body)) ≡ Ok s
body_back s h =
    let text = encode_lower s.body in
    let lacks = octets_spaceless s.body h.octets in
    rw (
      last_field text lacks,
      no_rest text lacks,
      some_text s.body h.some,
      decode_of-encode_lower s.body h.octets,
      le-leb (length s.body) 65535 h.most,
    ) refl

block_back : (s : Send) → IsSendable s
    → block_sent (Some (encode_lower (four_octets s.rid) ++ 32 ∷ encode_lower s.body)) ≡ Ok s
block_back s h =
    let front = encode_lower (four_octets s.rid) in
    let back = encode_lower s.body in
    let lacks = octets_spaceless (four_octets s.rid) (four_bytes s.rid h.numbered) in
    ap (λ x. four_octets_in (decode_of x) >>= (λ rid. with_hex rid (rest_of (front ++ 32 ∷ back))))
    (first_is front back lacks)
    ∙ (ap (λ x. four_octets_in (decode_of front) >>= (λ rid. with_hex rid x)) (rest_is front back lacks)
    ∙ (ap (λ x. x >>= (λ rid. with_hex rid (Some back))) (number_back s.rid h.numbered)
    ∙ body_back s h))

send_back : (s : Send) → IsSendable s → send_of (send_text s) ≡ Ok s
send_back s h =
    let tail = encode_lower (four_octets s.rid) ++ 32 ∷ encode_lower s.body in
    let lacks : Lacks 32 (codes "send") = lacks_by_test 32 (codes "send") refl in
    ap (λ x. if bytes_eq x (codes "send") then block_sent (rest_of (send_text s)) else Err kind.Word)
    (first_is (codes "send") tail lacks)
    ∙ (ap block_sent (rest_is (codes "send") tail lacks) ∙ block_back s h)

send_plain : (s : Send) → IsSendable s → AllPlain (send_text s)
send_plain s h =
    plain-append (codes "send ") _ (plain_by_test (codes "send ") refl)
    (plain-append (encode_lower (four_octets s.rid)) _
    (hex_plain _ (encoded_hex (four_octets s.rid) (bytes_of (four_octets s.rid) (four_bytes s.rid h.numbered))))
    (λ e. cc, λ e. cc, hex_plain _ (encoded_hex s.body (bytes_of s.body h.octets))))

line_back : (line : ℕ) (s : Send) → IsSendable s
    → line_sends line (send_text s) ≡ Ok (record { line = line; rid = s.rid; body = s.body } ∷ [])
line_back line s h = ap (at_line line) (send_back s h)

lines_back : (line : ℕ) (blocks : List Send) → All IsSendable blocks
    → send_lines line (lines (sends_text blocks)) ≡ Ok (on_lines line blocks)
unfolding send_lines
lines_back line [] h = refl
lines_back line (s ∷ rest) h =
    let is = All-head IsSendable s rest h in
    ap (send_lines line) (line_then (send_text s) (sends_text rest) (send_plain s is))
    ∙ (ap (λ x. x >>= (λ found. send_lines (next_line line) (lines (sends_text rest)) >>= (λ others. Ok (found ++ others))))
    (line_back line s is)
    ∙ ap (λ x. x >>= (λ others. Ok (record { line = line; rid = s.rid; body = s.body } ∷ others)))
    (lines_back (next_line line) rest (All-tail IsSendable s rest h)))

pub sends_read_back : SendsReadBack
sends_read_back = record { reads = λ blocks h. lines_back 1 blocks h; sendable = sends_sendable }
