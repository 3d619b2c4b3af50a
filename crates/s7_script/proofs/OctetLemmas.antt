-- The lines of octets that are written are read again.
use Rattle.std.proofs.Common.{◌≡◌, ◌≢◌, ◌∙◌, ◌<◌, ◌≤◌, ◌+◌, ◌^◌, ℕ, Bool, true, false, cond, zero, suc, refl, sym, ap, subst, arith, List, [], ◌∷◌, ◌++◌, length, take, drop, min, replicate, slice_index, None, Ok, eq-eqb, append_assoc, append-nil, le-ltb, length-append, length-drop, length-take}
use Rattle.std.specs.Prelude.{◌==◌}
use Rattle.std.specs.Char.{is_ascii_digit}
use Rattle.std.specs.Str.Parse.{AllDigits}
use Rattle.std.specs.Fmt.{decimal}
use Rattle.std.proofs.lemmas.Bool.{le-leb, leb-true}
use Rattle.std.proofs.lemmas.Bool.Decides.{nat_tests}
use Rattle.std.proofs.lemmas.Fmt.{decimal_is_IsNumeral}
use Rattle.std.proofs.lemmas.List.{take-append-drop}
use Rattle.hex.specs.Hex.{IsBytes, decode_sized, encode_lower, is_hex_digit, lower_digits}
use Rattle.hex.proofs.HexLemmas.{decode_of-encode_lower, decode_of-ok, decode_sized-twice, length-encode_with}
use Rattle.s7_area.specs.Memory.{Memory, with_area}
use Rattle.s7_area.specs.Registers.{most_octets, fault_of}
use Rattle.s7_area.specs.declared.key.AreaKey.{AreaKey}
use Rattle.s7_text.specs.Lines.{Text, lines, is_passed, next_line}
use Rattle.s7_script.specs.Reading.{State, filled, hex_octets, is_guard_line, line_octets, octets_by, read_lines, run_octets, with_line}
use Rattle.s7_script.specs.Spelling.{before_run, begins_run, front_of, line_length, line_text, octet_lines}
use Rattle.s7_script.specs.declared.areas.version.Version.TheVariants.{Two}
use Rattle.s7_text.proofs.LineLemmas.{isn't}
use Rattle.s7_script.proofs.LawLemmas.{AllPlain, Lacks, between, digit_range, digits_lack, digits_plain, inside, line_then, no_guard, number_of-decimal, parts_none, parts_split, plain-append}
use Rattle.s7_script.proofs.ReadLemmas.{line_passes}
use Rattle.s7_script.proofs.WriteLemmas.{front-repeats, front-within, some-before, some-line}

-- ---- octets

abbrev pub AllBytes : List ℕ → Type 0
AllBytes [] = Unit {0}
AllBytes (b ∷ bs) = (b < 256) × AllBytes bs

pub bytes_of : (xs : List ℕ) → IsBytes xs → AllBytes xs
bytes_of [] h = tt
bytes_of (x ∷ xs) h = (h 0, bytes_of xs (λ i. h (suc i)))

pub is_bytes : (xs : List ℕ) → AllBytes xs → IsBytes xs
is_bytes [] h i = omega arith
is_bytes (x ∷ xs) h zero = h.0
is_bytes (x ∷ xs) h (suc i) = is_bytes xs h.1 i

bytes-take : (n : ℕ) (xs : List ℕ) → AllBytes xs → AllBytes (take n xs)
bytes-take zero xs h = tt
bytes-take (suc n) [] h = tt
bytes-take (suc n) (x ∷ xs) h = (h.0, bytes-take n xs h.1)

bytes-drop : (n : ℕ) (xs : List ℕ) → AllBytes xs → AllBytes (drop n xs)
bytes-drop zero xs h = h
bytes-drop (suc n) [] h = tt
bytes-drop (suc n) (x ∷ xs) h = bytes-drop n xs h.1

encoded : (xs : List ℕ) → AllBytes xs → (k : ℕ) → k < length (encode_lower xs) → is_hex_digit (slice_index (encode_lower xs) k) ≡ true
encoded xs h k below = (decode_of-ok (encode_lower xs) xs (decode_of-encode_lower xs (is_bytes xs h))).1 k 0 below

-- ---- digits

abbrev pub AllHex : Text → Type 0
AllHex [] = Unit {0}
AllHex (c ∷ cs) = (is_hex_digit c ≡ true) × AllHex cs

all_hex : (cs : Text) → ((k : ℕ) → k < length cs → is_hex_digit (slice_index cs k) ≡ true) → AllHex cs
all_hex [] h = tt
all_hex (c ∷ cs) h = (h 0 (omega arith), all_hex cs (λ k below. h (suc k) (omega arith)))

pub encoded_hex : (xs : List ℕ) → AllBytes xs → AllHex (encode_lower xs)
encoded_hex xs h = all_hex (encode_lower xs) (encoded xs h)

hex_is : (c : ℕ) → is_hex_digit c ≡ true → (c ≢ 10) × (c ≢ 13) × (c ≢ 35) × (c ≢ 42) × (c ≢ 112) × (c ≢ 32)
hex_is c is = (
  λ e. grind (arith, nat_tests),
  λ e. grind (arith, nat_tests),
  λ e. grind (arith, nat_tests),
  λ e. grind (arith, nat_tests),
  λ e. grind (arith, nat_tests),
  λ e. grind (arith, nat_tests),
)

pub hex_plain : (cs : Text) → AllHex cs → AllPlain cs
hex_plain [] h = tt
hex_plain (c ∷ cs) h = let p = hex_is c h.0 in (p.0, p.1, hex_plain cs h.1)

-- digits have no space
pub hex_spaceless : (cs : Text) → AllHex cs → Lacks 32 cs
hex_spaceless [] h = tt
hex_spaceless (c ∷ cs) h = ((hex_is c h.0).5, hex_spaceless cs h.1)

hex_lacks : (cs : Text) → AllHex cs → Lacks 42 cs
hex_lacks [] h = tt
hex_lacks (c ∷ cs) h = ((hex_is c h.0).3, hex_lacks cs h.1)

-- neither passed over nor the line of a guard
record BeginsOctets (text : Text) : Type 0 where
  passed : is_passed text ≡ false
  guard : is_guard_line text ≡ false

hex_begins : (cs : Text) → 0 < length cs → AllHex cs → BeginsOctets cs
hex_begins [] some h = absurd (omega arith)
hex_begins (c ∷ cs) some h = let p = hex_is c h.0 in record { passed = isn't c 35 p.2; guard = no_guard c cs (isn't c 112 p.4) }

digit_is : (d : ℕ) → is_ascii_digit d ≡ true → (d ≢ 35) × (d ≢ 42) × (d ≢ 112)
digit_is d is = (λ e. grind (arith, nat_tests), λ e. grind (arith, nat_tests), λ e. grind (arith, nat_tests))

digits_begin : (ds rest : Text) → 0 < length ds → AllDigits 10 ds → BeginsOctets (ds ++ rest)
digits_begin [] rest some h = absurd (omega arith)
digits_begin (d ∷ ds) rest some h =
    let p = digit_is d (digit_range d h.0) in
    record { passed = isn't d 35 p.0; guard = no_guard d (ds ++ rest) (isn't d 112 p.2) }

-- ---- what a line of octets stands for

pub record IsOctets (text : Text) (octets : List ℕ) : Type 0 where
  pub plain : AllPlain text
  pub passed : is_passed text ≡ false
  pub guard : is_guard_line text ≡ false
  pub reads : (line : ℕ) → line_octets line Two text ≡ Ok octets

digits_are : (piece : List ℕ) → AllBytes piece → 0 < length piece → IsOctets (encode_lower piece) piece
digits_are piece bytes some =
    let hex = encoded_hex piece bytes in
    let begins = hex_begins (encode_lower piece) (omega (arith, some, length-encode_with lower_digits piece)) hex in
    record {
      plain = hex_plain (encode_lower piece) hex;
      passed = begins.passed;
      guard = begins.guard;
      reads = λ line.
          ap (octets_by line (encode_lower piece)) (parts_none 42 (encode_lower piece) (hex_lacks (encode_lower piece) hex))
          ∙ ap (hex_octets line) (decode_of-encode_lower piece (is_bytes piece bytes));
    }

two_digits : (b : ℕ) → b < 256 → decode_sized (encode_lower (b ∷ [])) 1 ≡ Ok (b ∷ [])
two_digits b byte =
    decode_sized-twice (encode_lower (b ∷ [])) 1 (length-encode_with lower_digits (b ∷ []))
    ∙ decode_of-encode_lower (b ∷ []) (is_bytes (b ∷ []) (byte, tt))

run_reads : (line n b : ℕ) → 0 < n → n ≤ most_octets → b < 256 → run_octets line (decimal n, encode_lower (b ∷ [])) ≡ Ok (replicate n b)
run_reads line n b some most byte =
    let below : n < 10 ^ 10 = omega arith in
    rw (number_of-decimal n below, le-leb 1 n some, le-leb n 9999999999 (omega arith), two_digits b byte) refl

run_is : (n b : ℕ) → 0 < n → n ≤ most_octets → b < 256 → IsOctets (decimal n ++ 42 ∷ encode_lower (b ∷ [])) (replicate n b)
run_is n b some most byte =
    let num = decimal_is_IsNumeral n (omega arith) in
    let hex = encoded_hex (b ∷ []) (byte, tt) in
    let begins = digits_begin (decimal n) (42 ∷ encode_lower (b ∷ [])) num.0.0 num.0.1 in
    record {
      plain = plain-append (decimal n) (42 ∷ encode_lower (b ∷ [])) (digits_plain (decimal n) num.0.1) (λ e. cc, λ e. cc, hex_plain (encode_lower (b ∷ [])) hex);
      passed = begins.passed;
      guard = begins.guard;
      reads = λ line.
          ap (octets_by line (decimal n ++ 42 ∷ encode_lower (b ∷ [])))
          (parts_split 42 (decimal n) (encode_lower (b ∷ [])) (digits_lack 42 (λ d is. (digit_is d is).1) (decimal n) num.0.1))
          ∙ run_reads line n b some most byte;
    }

line_step : (t : Bool) (b : ℕ) (bs : List ℕ) → begins_run (b ∷ bs) ≡ t → length (b ∷ bs) ≤ most_octets → AllBytes (b ∷ bs)
    → IsOctets (cond t (decimal (front_of (b ∷ bs)) ++ 42 ∷ encode_lower (take 1 (b ∷ bs))) (encode_lower (take (min 32 (before_run (b ∷ bs))) (b ∷ bs))))
    (take (cond t (front_of (b ∷ bs)) (min 32 (before_run (b ∷ bs)))) (b ∷ bs))
line_step true b bs begins most bytes =
    let many = leb-true 33 (front_of (b ∷ bs)) begins in
    let within = front-within (b ∷ bs) in
    subst (λ xs. IsOctets (decimal (front_of (b ∷ bs)) ++ 42 ∷ encode_lower (b ∷ [])) xs) (sym (front-repeats b bs))
    (run_is (front_of (b ∷ bs)) b (omega arith) (omega arith) bytes.0)
line_step false b bs none most bytes =
    let n : ℕ = min 32 (before_run (b ∷ bs)) in
    digits_are (take n (b ∷ bs)) (bytes-take n (b ∷ bs) bytes) (omega (arith, length-take n (b ∷ bs), some-before b bs none))

line_is : (xs : List ℕ) → 0 < length xs → length xs ≤ most_octets → AllBytes xs → IsOctets (line_text xs) (take (line_length xs) xs)
unfolding line_text line_length
line_is [] some most bytes = absurd (omega arith)
line_is (b ∷ bs) some most bytes = line_step (begins_run (b ∷ bs)) b bs refl most bytes

octets_step : (line at : ℕ) (m : Memory) (a : AreaKey × List ℕ) (done piece : List ℕ) (text : Text) → IsOctets text piece → length done + length piece ≤ length a.1
    → with_line line (inside m at a done) text ≡ filled (inside m at a done) (record { line = at; key = a.0; size = length a.1; octets = done ++ piece })
unfolding with_line
octets_step line at m a done piece text is fits =
    rw (is.passed, is.guard, is.reads line, le-ltb (length a.1) (length done + length piece) fits) refl

-- ---- all lines of an area

octet_lines_end : (k : ℕ) → octet_lines k [] ≡ []
unfolding octet_lines
octet_lines_end zero = refl
octet_lines_end (suc k) = refl

octet_lines_more : (k : ℕ) (xs text : List ℕ) → 0 < length xs → octet_lines (suc k) xs ++ text ≡ line_text xs ++ 10 ∷ (octet_lines k (drop (line_length xs) xs) ++ text)
unfolding octet_lines
octet_lines_more k [] text some = absurd (omega arith)
octet_lines_more k (b ∷ bs) text some = append_assoc (line_text (b ∷ bs)) (10 ∷ octet_lines k (drop (line_length (b ∷ bs)) (b ∷ bs))) text

some_length : (xs : List ℕ) → 0 < length xs → 0 < line_length xs
some_length [] some = absurd (omega arith)
some_length (b ∷ bs) some = some-line b bs

-- the lines of an area's octets register it
pub record Registers (line at : ℕ) (m : Memory) (a : AreaKey × List ℕ) (done : List ℕ) (from text : Text) : Type 0 where
  pub next : ℕ
  pub reads : read_lines line (inside m at a done) (lines from) ≡ read_lines next (between false (with_area m a.0 a.1)) (lines text)

module _ (k line at : ℕ) (m : Memory) (a : AreaKey × List ℕ) (done rest text : List ℕ) (some : 0 < length rest) (most : length a.1 ≤ most_octets) (whole : done ++ rest ≡ a.1) (bytes : AllBytes rest) where
  abbrev piece : List ℕ
  piece = take (line_length rest) rest

  abbrev more : List ℕ
  more = drop (line_length rest) rest

  cut : piece ++ more ≡ rest
  cut = take-append-drop (line_length rest) rest

  lengths : length piece + length more ≡ length rest
  lengths = sym (length-append piece more) ∙ ap length cut

  size : length done + length rest ≡ length a.1
  size = sym (length-append done rest) ∙ ap length whole

  is : IsOctets (line_text rest) piece
  is = line_is rest some (omega (arith, size)) bytes

  first : with_line line (inside m at a done) (line_text rest) ≡ filled (inside m at a done) (record { line = at; key = a.0; size = length a.1; octets = done ++ piece })
  first = octets_step line at m a done piece (line_text rest) is (omega (arith, lengths, size))

  from_here : (next : State) → with_line line (inside m at a done) (line_text rest) ≡ Ok next
      → read_lines line (inside m at a done) (lines (octet_lines (suc k) rest ++ text)) ≡ read_lines (next_line line) next (lines (octet_lines k more ++ text))
  from_here next goes =
      ap (λ t. read_lines line (inside m at a done) (lines t)) (octet_lines_more k rest text some)
      ∙ ap (λ ls. read_lines line (inside m at a done) ls) (line_then (line_text rest) (octet_lines k more ++ text) is.plain)
      ∙ line_passes line (inside m at a done) next (line_text rest) (lines (octet_lines k more ++ text)) goes

  last_line : more ≡ [] → fault_of m a.0 (length a.1) ≡ None → Registers line at m a done (octet_lines (suc k) rest ++ text) text
  last_line ends new =
      let all : done ++ piece ≡ a.1 = ap (λ p. done ++ p) (sym (append-nil piece) ∙ ap (λ d. piece ++ d) (sym ends) ∙ cut) ∙ whole in
      let same : (length a.1 == length a.1) ≡ true = eq-eqb (length a.1) (length a.1) refl in
      let done_with : with_line line (inside m at a done) (line_text rest) ≡ Ok (between false (with_area m a.0 a.1)) =
      first ∙ ap (λ octets. filled (inside m at a done) (record { line = at; key = a.0; size = length a.1; octets = octets })) all ∙ rw (same, new) refl in
      let none : octet_lines k more ++ text ≡ text = rw (ends, octet_lines_end k) refl in
      record {
        next = next_line line;
        reads = from_here (between false (with_area m a.0 a.1)) done_with ∙ ap (λ t. read_lines (next_line line) (between false (with_area m a.0 a.1)) (lines t)) none;
      }

  next_lines : 0 < length more → Registers (next_line line) at m a (done ++ piece) (octet_lines k more ++ text) text → Registers line at m a done (octet_lines (suc k) rest ++ text) text
  next_lines left ih =
      let differs : (length (done ++ piece) == length a.1) ≡ false = isn't (length (done ++ piece)) (length a.1) (λ e. omega (arith, lengths, size, length-append done piece)) in
      let goes_on : with_line line (inside m at a done) (line_text rest) ≡ Ok (inside m at a (done ++ piece)) = first ∙ rw differs refl in
      record { next = ih.next; reads = from_here (inside m at a (done ++ piece)) goes_on ∙ ih.reads }

  rest_whole : (done ++ piece) ++ more ≡ a.1
  rest_whole = append_assoc done piece more ∙ ap (λ r. done ++ r) cut ∙ whole

  shorter : length rest ≤ suc k → length more ≤ k
  shorter fits = omega (arith, some, some_length rest some, length-drop (line_length rest) rest)

pub octets_register : (k line at : ℕ) (m : Memory) (a : AreaKey × List ℕ) (done rest text : List ℕ) → 0 < length rest → length a.1 ≤ most_octets → length rest ≤ k → done ++ rest ≡ a.1 → AllBytes rest
    → fault_of m a.0 (length a.1) ≡ None → Registers line at m a done (octet_lines k rest ++ text) text
octets_register zero line at m a done rest text some most fits whole bytes new = absurd (omega arith)
octets_register (suc k) line at m a done rest text some most fits whole bytes new =
    let ih : 0 < length (drop (line_length rest) rest) → Registers (next_line line) at m a (done ++ take (line_length rest) rest) (octet_lines k (drop (line_length rest) rest) ++ text) text =
    λ left. octets_register k (next_line line) at m a (done ++ take (line_length rest) rest) (drop (line_length rest) rest) text left most (shorter k line at m a done rest text some most whole bytes fits)
    (rest_whole k line at m a done rest text some most whole bytes) (bytes-drop (line_length rest) rest bytes) new in
    by_more (drop (line_length rest) rest) refl ih
  where
    by_more : (more : List ℕ) → drop (line_length rest) rest ≡ more
        → (0 < length (drop (line_length rest) rest) → Registers (next_line line) at m a (done ++ take (line_length rest) rest) (octet_lines k (drop (line_length rest) rest) ++ text) text)
        → Registers line at m a done (octet_lines (suc k) rest ++ text) text
    by_more [] ends ih = last_line k line at m a done rest text some most whole bytes ends new
    by_more (x ∷ xs) ends ih =
        let left : 0 < length (drop (line_length rest) rest) = omega (arith, ap length ends) in
        next_lines k line at m a done rest text some most whole bytes left (ih left)
