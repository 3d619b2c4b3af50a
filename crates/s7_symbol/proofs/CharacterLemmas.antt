-- Characters of strings as pairs of hexadecimal digits, and strings in octets.
use Rattle.std.proofs.Common.{◌≡◌, ◌∙◌, ◌<◌, ◌≤◌, ◌+◌, ◌-◌, ◌*◌, ◌/◌, ◌%◌, ℕ, suc, Bool, true, false, refl, ap, sym, subst, arith, List, [], ◌∷◌, ◌++◌, length, take, drop, replicate, Option, Some, None, Result, Ok, Err, eq-eqb}
use Rattle.std.specs.Prelude.{◌==◌, ◌&&◌, nat_lt, codes, slice_index}
use Rattle.std.specs.List.{list_all}
use Rattle.std.specs.Str.{bytes_eq}
use Rattle.std.proofs.Math.Seq.{drop-append_seam, take-append_seam}
use Rattle.std.proofs.lemmas.Bool.{agree_below_at, and_parts, eqb-true, ltb-true, lt-ltb}
use Rattle.std.proofs.lemmas.Bool.Decides.{nat_tests}
use Rattle.std.proofs.lemmas.List.{length-append, length-drop, length-replicate, length-take-le}
use Rattle.std.proofs.lemmas.Slice.Eq.{bytes_eq-Decides}
use Rattle.hex.specs.Hex.{IsBytes, decode_of, decode_pairs, encode_lower, encode_with, hex_digit_value, lower_digits, pair_value}
use Rattle.hex.specs.declared.error.FromHexError.{FromHexError}
use Rattle.hex.proofs.HexLemmas.{decode_of-encode_lower, decode_of-even, decode_of-ok, length-encode_with}
use Rattle.hex.proofs.Pairs.{cons_byte, decode_pairs-ok_pair}
use Rattle.s7_text.specs.Lines.{Text}
use Rattle.s7_symbol.specs.Meanings.{Meaning, string}
use Rattle.s7_symbol.specs.Octets.{string_in}
use Rattle.s7_symbol.specs.Texts.{characters_in, characters_text, is_lower_digit, or_none}

-- ---- digits of the table

abbrev passes : ℕ → Bool
passes d = is_lower_digit (slice_index lower_digits d)

digit_lower : (d : ℕ) → d < 16 → is_lower_digit (slice_index lower_digits d) ≡ true
digit_lower d low = agree_below_at passes (λ k. true) 16 d refl low

-- a digit of lower case stands in the table at its value
abbrev stands_there : ℕ → Option ℕ → Bool
stands_there b None = false
stands_there b (Some v) = nat_lt v 16 && slice_index lower_digits v == b

abbrev is_in_table : ℕ → Bool
is_in_table b = is_lower_digit b && stands_there b (hex_digit_value b)

in_table : (b : ℕ) → is_lower_digit b ≡ true → is_in_table b ≡ true
in_table b is = sym (agree_below_at is_lower_digit is_in_table 103 b refl (below b is)) ∙ is
  where
    below : (b : ℕ) → is_lower_digit b ≡ true → b < 103
    below b is = grind (arith, nat_tests)

record IsDigitOf (b : ℕ) : Type 0 where
  value : ℕ
  read : hex_digit_value b ≡ Some value
  low : value < 16
  there : slice_index lower_digits value ≡ b

digit_of : (b : ℕ) → is_lower_digit b ≡ true → IsDigitOf b
digit_of b is = go (hex_digit_value b) refl (and_parts (is_lower_digit b) _ (in_table b is)).1
  where
    go : (o : Option ℕ) → hex_digit_value b ≡ o → stands_there b o ≡ true → IsDigitOf b
    go None read there = absurd (cc)
    go (Some v) read there =
        let both = and_parts (nat_lt v 16) (slice_index lower_digits v == b) there in
        record { value = v; read = read; low = ltb-true v 16 both.0; there = eqb-true (slice_index lower_digits v) b both.1 }

-- ---- characters as digits

encoded_lower : (cs : List ℕ) → IsBytes cs → list_all is_lower_digit (encode_lower cs) ≡ true
unfolding encode_with
encoded_lower [] are = refl
encoded_lower (c ∷ cs) are =
    let byte : c < 256 = are 0 in
    let high = digit_lower (c / 16) (omega arith) in
    let low = digit_lower (c % 16) (omega arith) in
    rw (high, low, encoded_lower cs (λ k. are (suc k))) refl

-- the text of characters says them
pub characters_read : (cs : List ℕ) → IsBytes cs → characters_in (characters_text cs) ≡ Some cs
characters_read [] are = refl
characters_read (c ∷ cs) are =
    let text = encode_lower (c ∷ cs) in
    let long : length text ≡ 2 * suc (length cs) = length-encode_with lower_digits (c ∷ cs) in
    let some : nat_lt 0 (length text) ≡ true = lt-ltb 0 (length text) (omega (arith, long)) in
    let other : bytes_eq text (codes "-") ≡ false = not_one text (omega (arith, long)) in
    rw (other, some, encoded_lower (c ∷ cs) are) (ap or_none (decode_of-encode_lower (c ∷ cs) are))
  where
    not_one : (t : Text) → 1 < length t → bytes_eq t (codes "-") ≡ false
    not_one [] long = absurd (omega arith)
    not_one (a ∷ []) long = absurd (omega arith)
    not_one (a ∷ b ∷ t) long = and_false (a == 45)
      where
        and_false : (b : Bool) → (b && false) ≡ false
        and_false true = refl
        and_false false = refl

-- ---- digits as characters

pairs_encode : (i : ℕ) (s cs : List ℕ) → list_all is_lower_digit s ≡ true → decode_pairs i s ≡ Ok cs → s ≡ encode_lower cs
unfolding encode_with decode_pairs
pairs_encode i [] cs lower said = let none : [] ≡ cs = cc in ap encode_lower none
pairs_encode i (a ∷ []) cs lower said = absurd (cc)
pairs_encode i (a ∷ b ∷ rest) cs lower said =
    let first = and_parts (is_lower_digit a) _ lower in
    let second = and_parts (is_lower_digit b) _ first.1 in
    let high = digit_of a first.0 in
    let low = digit_of b second.0 in
    let pair : pair_value a b i ≡ Ok (high.value * 16 + low.value) = rw (high.read, low.read) refl in
    let stepped = sym (decode_pairs-ok_pair i a b (high.value * 16 + low.value) rest pair) ∙ said in
    go high low (λ bytes. pairs_encode (i + 2) rest bytes second.1) (decode_pairs (i + 2) rest) refl stepped
  where
    go : (high : IsDigitOf a) (low : IsDigitOf b) → ((bytes : List ℕ) → decode_pairs (i + 2) rest ≡ Ok bytes → rest ≡ encode_lower bytes)
        → (r : Result (List ℕ) FromHexError) → decode_pairs (i + 2) rest ≡ r → cons_byte (high.value * 16 + low.value) r ≡ Ok cs
        → a ∷ b ∷ rest ≡ encode_lower cs
    go high low again (Err e) is said = absurd (cc)
    go high low again (Ok bytes) is said =
        let same : (high.value * 16 + low.value) ∷ bytes ≡ cs = cc in
        let one : (high.value * 16 + low.value) / 16 ≡ high.value = omega (arith, low.low) in
        let two : (high.value * 16 + low.value) % 16 ≡ low.value = omega (arith, low.low) in
        let behind = again bytes is in
        let front : a ≡ slice_index lower_digits ((high.value * 16 + low.value) / 16) =
        sym (ap (slice_index lower_digits) one ∙ high.there) in
        let back : b ≡ slice_index lower_digits ((high.value * 16 + low.value) % 16) =
        sym (ap (slice_index lower_digits) two ∙ low.there) in
        (λ j. front j ∷ back j ∷ behind j) ∙ ap encode_lower same

some_said : (r : Result (List ℕ) FromHexError) (cs : List ℕ) → or_none r ≡ Some cs → r ≡ Ok cs
some_said (Ok bytes) cs said = let same : bytes ≡ cs = cc in ap Ok same
some_said (Err e) cs said = absurd (cc)

-- what a text of characters is
pub record AreCharacters (text : Text) (cs : List ℕ) : Type 0 where
  pub is : text ≡ characters_text cs
  pub bytes : IsBytes cs

pub characters_are : (text : Text) (cs : List ℕ) → characters_in text ≡ Some cs → AreCharacters text cs
characters_are text cs said = go (bytes_eq text (codes "-")) refl (nat_lt 0 (length text) && list_all is_lower_digit text) refl
  where
    spelled : (cs : List ℕ) → 0 < length cs → encode_lower cs ≡ characters_text cs
    spelled [] some = absurd (omega arith)
    spelled (c ∷ cs) some = refl

    go : (dash : Bool) → bytes_eq text (codes "-") ≡ dash → (lower : Bool) → (nat_lt 0 (length text) && list_all is_lower_digit text) ≡ lower
        → AreCharacters text cs
    go true dash lower e =
        let none : [] ≡ cs = cc (rw dash at said) in
        let is : text ≡ codes "-" = (bytes_eq-Decides text (codes "-")).0 dash in
        record { is = is ∙ ap characters_text none; bytes = subst IsBytes none (λ k. omega arith) }
    go false dash false e = absurd (cc (rw (dash, e) at said))
    go false dash true e =
        let both = and_parts (nat_lt 0 (length text)) _ e in
        let decoded = some_said (decode_of text) cs (rw (dash, e) at said) in
        let ok = decode_of-ok text cs decoded in
        let even = decode_of-even text ok.0 in
        let whole = pairs_encode 0 text cs both.1 (sym even ∙ decoded) in
        let some = ltb-true 0 (length text) both.0 in
        record { is = whole ∙ spelled cs (omega (arith, some, ok.2)); bytes = ok.3 }

-- ---- strings in octets

abbrev filled : ℕ → List ℕ → List ℕ
filled room cs = cs ++ replicate (room - length cs) 0x00

filled_long : (room : ℕ) (cs : List ℕ) → length cs ≤ room → length (filled room cs) ≡ room
filled_long room cs few =
    let all = length-append cs (replicate (room - length cs) 0x00) in
    let zeros = length-replicate {A = ℕ} (room - length cs) 0x00 in
    omega (arith, all, zeros)

pub string_read : (room count : ℕ) (cs : List ℕ) → count ≡ length cs → count ≤ room
    → string_in (room ∷ count ∷ filled room cs) ≡ Some (string room count cs)
string_read room count cs same few =
    let long : (length (filled room cs) == room) ≡ true = eq-eqb (length (filled room cs)) room (filled_long room cs (omega arith)) in
    let front : take count (filled room cs) ≡ cs = ap (λ (n : ℕ). take n (filled room cs)) same ∙ take-append_seam cs (replicate (room - length cs) 0x00) in
    rw long (ap (λ l. Some (string room count l)) front)

-- what such octets leave unused
pub string_unused : (room count : ℕ) (cs : List ℕ) → count ≡ length cs
    → drop (2 + count) (room ∷ count ∷ filled room cs) ≡ replicate (room - length cs) 0x00
string_unused room count cs same =
    let two : 2 + count ≡ suc (suc (length cs)) = omega arith in
    ap (λ (n : ℕ). drop n (room ∷ count ∷ filled room cs)) two ∙ drop-append_seam cs (replicate (room - length cs) 0x00)

pub record IsString (octets : List ℕ) (room count : ℕ) (cs : List ℕ) : Type 0 where
  pub rest : List ℕ
  pub is : octets ≡ room ∷ count ∷ rest
  pub long : length rest ≡ room
  pub characters : take count rest ≡ cs

pub string_is : (octets : List ℕ) (room count : ℕ) (cs : List ℕ) → string_in octets ≡ Some (string room count cs) → IsString octets room count cs
string_is [] room count cs said = absurd (cc)
string_is (a ∷ []) room count cs said = absurd (cc)
string_is (a ∷ b ∷ rest) room count cs said = go (length rest == a) refl
  where
    go : (t : Bool) → (length rest == a) ≡ t → IsString (a ∷ b ∷ rest) room count cs
    go false e = absurd (cc (rw e at said))
    go true e =
        let same : ◌≡◌ {A = Option Meaning} (Some (string a b (take b rest))) (Some (string room count cs)) = rw e at said in
        let one : a ≡ room = cc in
        let two : b ≡ count = cc in
        let three : take b rest ≡ cs = cc in
        record {
          rest = rest;
          is = λ i. one i ∷ two i ∷ rest;
          long = eqb-true (length rest) a e ∙ one;
          characters = ap (λ (n : ℕ). take n rest) (sym two) ∙ three;
        }

-- how many characters are in use
pub string_count : (octets : List ℕ) (room count : ℕ) (cs : List ℕ) → IsString octets room count cs → count ≤ room → length cs ≡ count
string_count octets room count cs is few =
    ap length (sym is.characters) ∙ length-take-le count is.rest (omega (arith, is.long))

-- what octets have in use is the room, the count and the characters
pub string_used : (octets : List ℕ) (room count : ℕ) (cs : List ℕ) → IsString octets room count cs → count ≤ room
    → take (length octets - length (drop (2 + slice_index octets 1) octets)) octets ≡ room ∷ count ∷ cs
string_used octets room count cs is few =
    ap (λ (o : List ℕ). take (length o - length (drop (2 + slice_index o 1) o)) o) is.is
    ∙ ap (λ (n : ℕ). take n (room ∷ count ∷ is.rest)) by
    ∙ ap (λ l. room ∷ count ∷ l) is.characters
  where
    by : suc (suc (length is.rest)) - length (drop (2 + count) (room ∷ count ∷ is.rest)) ≡ suc (suc count)
    by = let behind = length-drop (2 + count) (room ∷ count ∷ is.rest) in
        let long = is.long in
        omega (arith, behind, long)
