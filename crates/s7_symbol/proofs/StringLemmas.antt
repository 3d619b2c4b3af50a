-- Strings of tags.
use Rattle.std.proofs.Common.{◌≡◌, ◌∙◌, subst, ◌<◌, ◌≤◌, ◌+◌, ◌-◌, ◌*◌, ◌/◌, ◌%◌, ℕ, suc, Bool, true, false, refl, ap, sym, arith, List, [], ◌∷◌, ◌++◌, length, take, drop, replicate, Some, Result, Ok, Err}
use Rattle.std.specs.Prelude.{option_map, cond, ◌==◌, ◌&&◌, nat_le, nat_lt, codes, MatchResult}
use Rattle.std.specs.List.{list_all}
use Rattle.std.specs.Str.{bytes_eq}
use Rattle.std.proofs.lemmas.Bool.{and_parts, eqb-true, le-leb}
use Rattle.std.proofs.Common.{eq-eqb}
use Rattle.std.specs.Result.{result_unwrap_or}
use Rattle.std.proofs.lemmas.Bool.Decides.{nat_tests}
use Rattle.std.proofs.lemmas.List.Sums.{AllPass-from_list_all}
use Rattle.std.proofs.lemmas.Slice.{drop-append-drop, drop-put_mid, take-put_mid}
use Rattle.std.proofs.lemmas.List.{append_assoc, drop-drop, length-append, length-drop, length-replicate, length-take-le}
use borrow.Rule.Slice.PartMut.{put_mid}
use Rattle.hex.specs.Hex.{decode_of, decode_pairs, decode_sized, is_hex_digit}
use Rattle.hex.specs.declared.error.FromHexError.{FromHexError}
use Rattle.hex.proofs.HexLemmas.{decode_of-digits, decode_of-ok, decode_sized-twice}
use Rattle.s7_text.specs.Lines.{Text}
use Rattle.s7_symbol.specs.Meanings.{has_room}
use Rattle.s7_symbol.specs.Values.{PutsSaid, Stands, octets_said, spelled}
use Rattle.s7_symbol.specs.Octets.{octets_spelling}
use Rattle.s7_symbol.specs.Texts.{AreDigitsOf, characters_in, decoded, is_lower_digit, or_none, string_for}
use Rattle.s7_symbol.specs.declared.fault.ValueFault.{ValueFault}
use Rattle.s7_symbol.specs.declared.fault.ValueFault.TheVariants as fault
use Rattle.s7_symbol.specs.declared.kind.TagKind.TheVariants as kind

-- ---- digits

lower_is_hex : (b : ℕ) → is_lower_digit b ≡ true → is_hex_digit b ≡ true
lower_is_hex b is = grind (arith, nat_tests)

all_hex : (text : Text) → list_all is_lower_digit text ≡ true → list_all is_hex_digit text ≡ true
all_hex [] all = refl
all_hex (b ∷ bs) all =
    let parts = and_parts (is_lower_digit b) _ all in
    rw (lower_is_hex b parts.0, all_hex bs parts.1) refl

pub dash_digits : (text : Text) → bytes_eq text (codes "-") ≡ true → AreDigitsOf [] text
unfolding decode_pairs
dash_digits text dash = record { characters = []; decoded = refl; said = rw dash refl }

characters_said : (text : Text) (cs : List ℕ) → bytes_eq text (codes "-") ≡ false → nat_lt 0 (length text) ≡ true
    → list_all is_lower_digit text ≡ true → decode_of text ≡ Ok cs → characters_in text ≡ Some cs
characters_said text cs other some lower decoded = rw (other, some, lower) (ap or_none decoded)

pub pairs_digits : (text : Text) → bytes_eq text (codes "-") ≡ false
    → (nat_lt 0 (length text) && (length text % 2 == 0 && list_all is_lower_digit text)) ≡ true → AreDigitsOf text text
pairs_digits text other pairs =
    let some = and_parts (nat_lt 0 (length text)) _ pairs in
    let even = and_parts (length text % 2 == 0) _ some.1 in
    let decoded = decode_of-digits text (eqb-true (length text % 2) 0 even.0)
    (AllPass-from_list_all is_hex_digit text (all_hex text even.1)) in
    record {
      characters = decoded.0;
      decoded = decoded.1;
      said = characters_said text decoded.0 other some.0 even.1 decoded.1;
    }

-- ---- octets

two_more : (a b : ℕ) → a ≡ b - 2 → 2 ≤ b → suc (suc a) ≡ b
two_more a b e f = omega arith

front_two : (m n : ℕ) (old d : List ℕ) → d ≡ (m ∷ n ∷ []) ++ drop 2 old → take 2 d ≡ m ∷ n ∷ []
front_two m n old d is = ap (take 2) is

-- a string that is put in three pieces
pub string_stands : (m n : ℕ) (cs zeros old d : List ℕ) → 512 ≤ length old → length cs ≡ n → n ≤ m → m ≤ 255
    → d ≡ (m ∷ n ∷ []) ++ drop 2 old → zeros ≡ replicate (m - n) 0
    → put_mid (2 + n) (2 + m - (2 + n)) (put_mid 2 (2 + n - 2) d cs) zeros
    ≡ (m ∷ n ∷ (cs ++ replicate (m - n) 0)) ++ drop (2 + m) old
string_stands m n cs zeros old d room count few most is blank =
    let k : ℕ = 2 + m - (2 + n) in
    let x : List ℕ = put_mid 2 (2 + n - 2) d cs in
    let rest : length (drop 2 old) ≡ length old - 2 = length-drop 2 old in
    let long : length d ≡ length old = ap length is ∙ two_more (length (drop 2 old)) (length old) rest (omega (arith, room)) in
    let front : take (2 + n) x ≡ m ∷ n ∷ cs =
    take-put_mid 2 (2 + n - 2) d cs (2 + n) (omega arith) (omega (arith, long, room)) ∙ ap (λ l. l ++ cs) (front_two m n old d is) in
    let whole : (2 + n) + k ≡ 2 + m = omega arith in
    let tail : drop k (drop (2 + n) x) ≡ drop (2 + m) old =
    drop-drop k (2 + n) x
    ∙ ap (λ j. drop j x) whole
    ∙ drop-put_mid 2 (2 + n - 2) d cs (2 + m) (omega arith) (omega (arith, long, room)) (omega arith)
    ∙ ap (drop (2 + m)) is
    ∙ drop-append-drop 2 old (m ∷ n ∷ []) (2 + m) (omega arith) refl in
    (λ i. front i ++ (blank i ++ tail i))
    ∙ ap (λ l. m ∷ n ∷ l) (sym (append_assoc cs (replicate (m - n) 0) (drop (2 + m) old)))

-- what was decoded into room for it
pub decoded_into : (digits out : List ℕ) (n : ℕ) (cs : List ℕ) (r : Result Unit FromHexError)
    → MatchResult (decode_sized digits n) (λ bytes. (r ≡ Ok tt) × (out ≡ bytes)) (λ e. r ≡ Err e)
    → length digits ≡ 2 * n → decode_of digits ≡ Ok cs → out ≡ cs
decoded_into digits out n cs r got twice is =
    (subst (λ d. MatchResult d (λ bytes. (r ≡ Ok tt) × (out ≡ bytes)) (λ e. r ≡ Err e))
    (decode_sized-twice digits n twice ∙ is) got).1

pub decoded_twice : (digits cs : List ℕ) → decode_of digits ≡ Ok cs → length digits ≡ 2 * length cs
decoded_twice digits cs is = (decode_of-ok digits cs is).2

-- how many octets a part of a room has
part_long : (k i : ℕ) (xs : List ℕ) → i + k ≤ length xs → length (take k (drop i xs)) ≡ k
part_long k i xs within =
    let rest = length-drop i xs in
    length-take-le k (drop i xs) (omega (arith, rest, within))

length_mid : (a k : ℕ) (xs ys : List ℕ) → a + k ≤ length xs → length ys ≡ k → length (put_mid a k xs ys) ≡ length xs
length_mid a k xs ys within long =
    let front = length-take-le a xs (omega arith) in
    let all = length-append (take a xs) (ys ++ drop k (drop a xs)) in
    let back = length-append ys (drop k (drop a xs)) in
    let rest = length-drop k (drop a xs) in
    let first = length-drop a xs in
    omega (arith, front, all, back, rest, first)

pub string_put : (most m n : ℕ) (digits cs out zeros old d : List ℕ) (done : ℕ) (r : Result Unit FromHexError) → 512 ≤ length old
    → m ≡ most → most < 256 → n ≡ length digits / 2 → n ≤ most → decode_of digits ≡ Ok cs → Stands (most ∷ n ∷ []) old d done
    → MatchResult (decode_sized digits (length (take (2 + n - 2) (drop 2 d)))) (λ bytes. (r ≡ Ok tt) × (out ≡ bytes)) (λ e. r ≡ Err e)
    → (((y : ℕ) → y ≡ 0 → y ≡ 0)
    → zeros ≡ replicate (length (take (2 + m - (2 + n)) (drop (2 + n) (put_mid 2 (2 + n - 2) d out)))) 0)
    → Stands (most ∷ length cs ∷ (cs ++ replicate (most - length cs) 0)) old
    (put_mid (2 + n) (2 + m - (2 + n)) (put_mid 2 (2 + n - 2) d out) zeros) (2 + m)
string_put most m n digits cs out zeros old d done r room same small half few is stands got blank =
    let twice = decoded_twice digits cs is in
    let count : length cs ≡ n = omega (arith, twice, half) in
    let rest : length (drop 2 old) ≡ length old - 2 = length-drop 2 old in
    let long : length d ≡ length old = ap length stands.room ∙ two_more (length (drop 2 old)) (length old) rest (omega (arith, room)) in
    let part : length (take (2 + n - 2) (drop 2 d)) ≡ 2 + n - 2 = part_long (2 + n - 2) 2 d (omega (arith, long, room, few, small)) in
    let octets : out ≡ cs = decoded_into digits out _ cs r got (omega (arith, part, twice, count)) is in
    let wide : length (put_mid 2 (2 + n - 2) d out) ≡ length d =
    length_mid 2 (2 + n - 2) d out (omega (arith, long, room, few, small)) (omega (arith, count, ap length octets)) in
    let zero : zeros ≡ replicate (most - n) 0 =
    blank (λ y e. e)
    ∙ ap (λ k. replicate k 0) (part_long (2 + m - (2 + n)) (2 + n) (put_mid 2 (2 + n - 2) d out) (omega (arith, wide, long, room, same, small, few)))
    ∙ ap (λ k. replicate k 0) (left_over m most n same) in
    let put : put_mid (2 + n) (2 + m - (2 + n)) (put_mid 2 (2 + n - 2) d out) zeros
    ≡ (most ∷ n ∷ (cs ++ replicate (most - n) 0)) ++ drop (2 + most) old =
    (λ i. put_mid (2 + n) (2 + same i - (2 + n)) (put_mid 2 (2 + n - 2) d (octets i)) zeros)
    ∙ string_stands most n cs zeros old d room count few (omega (arith, small)) stands.room zero in
    let size : length (most ∷ n ∷ (cs ++ replicate (most - n) 0)) ≡ 2 + most =
    string_long most n cs count few in
    subst (λ (k : ℕ). Stands (most ∷ k ∷ (cs ++ replicate (most - k) 0)) old
    (put_mid (2 + n) (2 + m - (2 + n)) (put_mid 2 (2 + n - 2) d out) zeros) (2 + m)) (sym count) (record {
      count = omega (arith, same, size);
      room = put ∙ ap (λ (k : ℕ). (most ∷ n ∷ (cs ++ replicate (most - n) 0)) ++ drop k old) (sym size);
    })
  where
    left_over : (m most n : ℕ) → m ≡ most → 2 + m - (2 + n) ≡ most - n
    left_over m most n e = omega arith

    string_long : (most n : ℕ) (cs : List ℕ) → length cs ≡ n → n ≤ most → length (most ∷ n ∷ (cs ++ replicate (most - n) 0)) ≡ 2 + most
    string_long most n cs count few =
        let all = length-append cs (replicate (most - n) 0) in
        let blanks = length-replicate {A = ℕ} (most - n) 0 in
        let sum : suc (suc (length (cs ++ replicate (most - n) 0))) ≡ 2 + most = omega (arith, all, blanks) in
        sum

-- ---- what is said of a text

characters_long : (digits text : List ℕ) (are : AreDigitsOf digits text) → length are.characters ≡ length digits / 2
characters_long digits text are =
    let twice = decoded_twice digits are.characters are.decoded in
    omega (arith, twice)

abbrev said_of : ℕ → List ℕ → Result (List ℕ) ValueFault
said_of most cs = spelled (kind.Text most) (octets_spelling (kind.Text most)) (Some (string_for most cs))

past_by : (most n : ℕ) (cs : List ℕ) → length cs ≡ n → most < n → said_of most cs ≡ Err fault.Range
past_by most n cs long more =
    let over : nat_le (length cs) most ≡ false = grind (arith, nat_tests) in
    rw (eq-eqb most most refl, over) refl

fits_by : (most n : ℕ) (cs : List ℕ) → length cs ≡ n → n ≤ most → has_room most ≡ true → said_of most cs ≡ Ok (octets_spelling (kind.Text most) (string_for most cs))
fits_by most n cs long few some =
    let within : nat_le (length cs) most ≡ true = le-leb (length cs) most (omega arith) in
    rw (eq-eqb most most refl, within, some) refl

-- a type that has no room of 1 to 254 characters has no value
roomless : (most : ℕ) (cs : List ℕ) → has_room most ≡ false → said_of most cs ≡ Err fault.Range
roomless most cs none = rw (eq-eqb most most refl, none) (either (nat_le (length cs) most))
  where
    either : (b : Bool) → cond (b && false) (Ok (octets_spelling (kind.Text most) (string_for most cs))) (Err fault.Range) ≡ Err fault.Range
    either true = refl
    either false = refl

said_is : (most : ℕ) (digits text : List ℕ) (are : AreDigitsOf digits text)
    → octets_said (kind.Text most) text ≡ said_of most are.characters
said_is most digits text are =
    ap (λ o. spelled (kind.Text most) (octets_spelling (kind.Text most)) (option_map (string_for most) o)) are.said

pub string_roomless : (most : ℕ) (digits text old : List ℕ) → has_room most ≡ false → AreDigitsOf digits text
    → PutsSaid (octets_said (kind.Text most) text) old old (Err fault.Range)
string_roomless most digits text old none are =
    subst (λ (r : Result (List ℕ) ValueFault). PutsSaid r old old (Err fault.Range))
    (sym (said_is most digits text are ∙ roomless most are.characters none)) (refl, refl)

pub string_past : (most : ℕ) (digits text : List ℕ) (top : ℕ) (old : List ℕ) → top ≡ most → top < length digits / 2 → AreDigitsOf digits text
    → PutsSaid (octets_said (kind.Text most) text) old old (Err fault.Range)
string_past most digits text top old same more are =
    let said = said_is most digits text are ∙ past_by most (length digits / 2) are.characters (characters_long digits text are) (omega arith) in
    subst (λ (r : Result (List ℕ) ValueFault). PutsSaid r old old (Err fault.Range)) (sym said) (refl, refl)

pub string_said : (most : ℕ) (digits text : List ℕ) (top : ℕ) (old new : List ℕ) (n : ℕ) → has_room most ≡ true → top ≡ most → length digits / 2 ≤ top → AreDigitsOf digits text
    → Stands (octets_spelling (kind.Text most) (string_for most (decoded digits))) old new n
    → PutsSaid (octets_said (kind.Text most) text) old new (Ok n)
string_said most digits text top old new n some same few are stands =
    let is : decoded digits ≡ are.characters = ap (λ r. result_unwrap_or r []) are.decoded in
    let said = said_is most digits text are ∙ fits_by most (length digits / 2) are.characters (characters_long digits text are) (omega arith) some in
    subst (λ (r : Result (List ℕ) ValueFault). PutsSaid r old new (Ok n)) (sym said)
    (subst (λ cs. Stands (octets_spelling (kind.Text most) (string_for most cs)) old new n) is stands)
