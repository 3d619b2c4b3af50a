-- The text of windows says these windows.
use Rattle.std.proofs.Common.{◌≡◌, ◌∙◌, ◌+◌, ◌^◌, ◌≤◌, ◌<◌, ℕ, Bool, true, false, refl, ap, sym, subst, arith, rules, List, [], ◌∷◌, ◌++◌, length, map, Option, Some, Ok, inl, inr, eq-eqb}
use Rattle.std.specs.Prelude.{◌==◌, ◌&&◌, ◌||◌, not, nat_le, nat_lt, codes}
use Rattle.std.specs.List.{AllByRecursion, list_all}
use Rattle.std.specs.Char.{is_ascii_digit}
use Rattle.std.specs.Fmt.{decimal}
use Rattle.std.specs.Str.Parse.{digits_value}
use Rattle.std.proofs.lemmas.Bool.{and_parts, le-leb, lt-ltb}
use Rattle.std.proofs.lemmas.Bool.Decides.{eqb_tells, nat_tests}
use Rattle.std.proofs.lemmas.Fmt.{decimal_nonempty, digits_decimal, digits_value-decimal, length-decimal-le}
use Rattle.std.proofs.lemmas.List.Folds.{list_all-append}
use Rattle.std.proofs.lemmas.Str.Parse.{IsDigitsTest, IsNumeralModel, numerals_by_value}
use Rattle.s7_area.specs.Keys.{is_numbered}
use Rattle.s7_area.specs.Registers.{most_octets}
use Rattle.s7_area.specs.declared.key.AreaKey.{AreaKey}
use Rattle.s7_item.specs.Codes.{data_blocks, flags, inputs, outputs}
use Rattle.s7_text.specs.Fields.{number_of}
use Rattle.s7_text.specs.Lines.{Text, lines, with_first, is_passed}
use Rattle.s7_relay.specs.File.{spoken, terms_in}
use Rattle.s7_relay.specs.Keys.{has_octets}
use Rattle.s7_relay.specs.Laws.{HasNumbers, WindowsHaveTexts}
use Rattle.s7_relay.specs.Line.{around_sign, block, fields, is_word, key_named, line_said, numbered, terms_of, up_to, worded}
use Rattle.s7_relay.specs.Spelling.{key_text, spaced, window_text, windows_text}
use Rattle.s7_relay.specs.declared.windows.Window.{Window}

-- ---- numbers

abbrev AreDigits : Text → Type 0
AreDigits text = list_all is_ascii_digit text ≡ true

tells_digits : IsDigitsTest AreDigits
tells_digits = search rules

own : IsNumeralModel AreDigits (digits_value 10)
own = numerals_by_value AreDigits tells_digits

number_read : (n : ℕ) → n < 10000000000 → number_of (decimal n) ≡ Some n
number_read n few =
    let small : n < 2 ^ 64 = omega arith in
    let some : nat_lt 0 (length (decimal n)) ≡ true = lt-ltb 0 (length (decimal n)) (decimal_nonempty n small) in
    let short : nat_le (length (decimal n)) 10 ≡ true = le-leb (length (decimal n)) 10 (length-decimal-le 10 n (omega arith) (omega arith) small) in
    rw (some, short, digits_decimal own n small) (ap Some (digits_value-decimal own n small))

number_up_to : (low high n : ℕ) → low ≤ n → n ≤ high → n < 10000000000 → up_to low high (number_of (decimal n)) ≡ Some n
number_up_to low high n a b few = ap (up_to low high) (number_read n few) ∙ rw (le-leb low n a, le-leb n high b) refl

-- ---- what stands in a field and in a line

-- no octet of a field is a space or ends a line
abbrev is_solid : ℕ → Bool
is_solid b = nat_le 48 b

abbrev is_inner : ℕ → Bool
is_inner b = nat_le 48 b || b == 32

all_also : (p q : ℕ → Bool) → ((b : ℕ) → p b ≡ true → q b ≡ true) → (text : Text) → list_all p text ≡ true → list_all q text ≡ true
all_also p q also [] all = refl
all_also p q also (b ∷ bs) all =
    let both = and_parts (p b) _ all in
    rw (also b both.0, all_also p q also bs both.1) refl

digit_solid : (b : ℕ) → is_ascii_digit b ≡ true → is_solid b ≡ true
digit_solid b is = grind (arith, nat_tests)

solid_inner : (b : ℕ) → is_solid b ≡ true → is_inner b ≡ true
solid_inner b is = grind (arith, nat_tests)

decimal_solid : (n : ℕ) → n < 2 ^ 64 → list_all is_solid (decimal n) ≡ true
decimal_solid n small = all_also is_ascii_digit is_solid digit_solid (decimal n) (digits_decimal own n small)

-- ---- fields

not_space : (b : ℕ) → is_solid b ≡ true → (b == 32) ≡ false
not_space b is = grind (arith, nat_tests)

field_more : (a rest : Text) → list_all is_solid a ≡ true → fields (a ++ 32 ∷ rest) ≡ a ∷ fields rest
field_more [] rest all = refl
field_more (b ∷ bs) rest all =
    let both = and_parts (is_solid b) _ all in
    rw (not_space b both.0) (ap (with_first b) (field_more bs rest both.1))

field_last : (a : Text) → list_all is_solid a ≡ true → fields a ≡ a ∷ []
field_last [] all = refl
field_last (b ∷ bs) all =
    let both = and_parts (is_solid b) _ all in
    rw (not_space b both.0) (ap (with_first b) (field_last bs both.1))

-- ---- keys

-- the text of a name says it, and begins with no #
record IsKeyRead (key : AreaKey) (text : Text) : Type 0 where
  word : is_word text ≡ true
  read : key_named text ≡ Some key
  solid : list_all is_solid text ≡ true
  heard : (rest : Text) → is_passed (text ++ rest) ≡ false

key_is : (key : AreaKey) (area number : ℕ) → key.area ≡ area → key.number ≡ number
    → ◌≡◌ {A = Option AreaKey} (Some (record { area = area; number = number })) (Some key)
key_is key area number a n = (λ i. Some (record { area = sym a i; number = sym n i }))

block_read : (key : AreaKey) → key.area ≡ data_blocks → 1 ≤ key.number → key.number < 65536 → IsKeyRead key (codes "DB" ++ decimal key.number)
block_read key area low high = record {
  word = refl;
  read = ap block (number_up_to 1 65535 key.number low (omega arith) (omega arith)) ∙ key_is key data_blocks key.number area refl;
  solid = decimal_solid key.number (omega arith);
  heard = λ rest. refl;
}

single_read : (key : AreaKey) (area : ℕ) (text : Text) → key.area ≡ area → key.number ≡ 0 → is_word text ≡ true
    → key_named text ≡ Some (record { area = area; number = 0 }) → list_all is_solid text ≡ true
    → ((rest : Text) → is_passed (text ++ rest) ≡ false) → IsKeyRead key text
single_read key area text is none word read solid heard = record {
  word = word;
  read = read ∙ key_is key area 0 is none;
  solid = solid;
  heard = heard;
}

-- which name it is
data Kinds (key : AreaKey) : Type 0 where
  Block : key.area ≡ data_blocks → 1 ≤ key.number → Kinds key
  Input : key.area ≡ inputs → key.number ≡ 0 → Kinds key
  Output : key.area ≡ outputs → key.number ≡ 0 → Kinds key
  Flag : key.area ≡ flags → key.number ≡ 0 → Kinds key

kinds : (key : AreaKey) → has_octets key ≡ true → Kinds key
kinds key has = elim (eqb_tells key.area data_blocks) [
  | inl is ↦ Block is.1 (some (rw is.0 at has))
  | inr no_block ↦ elim (eqb_tells key.area inputs) [
    | inl is ↦ Input is.1 (zero no_block.0 has)
    | inr no_input ↦ elim (eqb_tells key.area outputs) [
      | inl is ↦ Output is.1 (zero no_block.0 has)
      | inr no_output ↦ Flag (flag no_block.0 no_input.0 no_output.0 has) (zero no_block.0 has)
    ]
  ]
]
  where
    some : ((not (key.number == 0)) && not (is_numbered key.area)) ≡ true → 1 ≤ key.number
    some h = grind (arith, nat_tests)

    zero : (key.area == data_blocks) ≡ false → has_octets key ≡ true → key.number ≡ 0
    zero other h = grind (arith, nat_tests)

    flag : (key.area == data_blocks) ≡ false → (key.area == inputs) ≡ false → (key.area == outputs) ≡ false → has_octets key ≡ true
        → key.area ≡ flags
    flag a b d h = grind (arith, nat_tests)

key_by : (key : AreaKey) → key.number < 65536 → Kinds key → IsKeyRead key (key_text key)
key_by key few (Block is some) =
    subst (IsKeyRead key) (sym (rw (eq-eqb key.area data_blocks is) refl)) (block_read key is some few)
key_by key few (Input is none) =
    let text : codes "PE" ≡ key_text key = sym (ap (λ (a : ℕ). key_text (record { area = a; number = key.number })) is) in
    subst (IsKeyRead key) text (single_read key inputs (codes "PE") is none refl refl refl (λ rest. refl))
key_by key few (Output is none) =
    let text : codes "PA" ≡ key_text key = sym (ap (λ (a : ℕ). key_text (record { area = a; number = key.number })) is) in
    subst (IsKeyRead key) text (single_read key outputs (codes "PA") is none refl refl refl (λ rest. refl))
key_by key few (Flag is none) =
    let text : codes "MK" ≡ key_text key = sym (ap (λ (a : ℕ). key_text (record { area = a; number = key.number })) is) in
    subst (IsKeyRead key) text (single_read key flags (codes "MK") is none refl refl refl (λ rest. refl))

key_read : (key : AreaKey) → has_octets key ≡ true → key.number < 65536 → IsKeyRead key (key_text key)
key_read key has few = key_by key few (kinds key has)

-- ---- a line

near_read : (w : Window) → w.near.number < 65536 → IsKeyRead w.near (key_text w.near)
near_read w few = key_read w.near (and_parts (has_octets w.near) (has_octets w.far) w.octets).0 few

far_read : (w : Window) → w.far.number < 65536 → IsKeyRead w.far (key_text w.far)
far_read w few = key_read w.far (and_parts (has_octets w.near) (has_octets w.far) w.octets).1 few

fields_read : (a b c d : Text) → list_all is_solid a ≡ true → list_all is_solid b ≡ true → list_all is_solid c ≡ true → list_all is_solid d ≡ true
    → fields (spaced a (spaced b (spaced (codes "=") (spaced c d)))) ≡ a ∷ b ∷ codes "=" ∷ c ∷ d ∷ []
fields_read a b c d ha hb hc hd =
    field_more a (spaced b (spaced (codes "=") (spaced c d))) ha
    ∙ ap (λ l. a ∷ l) (field_more b (spaced (codes "=") (spaced c d)) hb)
    ∙ ap (λ l. a ∷ b ∷ l) (field_more (codes "=") (spaced c d) refl)
    ∙ ap (λ l. a ∷ b ∷ codes "=" ∷ l) (field_more c d hc)
    ∙ ap (λ l. a ∷ b ∷ codes "=" ∷ c ∷ l) (field_last d hd)

terms_read : (w : Window) → w.near.number < 65536 → w.far.number < 65536
    → terms_of (record { near = key_text w.near; length = decimal w.length; far = key_text w.far; offset = decimal w.offset }) ≡ Some (terms_in w)
terms_read w near far =
    let few = w.within in
    let length = number_up_to 1 most_octets w.length w.some (omega arith) (omega arith) in
    let offset = number_up_to 0 most_octets w.offset (omega arith) (omega arith) (omega arith) in
    let sum : nat_le (w.length + w.offset) most_octets ≡ true = le-leb (w.length + w.offset) most_octets w.within in
    rw ((near_read w near).read, length, (far_read w far).read, offset, sum) refl

pub line_read : (w : Window) → w.near.number < 65536 → w.far.number < 65536 → line_said (window_text w) ≡ Ok (terms_in w)
line_read w near far =
    let few = w.within in
    let a = near_read w near in
    let b = far_read w far in
    let cut = fields_read (key_text w.near) (decimal w.length) (key_text w.far) (decimal w.offset)
    a.solid (decimal_solid w.length (omega arith)) b.solid (decimal_solid w.offset (omega arith)) in
    ap (λ l. worded (around_sign l)) cut ∙ rw (a.word, b.word) (ap numbered (terms_read w near far))

-- ---- lines

spaced_inner : (a b : Text) → list_all is_solid a ≡ true → list_all is_inner b ≡ true → list_all is_inner (spaced a b) ≡ true
spaced_inner a b ha hb = list_all-append is_inner a (32 ∷ b) ∙ rw (all_also is_solid is_inner solid_inner a ha, hb) refl

line_inner : (w : Window) → w.near.number < 65536 → w.far.number < 65536 → list_all is_inner (window_text w) ≡ true
line_inner w near far =
    let few = w.within in
    let fourth : Text = spaced (key_text w.far) (decimal w.offset) in
    let third : Text = spaced (codes "=") fourth in
    let second : Text = spaced (decimal w.length) third in
    let d = all_also is_solid is_inner solid_inner (decimal w.offset) (decimal_solid w.offset (omega arith)) in
    let c = spaced_inner (key_text w.far) (decimal w.offset) (far_read w far).solid d in
    let b = spaced_inner (codes "=") fourth refl c in
    let a = spaced_inner (decimal w.length) third (decimal_solid w.length (omega arith)) b in
    spaced_inner (key_text w.near) second (near_read w near).solid a

no_end : (b : ℕ) → is_inner b ≡ true → (b == 10) ≡ false
no_end b is = grind (arith, nat_tests)

no_return : (b : ℕ) → is_inner b ≡ true → (b == 13) ≡ false
no_return b is = grind (arith, nat_tests)

line_cut : (text rest : Text) → list_all is_inner text ≡ true → lines (text ++ 10 ∷ rest) ≡ text ∷ lines rest
line_cut [] rest all = refl
line_cut (b ∷ bs) rest all =
    let both = and_parts (is_inner b) _ all in
    rw (no_end b both.0, no_return b both.0) (ap (with_first b) (line_cut bs rest both.1))

each_read : (ws : List Window) → AllByRecursion HasNumbers ws → map line_said (spoken (lines (windows_text ws))) ≡ map Ok (map terms_in ws)
each_read [] all = refl
each_read (w ∷ ws) all =
    let numbers = all.0 in
    let heard : is_passed (window_text w) ≡ false = (near_read w numbers.near).heard _ in
    ap (λ l. map line_said (spoken l)) (line_cut (window_text w) (windows_text ws) (line_inner w numbers.near numbers.far))
    ∙ rw heard ((λ i. line_read w numbers.near numbers.far i ∷ each_read ws all.1 i))

pub texts_read : WindowsHaveTexts
texts_read ws all apart = record { each = each_read ws all; apart = apart }
