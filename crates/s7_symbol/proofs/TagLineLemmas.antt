-- The line of a tag is read as that tag.
use Rattle.std.proofs.Common.{◌≡◌, ◌∙◌, ◌<◌, ◌≤◌, ◌+◌, ◌*◌, ◌/◌, ◌%◌, ◌^◌, ℕ, Bool, true, false, refl, ap, sym, subst, arith, [], ◌∷◌, ◌++◌, length, Some, None, Ok, inl, inr}
use Rattle.std.specs.Prelude.{◌==◌, ◌&&◌, ◌||◌, not, codes, nat_le, nat_lt}
use Rattle.std.specs.List.{list_all}
use Rattle.std.specs.Fmt.{decimal}
use Rattle.std.proofs.Math.Seq.{take-append_seam}
use Rattle.std.proofs.lemmas.Bool.{and_parts, eqb-true, le-leb, leb-true, lt-ltb}
use Rattle.std.proofs.lemmas.Bool.Decides.{eqb_tells}
use Rattle.std.proofs.lemmas.Fmt.{decimal_nonempty, length-decimal-le}
use Rattle.std.proofs.lemmas.List.Folds.{list_all-append}
use Rattle.s7_item.specs.Codes.{data_blocks, flags, inputs, outputs}
use Rattle.s7_text.specs.Lines.{Text}
use Rattle.s7_text.specs.Fields.{field_of, fields_after, first_field, number_of, parts_around, rest_of}
use Rattle.s7_symbol.specs.Places.{address_of, bit_at, bit_place, block, in_bits, key_of, up_to}
use Rattle.s7_symbol.specs.Tags.{bracketed, closed, fields_of, first_on, is_bit, is_name_letter, kind_named, last_field, second_on, tag_of, text_kind, third_on}
use Rattle.s7_symbol.specs.TagLines.{HasLine, has_key, is_type, key_text, kind_text, spaced, start_text, tag_line}
use Rattle.s7_symbol.specs.declared.kind.TagKind.{TagKind}
use Rattle.s7_symbol.specs.declared.kind.TagKind.TheVariants as kind
use Rattle.s7_symbol.specs.declared.tag.Tag.{Tag}
use Rattle.s7_symbol.proofs.MarkLemmas.{all_also, around, behind_mark, digits_lack, found_at, found_none, lacks, no_bracket, no_point, no_space, no_space_letter}
use Rattle.s7_symbol.proofs.PlainLemmas.{digits_read, plain_digits}

-- ---- fields

field_is : (xs rest : Text) → lacks 32 xs ≡ true → field_of (xs ++ 32 ∷ rest) ≡ xs
field_is xs rest all = ap (first_field (xs ++ 32 ∷ rest)) (found_at 32 xs rest all) ∙ take-append_seam xs (32 ∷ rest)

rest_is : (xs rest : Text) → lacks 32 xs ≡ true → rest_of (xs ++ 32 ∷ rest) ≡ Some rest
rest_is xs rest all = ap (fields_after (xs ++ 32 ∷ rest)) (found_at 32 xs rest all) ∙ ap Some (behind_mark 32 xs rest)

field_last : (xs : Text) → lacks 32 xs ≡ true → field_of xs ≡ xs
field_last xs all = ap (first_field xs) (found_none 32 xs all)

rest_last : (xs : Text) → lacks 32 xs ≡ true → rest_of xs ≡ None
rest_last xs all = ap (fields_after xs) (found_none 32 xs all)

fields_read : (a b c d : Text) → lacks 32 a ≡ true → lacks 32 b ≡ true → lacks 32 c ≡ true → lacks 32 d ≡ true
    → fields_of (spaced a (spaced b (spaced c d))) ≡ Some (record { name = a; of = b; key = c; start = d })
fields_read a b c d ha hb hc hd =
    let third : Text = spaced c d in
    let second : Text = spaced b third in
    (λ i. first_on (field_is a second ha i) (rest_is a second ha i))
    ∙ (λ i. second_on a (field_is b third hb i) (rest_is b third hb i))
    ∙ (λ i. third_on a b (field_is c d hc i) (rest_is c d hc i))
    ∙ (λ i. last_field a b c (field_last d hd i) (rest_last d hd i))

-- ---- numbers

number_read : (n : ℕ) → n < 10000000000 → number_of (decimal n) ≡ Some n
number_read n few =
    let small : n < 2 ^ 64 = omega arith in
    let some : nat_lt 0 (length (decimal n)) ≡ true = lt-ltb 0 (length (decimal n)) (decimal_nonempty n small) in
    let short : nat_le (length (decimal n)) 10 ≡ true = le-leb (length (decimal n)) 10 (length-decimal-le 10 n (omega arith) (omega arith) small) in
    rw (some, short, plain_digits n small) (ap Some (digits_read n small))

up_to_is : (low high n : ℕ) → low ≤ n → n ≤ high → up_to low high (Some n) ≡ Some n
up_to_is low high n a b = rw (le-leb low n a, le-leb n high b) refl

number_up_to : (low high n : ℕ) → low ≤ n → n ≤ high → n < 10000000000 → up_to low high (number_of (decimal n)) ≡ Some n
number_up_to low high n a b few = ap (up_to low high) (number_read n few) ∙ up_to_is low high n a b

-- ---- types

closed_read : (most : ℕ) → 1 ≤ most → most ≤ 254 → closed (parts_around 93 (decimal most ++ 93 ∷ [])) ≡ Some (kind.Text most)
closed_read most low high =
    ap closed (around 93 (decimal most) [] (digits_lack 93 no_bracket most (omega arith)))
    ∙ ap text_kind (number_up_to 1 254 most low high (omega arith))

kind_read : (of : TagKind) → is_type of ≡ true → kind_named (kind_text of) ≡ Some of
kind_read kind.Bool room = refl
kind_read kind.Int room = refl
kind_read kind.Dint room = refl
kind_read kind.Bcd room = refl
kind_read kind.S5Time room = refl
kind_read (kind.Text most) room =
    let both = and_parts (nat_le 1 most) (nat_le most 254) room in
    ap bracketed (around 91 (codes "STRING") (decimal most ++ 93 ∷ []) refl)
    ∙ closed_read most (leb-true 1 most both.0) (leb-true most 254 both.1)
kind_read kind.DateTime room = refl

append_lacks : (mark : ℕ) (xs ys : Text) → lacks mark xs ≡ true → lacks mark ys ≡ true → lacks mark (xs ++ ys) ≡ true
append_lacks mark xs ys hx hy = list_all-append (λ b. not (b == mark)) xs ys ∙ rw (hx, hy) refl

kind_lacks : (of : TagKind) → is_type of ≡ true → lacks 32 (kind_text of) ≡ true
kind_lacks kind.Bool room = refl
kind_lacks kind.Int room = refl
kind_lacks kind.Dint room = refl
kind_lacks kind.Bcd room = refl
kind_lacks kind.S5Time room = refl
kind_lacks (kind.Text most) room =
    let both = and_parts (nat_le 1 most) (nat_le most 254) room in
    let few = leb-true most 254 both.1 in
    append_lacks 32 (decimal most) (93 ∷ []) (digits_lack 32 no_space most (omega arith)) refl
kind_lacks kind.DateTime room = refl

-- ---- keys

-- what a key's text and its reading are
record IsKeyRead (area db : ℕ) (text : Text) : Type 0 where
  read : key_of text ≡ Some (record { area = area; db = db })
  without : lacks 32 text ≡ true

block_read : (db : ℕ) → (nat_le 1 db && nat_le db 65535) ≡ true → IsKeyRead data_blocks db (codes "DB" ++ decimal db)
block_read db range =
    let both = and_parts (nat_le 1 db) (nat_le db 65535) range in
    let low = leb-true 1 db both.0 in
    let high = leb-true db 65535 both.1 in
    record {
      read = ap block (number_up_to 1 65535 db low high (omega arith));
      without = digits_lack 32 no_space db (omega arith);
    }

single_read : (area db : ℕ) (text : Text) → key_of text ≡ Some (record { area = area; db = 0 }) → lacks 32 text ≡ true → (db == 0) ≡ true
    → IsKeyRead area db text
single_read area db text read without none =
    let zero = eqb-true db 0 none in
    record { read = read ∙ (λ i. Some (record { area = area; db = sym zero i })); without = without }

key_read : (area db : ℕ) → has_key area db ≡ true → IsKeyRead area db (key_text area db)
key_read area db has = elim (eqb_tells area data_blocks) [
  | inl is ↦
      let text : codes "DB" ++ decimal db ≡ key_text area db = sym (rw is.0 refl) in
      subst (λ (a : ℕ). IsKeyRead a db (key_text area db)) (sym is.1) (subst (IsKeyRead data_blocks db) text (block_read db (rw is.0 at has)))
  | inr other ↦ other_read other.0 (rw other.0 at has)
]
  where
    other_read : (area == data_blocks) ≡ false → ((area == inputs || (area == outputs || area == flags)) && db == 0) ≡ true
        → IsKeyRead area db (key_text area db)
    other_read block has =
        let both = and_parts (area == inputs || (area == outputs || area == flags)) (db == 0) has in
        elim (eqb_tells area inputs) [
          | inl input ↦
              let text : codes "PE" ≡ key_text area db = sym (rw (block, input.0) refl) in
              subst (IsKeyRead area db) text (subst (λ (a : ℕ). IsKeyRead a db (codes "PE")) (sym input.1) (single_read inputs db (codes "PE") refl refl both.1))
          | inr no_input ↦ elim (eqb_tells area outputs) [
            | inl output ↦
                let text : codes "PA" ≡ key_text area db = sym (rw (block, no_input.0, output.0) refl) in
                subst (IsKeyRead area db) text (subst (λ (a : ℕ). IsKeyRead a db (codes "PA")) (sym output.1) (single_read outputs db (codes "PA") refl refl both.1))
            | inr no_output ↦
                let text : codes "MK" ≡ key_text area db = sym (rw (block, no_input.0, no_output.0) refl) in
                let flag = eqb-true area flags (rw (no_input.0, no_output.0) at both.0) in
                subst (IsKeyRead area db) text (subst (λ (a : ℕ). IsKeyRead a db (codes "MK")) (sym flag) (single_read flags db (codes "MK") refl refl both.1))
          ]
        ]

-- ---- starts

start_read : (b : Bool) (address : ℕ) → address < 16777216 → (b ≡ false → address % 8 ≡ 0) → address_of b (start_text b address) ≡ Some address
start_read true address few octet =
    let found = around 46 (decimal (address / 8)) (decimal (address % 8)) (digits_lack 46 no_point (address / 8) (omega arith)) in
    let place = number_up_to 0 2097151 (address / 8) (omega arith) (omega arith) (omega arith) in
    let bit = number_up_to 0 7 (address % 8) (omega arith) (omega arith) (omega arith) in
    let whole : address / 8 * 8 + address % 8 ≡ address = omega arith in
    ap bit_place found ∙ (λ i. bit_at (place i) (bit i)) ∙ ap Some whole
start_read false address few octet =
    let place = number_up_to 0 2097151 (address / 8) (omega arith) (omega arith) (omega arith) in
    let even = octet refl in
    let whole : address / 8 * 8 ≡ address = omega arith in
    ap in_bits place ∙ ap Some whole

start_lacks : (b : Bool) (address : ℕ) → address < 16777216 → lacks 32 (start_text b address) ≡ true
start_lacks true address few =
    append_lacks 32 (decimal (address / 8)) (46 ∷ decimal (address % 8)) (digits_lack 32 no_space (address / 8) (omega arith))
    (digits_lack 32 no_space (address % 8) (omega arith))
start_lacks false address few = digits_lack 32 no_space (address / 8) (omega arith)

-- ---- the line

pub line_read : (t : Tag) → HasLine t → tag_of (tag_line t) ≡ Ok t
line_read t has =
    let letters = (and_parts (nat_le 1 (length t.name) && nat_le (length t.name) 32) (list_all is_name_letter t.name) has.tag.name).1 in
    let name = all_also is_name_letter (λ b. not (b == 32)) no_space_letter t.name letters in
    let key = key_read t.item.area t.item.db has.key in
    let fields = fields_read t.name (kind_text t.kind) (key_text t.item.area t.item.db) (start_text (is_bit t.kind) t.item.address)
    name (kind_lacks t.kind has.kind) key.without (start_lacks (is_bit t.kind) t.item.address has.address) in
    rw (fields, has.tag.name, kind_read t.kind has.kind, key.read, start_read (is_bit t.kind) t.item.address has.address has.octet)
    (λ i. Ok (record {
      name = t.name;
      kind = t.kind;
      item = record {
        area = t.item.area;
        db = t.item.db;
        word = sym has.tag.word i;
        count = sym has.tag.size i;
        address = t.item.address;
      };
    }))
