-- The lines of jobs one by one: what is written for a job is read as this job.
use Rattle.std.proofs.Common.{◌≡◌, ◌≢◌, ◌==◌, ◌&&◌, ◌||◌, not, ◌+◌, ◌*◌, ◌/◌, ◌%◌, ◌<◌, ◌≤◌, ◌^◌, ℕ, Bool, true, false, cond, refl, ap}
use Rattle.std.proofs.Common.{sym, subst, ◌∙◌, List, [], ◌∷◌, ◌++◌, length, map, take, drop, arith, nat_le, codes, le-leb, inl, inr}
use Rattle.std.proofs.Common.{Option, None, Some, Result, Ok, Err}
use Rattle.std.proofs.lemmas.Bool.{and_parts, eqb-true, leb-true}
use Rattle.std.proofs.lemmas.Bool.Decides.{eqb_tells, nat_tests}
use Rattle.std.proofs.lemmas.Fmt.{decimal_is_IsNumeral}
use Rattle.std.proofs.lemmas.List.{take-append-drop}
use Rattle.std.proofs.lemmas.Nat.{div-mul-add, mod-mul-add}
use Rattle.std.specs.List.{AllByRecursion, list_all, position}
use Rattle.std.specs.Char.{is_ascii_digit}
use Rattle.std.specs.Fmt.{decimal}
use Rattle.hex.specs.Hex.{IsBytes, decode_of, encode_lower, is_hex_digit, lower_digits}
use Rattle.hex.proofs.HexLemmas.{decode_of-encode_lower, length-encode_with}
use Rattle.s7_outer.specs.Numbers.{two_octets}
use Rattle.s7_item.specs.Codes.{inputs, outputs, flags, data_blocks, counters, timers, bits, bytes, characters, words}
use Rattle.s7_item.specs.Codes.{integers, double_words, double_integers, reals}
use Rattle.s7_item.specs.declared.item.Item.{Item}
use Rattle.s7_area.specs.declared.key.AreaKey.{AreaKey}
use Rattle.s7_block.specs.declared.block.BlockName.{BlockName}
use Rattle.s7_clock.specs.Moment.{IsHeld}
use Rattle.s7_dialogue.specs.declared.job.Job.{Job}
use Rattle.s7_dialogue.specs.declared.job.Job.TheVariants as job
use Rattle.s7_text.specs.Lines.{Text, lines, is_passed, next_line, with_first}
use Rattle.s7_text.specs.Fields.{number_of}
use Rattle.s7_text.specs.Moments.{Parts, date_text, digit_of, four_digits, moment_named, three_digits, two_digits}
use Rattle.s7_text.proofs.LineLemmas.{isn't}
use Rattle.s7_script.specs.Spelling.{name_of}
use Rattle.s7_script.specs.Script.{◌>>=◌, Place, Written, within, ended, key_of, word_named, word_of, is_point, bit_place, octet_place}
use Rattle.s7_script.specs.Script.{address_of, with_start, with_word, place, item_at, with_count, read_item, element_size, counted}
use Rattle.s7_script.specs.Script.{with_octets, with_digits, with_hex, written_item, parts, read_items, written_items, kind_named}
use Rattle.s7_script.specs.Script.{with_number, block_named, with_image, octet_in, with_value, two_octets_in, with_index, moment_job, is_printable, job_named}
use Rattle.s7_script.specs.ScriptSpelling.{has_key, key_text, has_word, word_text, is_numbered, start_text, HasPlace, placed_text, HasText}
use Rattle.s7_script.specs.ScriptSpelling.{item_text, IsWritable, written_text, size_of, AreWritable, written_texts, joined, has_kind, kind_text}
use Rattle.s7_script.specs.ScriptSpelling.{block_text, HasBlock, IsNumber, parts_of, HasLine, job_text, script_text, on_lines, ScriptsReadBack}
use Rattle.s7_script.specs.Tagged.{Tagged, tagged_of, untagged, at_line, line_jobs, script_lines}
use Rattle.s7_script.specs.declared.scripts.script_fault.ScriptKind.{ScriptKind}
use Rattle.s7_script.specs.declared.scripts.script_fault.ScriptKind.TheVariants as kind
use Rattle.s7_script.specs.declared.scripts.script_fault.ScriptFault.{ScriptFault}
use Rattle.s7_script.specs.declared.scripts.script_list.ScriptLine.{ScriptLine}
use Rattle.s7_script.proofs.DateLemmas.{moment_back, no_feed, no_return, no_semicolon, no_space}
use Rattle.s7_script.proofs.LawLemmas.{AllPlain, Lacks, digits_lack, digits_plain, drop_front, is_plain, lacks_by_test, line_then}
use Rattle.s7_script.proofs.LawLemmas.{number_of-decimal, plain-append, plain_by_test, position_at, spaceless, take_front}
use Rattle.s7_script.proofs.OctetLemmas.{AllHex, bytes_of, encoded_hex, hex_plain, hex_spaceless, is_bytes}
use Rattle.s7_script.proofs.PartLemmas.{at_joint, differs, no_joint}
use Rattle.s7_script.proofs.ScriptLemmas.{some-size}
use Rattle.s7_script.proofs.SendLemmas.{first_is, last_field, no_rest, rest_is}

-- ---- fields

-- a field of an item: no octet of it is a space or a semicolon, and none ends a line
record IsField (text : Text) : Type 0 where
  spaceless : Lacks 32 text
  lone : Lacks 59 text
  plain : AllPlain text

-- fields with spaces between them
record AreFields (text : Text) : Type 0 where
  lone : Lacks 59 text
  plain : AllPlain text

lacks-append : (mark : ℕ) (a b : Text) → Lacks mark a → Lacks mark b → Lacks mark (a ++ b)
lacks-append mark [] b p q = q
lacks-append mark (x ∷ a) b p q = (p.0, lacks-append mark a b p.1 q)

field_by_test : (text : Text) → list_all (λ b. not (b == 32)) text ≡ true → list_all (λ b. not (b == 59)) text ≡ true
    → list_all is_plain text ≡ true → IsField text
field_by_test text a b c = record { spaceless = lacks_by_test 32 text a; lone = lacks_by_test 59 text b; plain = plain_by_test text c }

field-append : (a b : Text) → IsField a → IsField b → IsField (a ++ b)
field-append a b p q = record {
  spaceless = lacks-append 32 a b p.spaceless q.spaceless;
  lone = lacks-append 59 a b p.lone q.lone;
  plain = plain-append a b p.plain q.plain;
}

last_of : (text : Text) → IsField text → AreFields text
last_of text p = record { lone = p.lone; plain = p.plain }

fields-append : (a b : Text) → IsField a → AreFields b → AreFields (a ++ 32 ∷ b)
fields-append a b p q = record {
  lone = lacks-append 59 a (32 ∷ b) p.lone (λ e. cc, q.lone);
  plain = plain-append a (32 ∷ b) p.plain (λ e. cc, λ e. cc, q.plain);
}

not_point : (d : ℕ) → is_ascii_digit d ≡ true → d ≢ 46
not_point d is = λ e. grind (arith, nat_tests)

not_semicolon : (d : ℕ) → is_ascii_digit d ≡ true → d ≢ 59
not_semicolon d is = λ e. grind (arith, nat_tests)

decimal_field : (n : ℕ) → n < 10 ^ 10 → IsField (decimal n)
decimal_field n few =
    let num = decimal_is_IsNumeral n (omega arith) in
    record {
      spaceless = spaceless (decimal n) num.0.1;
      lone = digits_lack 59 not_semicolon (decimal n) num.0.1;
      plain = digits_plain (decimal n) num.0.1;
    }

hex_lone : (c : ℕ) → is_hex_digit c ≡ true → c ≢ 59
hex_lone c is = λ e. grind (arith, nat_tests)

hex_lack : (cs : Text) → AllHex cs → Lacks 59 cs
hex_lack [] h = tt
hex_lack (c ∷ cs) h = (hex_lone c h.0, hex_lack cs h.1)

hex_field : (xs : List ℕ) → IsBytes xs → IsField (encode_lower xs)
hex_field xs octets =
    let hex = encoded_hex xs (bytes_of xs octets) in
    record {
      spaceless = hex_spaceless (encode_lower xs) hex;
      lone = hex_lack (encode_lower xs) hex;
      plain = hex_plain (encode_lower xs) hex;
    }

within_back : (low high n : ℕ) → low ≤ n → n ≤ high → n < 10 ^ 10 → within low high (number_of (decimal n)) ≡ Ok n
within_back low high n least most few =
    ap (within low high) (number_of-decimal n few) ∙ rw (le-leb low n least, le-leb n high most) refl

-- ---- codes that have names

-- the name of a code, and its reading
record IsNamed {X : Type 0} (read : Text → X) (means : ℕ → X) (code : ℕ) (text : Text) : Type 0 where
  reads : read text ≡ means code
  field_is : IsField text

either : {X : Type 0} (read : Text → X) (means : ℕ → X) (code known : ℕ) (name rest : Text) → IsNamed read means known name
    → ((code == known) ≡ false → IsNamed read means code rest) → IsNamed read means code (cond (code == known) name rest)
either read means code known name rest is other = elim (eqb_tells code known) [
  | inl same ↦
      subst (λ (t : Bool). IsNamed read means code (cond t name rest)) (sym same.0)
      (subst (λ (c : ℕ). IsNamed read means c name) (sym same.1) is)
  | inr differs ↦ subst (λ (t : Bool). IsNamed read means code (cond t name rest)) (sym differs.0) (other differs.0)
]

abbrev found : ℕ → Option ℕ
found code = Some code

abbrev IsWord : ℕ → Text → Type 0
IsWord = IsNamed word_named found

word_is : (code : ℕ) (text : Text) → word_named text ≡ Some code → IsField text → IsWord code text
word_is code text reads is = record { reads = reads; field_is = is }

last_word : (word : ℕ) → (word == timers) ≡ true → IsWord word (codes "timer")
last_word word is =
    subst (λ (c : ℕ). IsWord c (codes "timer")) (sym (eqb-true word timers is))
    (word_is timers (codes "timer") refl (field_by_test (codes "timer") refl refl refl))

word_back : (word : ℕ) → has_word word ≡ true → IsWord word (word_text word)
word_back word has =
    either word_named found word bits (codes "bit") _ (word_is bits (codes "bit") refl (field_by_test (codes "bit") refl refl refl)) (λ a.
    either word_named found word bytes (codes "byte") _ (word_is bytes (codes "byte") refl (field_by_test (codes "byte") refl refl refl)) (λ b.
    either word_named found word characters (codes "char") _ (word_is characters (codes "char") refl (field_by_test (codes "char") refl refl refl)) (λ c.
    either word_named found word words (codes "word") _ (word_is words (codes "word") refl (field_by_test (codes "word") refl refl refl)) (λ d.
    either word_named found word integers (codes "int") _ (word_is integers (codes "int") refl (field_by_test (codes "int") refl refl refl)) (λ e.
    either word_named found word double_words (codes "dword") _ (word_is double_words (codes "dword") refl (field_by_test (codes "dword") refl refl refl)) (λ f.
    either word_named found word double_integers (codes "dint") _ (word_is double_integers (codes "dint") refl (field_by_test (codes "dint") refl refl refl)) (λ g.
    either word_named found word reals (codes "real") _ (word_is reals (codes "real") refl (field_by_test (codes "real") refl refl refl)) (λ h.
    either word_named found word counters (codes "counter") (codes "timer") (word_is counters (codes "counter") refl (field_by_test (codes "counter") refl refl refl)) (λ k.
    last_word word (rw (a, b, c, d, e, f, g, h, k) at has))))))))))

abbrev IsKind : ℕ → Text → Type 0
IsKind = IsNamed kind_named found

kind_is : (code : ℕ) (text : Text) → kind_named text ≡ Some code → IsField text → IsKind code text
kind_is code text reads is = record { reads = reads; field_is = is }

last_kind : (of : ℕ) → (of == 0x46) ≡ true → IsKind of (codes "SFB")
last_kind of is =
    subst (λ (c : ℕ). IsKind c (codes "SFB")) (sym (eqb-true of 0x46 is))
    (kind_is 0x46 (codes "SFB") refl (field_by_test (codes "SFB") refl refl refl))

kind_back : (of : ℕ) → has_kind of ≡ true → IsKind of (kind_text of)
kind_back of has =
    either kind_named found of 0x38 (codes "OB") _ (kind_is 0x38 (codes "OB") refl (field_by_test (codes "OB") refl refl refl)) (λ a.
    either kind_named found of 0x41 (codes "DB") _ (kind_is 0x41 (codes "DB") refl (field_by_test (codes "DB") refl refl refl)) (λ b.
    either kind_named found of 0x42 (codes "SDB") _ (kind_is 0x42 (codes "SDB") refl (field_by_test (codes "SDB") refl refl refl)) (λ c.
    either kind_named found of 0x43 (codes "FC") _ (kind_is 0x43 (codes "FC") refl (field_by_test (codes "FC") refl refl refl)) (λ d.
    either kind_named found of 0x44 (codes "SFC") _ (kind_is 0x44 (codes "SFC") refl (field_by_test (codes "SFC") refl refl refl)) (λ e.
    either kind_named found of 0x45 (codes "FB") (codes "SFB") (kind_is 0x45 (codes "FB") refl (field_by_test (codes "FB") refl refl refl)) (λ f.
    last_kind of (rw (a, b, c, d, e, f) at has)))))))

-- ---- keys

abbrev key_read : ℕ → ℕ → Result AreaKey ScriptKind
key_read area db = Ok (record { area = area; number = db })

abbrev alone : ℕ → Result AreaKey ScriptKind
alone area = key_read area 0

record IsKey (area db : ℕ) (text : Text) : Type 0 where
  reads : key_of text ≡ key_read area db
  field_is : IsField text

alone_is : (area : ℕ) (text : Text) → key_of text ≡ alone area → IsField text → IsNamed key_of alone area text
alone_is area text reads is = record { reads = reads; field_is = is }

last_area : (area : ℕ) → (area == timers) ≡ true → IsNamed key_of alone area (codes "TM")
last_area area is =
    subst (λ (c : ℕ). IsNamed key_of alone c (codes "TM")) (sym (eqb-true area timers is))
    (alone_is timers (codes "TM") refl (field_by_test (codes "TM") refl refl refl))

alone_back : (area : ℕ) → (area == inputs || (area == outputs || (area == flags || (area == counters || area == timers)))) ≡ true
    → IsNamed key_of alone area (name_of area)
alone_back area has =
    either key_of alone area inputs (codes "PE") _ (alone_is inputs (codes "PE") refl (field_by_test (codes "PE") refl refl refl)) (λ a.
    either key_of alone area outputs (codes "PA") _ (alone_is outputs (codes "PA") refl (field_by_test (codes "PA") refl refl refl)) (λ b.
    either key_of alone area flags (codes "MK") _ (alone_is flags (codes "MK") refl (field_by_test (codes "MK") refl refl refl)) (λ c.
    either key_of alone area counters (codes "CT") (codes "TM") (alone_is counters (codes "CT") refl (field_by_test (codes "CT") refl refl refl)) (λ d.
    last_area area (rw (a, b, c, d) at has)))))

block_key : (db : ℕ) → (nat_le 1 db && nat_le db 65535) ≡ true → IsKey data_blocks db (codes "DB" ++ decimal db)
block_key db range =
    let both = and_parts (nat_le 1 db) (nat_le db 65535) range in
    let low = leb-true 1 db both.0 in
    let high = leb-true db 65535 both.1 in
    record {
      reads = ap (λ (r : Result ℕ ScriptKind). r >>= key_read data_blocks) (within_back 1 65535 db low high (omega arith));
      field_is = field-append (codes "DB") (decimal db) (field_by_test (codes "DB") refl refl refl) (decimal_field db (omega arith));
    }

alone_key : (area db : ℕ)
    → ((area == inputs || (area == outputs || (area == flags || (area == counters || area == timers)))) && db == 0) ≡ true
    → IsKey area db (name_of area)
alone_key area db has =
    let both = and_parts (area == inputs || (area == outputs || (area == flags || (area == counters || area == timers)))) (db == 0) has in
    let is = alone_back area both.0 in
    record {
      reads = subst (λ (n : ℕ). key_of (name_of area) ≡ key_read area n) (sym (eqb-true db 0 both.1)) is.reads;
      field_is = is.field_is;
    }

key_back : (area db : ℕ) → has_key area db ≡ true → IsKey area db (key_text area db)
key_back area db has = elim (eqb_tells area data_blocks) [
  | inl is ↦
      subst (λ (t : Bool). IsKey area db (cond t (codes "DB" ++ decimal db) (name_of area))) (sym is.0)
      (subst (λ (a : ℕ). IsKey a db (codes "DB" ++ decimal db)) (sym is.1) (block_key db (rw is.0 at has)))
  | inr other ↦
      subst (λ (t : Bool). IsKey area db (cond t (codes "DB" ++ decimal db) (name_of area))) (sym other.0)
      (alone_key area db (rw other.0 at has))
]

-- ---- starts

abbrev read_start : Bool → Bool → Text → Result ℕ ScriptKind
read_start numbered bit field =
    cond numbered (within 0 16777215 (number_of field)) (cond bit (bit_place field (position is_point field)) (octet_place field))

abbrev started : Bool → Bool → ℕ → Text
started numbered bit address =
    cond numbered (decimal address)
    (cond bit (decimal (address / 8) ++ 46 ∷ decimal (address % 8)) (decimal (address / 8)))

record IsStart (numbered bit : Bool) (address : ℕ) (text : Text) : Type 0 where
  reads : read_start numbered bit text ≡ Ok address
  field_is : IsField text

abbrev in_octet : Result ℕ ScriptKind → Result ℕ ScriptKind → Result ℕ ScriptKind
in_octet o b = o >>= (λ (octet : ℕ). b >>= (λ (bit : ℕ). Ok (octet * 8 + bit)))

abbrev whole_octet : Result ℕ ScriptKind → Result ℕ ScriptKind
whole_octet o = o >>= (λ (octet : ℕ). Ok (octet * 8))

start_by : (numbered bit : Bool) (address : ℕ) → address < 16777216 → (numbered ≡ false → bit ≡ false → address % 8 ≡ 0)
    → IsStart numbered bit address (started numbered bit address)
start_by true bit address few octet = record {
  reads = within_back 0 16777215 address (omega arith) (omega arith) (omega arith);
  field_is = decimal_field address (omega arith);
}
start_by false true address few octet =
    let front : Text = decimal (address / 8) in
    let back : Text = decimal (address % 8) in
    let num = decimal_is_IsNumeral (address / 8) (omega arith) in
    let lacks : Lacks 46 front = digits_lack 46 not_point front num.0.1 in
    let whole : address / 8 * 8 + address % 8 ≡ address = omega arith in
    let first : within 0 2097151 (number_of front) ≡ Ok (address / 8) = within_back 0 2097151 (address / 8) (omega arith) (omega arith) (omega arith) in
    let second : within 0 7 (number_of back) ≡ Ok (address % 8) = within_back 0 7 (address % 8) (omega arith) (omega arith) (omega arith) in
    record {
      reads = ap (bit_place (front ++ 46 ∷ back)) (position_at 46 front back lacks)
          ∙ ((λ i. in_octet (within 0 2097151 (number_of (take_front front (46 ∷ back) i))) (within 0 7 (number_of (drop_front front 46 back i))))
          ∙ ((λ i. in_octet (first i) (second i)) ∙ ap Ok whole));
      field_is = field-append front (46 ∷ back) (decimal_field (address / 8) (omega arith))
          (field-append (46 ∷ []) back (field_by_test (46 ∷ []) refl refl refl) (decimal_field (address % 8) (omega arith)));
    }
start_by false false address few octet =
    let even = octet refl refl in
    let whole : address / 8 * 8 ≡ address = omega arith in
    record {
      reads = ap whole_octet (within_back 0 2097151 (address / 8) (omega arith) (omega arith) (omega arith)) ∙ ap Ok whole;
      field_is = decimal_field (address / 8) (omega arith);
    }

-- ---- places

abbrev key_in : Item → AreaKey
key_in item = record { area = item.area; number = item.db }

abbrev place_in : Item → ℕ → Option Text → Place
place_in item address rest = record { key = key_in item; word = item.word; address = address; rest = rest }

module _ (item : Item) (has : HasPlace item) (rest : Text) where
  abbrev word_rest : Text
  word_rest = start_text item.area item.word item.address ++ 32 ∷ rest

  abbrev key_rest : Text
  key_rest = word_text item.word ++ 32 ∷ word_rest

  start_is : IsStart (is_numbered item.area) (item.word == bits) item.address (start_text item.area item.word item.address)
  start_is = start_by (is_numbered item.area) (item.word == bits) item.address has.address has.octet

  start_back : with_start (key_in item) item.word (Some word_rest) ≡ Ok (place_in item item.address (Some rest))
  start_back =
      let text : Text = start_text item.area item.word item.address in
      let field = start_is.field_is in
      (λ i. address_of (key_in item) item.word (first_is text rest field.spaceless i)
      >>= (λ (address : ℕ). Ok (place_in item address (rest_is text rest field.spaceless i))))
      ∙ ap (λ (r : Result ℕ ScriptKind). r >>= (λ (address : ℕ). Ok (place_in item address (Some rest)))) start_is.reads

  worded_back : with_word (key_in item) (Some key_rest) ≡ Ok (place_in item item.address (Some rest))
  worded_back =
      let is = word_back item.word has.word in
      (λ i. word_of (word_named (first_is (word_text item.word) word_rest is.field_is.spaceless i))
      >>= (λ (word : ℕ). with_start (key_in item) word (rest_is (word_text item.word) word_rest is.field_is.spaceless i)))
      ∙ (ap (λ (o : Option ℕ). word_of o >>= (λ (word : ℕ). with_start (key_in item) word (Some word_rest))) is.reads ∙ start_back)

  place_back : place (placed_text item rest) ≡ Ok (place_in item item.address (Some rest))
  place_back =
      let is = key_back item.area item.db has.key in
      (λ i. key_of (first_is (key_text item.area item.db) key_rest is.field_is.spaceless i)
      >>= (λ (key : AreaKey). with_word key (rest_is (key_text item.area item.db) key_rest is.field_is.spaceless i)))
      ∙ (ap (λ (r : Result AreaKey ScriptKind). r >>= (λ (key : AreaKey). with_word key (Some key_rest))) is.reads ∙ worded_back)

  placed_fields : AreFields rest → AreFields (placed_text item rest)
  placed_fields after =
      fields-append (key_text item.area item.db) key_rest (key_back item.area item.db has.key).field_is
      (fields-append (word_text item.word) word_rest (word_back item.word has.word).field_is
      (fields-append (start_text item.area item.word item.address) rest start_is.field_is after))

-- ---- items

count_back : (item : Item) → item.count < 65536 → with_count (place_in item item.address None) (Some (decimal item.count)) ≡ Ok item
count_back item few =
    let is = decimal_field item.count (omega arith) in
    (λ i. within 0 65535 (number_of (last_field (decimal item.count) is.spaceless i))
    >>= (λ (count : ℕ). ended (item_at (place_in item item.address None) count) (no_rest (decimal item.count) is.spaceless i)))
    ∙ ap (λ (r : Result ℕ ScriptKind). r >>= (λ (count : ℕ). ended (item_at (place_in item item.address None) count) None))
    (within_back 0 65535 item.count (omega arith) (omega arith) (omega arith))

item_back : (item : Item) → HasText item → read_item (item_text item) ≡ Ok item
item_back item has =
    ap (λ (r : Result Place ScriptKind). r >>= (λ (p : Place). with_count p p.rest)) (place_back item has.place (decimal item.count))
    ∙ count_back item has.few

item_fields : (item : Item) → HasText item → AreFields (item_text item)
item_fields item has =
    let few : item.count < 65536 = has.few in
    placed_fields item has.place (decimal item.count) (last_of (decimal item.count) (decimal_field item.count (omega arith)))

some_digits : (xs : List ℕ) → 0 < length xs → (length (encode_lower xs) == 0) ≡ false
some_digits xs some = isn't (length (encode_lower xs)) 0 (λ e. omega (arith, e, some, length-encode_with lower_digits xs))

counted_back : (item : Item) (rest : Option Text) (n : ℕ) → item.count < 65536 → n ≡ item.count * element_size item.word
    → counted (place_in item item.address rest) n ≡ Ok item
counted_back item rest n few whole =
    let size : ℕ = element_size item.word in
    let some : 0 < size = some-size item.word in
    let sum : n ≡ item.count * size + 0 = omega (arith, whole) in
    let left : n % size ≡ 0 = ap (λ (x : ℕ). x % size) sum ∙ mod-mul-add item.count size 0 some in
    let times : n / size ≡ item.count = ap (λ (x : ℕ). x / size) sum ∙ div-mul-add item.count size 0 some in
    let below : nat_le item.count 65535 ≡ true = le-leb item.count 65535 (omega (arith, few)) in
    counted_by (n % size) (n / size) left times below
  where
    counted_by : (left times : ℕ) → left ≡ 0 → times ≡ item.count → nat_le item.count 65535 ≡ true
        → cond (left == 0) (cond (nat_le times 65535) (Ok (item_at (place_in item item.address rest) times)) (Err kind.Number)) (Err kind.Fields) ≡ Ok item
    counted_by left times none is below =
        (λ i. cond (none i == 0) (cond (nat_le (is i) 65535) (Ok (item_at (place_in item item.address rest) (is i))) (Err kind.Number)) (Err kind.Fields))
        ∙ ap (λ (t : Bool). cond t (Ok item) (Err kind.Number)) below

hex_back : (item : Item) (octets : List ℕ) (rest : Option Text) → IsWritable item octets
    → with_hex (place_in item item.address rest) (Some (encode_lower octets)) ≡ Ok (item, octets)
hex_back item octets rest has =
    let p : Place = place_in item item.address rest in
    let text : Text = encode_lower octets in
    let is = hex_field octets has.are_octets in
    (λ i. with_digits p (last_field text is.spaceless i) (no_rest text is.spaceless i))
    ∙ (ap (λ (t : Bool). cond t (Err kind.Digits) (with_octets p None (decode_of text))) (some_digits octets has.some)
    ∙ (ap (with_octets p None) (decode_of-encode_lower octets has.are_octets)
    ∙ ap (λ (r : Result Item ScriptKind). r >>= (λ (x : Item). ended (x, octets) None))
    (counted_back item rest (length octets) has.text.few has.whole)))

written_back : (item : Item) (octets : List ℕ) → IsWritable item octets → written_item (written_text item octets) ≡ Ok (item, octets)
written_back item octets has =
    ap (λ (r : Result Place ScriptKind). r >>= (λ (p : Place). with_hex p p.rest)) (place_back item has.text.place (encode_lower octets))
    ∙ hex_back item octets (Some (encode_lower octets)) has

written_fields : (item : Item) (octets : List ℕ) → IsWritable item octets → AreFields (written_text item octets)
written_fields item octets has =
    placed_fields item has.text.place (encode_lower octets) (last_of (encode_lower octets) (hex_field octets has.are_octets))

-- ---- several items

and_none : (x : Bool) → (x && false) ≡ false
and_none true = refl
and_none false = refl

and_second : (x y z : Bool) → y ≡ false → (x && (y && z)) ≡ false
and_second true y z e = ap (λ (t : Bool). t && z) e
and_second false y z e = refl

second_differs : (a b : ℕ) (xs : Text) → b ≢ 59 → differs (a ∷ b ∷ xs)
second_differs a b [] other = and_second (32 == a) (59 == b) false (isn't 59 b (λ e. other (sym e)))
second_differs a b (c ∷ xs) other = and_second (32 == a) (59 == b) (32 == c && true) (isn't 59 b (λ e. other (sym e)))

lone_differs : (a : ℕ) (text : Text) → Lacks 59 text → differs (a ∷ text)
lone_differs a [] lacks = and_none (32 == a)
lone_differs a (b ∷ text) lacks = second_differs a b text lacks.0

space_differs : (a : ℕ) (rest : Text) → differs (a ∷ 32 ∷ 59 ∷ 32 ∷ rest)
space_differs a rest = and_none (32 == a)

joint_differs : (a : ℕ) (text rest : Text) → Lacks 59 text → differs (a ∷ (text ++ 32 ∷ 59 ∷ 32 ∷ rest))
joint_differs a [] rest lacks = space_differs a rest
joint_differs a (b ∷ text) rest lacks = second_differs a b (text ++ 32 ∷ 59 ∷ 32 ∷ rest) lacks.0

no_parts : parts [] ≡ [] ∷ []
unfolding parts
no_parts = refl

parts_one : (text : Text) → Lacks 59 text → parts text ≡ text ∷ []
parts_one [] lacks = no_parts
parts_one (a ∷ text) lacks = no_joint a text (lone_differs a text lacks.1) ∙ ap (with_first a) (parts_one text lacks.1)

parts_then : (text rest : Text) → Lacks 59 text → parts (text ++ 32 ∷ 59 ∷ 32 ∷ rest) ≡ text ∷ parts rest
parts_then [] rest lacks = at_joint (32 ∷ 59 ∷ 32 ∷ rest) refl
parts_then (a ∷ text) rest lacks =
    no_joint a (text ++ 32 ∷ 59 ∷ 32 ∷ rest) (joint_differs a text rest lacks.1) ∙ ap (with_first a) (parts_then text rest lacks.1)

parts_joined : (texts : List Text) → 0 < length texts → AllByRecursion AreFields texts → parts (joined texts) ≡ texts
parts_joined [] some all = absurd (omega arith)
parts_joined (text ∷ []) some all = parts_one text all.0.lone
parts_joined (text ∷ next ∷ rest) some all =
    parts_then text (joined (next ∷ rest)) all.0.lone ∙ ap (λ (ts : List Text). text ∷ ts) (parts_joined (next ∷ rest) (omega arith) all.1)

joined_plain : (texts : List Text) → AllByRecursion AreFields texts → AllPlain (joined texts)
joined_plain [] all = tt
joined_plain (text ∷ []) all = all.0.plain
joined_plain (text ∷ next ∷ rest) all =
    plain-append text (codes " ; " ++ joined (next ∷ rest)) all.0.plain
    (plain-append (codes " ; ") (joined (next ∷ rest)) (plain_by_test (codes " ; ") refl) (joined_plain (next ∷ rest) all.1))

abbrev item_then : Result Item ScriptKind → Result (List Item) ScriptKind → Result (List Item) ScriptKind
item_then first more = first >>= (λ (item : Item). more >>= (λ (items : List Item). Ok (item ∷ items)))

items_back : (items : List Item) → AllByRecursion HasText items → read_items (map item_text items) ≡ Ok items
unfolding read_items
items_back [] all = refl
items_back (item ∷ items) all = λ i. item_then (item_back item all.0 i) (items_back items all.1 i)

items_fields : (items : List Item) → AllByRecursion HasText items → AllByRecursion AreFields (map item_text items)
items_fields [] all = tt
items_fields (item ∷ items) all = (item_fields item all.0, items_fields items all.1)

some_items : (items : List Item) → 0 < length items → 0 < length (map item_text items)
some_items [] some = some
some_items (item ∷ items) some = omega arith

many_back : (items : List Item) → 0 < length items → AllByRecursion HasText items
    → read_items (parts (joined (map item_text items))) ≡ Ok items
many_back items some all =
    ap read_items (parts_joined (map item_text items) (some_items items some) (items_fields items all)) ∙ items_back items all

abbrev Writes : Type 0
Writes = List Item × List ℕ

abbrev written_then : Result Written ScriptKind → Result Writes ScriptKind → Result Writes ScriptKind
written_then first more =
    first >>= (λ (w : Written). more >>= (λ (others : Writes). Ok (w.0 ∷ others.0, w.1 ++ others.1)))

writes_back : (items : List Item) (octets : List ℕ) → AreWritable items octets
    → written_items (written_texts items octets) ≡ Ok (items, octets)
unfolding written_items
writes_back [] octets none = λ i. Ok ([], sym none i)
writes_back (item ∷ items) octets all =
    let n : ℕ = size_of item in
    (λ i. written_then (written_back item (take n octets) all.0 i) (writes_back items (drop n octets) all.1 i))
    ∙ (λ i. Ok (item ∷ items, take-append-drop n octets i))

writes_fields : (items : List Item) (octets : List ℕ) → AreWritable items octets → AllByRecursion AreFields (written_texts items octets)
writes_fields [] octets none = tt
writes_fields (item ∷ items) octets all =
    (written_fields item (take (size_of item) octets) all.0, writes_fields items (drop (size_of item) octets) all.1)

some_writes : (items : List Item) (octets : List ℕ) → 0 < length items → 0 < length (written_texts items octets)
some_writes [] octets some = some
some_writes (item ∷ items) octets some = omega arith

many_written : (items : List Item) (octets : List ℕ) → 0 < length items → AreWritable items octets
    → written_items (parts (joined (written_texts items octets))) ≡ Ok (items, octets)
many_written items octets some all =
    ap written_items (parts_joined (written_texts items octets) (some_writes items octets some) (writes_fields items octets all))
    ∙ writes_back items octets all

-- ---- blocks and numbers

abbrev block_is : ℕ → ℕ → BlockName
block_is of number = record { kind = of; number = number }

numbered_back : (of number : ℕ) → number < 65536 → with_number of (Some (decimal number)) ≡ Ok (block_is of number)
numbered_back of number few =
    let is = decimal_field number (omega arith) in
    (λ i. within 0 65535 (number_of (last_field (decimal number) is.spaceless i))
    >>= (λ (n : ℕ). ended (block_is of n) (no_rest (decimal number) is.spaceless i)))
    ∙ ap (λ (r : Result ℕ ScriptKind). r >>= (λ (n : ℕ). ended (block_is of n) None))
    (within_back 0 65535 number (omega arith) (omega arith) (omega arith))

block_back : (of number : ℕ) → HasBlock of number → block_named (Some (block_text of number)) ≡ Ok (block_is of number)
block_back of number has =
    let is = kind_back of has.0 in
    (λ i. word_of (kind_named (first_is (kind_text of) (decimal number) is.field_is.spaceless i))
    >>= (λ (x : ℕ). with_number x (rest_is (kind_text of) (decimal number) is.field_is.spaceless i)))
    ∙ (ap (λ (o : Option ℕ). word_of o >>= (λ (x : ℕ). with_number x (Some (decimal number)))) is.reads ∙ numbered_back of number has.1)

block_plain : (of number : ℕ) → HasBlock of number → AllPlain (block_text of number)
block_plain of number has =
    let few : number < 65536 = has.1 in
    (fields-append (kind_text of) (decimal number) (kind_back of has.0).field_is
    (last_of (decimal number) (decimal_field number (omega arith)))).plain

two_bytes : (n : ℕ) → n < 65536 → IsBytes (two_octets n)
two_bytes n low = is_bytes (two_octets n) (omega (arith, low), (omega arith, tt))

two_back : (n : ℕ) → n < 65536 → two_octets_in (decode_of (encode_lower (two_octets n))) ≡ Ok n
two_back n low =
    let whole : n / 256 * 256 + n % 256 ≡ n = omega arith in
    ap two_octets_in (decode_of-encode_lower (two_octets n) (two_bytes n low)) ∙ ap Ok whole

-- ---- jobs

-- the line of a job, and its reading
record IsLineOf (j : Job) (text : Text) : Type 0 where
  reads : tagged_of None text ≡ Ok (j, None)
  plain : AllPlain text
  passed : is_passed text ≡ false

with_fields : (j : Job) (word rest : Text) → IsField word → is_passed (word ++ 32 ∷ rest) ≡ false → job_named word (Some rest) ≡ Ok j
    → AllPlain rest → IsLineOf j (word ++ 32 ∷ rest)
with_fields j word rest is passed reads plain = record {
  reads = (λ i. untagged (job_named (first_is word rest is.spaceless i) (rest_is word rest is.spaceless i))) ∙ ap untagged reads;
  plain = plain-append word (32 ∷ rest) is.plain (λ e. cc, λ e. cc, plain);
  passed = passed;
}

read_line : (item : Item) → HasText item → IsLineOf (job.ReadArea item) (job_text (job.ReadArea item))
read_line item has =
    with_fields (job.ReadArea item) (codes "read") (item_text item) (field_by_test (codes "read") refl refl refl) refl
    (ap (λ (r : Result Item ScriptKind). r >>= (λ (x : Item). Ok (job.ReadArea x))) (item_back item has)) (item_fields item has).plain

write_line : (item : Item) (octets : List ℕ) → IsWritable item octets
    → IsLineOf (job.WriteArea item octets) (job_text (job.WriteArea item octets))
write_line item octets has =
    with_fields (job.WriteArea item octets) (codes "write") (written_text item octets) (field_by_test (codes "write") refl refl refl) refl
    (ap (λ (r : Result Written ScriptKind). r >>= (λ (w : Written). Ok (job.WriteArea w.0 w.1))) (written_back item octets has))
    (written_fields item octets has).plain

read_many_line : (items : List Item) → 0 < length items → AllByRecursion HasText items
    → IsLineOf (job.ReadMany items) (job_text (job.ReadMany items))
read_many_line items some all =
    with_fields (job.ReadMany items) (codes "readmany") (joined (map item_text items)) (field_by_test (codes "readmany") refl refl refl) refl
    (ap (λ (r : Result (List Item) ScriptKind). r >>= (λ (x : List Item). Ok (job.ReadMany x))) (many_back items some all))
    (joined_plain (map item_text items) (items_fields items all))

write_many_line : (items : List Item) (octets : List ℕ) → 0 < length items → AreWritable items octets
    → IsLineOf (job.WriteMany items octets) (job_text (job.WriteMany items octets))
write_many_line items octets some all =
    with_fields (job.WriteMany items octets) (codes "writemany") (joined (written_texts items octets))
    (field_by_test (codes "writemany") refl refl refl) refl
    (ap (λ (r : Result Writes ScriptKind). r >>= (λ (w : Writes). Ok (job.WriteMany w.0 w.1))) (many_written items octets some all))
    (joined_plain (written_texts items octets) (writes_fields items octets all))

list_of_line : (of : ℕ) → has_kind of ≡ true → IsLineOf (job.ListOf of) (job_text (job.ListOf of))
list_of_line of has =
    let is = kind_back of has in
    with_fields (job.ListOf of) (codes "listof") (kind_text of) (field_by_test (codes "listof") refl refl refl) refl
    ((λ i. word_of (kind_named (last_field (kind_text of) is.field_is.spaceless i))
    >>= (λ (x : ℕ). ended (job.ListOf x) (no_rest (kind_text of) is.field_is.spaceless i)))
    ∙ ap (λ (o : Option ℕ). word_of o >>= (λ (x : ℕ). ended (job.ListOf x) None)) is.reads)
    is.field_is.plain

info_line : (of number : ℕ) → HasBlock of number → IsLineOf (job.Info of number) (job_text (job.Info of number))
info_line of number has =
    with_fields (job.Info of number) (codes "info") (block_text of number) (field_by_test (codes "info") refl refl refl) refl
    (ap (λ (r : Result BlockName ScriptKind). r >>= (λ (n : BlockName). Ok (job.Info n.kind n.number))) (block_back of number has))
    (block_plain of number has)

upload_line : (of number : ℕ) → HasBlock of number → IsLineOf (job.Upload of number) (job_text (job.Upload of number))
upload_line of number has =
    with_fields (job.Upload of number) (codes "upload") (block_text of number) (field_by_test (codes "upload") refl refl refl) refl
    (ap (λ (r : Result BlockName ScriptKind). r >>= (λ (n : BlockName). Ok (job.Upload n.kind n.number))) (block_back of number has))
    (block_plain of number has)

delete_line : (of number : ℕ) → HasBlock of number → IsLineOf (job.Delete of number) (job_text (job.Delete of number))
delete_line of number has =
    with_fields (job.Delete of number) (codes "delete") (block_text of number) (field_by_test (codes "delete") refl refl refl) refl
    (ap (λ (r : Result BlockName ScriptKind). r >>= (λ (n : BlockName). Ok (job.Delete n.kind n.number))) (block_back of number has))
    (block_plain of number has)

download_line : (image : List ℕ) → 0 < length image → IsBytes image → IsLineOf (job.Download image) (job_text (job.Download image))
download_line image some octets =
    let text : Text = encode_lower image in
    let is = hex_field image octets in
    with_fields (job.Download image) (codes "download") text (field_by_test (codes "download") refl refl refl) refl
    ((λ i. cond (length (last_field text is.spaceless i) == 0) (Err kind.Digits)
    (with_image (no_rest text is.spaceless i) (decode_of (last_field text is.spaceless i))))
    ∙ (ap (λ (t : Bool). cond t (Err kind.Digits) (with_image None (decode_of text))) (some_digits image some)
    ∙ ap (with_image None) (decode_of-encode_lower image octets)))
    is.plain

db_get_line : (number : ℕ) → IsNumber number → IsLineOf (job.DbGet number) (job_text (job.DbGet number))
db_get_line number has =
    let some : 0 < number = has.0 in
    let few : number < 65536 = has.1 in
    let is = decimal_field number (omega arith) in
    with_fields (job.DbGet number) (codes "dbget") (decimal number) (field_by_test (codes "dbget") refl refl refl) refl
    ((λ i. within 1 65535 (number_of (last_field (decimal number) is.spaceless i))
    >>= (λ (n : ℕ). ended (job.DbGet n) (no_rest (decimal number) is.spaceless i)))
    ∙ ap (λ (r : Result ℕ ScriptKind). r >>= (λ (n : ℕ). ended (job.DbGet n) None))
    (within_back 1 65535 number (omega arith) (omega arith) (omega arith)))
    is.plain

value_bytes : (value : ℕ) → value < 256 → IsBytes (value ∷ [])
value_bytes value low = is_bytes (value ∷ []) (low, tt)

value_back : (number value : ℕ) → value < 256 → with_value number (Some (encode_lower (value ∷ []))) ≡ Ok (job.DbFill number value)
value_back number value low =
    let text : Text = encode_lower (value ∷ []) in
    let is = hex_field (value ∷ []) (value_bytes value low) in
    (λ i. octet_in (decode_of (last_field text is.spaceless i)) >>= (λ (x : ℕ). ended (job.DbFill number x) (no_rest text is.spaceless i)))
    ∙ ap (λ r. octet_in r >>= (λ (x : ℕ). ended (job.DbFill number x) None)) (decode_of-encode_lower (value ∷ []) (value_bytes value low))

db_fill_line : (number value : ℕ) → IsNumber number → value < 256
    → IsLineOf (job.DbFill number value) (job_text (job.DbFill number value))
db_fill_line number value has low =
    let some : 0 < number = has.0 in
    let few : number < 65536 = has.1 in
    let text : Text = encode_lower (value ∷ []) in
    let is = decimal_field number (omega arith) in
    with_fields (job.DbFill number value) (codes "dbfill") (decimal number ++ 32 ∷ text) (field_by_test (codes "dbfill") refl refl refl) refl
    ((λ i. within 1 65535 (number_of (first_is (decimal number) text is.spaceless i))
    >>= (λ (n : ℕ). with_value n (rest_is (decimal number) text is.spaceless i)))
    ∙ (ap (λ (r : Result ℕ ScriptKind). r >>= (λ (n : ℕ). with_value n (Some text)))
    (within_back 1 65535 number (omega arith) (omega arith) (omega arith))
    ∙ value_back number value low))
    (fields-append (decimal number) text is (last_of text (hex_field (value ∷ []) (value_bytes value low)))).plain

index_back : (id index : ℕ) → index < 65536 → with_index id (Some (encode_lower (two_octets index))) ≡ Ok (job.Szl id index)
index_back id index low =
    let text : Text = encode_lower (two_octets index) in
    let is = hex_field (two_octets index) (two_bytes index low) in
    (λ i. two_octets_in (decode_of (last_field text is.spaceless i)) >>= (λ (x : ℕ). ended (job.Szl id x) (no_rest text is.spaceless i)))
    ∙ ap (λ (r : Result ℕ ScriptKind). r >>= (λ (x : ℕ). ended (job.Szl id x) None)) (two_back index low)

szl_line : (id index : ℕ) → id < 65536 → index < 65536 → IsLineOf (job.Szl id index) (job_text (job.Szl id index))
szl_line id index low small =
    let front : Text = encode_lower (two_octets id) in
    let back : Text = encode_lower (two_octets index) in
    let is = hex_field (two_octets id) (two_bytes id low) in
    with_fields (job.Szl id index) (codes "szl") (front ++ 32 ∷ back) (field_by_test (codes "szl") refl refl refl) refl
    ((λ i. two_octets_in (decode_of (first_is front back is.spaceless i))
    >>= (λ (x : ℕ). with_index x (rest_is front back is.spaceless i)))
    ∙ (ap (λ (r : Result ℕ ScriptKind). r >>= (λ (x : ℕ). with_index x (Some back))) (two_back id low) ∙ index_back id index small))
    (fields-append front back is (last_of back (hex_field (two_octets index) (two_bytes index small)))).plain

-- printable octets end no line and are no spaces
record AreLetters (text : Text) : Type 0 where
  spaceless : Lacks 32 text
  plain : AllPlain text

letter_is : (b : ℕ) → is_printable b ≡ true → (b ≢ 32) × (b ≢ 10) × (b ≢ 13)
letter_is b is = (λ e. grind (arith, nat_tests), λ e. grind (arith, nat_tests), λ e. grind (arith, nat_tests))

are_letters : (text : Text) → list_all is_printable text ≡ true → AreLetters text
are_letters [] all = record { spaceless = tt; plain = tt }
are_letters (b ∷ bs) all =
    let both = and_parts (is_printable b) (list_all is_printable bs) all in
    let is = letter_is b both.0 in
    let rest = are_letters bs both.1 in
    record { spaceless = (is.0, rest.spaceless); plain = (is.1, is.2, rest.plain) }

password_line : (text : Text) → list_all is_printable text ≡ true → IsLineOf (job.PasswordSet text) (job_text (job.PasswordSet text))
password_line text all =
    let is = are_letters text all in
    with_fields (job.PasswordSet text) (codes "password") text (field_by_test (codes "password") refl refl refl) refl
    ((λ i. cond (list_all is_printable (last_field text is.spaceless i))
    (ended (job.PasswordSet (last_field text is.spaceless i)) (no_rest text is.spaceless i)) (Err kind.Word))
    ∙ ap (λ (t : Bool). cond t (Ok (job.PasswordSet text)) (Err kind.Word)) all)
    is.plain

digit_field : (n : ℕ) → IsField (digit_of n ∷ [])
digit_field n = record {
  spaceless = (no_space n, tt);
  lone = (no_semicolon n, tt);
  plain = (no_feed n, no_return n, tt);
}

two_field : (n : ℕ) → IsField (two_digits n)
two_field n = field-append (digit_of (n / 10) ∷ []) (digit_of n ∷ []) (digit_field (n / 10)) (digit_field n)

three_field : (n : ℕ) → IsField (three_digits n)
three_field n = field-append (digit_of (n / 100) ∷ []) (two_digits n) (digit_field (n / 100)) (two_field n)

four_field : (n : ℕ) → IsField (four_digits n)
four_field n = field-append (digit_of (n / 1000) ∷ []) (three_digits n) (digit_field (n / 1000)) (three_field n)

marked : (mark : ℕ) (before after : Text) → IsField before → IsField (mark ∷ []) → IsField after → IsField (before ++ (mark ∷ after))
marked mark before after p q r = field-append before (mark ∷ after) p (field-append (mark ∷ []) after q r)

date_field : (p : Parts) → IsField (date_text p)
date_field p =
    let day : Text = two_digits p.day ++ 84 ∷ two_digits p.hour in
    let minute : Text = two_digits p.minute ++ 58 ∷ two_digits p.second in
    let time : Text = minute ++ 46 ∷ three_digits p.millisecond in
    let month : Text = two_digits p.month ++ 45 ∷ (day ++ 58 ∷ time) in
    marked 45 (four_digits p.year) month (four_field p.year) (field_by_test (45 ∷ []) refl refl refl)
    (marked 45 (two_digits p.month) (day ++ 58 ∷ time) (two_field p.month) (field_by_test (45 ∷ []) refl refl refl)
    (marked 58 day time
    (marked 84 (two_digits p.day) (two_digits p.hour) (two_field p.day) (field_by_test (84 ∷ []) refl refl refl) (two_field p.hour))
    (field_by_test (58 ∷ []) refl refl refl)
    (marked 46 minute (three_digits p.millisecond)
    (marked 58 (two_digits p.minute) (two_digits p.second) (two_field p.minute) (field_by_test (58 ∷ []) refl refl refl) (two_field p.second))
    (field_by_test (46 ∷ []) refl refl refl) (three_field p.millisecond))))

clock_line : (moment : ℕ) → IsHeld moment → IsLineOf (job.ClockSet moment) (job_text (job.ClockSet moment))
clock_line moment has =
    let text : Text = date_text (parts_of moment) in
    let is = date_field (parts_of moment) in
    with_fields (job.ClockSet moment) (codes "setclock") text (field_by_test (codes "setclock") refl refl refl) refl
    ((λ i. moment_job (moment_named (last_field text is.spaceless i)) (no_rest text is.spaceless i))
    ∙ ap (λ (o : Option ℕ). moment_job o None) (moment_back moment has))
    is.plain

plain_line : (j : Job) (word : Text) → tagged_of None word ≡ Ok (j, None) → list_all is_plain word ≡ true → is_passed word ≡ false
    → IsLineOf j word
plain_line j word reads plain passed = record { reads = reads; plain = plain_by_test word plain; passed = passed }

job_back : (j : Job) → HasLine j → IsLineOf j (job_text j)
job_back job.Connect has = absurd has
job_back (job.ReadArea item) has = read_line item has
job_back (job.WriteArea item octets) has = write_line item octets has
job_back (job.ReadMany items) has = read_many_line items has.0 has.1
job_back (job.WriteMany items octets) has = write_many_line items octets has.0 has.1
job_back job.List has = plain_line job.List (codes "list") refl refl refl
job_back (job.ListOf of) has = list_of_line of has
job_back (job.Info of number) has = info_line of number has
job_back (job.Upload of number) has = upload_line of number has
job_back (job.Download image) has = download_line image has.0 has.1
job_back (job.Delete of number) has = delete_line of number has
job_back (job.DbGet number) has = db_get_line number has
job_back (job.DbFill number value) has = db_fill_line number value has.0 has.1
job_back (job.Szl id index) has = szl_line id index has.0 has.1
job_back job.ClockRead has = plain_line job.ClockRead (codes "clock") refl refl refl
job_back (job.ClockSet moment) has = clock_line moment has
job_back job.Start has = plain_line job.Start (codes "start") refl refl refl
job_back job.ColdStart has = plain_line job.ColdStart (codes "coldstart") refl refl refl
job_back job.Stop has = plain_line job.Stop (codes "stop") refl refl refl
job_back job.Compress has = plain_line job.Compress (codes "compress") refl refl refl
job_back job.CopyRam has = plain_line job.CopyRam (codes "copy") refl refl refl
job_back job.Status has = plain_line job.Status (codes "status") refl refl refl
job_back (job.PasswordSet text) has = password_line text has
job_back job.PasswordClear has = plain_line job.PasswordClear (codes "clearpassword") refl refl refl
job_back job.Disconnect has = absurd has

-- ---- the lines

abbrev jobs_by : Bool → ℕ → Result Tagged ScriptKind → Result (List ScriptLine) ScriptFault
jobs_by passed line named = cond passed (Ok []) (at_line line named)

abbrev more_jobs : Result (List ScriptLine) ScriptFault → Result (List ScriptLine) ScriptFault → Result (List ScriptLine) ScriptFault
more_jobs first others =
    first >>= (λ (jobs : List ScriptLine). others >>= (λ (more : List ScriptLine). Ok (jobs ++ more)))

line_back : (line : ℕ) (j : Job) → HasLine j → line_jobs None line (job_text j) ≡ Ok (record { line = line; job = j; tag = None } ∷ [])
line_back line j has = let is = job_back j has in λ i. jobs_by (is.passed i) line (is.reads i)

lines_back : (line : ℕ) (jobs : List Job) → AllByRecursion HasLine jobs
    → script_lines None line (lines (script_text jobs)) ≡ Ok (on_lines line jobs)
unfolding script_lines
lines_back line [] all = refl
lines_back line (j ∷ rest) all =
    ap (script_lines None line) (line_then (job_text j) (script_text rest) (job_back j all.0).plain)
    ∙ (λ i. more_jobs (line_back line j all.0 i) (lines_back (next_line line) rest all.1 i))

pub scripts_read_back : ScriptsReadBack
scripts_read_back jobs all = lines_back 1 jobs all
