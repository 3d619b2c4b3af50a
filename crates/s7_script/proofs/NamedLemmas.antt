-- What a script names has a line.
use Rattle.std.proofs.Common.{◌≡◌, ◌==◌, ◌&&◌, ◌+◌, ◌*◌, ◌/◌, ◌%◌, ◌<◌, ◌≤◌, ℕ, suc, Bool, true, false, true≢false, cond, refl, ap, sym}
use Rattle.std.proofs.Common.{subst, List, [], ◌∷◌, ◌++◌, length, take, drop, arith, nat_le, codes, le-leb, Option, None, Some, Result, Ok, Err, IfOk}
use Rattle.std.specs.Prelude.{IfSome}
use Rattle.std.proofs.lemmas.Bool.{and_parts, eqb-true, leb-true}
use Rattle.std.proofs.lemmas.Bool.Decides.{nat_tests}
use Rattle.std.proofs.lemmas.Nat.{div-add-mod'}
use Rattle.std.specs.List.{AllByRecursion, list_all, position}
use Rattle.std.specs.Str.{bytes_eq}
use Rattle.hex.specs.Hex.{decode_of}
use Rattle.hex.specs.declared.error.FromHexError.{FromHexError}
use Rattle.hex.proofs.HexLemmas.{decode_of-ok}
use Rattle.s7_item.specs.Codes.{inputs, outputs, flags, data_blocks, counters, timers, bits, bytes, characters, words}
use Rattle.s7_item.specs.Codes.{integers, double_words, double_integers, reals}
use Rattle.s7_item.specs.declared.item.Item.{Item}
use Rattle.s7_area.specs.declared.key.AreaKey.{AreaKey}
use Rattle.s7_block.specs.declared.block.BlockName.{BlockName}
use Rattle.s7_clock.specs.Moment.{IsHeld}
use Rattle.s7_dialogue.specs.declared.job.Job.{Job}
use Rattle.s7_dialogue.specs.declared.job.Job.TheVariants as job
use Rattle.s7_text.specs.Lines.{Text, lines, is_passed, next_line, with_first}
use Rattle.s7_text.specs.Fields.{field_of, rest_of, number_of}
use Rattle.s7_text.specs.Moments.{moment_named}
use Rattle.s7_script.specs.Reading.{area_named}
use Rattle.s7_script.specs.Script.{◌>>=◌, Place, Written, within, ended, named_key, key_of, word_named, word_of, is_point, bit_place, octet_place}
use Rattle.s7_script.specs.Script.{address_of, with_start, with_word, place, item_at, with_count, read_item, element_size, counted}
use Rattle.s7_script.specs.Script.{with_octets, with_digits, with_hex, written_item, parts, read_items, written_items, kind_named}
use Rattle.s7_script.specs.Script.{read_job, write_job, read_many_job, write_many_job, list_of_job, info_job, upload_job, download_job, delete_job}
use Rattle.s7_script.specs.Script.{db_get_job, db_fill_job, list_job, moment_job, set_clock_job, password_job, plain_job, or_unknown}
use Rattle.s7_script.specs.Script.{with_number, block_named, with_image, octet_in, with_value, two_octets_in, with_index, is_printable, job_named}
use Rattle.s7_script.specs.ScriptSpelling.{has_key, has_word, is_numbered, HasPlace, HasText, IsWritable, size_of, AreWritable, has_kind}
use Rattle.s7_script.specs.ScriptSpelling.{HasBlock, IsNumber, HasLine, ScriptsAreSpelled}
use Rattle.s7_script.specs.Tagged.{tagged_of, untagged, at_line, line_jobs, script_lines}
use Rattle.s7_script.specs.declared.scripts.script_fault.ScriptKind.{ScriptKind}
use Rattle.s7_script.specs.declared.scripts.script_fault.ScriptKind.TheVariants as kind
use Rattle.s7_script.specs.declared.scripts.script_fault.ScriptFault.{ScriptFault}
use Rattle.s7_script.specs.declared.scripts.script_list.ScriptLine.{ScriptLine}
use Rattle.s7_script.proofs.DateLemmas.{named_held}

-- ---- steps

after : {X Y E : Type 0} (P : X → Type 0) (Q : Y → Type 0) (r : Result X E) (f : X → Result Y E) → IfOk r P
    → ((x : X) → P x → IfOk (f x) Q) → IfOk (r >>= f) Q
after P Q (Ok x) f h each = each x h
after P Q (Err e) f h each = tt

tested : {X E : Type 0} (P : X → Type 0) (b : Bool) (r s : Result X E) → (b ≡ true → IfOk r P) → (b ≡ false → IfOk s P)
    → IfOk (cond b r s) P
tested P true r s h k = h refl
tested P false r s h k = k refl

ended_has : {X : Type 0} (P : X → Type 0) (x : X) (rest : Option Text) → P x → IfOk (ended x rest) P
ended_has P x None h = h
ended_has P x (Some rest) h = tt

word_has : (P : ℕ → Type 0) (o : Option ℕ) → IfSome o P → IfOk (word_of o) P
word_has P None h = tt
word_has P (Some word) h = h

one_of : {X : Type 0} (P : X → Type 0) (b : Bool) (x : X) (o : Option X) → P x → IfSome o P → IfSome (cond b (Some x) o) P
one_of P true x o h k = h
one_of P false x o h k = k

abbrev IsFrom : ℕ → ℕ → ℕ → Type 0
IsFrom low high n = (low ≤ n) × (n ≤ high)

within_has : (low high : ℕ) (o : Option ℕ) → IfOk (within low high o) (IsFrom low high)
within_has low high None = tt
within_has low high (Some n) =
    tested (IsFrom low high) (nat_le low n && nat_le n high) (Ok n) (Err kind.Number)
    (λ e. let both = and_parts (nat_le low n) (nat_le n high) e in (leb-true low n both.0, leb-true n high both.1))
    (λ e. tt)

-- ---- keys, words and kinds

abbrev IsKey : AreaKey → Type 0
IsKey key = has_key key.area key.number ≡ true

abbrev IsAlone : ℕ → Type 0
IsAlone area = has_key area 0 ≡ true

same_front : (field : Text) → bytes_eq (take 2 field) (codes "DB") ≡ false → bytes_eq field (codes "DB") ≡ false
same_front [] e = refl
same_front (a ∷ []) e = e
same_front (a ∷ b ∷ []) e = e
same_front (a ∷ b ∷ c ∷ rest) e = longer (a == 68) (b == 66)
  where
    longer : (x y : Bool) → (x && (y && false)) ≡ false
    longer true true = refl
    longer true false = refl
    longer false y = refl

area_has : (field : Text) → bytes_eq (take 2 field) (codes "DB") ≡ false → IfSome (area_named field) IsAlone
area_has field e =
    one_of IsAlone (bytes_eq field (codes "PE")) inputs _ refl
    (one_of IsAlone (bytes_eq field (codes "PA")) outputs _ refl
    (one_of IsAlone (bytes_eq field (codes "MK")) flags _ refl
    (one_of IsAlone (bytes_eq field (codes "CT")) counters _ refl
    (one_of IsAlone (bytes_eq field (codes "TM")) timers _ refl
    (none_else (bytes_eq field (codes "DB")) (same_front field e))))))
  where
    none_else : (b : Bool) → b ≡ false → IfSome (cond b (Some data_blocks) None) IsAlone
    none_else true e = absurd (true≢false e)
    none_else false e = tt

named_has : (o : Option ℕ) → IfSome o IsAlone → IfOk (named_key o) IsKey
named_has None h = tt
named_has (Some area) h = h

number_key : (number : ℕ) → IsFrom 1 65535 number → has_key data_blocks number ≡ true
number_key number has = rw (le-leb 1 number has.0, le-leb number 65535 has.1) refl

key_has : (field : Text) → IfOk (key_of field) IsKey
key_has field =
    tested IsKey (bytes_eq (take 2 field) (codes "DB")) _ (named_key (area_named field))
    (λ e. after (IsFrom 1 65535) IsKey (within 1 65535 (number_of (drop 2 field))) (λ (n : ℕ). Ok (record { area = data_blocks; number = n }))
    (within_has 1 65535 (number_of (drop 2 field))) number_key)
    (λ e. named_has (area_named field) (area_has field e))

abbrev IsWord : ℕ → Type 0
IsWord word = has_word word ≡ true

words_have : (name : Text) → IfSome (word_named name) IsWord
words_have name =
    one_of IsWord (bytes_eq name (codes "bit")) bits _ refl
    (one_of IsWord (bytes_eq name (codes "byte")) bytes _ refl
    (one_of IsWord (bytes_eq name (codes "char")) characters _ refl
    (one_of IsWord (bytes_eq name (codes "word")) words _ refl
    (one_of IsWord (bytes_eq name (codes "int")) integers _ refl
    (one_of IsWord (bytes_eq name (codes "dword")) double_words _ refl
    (one_of IsWord (bytes_eq name (codes "dint")) double_integers _ refl
    (one_of IsWord (bytes_eq name (codes "real")) reals _ refl
    (one_of IsWord (bytes_eq name (codes "counter")) counters _ refl
    (one_of IsWord (bytes_eq name (codes "timer")) timers None refl tt)))))))))

abbrev IsKind : ℕ → Type 0
IsKind of = has_kind of ≡ true

kinds_have : (name : Text) → IfSome (kind_named name) IsKind
kinds_have name =
    one_of IsKind (bytes_eq name (codes "OB")) 0x38 _ refl
    (one_of IsKind (bytes_eq name (codes "DB")) 0x41 _ refl
    (one_of IsKind (bytes_eq name (codes "SDB")) 0x42 _ refl
    (one_of IsKind (bytes_eq name (codes "FC")) 0x43 _ refl
    (one_of IsKind (bytes_eq name (codes "SFC")) 0x44 _ refl
    (one_of IsKind (bytes_eq name (codes "FB")) 0x45 _ refl
    (one_of IsKind (bytes_eq name (codes "SFB")) 0x46 None refl tt))))))

-- ---- starts

record IsStart (numbered bit : Bool) (address : ℕ) : Type 0 where
  low : address < 16777216
  octet : numbered ≡ false → bit ≡ false → address % 8 ≡ 0

octet_start : (octet : ℕ) → IsFrom 0 2097151 octet → IsStart false false (octet * 8)
octet_start octet has =
    let most : octet ≤ 2097151 = has.1 in
    record { low = omega arith; octet = λ e f. omega arith }

bit_start : (octet bit : ℕ) → IsFrom 0 2097151 octet → IsFrom 0 7 bit → IsStart false true (octet * 8 + bit)
bit_start octet bit has low =
    let most : octet ≤ 2097151 = has.1 in
    let few : bit ≤ 7 = low.1 in
    record { low = omega arith; octet = λ e f. absurd (true≢false f) }

number_start : (bit : Bool) (n : ℕ) → IsFrom 0 16777215 n → IsStart true bit n
number_start bit n has =
    let most : n ≤ 16777215 = has.1 in
    record { low = omega arith; octet = λ e f. absurd (true≢false e) }

bit_has : (field : Text) (o : Option ℕ) → IfOk (bit_place field o) (IsStart false true)
bit_has field None = tt
bit_has field (Some point) =
    after (IsFrom 0 2097151) (IsStart false true) (within 0 2097151 (number_of (take point field)))
    (λ (octet : ℕ). within 0 7 (number_of (drop (point + 1) field)) >>= (λ (bit : ℕ). Ok (octet * 8 + bit)))
    (within_has 0 2097151 (number_of (take point field)))
    (λ octet has. after (IsFrom 0 7) (IsStart false true) (within 0 7 (number_of (drop (point + 1) field)))
    (λ (bit : ℕ). Ok (octet * 8 + bit)) (within_has 0 7 (number_of (drop (point + 1) field))) (λ bit low. bit_start octet bit has low))

start_by : (numbered bit : Bool) (field : Text)
    → IfOk (cond numbered (within 0 16777215 (number_of field)) (cond bit (bit_place field (position is_point field)) (octet_place field)))
    (IsStart numbered bit)
start_by true bit field = weaker (within 0 16777215 (number_of field)) (within_has 0 16777215 (number_of field))
  where
    weaker : (r : Result ℕ ScriptKind) → IfOk r (IsFrom 0 16777215) → IfOk r (IsStart true bit)
    weaker (Ok n) has = number_start bit n has
    weaker (Err e) has = tt
start_by false true field = bit_has field (position is_point field)
start_by false false field =
    after (IsFrom 0 2097151) (IsStart false false) (within 0 2097151 (number_of field)) (λ (octet : ℕ). Ok (octet * 8))
    (within_has 0 2097151 (number_of field)) octet_start

-- ---- places

record IsPlace (p : Place) : Type 0 where
  key : has_key p.key.area p.key.number ≡ true
  word : has_word p.word ≡ true
  start : IsStart (is_numbered p.key.area) (p.word == bits) p.address

item_place : (p : Place) (count : ℕ) → IsPlace p → HasPlace (item_at p count)
item_place p count is = record { key = is.key; word = is.word; address = is.start.low; octet = is.start.octet }

start_has : (key : AreaKey) (word : ℕ) (rest : Option Text) → IsKey key → IsWord word → IfOk (with_start key word rest) IsPlace
start_has key word None is named = tt
start_has key word (Some text) is named =
    after (IsStart (is_numbered key.area) (word == bits)) IsPlace (address_of key word (field_of text))
    (λ (address : ℕ). Ok (record { key = key; word = word; address = address; rest = rest_of text }))
    (start_by (is_numbered key.area) (word == bits) (field_of text))
    (λ address start. record { key = is; word = named; start = start })

word_place : (key : AreaKey) (rest : Option Text) → IsKey key → IfOk (with_word key rest) IsPlace
word_place key None is = tt
word_place key (Some text) is =
    after IsWord IsPlace (word_of (word_named (field_of text))) (λ (word : ℕ). with_start key word (rest_of text))
    (word_has IsWord (word_named (field_of text)) (words_have (field_of text)))
    (λ word named. start_has key word (rest_of text) is named)

place_has : (text : Text) → IfOk (place text) IsPlace
place_has text =
    after IsKey IsPlace (key_of (field_of text)) (λ (key : AreaKey). with_word key (rest_of text)) (key_has (field_of text))
    (λ key is. word_place key (rest_of text) is)

-- ---- items

few_is : (n : ℕ) → IsFrom 0 65535 n → n < 65536
few_is n has = let most : n ≤ 65535 = has.1 in omega arith

count_has : (p : Place) (rest : Option Text) → IsPlace p → IfOk (with_count p rest) HasText
count_has p None is = tt
count_has p (Some text) is =
    after (IsFrom 0 65535) HasText (within 0 65535 (number_of (field_of text))) (λ (count : ℕ). ended (item_at p count) (rest_of text))
    (within_has 0 65535 (number_of (field_of text)))
    (λ count has. ended_has HasText (item_at p count) (rest_of text) (record { place = item_place p count is; few = few_is count has }))

item_has : (text : Text) → IfOk (read_item text) HasText
item_has text =
    after IsPlace HasText (place text) (λ (p : Place). with_count p p.rest) (place_has text) (λ p is. count_has p p.rest is)

items_have : (texts : List Text) → IfOk (read_items texts) (λ items. (length items ≡ length texts) × AllByRecursion HasText items)
unfolding read_items
items_have [] = (refl, tt)
items_have (text ∷ rest) =
    after HasText (λ items. (length items ≡ length (text ∷ rest)) × AllByRecursion HasText items) (read_item text)
    (λ (item : Item). read_items rest >>= (λ (items : List Item). Ok (item ∷ items))) (item_has text)
    (λ item has. after (λ items. (length items ≡ length rest) × AllByRecursion HasText items)
    (λ items. (length items ≡ length (text ∷ rest)) × AllByRecursion HasText items) (read_items rest)
    (λ (items : List Item). Ok (item ∷ items)) (items_have rest)
    (λ items all. (ap suc all.0, (has, all.1))))

-- ---- items with octets

abbrev IsPut : Written → Type 0
IsPut w = IsWritable w.0 w.1

abbrev IsCounted : ℕ → Item → Type 0
IsCounted n item = HasText item × (n ≡ size_of item)

none_left : (a b n : ℕ) → a + b ≡ n → b ≡ 0 → n ≡ a
none_left a b n sum none = omega arith

counted_has : (p : Place) (n : ℕ) → IsPlace p → IfOk (counted p n) (IsCounted n)
counted_has p n is =
    let size : ℕ = element_size p.word in
    tested (IsCounted n) (n % size == 0) _ (Err kind.Fields)
    (λ e. tested (IsCounted n) (nat_le (n / size) 65535) (Ok (item_at p (n / size))) (Err kind.Number)
    (λ f. (
      record { place = item_place p (n / size) is; few = few_count (n / size) f },
      none_left (n / size * size) (n % size) n (div-add-mod' n size) (eqb-true (n % size) 0 e),
    ))
    (λ f. tt))
    (λ e. tt)
  where
    few_count : (n : ℕ) → nat_le n 65535 ≡ true → n < 65536
    few_count n e = let most = leb-true n 65535 e in omega arith

octets_have : (p : Place) (field : Text) (rest : Option Text) (r : Result (List ℕ) FromHexError) → decode_of field ≡ r
    → 0 < length field → IsPlace p → IfOk (with_octets p rest r) IsPut
octets_have p field rest (Err e) is some at = tt
octets_have p field rest (Ok octets) is some at =
    let found = decode_of-ok field octets is in
    after (IsCounted (length octets)) IsPut (counted p (length octets)) (λ (item : Item). ended (item, octets) rest)
    (counted_has p (length octets) at)
    (λ item has. ended_has IsPut (item, octets) rest (record {
      text = has.0;
      some = omega (arith, found.2, some);
      whole = has.1;
      are_octets = found.3;
    }))

some_field : (n : ℕ) → (n == 0) ≡ false → 0 < n
some_field n e = grind (arith, nat_tests)

digits_have : (p : Place) (field : Text) (rest : Option Text) → IsPlace p → IfOk (with_digits p field rest) IsPut
digits_have p field rest at =
    tested IsPut (length field == 0) (Err kind.Digits) (with_octets p rest (decode_of field)) (λ e. tt)
    (λ e. octets_have p field rest (decode_of field) refl (some_field (length field) e) at)

hex_has : (p : Place) (rest : Option Text) → IsPlace p → IfOk (with_hex p rest) IsPut
hex_has p None at = tt
hex_has p (Some text) at = digits_have p (field_of text) (rest_of text) at

written_has : (text : Text) → IfOk (written_item text) IsPut
written_has text =
    after IsPlace IsPut (place text) (λ (p : Place). with_hex p p.rest) (place_has text) (λ p at. hex_has p p.rest at)

abbrev Writes : Type 0
Writes = List Item × List ℕ

abbrev ArePut : ℕ → Writes → Type 0
ArePut n w = (length w.0 ≡ n) × AreWritable w.0 w.1

take_seam : (a b : List ℕ) → take (length a) (a ++ b) ≡ a
take_seam [] b = refl
take_seam (x ∷ a) b = ap (λ t. x ∷ t) (take_seam a b)

drop_seam : (a b : List ℕ) → drop (length a) (a ++ b) ≡ b
drop_seam [] b = refl
drop_seam (x ∷ a) b = drop_seam a b

more_put : (item : Item) (a b : List ℕ) (items : List Item) → IsWritable item a → AreWritable items b → AreWritable (item ∷ items) (a ++ b)
more_put item a b items put all = (
  subst (λ (n : ℕ). IsWritable item (take n (a ++ b))) put.whole (subst (IsWritable item) (sym (take_seam a b)) put),
  subst (λ (n : ℕ). AreWritable items (drop n (a ++ b))) put.whole (subst (AreWritable items) (sym (drop_seam a b)) all),
)

writes_have : (texts : List Text) → IfOk (written_items texts) (ArePut (length texts))
unfolding written_items
writes_have [] = (refl, refl)
writes_have (text ∷ rest) =
    after IsPut (ArePut (length (text ∷ rest))) (written_item text)
    (λ (w : Written). written_items rest >>= (λ (others : Writes). Ok (w.0 ∷ others.0, w.1 ++ others.1))) (written_has text)
    (λ w put. after (ArePut (length rest)) (ArePut (length (text ∷ rest))) (written_items rest)
    (λ (others : Writes). Ok (w.0 ∷ others.0, w.1 ++ others.1)) (writes_have rest)
    (λ others all. (ap suc all.0, more_put w.0 w.1 others.1 others.0 put all.1)))

some_first : (a : ℕ) (ps : List Text) → 0 < length (with_first a ps)
some_first a [] = omega arith
some_first a (p ∷ ps) = omega arith

some_cond : (b : Bool) (ps qs : List Text) → 0 < length ps → 0 < length qs → 0 < length (cond b ps qs)
some_cond true ps qs h k = h
some_cond false ps qs h k = k

some_parts : (text : Text) → 0 < length (parts text)
unfolding parts
some_parts [] = omega arith
some_parts (a ∷ []) = omega arith
some_parts (a ∷ b ∷ []) = omega arith
some_parts (a ∷ b ∷ c ∷ rest) =
    some_cond (bytes_eq (codes " ; ") (a ∷ b ∷ c ∷ [])) ([] ∷ parts rest) (with_first a (parts (b ∷ c ∷ rest))) (omega arith)
    (some_first a (parts (b ∷ c ∷ rest)))

-- ---- jobs

read_has : (rest : Option Text) → IfOk (read_job rest) HasLine
read_has None = tt
read_has (Some text) =
    after HasText HasLine (read_item text) (λ (item : Item). Ok (job.ReadArea item)) (item_has text) (λ item has. has)

write_has : (rest : Option Text) → IfOk (write_job rest) HasLine
write_has None = tt
write_has (Some text) =
    after IsPut HasLine (written_item text) (λ (w : Written). Ok (job.WriteArea w.0 w.1)) (written_has text) (λ w put. put)

read_many_has : (rest : Option Text) → IfOk (read_many_job rest) HasLine
read_many_has None = tt
read_many_has (Some text) =
    after (λ items. (length items ≡ length (parts text)) × AllByRecursion HasText items) HasLine (read_items (parts text))
    (λ (items : List Item). Ok (job.ReadMany items)) (items_have (parts text))
    (λ items all. (subst (λ (n : ℕ). 0 < n) (sym all.0) (some_parts text), all.1))

write_many_has : (rest : Option Text) → IfOk (write_many_job rest) HasLine
write_many_has None = tt
write_many_has (Some text) =
    after (ArePut (length (parts text))) HasLine (written_items (parts text)) (λ (w : Writes). Ok (job.WriteMany w.0 w.1))
    (writes_have (parts text)) (λ w all. (subst (λ (n : ℕ). 0 < n) (sym all.0) (some_parts text), all.1))

list_of_has : (rest : Option Text) → IfOk (list_of_job rest) HasLine
list_of_has None = tt
list_of_has (Some text) =
    after IsKind HasLine (word_of (kind_named (field_of text))) (λ (of : ℕ). ended (job.ListOf of) (rest_of text))
    (word_has IsKind (kind_named (field_of text)) (kinds_have (field_of text)))
    (λ of is. ended_has HasLine (job.ListOf of) (rest_of text) is)

abbrev IsBlock : BlockName → Type 0
IsBlock name = HasBlock name.kind name.number

number_has : (of : ℕ) (rest : Option Text) → IsKind of → IfOk (with_number of rest) IsBlock
number_has of None is = tt
number_has of (Some text) is =
    after (IsFrom 0 65535) IsBlock (within 0 65535 (number_of (field_of text)))
    (λ (number : ℕ). ended (record { kind = of; number = number }) (rest_of text)) (within_has 0 65535 (number_of (field_of text)))
    (λ number has. ended_has IsBlock (record { kind = of; number = number }) (rest_of text) (is, few_is number has))

block_has : (rest : Option Text) → IfOk (block_named rest) IsBlock
block_has None = tt
block_has (Some text) =
    after IsKind IsBlock (word_of (kind_named (field_of text))) (λ (of : ℕ). with_number of (rest_of text))
    (word_has IsKind (kind_named (field_of text)) (kinds_have (field_of text))) (λ of is. number_has of (rest_of text) is)

info_has : (rest : Option Text) → IfOk (info_job rest) HasLine
info_has rest =
    after IsBlock HasLine (block_named rest) (λ (name : BlockName). Ok (job.Info name.kind name.number)) (block_has rest) (λ name has. has)

upload_has : (rest : Option Text) → IfOk (upload_job rest) HasLine
upload_has rest =
    after IsBlock HasLine (block_named rest) (λ (name : BlockName). Ok (job.Upload name.kind name.number)) (block_has rest) (λ name has. has)

delete_has : (rest : Option Text) → IfOk (delete_job rest) HasLine
delete_has rest =
    after IsBlock HasLine (block_named rest) (λ (name : BlockName). Ok (job.Delete name.kind name.number)) (block_has rest) (λ name has. has)

image_has : (field : Text) (rest : Option Text) (r : Result (List ℕ) FromHexError) → decode_of field ≡ r → 0 < length field
    → IfOk (with_image rest r) HasLine
image_has field rest (Err e) is some = tt
image_has field rest (Ok image) is some =
    let found = decode_of-ok field image is in
    ended_has HasLine (job.Download image) rest (omega (arith, found.2, some), found.3)

download_has : (rest : Option Text) → IfOk (download_job rest) HasLine
download_has None = tt
download_has (Some text) =
    let field : Text = field_of text in
    tested HasLine (length field == 0) (Err kind.Digits) (with_image (rest_of text) (decode_of field)) (λ e. tt)
    (λ e. image_has field (rest_of text) (decode_of field) refl (some_field (length field) e))

is_number : (n : ℕ) → IsFrom 1 65535 n → IsNumber n
is_number n has =
    let least : 1 ≤ n = has.0 in
    let most : n ≤ 65535 = has.1 in
    (omega arith, omega arith)

get_has : (rest : Option Text) → IfOk (db_get_job rest) HasLine
get_has None = tt
get_has (Some text) =
    after (IsFrom 1 65535) HasLine (within 1 65535 (number_of (field_of text))) (λ (number : ℕ). ended (job.DbGet number) (rest_of text))
    (within_has 1 65535 (number_of (field_of text)))
    (λ number has. ended_has HasLine (job.DbGet number) (rest_of text) (is_number number has))

octet_has : (field : Text) (r : Result (List ℕ) FromHexError) → decode_of field ≡ r → IfOk (octet_in r) (λ (value : ℕ). value < 256)
octet_has field (Err e) is = tt
octet_has field (Ok []) is = tt
octet_has field (Ok (octet ∷ [])) is = (decode_of-ok field (octet ∷ []) is).3 0
octet_has field (Ok (a ∷ b ∷ bs)) is = tt

value_has : (number : ℕ) (rest : Option Text) → IsNumber number → IfOk (with_value number rest) HasLine
value_has number None is = tt
value_has number (Some text) is =
    after (λ (value : ℕ). value < 256) HasLine (octet_in (decode_of (field_of text)))
    (λ (value : ℕ). ended (job.DbFill number value) (rest_of text)) (octet_has (field_of text) (decode_of (field_of text)) refl)
    (λ value low. ended_has HasLine (job.DbFill number value) (rest_of text) (is, low))

fill_has : (rest : Option Text) → IfOk (db_fill_job rest) HasLine
fill_has None = tt
fill_has (Some text) =
    after (IsFrom 1 65535) HasLine (within 1 65535 (number_of (field_of text))) (λ (number : ℕ). with_value number (rest_of text))
    (within_has 1 65535 (number_of (field_of text))) (λ number has. value_has number (rest_of text) (is_number number has))

two_low : (a b : ℕ) → a < 256 → b < 256 → a * 256 + b < 65536
two_low a b p q = omega (arith, p, q)

two_has : (field : Text) (r : Result (List ℕ) FromHexError) → decode_of field ≡ r → IfOk (two_octets_in r) (λ (n : ℕ). n < 65536)
two_has field (Err e) is = tt
two_has field (Ok []) is = tt
two_has field (Ok (a ∷ [])) is = tt
two_has field (Ok (a ∷ b ∷ [])) is =
    let octets = (decode_of-ok field (a ∷ b ∷ []) is).3 in
    two_low a b (octets 0) (octets 1)
two_has field (Ok (a ∷ b ∷ c ∷ cs)) is = tt

index_has : (id : ℕ) (rest : Option Text) → id < 65536 → IfOk (with_index id rest) HasLine
index_has id None low = tt
index_has id (Some text) low =
    after (λ (n : ℕ). n < 65536) HasLine (two_octets_in (decode_of (field_of text)))
    (λ (index : ℕ). ended (job.Szl id index) (rest_of text)) (two_has (field_of text) (decode_of (field_of text)) refl)
    (λ index small. ended_has HasLine (job.Szl id index) (rest_of text) (low, small))

list_has : (rest : Option Text) → IfOk (list_job rest) HasLine
list_has None = tt
list_has (Some text) =
    after (λ (n : ℕ). n < 65536) HasLine (two_octets_in (decode_of (field_of text))) (λ (id : ℕ). with_index id (rest_of text))
    (two_has (field_of text) (decode_of (field_of text)) refl) (λ id low. index_has id (rest_of text) low)

clock_has : (o : Option ℕ) (rest : Option Text) → IfSome o IsHeld → IfOk (moment_job o rest) HasLine
clock_has None rest held = tt
clock_has (Some moment) rest held = ended_has HasLine (job.ClockSet moment) rest held

set_clock_has : (rest : Option Text) → IfOk (set_clock_job rest) HasLine
set_clock_has None = tt
set_clock_has (Some text) = clock_has (moment_named (field_of text)) (rest_of text) (named_held (field_of text))

password_has : (rest : Option Text) → IfOk (password_job rest) HasLine
password_has None = tt
password_has (Some text) =
    let field : Text = field_of text in
    tested HasLine (list_all is_printable field) (ended (job.PasswordSet field) (rest_of text)) (Err kind.Word)
    (λ e. ended_has HasLine (job.PasswordSet field) (rest_of text) e) (λ e. tt)

plain_has : (name : Text) → IfSome (plain_job name) HasLine
plain_has name =
    one_of HasLine (bytes_eq name (codes "list")) job.List _ tt
    (one_of HasLine (bytes_eq name (codes "clock")) job.ClockRead _ tt
    (one_of HasLine (bytes_eq name (codes "start")) job.Start _ tt
    (one_of HasLine (bytes_eq name (codes "coldstart")) job.ColdStart _ tt
    (one_of HasLine (bytes_eq name (codes "stop")) job.Stop _ tt
    (one_of HasLine (bytes_eq name (codes "compress")) job.Compress _ tt
    (one_of HasLine (bytes_eq name (codes "copy")) job.CopyRam _ tt
    (one_of HasLine (bytes_eq name (codes "status")) job.Status _ tt
    (one_of HasLine (bytes_eq name (codes "clearpassword")) job.PasswordClear None tt tt))))))))

unknown_has : (o : Option Job) (rest : Option Text) → IfSome o HasLine → IfOk (or_unknown o rest) HasLine
unknown_has None rest has = tt
unknown_has (Some found) rest has = ended_has HasLine found rest has

either : (b : Bool) (r s : Result Job ScriptKind) → IfOk r HasLine → IfOk s HasLine → IfOk (cond b r s) HasLine
either true r s h k = h
either false r s h k = k

named_have : (name : Text) (rest : Option Text) → IfOk (job_named name rest) HasLine
named_have name rest =
    either (bytes_eq name (codes "read")) (read_job rest) _ (read_has rest)
    (either (bytes_eq name (codes "write")) (write_job rest) _ (write_has rest)
    (either (bytes_eq name (codes "readmany")) (read_many_job rest) _ (read_many_has rest)
    (either (bytes_eq name (codes "writemany")) (write_many_job rest) _ (write_many_has rest)
    (either (bytes_eq name (codes "listof")) (list_of_job rest) _ (list_of_has rest)
    (either (bytes_eq name (codes "info")) (info_job rest) _ (info_has rest)
    (either (bytes_eq name (codes "upload")) (upload_job rest) _ (upload_has rest)
    (either (bytes_eq name (codes "download")) (download_job rest) _ (download_has rest)
    (either (bytes_eq name (codes "delete")) (delete_job rest) _ (delete_has rest)
    (either (bytes_eq name (codes "dbget")) (db_get_job rest) _ (get_has rest)
    (either (bytes_eq name (codes "dbfill")) (db_fill_job rest) _ (fill_has rest)
    (either (bytes_eq name (codes "szl")) (list_job rest) _ (list_has rest)
    (either (bytes_eq name (codes "setclock")) (set_clock_job rest) _ (set_clock_has rest)
    (either (bytes_eq name (codes "password")) (password_job rest) (or_unknown (plain_job name) rest) (password_has rest)
    (unknown_has (plain_job name) rest (plain_has name)))))))))))))))

-- ---- the lines

abbrev HasLineIn : ScriptLine → Type 0
HasLineIn line = HasLine line.job

abbrev AllHave : List ScriptLine → Type 0
AllHave found = AllByRecursion HasLineIn found

at_line_has : (line : ℕ) (r : Result Job ScriptKind) → IfOk r HasLine → IfOk (at_line line (untagged r)) AllHave
at_line_has line (Ok found) has = (has, tt)
at_line_has line (Err e) has = tt

line_has : (line : ℕ) (text : Text) → IfOk (line_jobs None line text) AllHave
line_has line text =
    tested AllHave (is_passed text) (Ok []) (at_line line (tagged_of None text)) (λ e. tt)
    (λ e. at_line_has line (job_named (field_of text) (rest_of text)) (named_have (field_of text) (rest_of text)))

both_have : (xs ys : List ScriptLine) → AllHave xs → AllHave ys → AllHave (xs ++ ys)
both_have [] ys p q = q
both_have (x ∷ xs) ys p q = (p.0, both_have xs ys p.1 q)

lines_have : (line : ℕ) (texts : List Text) → IfOk (script_lines None line texts) AllHave
unfolding script_lines
lines_have line [] = tt
lines_have line (text ∷ rest) =
    after AllHave AllHave (line_jobs None line text)
    (λ (jobs : List ScriptLine). script_lines None (next_line line) rest >>= (λ (more : List ScriptLine). Ok (jobs ++ more)))
    (line_has line text)
    (λ jobs p. after AllHave AllHave (script_lines None (next_line line) rest) (λ (more : List ScriptLine). Ok (jobs ++ more))
    (lines_have (next_line line) rest) (λ more q. both_have jobs more p q))

pub scripts_are_spelled : ScriptsAreSpelled
scripts_are_spelled text found is = subst (λ (r : Result (List ScriptLine) ScriptFault). IfOk r AllHave) is (lines_have 1 (lines text))
