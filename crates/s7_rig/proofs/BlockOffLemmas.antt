-- A data block that stands in the areas stands there whatever is asked, with as many octets: its head is told, and all
-- its parts stand there.
use Rattle.std.proofs.Common.{◌≡◌, ℕ, zero, suc, ◌+◌, ◌-◌, ◌*◌, ◌/◌, ◌<◌, ◌≤◌, min, Bool, true, false, cond, eqb, leb}
use Rattle.std.proofs.Common.{not, Option, None, Some, List, [], ◌∷◌, length, map, filter, refl, sym, ap, ap₂, ◌∙◌}
use Rattle.std.proofs.Common.{subst, arith, mul-suc}
use Rattle.std.specs.Prelude.{IsSome, is_some, option_map}
use Rattle.std.specs.List.{AllByRecursion, flat_map}
use Rattle.std.specs.Map.{keys_of, lookup}
use Rattle.std.specs.BTreeMap.{is_at}
use Rattle.std.specs.declared.cmp.Ordering.{Ordering}
use Rattle.std.specs.declared.cmp.Ordering.TheVariants.{Less, Equal, Greater}
use Rattle.std.specs.Ordering.{is_eq, nat_cmp, ordering_then}
use Rattle.std.proofs.lemmas.Bool.{and_from, eq-eqb, le-leb, lt-leb, leb-false, lt-ltb}
use Rattle.std.proofs.lemmas.Map.Lookups.{exact_unsigned}
use Rattle.s7_item.specs.Codes.{data_blocks}
use Rattle.s7_item.specs.Item.{octet_count}
use Rattle.s7_item.specs.Word.{size_of}
use Rattle.s7_area.specs.declared.key.AreaKey.{AreaKey}
use Rattle.s7_area.specs.Memory.{AreaList, Memory, code_in, key_cmp, place_code}
use Rattle.s7_area.specs.Places.{is_inside, is_misfit}
use Rattle.s7_area.specs.Registers.{db_numbers}
use Rattle.s7_split.specs.Parts.{parts_of}
use Rattle.s7_split.proofs.PartLemmas.{counts_low}
use Rattle.s7_block.specs.declared.block.BlockName.{BlockName}
use Rattle.s7_block.specs.Names.{named}
use Rattle.s7_block.proofs.DigitLemmas.{names_read}
use Rattle.s7_plant.specs.Answers.{answer, db_image, entries_told, info_told, list_entry}
use Rattle.s7_plant.specs.declared.request.Request.TheVariants as plain
use Rattle.s7_plant.specs.State.{State}
use Rattle.s7_dialogue.specs.declared.questions.subject.Subject.TheVariants.{BlockHead, BlocksOfKind}
use Rattle.s7_dialogue.specs.Checks.{octet_count_of}
use Rattle.s7_dialogue.specs.DataBlocks.{data_item, data_items_from, data_parts}
use Rattle.s7_dialogue.specs.DataPlaces.{parts_of_all}
use Rattle.s7_dialogue.specs.Dialogue.{block_octets, kind_octets}
use Rattle.s7_dialogue.proofs.DataPartLemmas.{byte_octets, pieces, parts_pieces}
use Rattle.s7_dialogue.proofs.GroupLemmas.{octet_count_append}
use Rattle.s7_dialogue.proofs.SpotLemmas.{all_append}
use Rattle.s7_rig.specs.Complete.{IsThere, IsBlock, data_block}
use Rattle.s7_rig.specs.Exchanges.{NamesNone}
use Rattle.s7_rig.proofs.BlockHeadLemmas.{asks_info}
use Rattle.s7_rig.proofs.HoldReplies.{IsGood}
use Rattle.s7_rig.proofs.ListFacts.{not_both}
use Rattle.s7_rig.proofs.PlacedLemmas.{not_none}
use Rattle.s7_rig.proofs.ShapeLemmas.{SameShape}

pub some_is : {A : Type 0} (o : Option A) → IsSome o → (x : A) × (o ≡ Some x)
some_is None some = absurd (cc)
some_is (Some x) some = (x, refl)

-- ---- bytes of a data block

byte_code : (m : Memory) (number from count : ℕ)
    → place_code m (data_item number from count) ≡ code_in (data_block m number) (data_item number from count)
unfolding is_misfit size_of
byte_code m number from count = refl

byte_inside : (number from count len : ℕ) → 0 < count → from + count ≤ len
    → is_inside (data_item number from count) len ≡ true
byte_inside number from count len some within =
    let long : ℕ = octet_count (data_item number from count) in
    and_from (not (eqb count 0)) (leb (8 * from / 8 + long) len) (not_none count some)
    (le-leb (8 * from / 8 + long) len (omega (arith, byte_octets number from count, within)))

byte_there : (m : Memory) (number from count : ℕ) (octets : List ℕ) → data_block m number ≡ Some octets → 0 < count
    → from + count ≤ length octets → IsThere m (data_item number from count)
byte_there m number from count octets found some within =
    byte_code m number from count
    ∙ (ap (λ f. code_in f (data_item number from count)) found
    ∙ ap (λ b. cond b 0xFF 0x05) (byte_inside number from count (length octets) some within))

-- ---- its parts

some_room : (write : Bool) (pdu : ℕ) → 64 ≤ pdu → 0 < cond write (pdu - 35) (pdu - 18)
some_room true pdu least = omega (arith, least)
some_room false pdu least = omega (arith, least)

module _ (m : Memory) (number : ℕ) (octets : List ℕ) (found : data_block m number ≡ Some octets) where
  pieces_there : (n room from left : ℕ) → 0 < room → room * n < left → from + left ≤ length octets
      → AllByRecursion (IsThere m) (pieces (suc n) room number from left)
  pieces_there zero room from left some more within =
      (byte_there m number from (min room left) octets found (omega arith) (omega arith), tt)
  pieces_there (suc n) room from left some more within =
      let one = mul-suc room n in (
        byte_there m number from (min room left) octets found (omega arith) (omega arith),
        pieces_there n room (from + min room left) (left - min room left) some (omega (arith, one)) (omega arith),
      )

  item_there : (from count pdu : ℕ) (write : Bool) → 64 ≤ pdu → 0 < count → from + count ≤ length octets
      → AllByRecursion (IsThere m) (parts_of (data_item number from count) pdu write)
  item_there from count pdu write least some within =
      let room : ℕ = cond write (pdu - 35) (pdu - 18) in
      let any : 0 < room = some_room write pdu least in
      subst (AllByRecursion (IsThere m)) (sym (parts_pieces number from count pdu room write refl))
      (pieces_there ((count - 1) / room) room from count any (counts_low count room any some) within)

  items_there : (n from left pdu : ℕ) (write : Bool) → 64 ≤ pdu → 65535 * n < left + 65535
      → from + left ≤ length octets
      → AllByRecursion (IsThere m) (parts_of_all pdu write (data_items_from n number from left))
  items_there zero from left pdu write least more within = tt
  items_there (suc n) from left pdu write least more within =
      all_append (IsThere m) (parts_of (data_item number from (min 65535 left)) pdu write)
      (parts_of_all pdu write (data_items_from n number (from + min 65535 left) (left - min 65535 left)))
      (item_there from (min 65535 left) pdu write least (omega arith) (omega arith))
      (items_there n (from + min 65535 left) (left - min 65535 left) pdu write least (omega arith) (omega arith))

  -- each part of a data block that is there stands there
  pub data_there : (pdu : ℕ) (write : Bool) → 64 ≤ pdu
      → AllByRecursion (IsThere m) (data_parts number (length octets) pdu write)
  data_there pdu write least =
      items_there ((length octets + 65534) / 65535) 0 (length octets) pdu write least (omega arith) (omega arith)

-- ---- how many octets they have

whole : (room left : ℕ) → min room left + (left - min room left) ≡ left
whole room left = omega arith

pieces_octets : (n room number from left : ℕ) → left ≤ room * n → octet_count_of (pieces n room number from left) ≡ left
pieces_octets zero room number from left all = omega arith
pieces_octets (suc n) room number from left all =
    let one = mul-suc room n in
    ap₂ (λ a b. a + b) (byte_octets number from (min room left))
    (pieces_octets n room number (from + min room left) (left - min room left) (omega (arith, one)))
    ∙ whole room left

counts_high : (count room : ℕ) → 0 < room → count ≤ room * suc ((count - 1) / room)
counts_high count room some = omega (arith, mul-suc room ((count - 1) / room))

item_octets : (number from count pdu : ℕ) → 64 ≤ pdu
    → octet_count_of (parts_of (data_item number from count) pdu true) ≡ count
item_octets number from count pdu least =
    let room : ℕ = pdu - 35 in
    ap octet_count_of (parts_pieces number from count pdu room true refl)
    ∙ pieces_octets (suc ((count - 1) / room)) room number from count (counts_high count room (omega (arith, least)))

items_octets : (n number from left pdu : ℕ) → 64 ≤ pdu → left ≤ 65535 * n
    → octet_count_of (parts_of_all pdu true (data_items_from n number from left)) ≡ left
items_octets zero number from left pdu least all = omega arith
items_octets (suc n) number from left pdu least all =
    octet_count_append (parts_of (data_item number from (min 65535 left)) pdu true)
    (parts_of_all pdu true (data_items_from n number (from + min 65535 left) (left - min 65535 left)))
    ∙ (ap₂ (λ a b. a + b) (item_octets number from (min 65535 left) pdu least)
    (items_octets n number (from + min 65535 left) (left - min 65535 left) pdu least (omega arith))
    ∙ whole 65535 left)

-- the parts that are written have the octets of the data block together
pub data_octets : (number size pdu : ℕ) → 64 ≤ pdu → octet_count_of (data_parts number size pdu true) ≡ size
data_octets number size pdu least = items_octets ((size + 65534) / 65535) number 0 size pdu least (omega arith)

-- ---- a data block that is there stays there

-- the code of one byte, by the octets that were found
abbrev code_at : Option (List ℕ) → ℕ → ℕ → ℕ
code_at found number k = code_in found (data_item number k 1)

-- a data block is found that has so many octets
pub record IsFound (found : Option (List ℕ)) (size : ℕ) : Type 0 where
  pub stood : List ℕ
  pub is : found ≡ Some stood
  pub long : length stood ≡ size

abbrev inside_code : ℕ → ℕ → ℕ
inside_code k size = cond (leb (8 * k / 8 + 1) size) 0xFF 0x05

code_inside : (octets : List ℕ) (number k : ℕ) → code_at (Some octets) number k ≡ inside_code k (length octets)
unfolding size_of
code_inside octets number k = refl

not_beyond : (b : Bool) (k size : ℕ) → leb (8 * k / 8 + 1) size ≡ b → ◌≡◌ {A = ℕ} (cond b 0xFF 0x05) 0x05 → size ≤ k
not_beyond true k size is code = absurd (omega (arith, code))
not_beyond false k size is code = omega (arith, leb-false (8 * k / 8 + 1) size is)

no_longer : (a b : ℕ) → inside_code a a ≡ inside_code a b → b ≤ a
no_longer a b same =
    let outside : inside_code a a ≡ 0x05 = ap (λ x. cond x 0xFF 0x05) (lt-leb (8 * a / 8 + 1) a (omega arith)) in
    not_beyond (leb (8 * a / 8 + 1) b) a b refl (sym same ∙ outside)

nothing_found : (b : Bool) → ◌≡◌ {A = ℕ} 0x0A (cond b 0xFF 0x05) → ⊥
nothing_found true is = omega (arith, is)
nothing_found false is = omega (arith, is)

found_by : (found : Option (List ℕ)) (octets : List ℕ) (number : ℕ)
    → ((k : ℕ) → code_at found number k ≡ inside_code k (length octets)) → IsFound found (length octets)
found_by None octets number same = absurd (nothing_found (leb (8 * 0 / 8 + 1) (length octets)) (same 0))
found_by (Some stood) octets number same =
    let a : ℕ = length stood in
    let b : ℕ = length octets in
    let each = λ (k : ℕ). sym (code_inside stood number k) ∙ same k in
    record {
      stood = stood;
      is = refl;
      long = omega (arith, no_longer a b (each a), no_longer b a (sym (each b)));
    }

-- it has as many octets in every memory of the same shape
pub same_block : (m n : Memory) (number : ℕ) (octets : List ℕ) → SameShape m n → data_block n number ≡ Some octets
    → IsFound (data_block m number) (length octets)
same_block m n number octets same found =
    found_by (data_block m number) octets number
    (λ k.
    sym (byte_code m number k 1)
    ∙ (same.places (data_item number k 1)
    ∙ (byte_code n number k 1 ∙ (ap (λ f. code_at f number k) found ∙ code_inside octets number k))))

-- ---- its head is told

pub names_block : (number : ℕ) → number < 65536 → NamesNone BlockHead (block_octets 0x41 number) → ⊥
names_block number low none =
    let name : BlockName = record { kind = 0x41; number = number } in
    not_both (named (block_octets 0x41 number) 0x41) name none (names_read.names name 0x41 (lt-ltb number 65536 low))

head_error : (s : State) (right : Bool) (n : Memory) (number : ℕ) (octets : List ℕ) → SameShape s.memory n
    → data_block n number ≡ Some octets → (answer s right (plain.Info 0x41 number)).error ≡ 0
head_error s right n number octets same found =
    ap (λ f. (info_told 0x41 (option_map (db_image number) f)).error)
    (same_block s.memory n number octets same found).is

pub head_good : (n : Memory) (right : Bool) (number : ℕ) → IsBlock n number
    → IsGood n right BlockHead (block_octets 0x41 number)
head_good n right number block = λ moment own request s asked same has.
    let found = some_is (data_block n number) block.1 in
    ap (λ r. (answer s own r).error) (asks_info number moment request block.0 asked)
    ∙ head_error s own n number found.0 same found.1

-- ---- the list of the data blocks

pub names_kind : NamesNone BlocksOfKind (kind_octets 0x41) → ⊥
names_kind none = cc

some_told : (octets : List ℕ) → 0 < length octets → (entries_told octets).error ≡ 0
some_told [] some = absurd (omega (arith, some))
some_told (x ∷ octets) some = refl

some_entries : (s : State) (numbers : List ℕ) → 0 < length numbers
    → 0 < length (flat_map (list_entry s 0x41) numbers)
some_entries s [] some = absurd (omega (arith, some))
some_entries s (number ∷ numbers) some = omega arith

first_equal : (r s : Ordering) → is_eq (ordering_then r s) ≡ true → r ≡ Equal
first_equal Less s is = absurd (cc)
first_equal Equal s is = refl
first_equal Greater s is = absurd (cc)

block_key : (number : ℕ) (key : AreaKey)
    → is_at (key_cmp (record { area = data_blocks; number = number })) key ≡ true → key.area ≡ data_blocks
block_key number key is =
    sym
    (exact_unsigned data_blocks key.area
    (first_equal (nat_cmp data_blocks key.area) (nat_cmp number key.number) is))

abbrev numbers_of : List AreaKey → List ℕ
numbers_of keys = map (λ (key : AreaKey). key.number) keys

one_more : (b : Bool) (key : AreaKey) (keys : List AreaKey) → b ≡ true
    → 0 < length (numbers_of (cond b (key ∷ keys) keys))
one_more true key keys is = omega arith
one_more false key keys is = absurd (cc)

still_some : (b : Bool) (key : AreaKey) (keys : List AreaKey) → 0 < length (numbers_of keys)
    → 0 < length (numbers_of (cond b (key ∷ keys) keys))
still_some true key keys some = omega arith
still_some false key keys some = some

numbers_step : (number : ℕ) (e : AreaKey × List ℕ) (areas : AreaList) (here : Bool) (later : Option (List ℕ))
    → is_at (key_cmp (record { area = data_blocks; number = number })) e.0 ≡ here → IsSome (cond here (Some e.1) later)
    → (IsSome later → 0 < length (db_numbers (keys_of areas))) → 0 < length (db_numbers (keys_of (e ∷ areas)))
numbers_step number e areas true later is found more =
    one_more (eqb e.0.area data_blocks) e.0 (filter (λ (k : AreaKey). eqb k.area data_blocks) (keys_of areas))
    (eq-eqb e.0.area data_blocks (block_key number e.0 is))
numbers_step number e areas false later is found more =
    still_some (eqb e.0.area data_blocks) e.0 (filter (λ (k : AreaKey). eqb k.area data_blocks) (keys_of areas))
    (more found)

some_numbers : (number : ℕ) (areas : AreaList)
    → IsSome (lookup (is_at (key_cmp (record { area = data_blocks; number = number }))) areas)
    → 0 < length (db_numbers (keys_of areas))
some_numbers number [] found = absurd (cc)
some_numbers number (e ∷ areas) found =
    let test = is_at (key_cmp (record { area = data_blocks; number = number })) in
    numbers_step number e areas (test e.0) (lookup test areas) refl found (some_numbers number areas)

list_error : (s : State) (right : Bool) (n : Memory) (number : ℕ) (octets : List ℕ) → SameShape s.memory n
    → data_block n number ≡ Some octets → (answer s right (plain.ListOf 0x41)).error ≡ 0
list_error s right n number octets same found =
    let numbers = db_numbers (keys_of s.memory.areas) in
    some_told (flat_map (list_entry s 0x41) numbers)
    (some_entries s numbers
    (some_numbers number s.memory.areas (ap is_some (same_block s.memory n number octets same found).is)))

pub list_good : (n : Memory) (right : Bool) (number : ℕ) → IsSome (data_block n number)
    → IsGood n right BlocksOfKind (kind_octets 0x41)
list_good n right number some = λ moment own request s asked same has.
    let found = some_is (data_block n number) some in
    ap (λ r. (answer s own r).error) asked ∙ list_error s own n number found.0 same found.1
