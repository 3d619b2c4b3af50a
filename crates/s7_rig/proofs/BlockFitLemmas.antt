-- What a plant replies to questions about blocks is whole.
use Rattle.std.proofs.Common.{◌≡◌, ◌∙◌, inl, ℕ, ◌+◌, ◌*◌, ◌<◌, ◌≤◌, Bool, true, false, cond, eqb, Option, None, Some}
use Rattle.std.proofs.Common.{List, [], ◌∷◌, ◌++◌, length, map, filter, take, drop, refl, sym, ap, subst, arith, length-append}
use Rattle.std.specs.Prelude.{◌%◌, IsSome, unwrap_or, option_map}
use Rattle.std.specs.declared.cmp.Ordering.{Ordering}
use Rattle.std.specs.Ordering.{is_eq}
use Rattle.std.specs.BTreeMap.{is_at}
use Rattle.std.specs.Cmp.{IsTotalOrder}
use Rattle.std.specs.List.{AllByRecursion, flat_map}
use Rattle.std.specs.Map.{keys_of, lookup}
use Rattle.std.proofs.lemmas.Bool.{and_parts, and_from, eqb-true, eq-eqb, leb-true, le-leb}
use Rattle.std.proofs.lemmas.Cmp.{tied_itself}
use Rattle.std.proofs.lemmas.List.{length-take-le, length-drop}
use Rattle.s7_outer.specs.Numbers.{two_octets}
use Rattle.s7_item.specs.Codes.{data_blocks}
use Rattle.s7_area.specs.declared.key.AreaKey.{AreaKey}
use Rattle.s7_area.specs.Memory.{AreaList, key_cmp, area_octets}
use Rattle.s7_area.specs.Registers.{db_numbers, IsArea}
use Rattle.s7_area.proofs.MemoryLemmas.{key_cmp_total}
use Rattle.s7_block.specs.declared.block.BlockName.{BlockName}
use Rattle.s7_block.specs.Heads.{Head, head_agrees, four_at, db_head}
use Rattle.s7_block.proofs.HeadLemmas.{read as heads_read}
use Rattle.s7_block.specs.Store.{Images, IsStored, name_cmp, image_at, numbers_of}
use Rattle.s7_block.proofs.StoreLemmas.{name_cmp_total, numbers_few}
use Rattle.s7_plant.specs.Answers as plant
use Rattle.s7_plant.specs.Answers.{db_image, db_octets, image_in, numbers_in, list_entry, entries_told, info_told}
use Rattle.s7_plant.specs.State.{State}
use Rattle.s7_plant.specs.declared.request.Request.TheVariants as plain
use Rattle.s7_dialogue.specs.declared.questions.subject.Subject.TheVariants.{BlockCounts, BlocksOfKind, BlockHead, DataHead}
use Rattle.s7_dialogue.specs.DataBlocks.{tells_data}
use Rattle.s7_rig.specs.Plants.{IsPlant}
use Rattle.s7_rig.proofs.UserFitLemmas.{refusal_fits}
use Rattle.s7_rig.proofs.UserServedLemmas.{IsFit}

-- seven kinds with their counts
pub counts_fit : (state : State) (right : Bool) → IsFit BlockCounts (plant.answer state right plain.ListAll)
counts_fit state right = record {
  small = omega arith;
  rest = λ is. record { whole = refl; most = omega arith; short = inl refl };
}

-- ---- an image has a head

long_step : (b : Bool) (x v : List ℕ) (later : Option (List ℕ)) → cond b (Some x) later ≡ Some v → 36 ≤ length x
    → (later ≡ Some v → 36 ≤ length v) → 36 ≤ length v
long_step true x v later is here more = let same : x ≡ v = cc in subst (λ (y : List ℕ). 36 ≤ length y) same here
long_step false x v later is here more = more is

head_long : (image : List ℕ) (kind number : ℕ) → head_agrees image kind number ≡ true → 36 ≤ length image
unfolding head_agrees
head_long image kind number agrees =
    leb-true 36 (length image) (and_parts _ _ (and_parts _ _ (and_parts _ _ agrees).0).0).0

stored_long : (test : BlockName → Bool) (images : Images) (image : List ℕ) → AllByRecursion IsStored images
    → lookup test images ≡ Some image → 36 ≤ length image
stored_long test [] image all is = absurd (cc)
stored_long test (e ∷ images) image all is =
    long_step (test e.0) e.1 image (lookup test images) is (head_long e.1 e.0.kind e.0.number all.0.head)
    (stored_long test images image all.1)

db_long : (number : ℕ) (found : Option (List ℕ)) (image : List ℕ)
    → option_map (db_image number) found ≡ Some image → 36 ≤ length image
db_long number None image is = absurd (cc)
db_long number (Some octets) image is =
    let same : db_image number octets ≡ image = cc in
    subst (λ (y : List ℕ). 36 ≤ length y) same (omega arith)

image_long_by : (s : State) (kind number : ℕ) (image : List ℕ) (db : Bool) → IsPlant s
    → cond db (option_map (db_image number) (db_octets s number))
    (image_at s.blocks.images (record { kind = kind; number = number })) ≡ Some image → 36 ≤ length image
image_long_by s kind number image true plant is = db_long number (db_octets s number) image is
image_long_by s kind number image false plant is = stored_long _ s.blocks.images image plant.blocks.stored is

image_long : (s : State) (kind number : ℕ) (image : List ℕ) → IsPlant s → image_in s kind number ≡ Some image
    → 36 ≤ length image
image_long s kind number image plant is = image_long_by s kind number image (eqb kind 0x41) plant is

-- ---- a head

head_fits_by : (s : State) (kind number : ℕ) (found : Option (List ℕ)) → IsPlant s → image_in s kind number ≡ found
    → IsFit BlockHead (info_told kind found)
head_fits_by s kind number None plant is = refusal_fits BlockHead 0xD209 (omega arith) (omega arith)
head_fits_by s kind number (Some image) plant is =
    let long = length-take-le 36 image (image_long s kind number image plant is) in
    record {
      small = omega arith;
      rest = λ good. record {
        whole = eq-eqb (length (0x30 ∷ kind ∷ 0x00 ∷ 0x22 ∷ take 36 image)) 40 (omega (arith, long));
        most = omega (arith, long);
        short = inl refl;
      };
    }

pub head_fits : (kind number : ℕ) (state : State) (right : Bool) → IsPlant state
    → IsFit BlockHead (plant.answer state right (plain.Info kind number))
head_fits kind number state right plant = head_fits_by state kind number _ plant refl

-- ---- that of a data block

-- the length of an area
abbrev IsSized : List ℕ → Type 0
IsSized octets = (0 < length octets) × (length octets ≤ 2097152)

sized_step : (b : Bool) (x v : List ℕ) (later : Option (List ℕ)) → cond b (Some x) later ≡ Some v → IsSized x
    → (later ≡ Some v → IsSized v) → IsSized v
sized_step true x v later is here more = let same : x ≡ v = cc in subst IsSized same here
sized_step false x v later is here more = more is

area_sized : (test : AreaKey → Bool) (areas : AreaList) (octets : List ℕ) → AllByRecursion IsArea areas
    → lookup test areas ≡ Some octets → IsSized octets
area_sized test [] octets all is = absurd (cc)
area_sized test (e ∷ areas) octets all is =
    sized_step (test e.0) e.1 octets (lookup test areas) is (all.0.some, all.0.most)
    (area_sized test areas octets all.1)

-- what is told of the head
abbrev pub data_told : ℕ → List ℕ → List ℕ
data_told number octets = 0x30 ∷ 0x41 ∷ 0x00 ∷ 0x22 ∷ take 36 (db_image number octets)

pub load_told : (number : ℕ) (octets : List ℕ) → four_at (data_told number octets) 12 ≡ 36 + length octets
load_told number octets = ap (λ (h : Head). h.load_length) (heads_read (db_head number (length octets)) octets)

data_whole : (number : ℕ) (octets : List ℕ) → IsSized octets → tells_data (data_told number octets) ≡ true
data_whole number octets sized =
    let load = load_told number octets in
    and_from _ _ refl
    (and_from _ _ (le-leb 37 (four_at (data_told number octets) 12) (omega (arith, load, sized.0)))
    (le-leb (four_at (data_told number octets) 12) 2097188 (omega (arith, load, sized.1))))

data_fits_by : (number : ℕ) (found : Option (List ℕ)) → ((octets : List ℕ) → found ≡ Some octets → IsSized octets)
    → IsFit DataHead (info_told 0x41 (option_map (db_image number) found))
data_fits_by number None sized = refusal_fits DataHead 0xD209 (omega arith) (omega arith)
data_fits_by number (Some octets) sized = record {
  small = omega arith;
  rest = λ good. record { whole = data_whole number octets (sized octets refl); most = omega arith; short = inl refl };
}

pub data_fits : (number : ℕ) (state : State) (right : Bool) → IsPlant state
    → IsFit DataHead (plant.answer state right (plain.Info 0x41 number))
data_fits number state right plant =
    data_fits_by number (db_octets state number) (λ octets is.
    area_sized (is_at (key_cmp (record { area = data_blocks; number = number }))) state.memory.areas octets plant.areas is)

-- ---- each block of a kind is there

found_here : {X : Type 0} (b : Bool) (x : X) (later : Option X) → b ≡ true → IsSome (cond b (Some x) later)
found_here true x later is = refl
found_here false x later is = absurd (cc)

found_later : {X : Type 0} (b : Bool) (x : X) (later : Option X) → IsSome later → IsSome (cond b (Some x) later)
found_later true x later some = refl
found_later false x later some = some

module _ {K X : Type 0} (R : K → K → Ordering) (o : IsTotalOrder R) where
  -- what is among some entries is among all
  each_there : (all es : List (K × X)) → ((test : K → Bool) → IsSome (lookup test es) → IsSome (lookup test all))
      → AllByRecursion (λ k. IsSome (lookup (is_at (R k)) all)) (keys_of es)
  each_there all [] among = tt
  each_there all (e ∷ es) among = (
    among (is_at (R e.0))
        (found_here (is_at (R e.0) e.0) e.1 (lookup (is_at (R e.0)) es) (ap is_eq (tied_itself o e.0))),
    each_there all es (λ test some. among test (found_later (test e.0) e.1 (lookup test es) some)),
  )

-- there is an image under each number
abbrev HasImages : State → ℕ → List ℕ → Type 0
HasImages s kind numbers = AllByRecursion (λ n. IsSome (image_in s kind n)) numbers

some_image : (number : ℕ) (found : Option (List ℕ)) → IsSome found → IsSome (option_map (db_image number) found)
some_image number None some = absurd (cc)
some_image number (Some octets) some = refl

dbs_step : (s : State) (b : Bool) (key : AreaKey) (keys : List AreaKey) → eqb key.area data_blocks ≡ b
    → IsSome (area_octets s.memory key)
    → HasImages s 0x41 (map (λ (k : AreaKey). k.number) (filter (λ (k : AreaKey). eqb k.area data_blocks) keys))
    → HasImages s 0x41
    (map (λ (k : AreaKey). k.number) (cond b (key ∷ filter (λ (k : AreaKey). eqb k.area data_blocks) keys)
    (filter (λ (k : AreaKey). eqb k.area data_blocks) keys)))
dbs_step s true key keys is some rest =
    let same : key.area ≡ data_blocks = eqb-true key.area data_blocks is in (
      some_image key.number (db_octets s key.number)
          (subst (λ (area : ℕ). IsSome (area_octets s.memory (record { area = area; number = key.number }))) same some),
      rest,
    )
dbs_step s false key keys is some rest = rest

dbs_there : (s : State) (keys : List AreaKey) → AllByRecursion (λ key. IsSome (area_octets s.memory key)) keys
    → HasImages s 0x41 (db_numbers keys)
dbs_there s [] all = tt
dbs_there s (key ∷ keys) all = dbs_step s (eqb key.area data_blocks) key keys refl all.0 (dbs_there s keys all.1)

abbrev is_of : ℕ → BlockName × List ℕ → Bool
is_of kind e = eqb e.0.kind kind

stored_step : (s : State) (kind : ℕ) (b : Bool) (e : BlockName × List ℕ) (es : Images) → eqb e.0.kind kind ≡ b
    → IsSome (image_at s.blocks.images e.0)
    → AllByRecursion (λ n. IsSome (image_at s.blocks.images (record { kind = kind; number = n })))
    (map (λ (x : BlockName × List ℕ). x.0.number) (filter (is_of kind) es))
    → AllByRecursion (λ n. IsSome (image_at s.blocks.images (record { kind = kind; number = n })))
    (map (λ (x : BlockName × List ℕ). x.0.number) (cond b (e ∷ filter (is_of kind) es) (filter (is_of kind) es)))
stored_step s kind true e es is some rest =
    let same : e.0.kind ≡ kind = eqb-true e.0.kind kind is in (
      subst (λ (k : ℕ). IsSome (image_at s.blocks.images (record { kind = k; number = e.0.number }))) same some,
      rest,
    )
stored_step s kind false e es is some rest = rest

stored_there : (s : State) (kind : ℕ) (es : Images)
    → AllByRecursion (λ name. IsSome (image_at s.blocks.images name)) (keys_of es)
    → AllByRecursion (λ n. IsSome (image_at s.blocks.images (record { kind = kind; number = n }))) (numbers_of es kind)
stored_there s kind [] all = tt
stored_there s kind (e ∷ es) all =
    stored_step s kind (eqb e.0.kind kind) e es refl all.0 (stored_there s kind es all.1)

-- ---- the blocks of a kind

-- how many there are, each with an image
record AreBlocks (s : State) (kind : ℕ) (numbers : List ℕ) : Type 0 where
  few : length numbers ≤ 2048
  there : HasImages s kind numbers

blocks_by : (s : State) (kind : ℕ) (db : Bool) → eqb kind 0x41 ≡ db → IsPlant s
    → AreBlocks s kind (cond db (db_numbers (keys_of s.memory.areas)) (numbers_of s.blocks.images kind))
blocks_by s kind true is plant =
    subst (λ (k : ℕ). AreBlocks s k (db_numbers (keys_of s.memory.areas))) (sym (eqb-true kind 0x41 is))
    (record {
      few = plant.dbs;
      there = dbs_there s (keys_of s.memory.areas)
          (each_there key_cmp key_cmp_total s.memory.areas s.memory.areas (λ test some. some));
    })
blocks_by s kind false is plant =
    let each = stored_there s kind s.blocks.images
    (each_there name_cmp name_cmp_total s.blocks.images s.blocks.images (λ test some. some)) in
    record {
      few = omega (arith, numbers_few s.blocks kind plant.blocks);
      there =
          subst
          (λ (b : Bool). AllByRecursion (λ n. IsSome (cond b (option_map (db_image n) (db_octets s n))
          (image_at s.blocks.images (record { kind = kind; number = n })))) (numbers_of s.blocks.images kind))
          (sym is) each;
    }

-- each of them is told in four octets
entry_four : (s : State) (kind number : ℕ) (found : Option (List ℕ)) → IsPlant s → image_in s kind number ≡ found
    → IsSome found → length (list_entry s kind number) ≡ 4
entry_four s kind number None plant is some = absurd (cc)
entry_four s kind number (Some image) plant is some =
    let long = image_long s kind number image plant is in
    let cut = length-take-le 2 (drop 3 image) (omega (arith, long, length-drop 3 image)) in
    let all = length-append (two_octets number) (take 2 (drop 3 image)) in
    ap (λ o. length (two_octets number ++ take 2 (drop 3 (unwrap_or o [])))) is ∙ omega (arith, cut, all)

entries_four : (s : State) (kind : ℕ) (numbers : List ℕ) → IsPlant s → HasImages s kind numbers
    → length (flat_map (list_entry s kind) numbers) ≡ 4 * length numbers
entries_four s kind [] plant there = refl
entries_four s kind (n ∷ numbers) plant there =
    omega (
      arith,
      length-append (list_entry s kind n) (flat_map (list_entry s kind) numbers),
      entry_four s kind n (image_in s kind n) plant refl there.0,
      entries_four s kind numbers plant there.1,
    )

kind_fits_by : (octets : List ℕ) (n : ℕ) → length octets ≡ 4 * n → n ≤ 2048 → IsFit BlocksOfKind (entries_told octets)
kind_fits_by [] n long few = refusal_fits BlocksOfKind 0xD209 (omega arith) (omega arith)
kind_fits_by (x ∷ octets) n long few = record {
  small = omega arith;
  rest = λ good. record {
    whole = eq-eqb (length (x ∷ octets) % 4) 0 (omega (arith, long));
    most = omega (arith, long, few);
    short = inl refl;
  };
}

pub kind_fits : (kind : ℕ) (state : State) (right : Bool) → IsPlant state
    → IsFit BlocksOfKind (plant.answer state right (plain.ListOf kind))
kind_fits kind state right plant =
    let blocks : AreBlocks state kind (numbers_in state kind) = blocks_by state kind (eqb kind 0x41) refl plant in
    kind_fits_by (flat_map (list_entry state kind) (numbers_in state kind)) (length (numbers_in state kind))
    (entries_four state kind (numbers_in state kind) plant blocks.there) blocks.few
