-- The memory that is read from what is written for it is the same.
use Rattle.std.proofs.Common.{◌≡◌, ◌∙◌, ◌<◌, ◌≤◌, ◌+◌, ◌%◌, ◌&&◌, ◌||◌, ℕ, Bool, true, false, not, cond, eqb, refl, sym, ap, subst, arith, List, [], ◌∷◌, ◌++◌, length, map, Option, Some, None, Ok, inl, inr, le-ltb, eq-eqb, eqb-true, true≢false, append_assoc}
use Rattle.std.specs.Prelude.{◌==◌, nat_lt, nat_le, IfSome}
use Rattle.std.specs.List.{AllByRecursion, filter, flat_map, sum_by}
use Rattle.std.specs.List.Sorted.{IsStrictlySortedBy}
use Rattle.std.specs.Map.{keys_of, lookup, values_of}
use Rattle.std.specs.BTreeMap.{insert_entry, is_at}
use Rattle.std.specs.Ordering.{is_eq, match_ordering, nat_cmp}
use Rattle.std.specs.declared.cmp.Ordering.{Ordering}
use Rattle.std.specs.declared.cmp.Ordering.TheVariants.{Less, Equal, Greater}
use Rattle.std.proofs.lemmas.Bool.Decides.{nat_tests, eqb_tells}
use Rattle.std.proofs.lemmas.Cmp.{tied_itself}
use Rattle.std.proofs.lemmas.Grind.{common_steps}
use Rattle.std.proofs.lemmas.Map.Keys.{sorted_head, sorted_tail}
use Rattle.std.proofs.lemmas.Map.Lookups.{CmpEqualImpliesEq, exact_pairs, exact_unsigned}
use Rattle.hex.specs.Hex.{IsBytes}
use Rattle.s7_area.specs.Keys.{is_key, is_single}
use Rattle.s7_area.specs.Memory.{AreaList, Memory, key_cmp, area_octets}
use Rattle.s7_area.specs.Registers.{IsArea, IsMemory, most_octets, most_in_all, most_dbs, db_numbers, fault_of, total_of}
use Rattle.s7_area.specs.declared.key.AreaKey.{AreaKey}
use Rattle.s7_area.specs.Laws.{AreasJoin}
use Rattle.s7_text.specs.Lines.{Text, lines, next_line}
use Rattle.s7_script.specs.Reading.{after_header, areas, read_lines}
use Rattle.s7_script.specs.Spelling.{IsInRange, area_text, block, guard_text, head_text, header, octet_lines, order, part, part_of, single, singles, spelling}
use Rattle.s7_script.proofs.KeptLemmas.{added, kept, all-found, all_kept, insert-kept, kept-none, lookup-kept, sorted-kept, sum-kept}
use Rattle.s7_text.proofs.LineLemmas.{isn't}
use Rattle.s7_script.proofs.LawLemmas.{IsWritten, between, block_written, counters_written, flags_written, inputs_written, inside, line_then, opens, outputs_written, plain_by_test, timers_written}
use Rattle.s7_script.proofs.GuardLemmas.{starts}
use Rattle.s7_script.proofs.OctetLemmas.{bytes_of, octets_register}
use Rattle.s7_script.proofs.ReadLemmas.{ends, line_passes}

-- ---- names

pub exact : CmpEqualImpliesEq key_cmp
exact a b e = ap (λ (x : ℕ × ℕ). record { area = x.0; number = x.1 }) (exact_pairs nat_cmp nat_cmp exact_unsigned exact_unsigned (a.area, a.number) (b.area, b.number) e)

zero_of : (b : Bool) (n : ℕ) → (b && n == 0) ≡ true → n ≡ 0
zero_of true n h = eqb-true n 0 h
zero_of false n h = absurd (true≢false (sym h))

first_of : (b c : Bool) → (b && c) ≡ true → b ≡ true
first_of true c h = refl
first_of false c h = absurd (true≢false (sym h))

-- what holds of each name that there is one of holds of such a name
by_single : (P : AreaKey → Type 0) (key : AreaKey) → (is_single key.area && key.number == 0) ≡ true → P (single 0x81) → P (single 0x82) → P (single 0x83) → P (single 0x1C) → P (single 0x1D) → P key
by_single P key is a b c d e =
    let zero = zero_of (is_single key.area) key.number is in
    let name = first_of (is_single key.area) (key.number == 0) is in
    let done : (x : ℕ) → key.area ≡ x → P (single x) → P key = λ x same holds.
    subst (λ n. P (record { area = key.area; number = n })) (sym zero) (subst (λ y. P (single y)) (sym same) holds) in
    elim (eqb_tells key.area 0x81) [
      | inl y ↦ done 0x81 y.1 a
      | inr n1 ↦ elim (eqb_tells key.area 0x82) [
        | inl y ↦ done 0x82 y.1 b
        | inr n2 ↦ elim (eqb_tells key.area 0x83) [
          | inl y ↦ done 0x83 y.1 c
          | inr n3 ↦ elim (eqb_tells key.area 0x1C) [
            | inl y ↦ done 0x1C y.1 d
            | inr n4 ↦ elim (eqb_tells key.area 0x1D) [
              | inl y ↦ done 0x1D y.1 e
              | inr n5 ↦ absurd (true≢false (sym name ∙ rw (n1.0, n2.0, n3.0, n4.0, n5.0) refl))
            ]
          ]
        ]
      ]
    ]

-- what holds of these and of the data blocks holds of each name that there may be
by_name : (P : AreaKey → Type 0) (key : AreaKey) → is_key key ≡ true → (key.area ≡ 0x84 → 0 < key.number → P key) → P (single 0x81) → P (single 0x82) → P (single 0x83) → P (single 0x1C) → P (single 0x1D) → P key
by_name P key is blocks a b c d e = go (key.area == 0x84) refl is
  where
    go : (t : Bool) → (key.area == 0x84) ≡ t → cond t (not (key.number == 0)) (is_single key.area && key.number == 0) ≡ true → P key
    go true same is = blocks (eqb-true key.area 0x84 same) (grind (arith, nat_tests))
    go false same is = by_single P key is a b c d e

written_by : (key : AreaKey) → is_key key ≡ true → key.number < 65536 → IsWritten key
written_by key is few =
    by_name IsWritten key is
    (λ same some. subst (λ a. IsWritten (record { area = a; number = key.number })) (sym same) (block_written key.number some few))
    inputs_written outputs_written flags_written counters_written timers_written

-- ---- no fault

abbrev one_if : Bool → ℕ
one_if b = cond b 1 0

abbrev blocks_of : AreaList → ℕ
blocks_of m = length (db_numbers (keys_of m))

blocks-cons : (key : AreaKey) (octets : List ℕ) (m : AreaList) → blocks_of ((key, octets) ∷ m) ≡ one_if (eqb key.area 0x84) + blocks_of m
blocks-cons key octets m = grind (arith, common_steps)

more_step : (o : Ordering) (key : AreaKey) (octets : List ℕ) (e : AreaKey × List ℕ) (m rest : AreaList) → cond (is_eq o) (Some e.1) (lookup (is_at (key_cmp key)) m) ≡ None → (lookup (is_at (key_cmp key)) m ≡ None → blocks_of rest ≡ one_if (eqb key.area 0x84) + blocks_of m)
    → blocks_of (match_ordering o ((key, octets) ∷ e ∷ m) ((e.0, octets) ∷ m) (e ∷ rest)) ≡ one_if (eqb key.area 0x84) + blocks_of (e ∷ m)
more_step Less key octets e m rest none more = blocks-cons key octets (e ∷ m)
more_step Equal key octets e m rest none more = cc
more_step Greater key octets e m rest none more = let ih = more none in omega (arith, ih, blocks-cons e.0 e.1 rest, blocks-cons e.0 e.1 m)

more-blocks : (m : AreaList) (key : AreaKey) (octets : List ℕ) → lookup (is_at (key_cmp key)) m ≡ None → blocks_of (insert_entry key_cmp m key octets) ≡ one_if (eqb key.area 0x84) + blocks_of m
more-blocks [] key octets none = blocks-cons key octets []
more-blocks (e ∷ m) key octets none = more_step (key_cmp key e.0) key octets e m (insert_entry key_cmp m key octets) none (more-blocks m key octets)

fewer_step : (b : Bool) (e : AreaKey × List ℕ) (m rest : AreaList) → blocks_of rest ≤ blocks_of m → blocks_of (cond b (e ∷ rest) rest) ≤ blocks_of (e ∷ m)
fewer_step true e m rest less = omega (arith, less, blocks-cons e.0 e.1 rest, blocks-cons e.0 e.1 m)
fewer_step false e m rest less = omega (arith, less, blocks-cons e.0 e.1 m)

fewer-blocks : (p : AreaKey → Bool) (m : AreaList) → blocks_of (kept key_cmp p m) ≤ blocks_of m
fewer-blocks p [] = omega arith
fewer-blocks p (e ∷ m) = fewer_step (p e.0) e m (kept key_cmp p m) (fewer-blocks p m)

abbrev list_total : AreaList → ℕ
list_total areas = sum_by length (values_of areas)

size_ok : (total len : ℕ) (pairs : Bool) → 0 < len → len ≤ most_octets → (pairs ≡ true → len % 2 ≡ 0) → total + len ≤ most_in_all
    → (len == 0 || nat_lt most_octets len || (pairs && not (len % 2 == 0)) || nat_lt most_in_all (total + len)) ≡ false
size_ok total len true some most even fits = rw (isn't len 0 (λ e. omega (arith, some, e)), le-ltb most_octets len most, eq-eqb (len % 2) 0 (even refl), le-ltb most_in_all (total + len) fits) refl
size_ok total len false some most even fits = rw (isn't len 0 (λ e. omega (arith, some, e)), le-ltb most_octets len most, le-ltb most_in_all (total + len) fits) refl

few_ok : (n : ℕ) (b : Bool) → one_if b + n ≤ most_dbs → (b && nat_le most_dbs n) ≡ false
few_ok n true h = grind (arith, nat_tests)
few_ok n false h = refl

abbrev with_areas : Memory → AreaList → Memory
with_areas m areas = record m { areas = areas }

-- the memory with those areas alone whose names have a property
abbrev kept_of : (AreaKey → Bool) → Memory → Memory
kept_of p m = with_areas m (kept key_cmp p m.areas)

no_fault : AreasJoin → (m : Memory) (p : AreaKey → Bool) (key : AreaKey) (octets : List ℕ) → IsMemory m → area_octets m key ≡ Some octets → p key ≡ false → fault_of (kept_of p m) key (length octets) ≡ None
no_fault law m p key octets is found out =
    let area = all-found key_cmp IsArea exact key octets m.areas is.areas found in
    let absent = lookup-kept key_cmp exact p key m.areas out in
    let joined = insert-kept key_cmp exact law.ordered p key octets m.areas is.ordered found out in
    let sum = law.total (kept_of p m) key octets (sorted-kept key_cmp p m.areas is.ordered) absent in
    let fits : total_of (kept_of p m) + length octets ≤ most_in_all = omega (arith, sum, ap list_total joined, sum-kept key_cmp length (added key_cmp p key) m.areas, is.total) in
    let few : one_if (eqb key.area 0x84) + blocks_of (kept key_cmp p m.areas) ≤ most_dbs = omega (arith, more-blocks (kept key_cmp p m.areas) key octets absent, ap blocks_of joined, fewer-blocks (added key_cmp p key) m.areas, is.blocks) in
    rw (area.name, size_ok (total_of (kept_of p m)) (length octets) (key.area == 0x1C || key.area == 0x1D) area.some area.most area.even fits, absent, few_ok (blocks_of (kept key_cmp p m.areas)) (eqb key.area 0x84) few) refl

-- ---- names one after another

abbrev all_added : (AreaKey → Bool) → List AreaKey → AreaKey → Bool
all_added p [] = p
all_added p (k ∷ ks) = all_added (added key_cmp p k) ks

-- none of the names was there before its turn
abbrev Fresh : (AreaKey → Bool) → List AreaKey → Type 0
Fresh p [] = Unit {0}
Fresh p (k ∷ ks) = (p k ≡ false) × Fresh (added key_cmp p k) ks

part-is : (m : Memory) (key : AreaKey) (o : Option (List ℕ)) → area_octets m key ≡ o → part m key ≡ part_of key o
unfolding part
part-is m key o is = ap (part_of key) is

area_parts : (key : AreaKey) (octets : List ℕ) (text : Text) → area_text key octets ++ text ≡ head_text key (length octets) ++ 10 ∷ (octet_lines (length octets) octets ++ text)
area_parts key octets text = append_assoc (head_text key (length octets)) (10 ∷ octet_lines (length octets) octets) text

abbrev Reads : Memory → (AreaKey → Bool) → List AreaKey → ℕ → Bool → Type 0
Reads m p ks line may = read_lines line (between may (kept_of p m)) (lines (flat_map (part m) ks)) ≡ Ok (kept_of (all_added p ks) m)

reads_part : AreasJoin → (m : Memory) (p : AreaKey → Bool) (key : AreaKey) (ks : List AreaKey) (line : ℕ) (may : Bool) → IsMemory m → IsInRange m key → p key ≡ false
    → ((n : ℕ) (later : Bool) → Reads m (added key_cmp p key) ks n later) → Reads m p (key ∷ ks) line may
reads_part law m p key ks line may is range out more = go (area_octets m key) refl range.1
  where
    go : (o : Option (List ℕ)) → area_octets m key ≡ o → IfSome o IsBytes → Reads m p (key ∷ ks) line may
    go None found bytes =
        ap (λ t. read_lines line (between may (kept_of p m)) (lines (t ++ flat_map (part m) ks))) (part-is m key None found)
        ∙ ap (λ (a : AreaList). read_lines line (between may (with_areas m a)) (lines (flat_map (part m) ks))) (sym (kept-none key_cmp p key m.areas found))
        ∙ more line may
    go (Some octets) found bytes =
        let area = all-found key_cmp IsArea exact key octets m.areas is.areas found in
        let written = written_by key area.name range.0 in
        let none = no_fault law m p key octets is found out in
        let r = octets_register (length octets) (next_line line) line (kept_of p m) (key, octets) [] octets (flat_map (part m) ks) area.some area.most (omega arith) refl (bytes_of octets bytes) none in
        ap (λ t. read_lines line (between may (kept_of p m)) (lines (t ++ flat_map (part m) ks))) (part-is m key (Some octets) found)
        ∙ ap (λ t. read_lines line (between may (kept_of p m)) (lines t)) (area_parts key octets (flat_map (part m) ks))
        ∙ ap (λ ls. read_lines line (between may (kept_of p m)) ls) (line_then (head_text key (length octets)) (octet_lines (length octets) octets ++ flat_map (part m) ks) (written.plain (length octets) area.most))
        ∙ line_passes line (between may (kept_of p m)) (inside (kept_of p m) line (key, octets) []) (head_text key (length octets)) (lines (octet_lines (length octets) octets ++ flat_map (part m) ks))
        (opens line may (kept_of p m) (key, octets) written area.most ((law.faultless (kept_of p m) key (length octets) none).size))
        ∙ r.reads
        ∙ ap (λ (x : AreaList). read_lines r.next (between false (with_areas m x)) (lines (flat_map (part m) ks))) (insert-kept key_cmp exact law.ordered p key octets m.areas is.ordered found out)
        ∙ more r.next false

read_all : AreasJoin → (m : Memory) (ks : List AreaKey) (p : AreaKey → Bool) (line : ℕ) (may : Bool) → IsMemory m → AllByRecursion (IsInRange m) ks → Fresh p ks → Reads m p ks line may
read_all law m [] p line may is range fresh = ends line (between may (kept_of p m))
read_all law m (k ∷ ks) p line may is range fresh =
    reads_part law m p k ks line may is range.0 fresh.0 (λ n later. read_all law m ks (added key_cmp p k) n later is range.1 fresh.1)

-- ---- all names

added-append : (xs ys : List AreaKey) (p : AreaKey → Bool) → all_added p (xs ++ ys) ≡ all_added (all_added p xs) ys
added-append [] ys p = refl
added-append (x ∷ xs) ys p = added-append xs ys (added key_cmp p x)

fresh-append : (xs ys : List AreaKey) (p : AreaKey → Bool) → Fresh p xs → Fresh (all_added p xs) ys → Fresh p (xs ++ ys)
fresh-append [] ys p a b = b
fresh-append (x ∷ xs) ys p a b = (a.0, fresh-append xs ys (added key_cmp p x) a.1 b)

stays : (ks : List AreaKey) (p : AreaKey → Bool) (x : AreaKey) → p x ≡ true → all_added p ks x ≡ true
stays [] p x h = h
stays (k ∷ ks) p x h = stays ks (added key_cmp p k) x (rw h refl)

abbrev none : AreaKey → Bool
none x = false

abbrev after_singles : AreaKey → Bool
after_singles = all_added none (map single singles)

no_block : (k : AreaKey) → k.area ≡ 0x84 → after_singles k ≡ false
no_block k same = subst (λ a. after_singles (record { area = a; number = k.number }) ≡ false) (sym same) refl

all_of : (P : AreaKey → Type 0) (ks : List AreaKey) → ((k : AreaKey) → P k) → AllByRecursion P ks
all_of P [] h = tt
all_of P (k ∷ ks) h = (h k, all_of P ks h)

or-true : (b : Bool) → (b || true) ≡ true
or-true true = refl
or-true false = refl

itself : AreasJoin → (p : AreaKey → Bool) (k : AreaKey) → k.area ≡ 0x84 → added key_cmp p (block k.number) k ≡ true
itself law p k same =
    let is : block k.number ≡ k = ap (λ a. record { area = a; number = k.number }) (sym same) in
    let tied : key_cmp (block k.number) k ≡ Equal = ap (λ x. key_cmp x k) is ∙ tied_itself law.ordered k in
    ap (λ o. p k || is_eq o) tied ∙ or-true (p k)

abbrev dbs : List AreaKey → List AreaKey
dbs keys = filter (λ key. key.area == 0x84) keys

abbrev blocks : List AreaKey → List AreaKey
blocks keys = map block (map (λ key. key.number) keys)

abbrev IsAdded : (AreaKey → Bool) → List AreaKey → AreaKey → Type 0
IsAdded p ks x = x.area ≡ 0x84 → all_added p ks x ≡ true

in_blocks_step : AreasJoin → (t : Bool) (k : AreaKey) (keys : List AreaKey) (p : AreaKey → Bool) → (k.area == 0x84) ≡ t → ((q : AreaKey → Bool) → AllByRecursion (IsAdded q (blocks (dbs keys))) keys)
    → AllByRecursion (IsAdded p (blocks (cond t (k ∷ dbs keys) (dbs keys)))) (k ∷ keys)
in_blocks_step law true k keys p is more = (λ same. stays (blocks (dbs keys)) (added key_cmp p (block k.number)) k (itself law p k same), more (added key_cmp p (block k.number)))
in_blocks_step law false k keys p is more = (λ same. absurd (true≢false (sym (eq-eqb k.area 0x84 same) ∙ is)), more p)

in_blocks : AreasJoin → (keys : List AreaKey) (p : AreaKey → Bool) → AllByRecursion (IsAdded p (blocks (dbs keys))) keys
in_blocks law [] p = tt
in_blocks law (k ∷ keys) p = in_blocks_step law (k.area == 0x84) k keys p refl (in_blocks law keys)

abbrev IsFresh : (AreaKey → Bool) → AreaKey → Type 0
IsFresh p x = x.area ≡ 0x84 → p x ≡ false

later_fresh : (p : AreaKey → Bool) (k : AreaKey) (ys : List AreaKey) → AllByRecursion (IsFresh p) ys → AllByRecursion (λ y. key_cmp k y ≡ Less) ys → AllByRecursion (IsFresh (added key_cmp p k)) ys
later_fresh p k [] a b = tt
later_fresh p k (y ∷ ys) a b = (λ same. ap (λ t. t || is_eq (key_cmp k y)) (a.0 same) ∙ ap is_eq b.0, later_fresh p k ys a.1 b.1)

fresh_step : (t : Bool) (k : AreaKey) (keys : List AreaKey) (p : AreaKey → Bool) → (k.area == 0x84) ≡ t → IsFresh p k → AllByRecursion (IsFresh p) keys → AllByRecursion (λ y. key_cmp k y ≡ Less) keys
    → ((q : AreaKey → Bool) → AllByRecursion (IsFresh q) keys → Fresh q (blocks (dbs keys))) → Fresh p (blocks (cond t (k ∷ dbs keys) (dbs keys)))
fresh_step true k keys p is head tail above more =
    let same = eqb-true k.area 0x84 is in
    let key : block k.number ≡ k = ap (λ a. record { area = a; number = k.number }) (sym same) in
    (ap p key ∙ head same, more (added key_cmp p (block k.number)) (subst (λ x. AllByRecursion (IsFresh (added key_cmp p x)) keys) (sym key) (later_fresh p k keys tail above)))
fresh_step false k keys p is head tail above more = more p tail

fresh_blocks : (keys : List AreaKey) (p : AreaKey → Bool) → IsStrictlySortedBy key_cmp keys → AllByRecursion (IsFresh p) keys → Fresh p (blocks (dbs keys))
fresh_blocks [] p sorted all = tt
fresh_blocks (k ∷ keys) p sorted all =
    fresh_step (k.area == 0x84) k keys p refl all.0 all.1 (sorted_head key_cmp k keys sorted) (λ q. fresh_blocks keys q (sorted_tail key_cmp k keys sorted))

-- each name of a memory has its turn
has_turn : (ks : List AreaKey) (key : AreaKey) → is_key key ≡ true → IsAdded after_singles ks key → all_added after_singles ks key ≡ true
has_turn ks key is block_is =
    by_name (λ k. IsAdded after_singles ks k → all_added after_singles ks k ≡ true) key is (λ same some h. h same)
    (λ h. stays ks after_singles (single 0x81) refl) (λ h. stays ks after_singles (single 0x82) refl) (λ h. stays ks after_singles (single 0x83) refl)
    (λ h. stays ks after_singles (single 0x1C) refl) (λ h. stays ks after_singles (single 0x1D) refl) block_is

all_turns : (ks : List AreaKey) (m : AreaList) → AllByRecursion IsArea m → AllByRecursion (IsAdded after_singles ks) (keys_of m) → AllByRecursion (λ k. all_added after_singles ks k ≡ true) (keys_of m)
all_turns ks [] areas turns = tt
all_turns ks (e ∷ m) areas turns = (has_turn ks e.0 areas.0.name turns.0, all_turns ks m areas.1 turns.1)

none_kept : (m : AreaList) → kept key_cmp none m ≡ []
none_kept [] = refl
none_kept (e ∷ m) = none_kept m

-- what is written for a memory is read as the memory
pub areas-spelling : AreasJoin → (m : Memory) → IsMemory m → AllByRecursion (IsInRange m) (order m) → areas (spelling m) ≡ Ok m
areas-spelling law m is range =
    let keys = keys_of m.areas in
    let parts : Text = flat_map (part m) (order m) in
    let fresh = fresh-append (map single singles) (blocks (dbs keys)) none (refl, (refl, (refl, (refl, (refl, tt))))) (fresh_blocks keys after_singles is.ordered (all_of (IsFresh after_singles) keys no_block)) in
    let whole : kept key_cmp (all_added none (order m)) m.areas ≡ m.areas =
    ap (λ q. kept key_cmp q m.areas) (added-append (map single singles) (blocks (dbs keys)) none)
    ∙ all_kept key_cmp (all_added after_singles (blocks (dbs keys))) m.areas (all_turns (blocks (dbs keys)) m.areas is.areas (in_blocks law keys after_singles)) in
    let start = starts m.guard parts is.guard in
    ap after_header (line_then header (guard_text m.guard ++ parts) (plain_by_test header refl))
    ∙ start.reads
    ∙ ap (λ (x : AreaList). read_lines start.next (between start.may (with_areas m x)) (lines parts)) (sym (none_kept m.areas))
    ∙ read_all law m (order m) none start.next start.may is range fresh
    ∙ ap (λ (x : AreaList). Ok (with_areas m x)) whole

flat-append : (f : AreaKey → Text) (xs ys : List AreaKey) → flat_map f (xs ++ ys) ≡ flat_map f xs ++ flat_map f ys
flat-append f [] ys = refl
flat-append f (x ∷ xs) ys = ap (λ t. f x ++ t) (flat-append f xs ys) ∙ sym (append_assoc (f x) (flat_map f xs) (flat_map f ys))

-- the text is written in four parts
pub spelled_by : (m : Memory) (first guard singly whole : Text) → first ≡ header ++ 10 ∷ [] → guard ≡ first ++ guard_text m.guard → singly ≡ guard ++ flat_map (part m) (map single singles)
    → whole ≡ singly ++ flat_map (part m) (map block (db_numbers (keys_of m.areas))) → whole ≡ spelling m
spelled_by m first guard singly whole a b c d =
    let ones : Text = flat_map (part m) (map single singles) in
    let many : Text = flat_map (part m) (map block (db_numbers (keys_of m.areas))) in
    d ∙ ap (λ t. t ++ many) (c ∙ ap (λ t. t ++ ones) (b ∙ ap (λ t. t ++ guard_text m.guard) a))
    ∙ append_assoc ((header ++ 10 ∷ []) ++ guard_text m.guard) ones many
    ∙ append_assoc (header ++ 10 ∷ []) (guard_text m.guard) (ones ++ many)
    ∙ append_assoc header (10 ∷ []) (guard_text m.guard ++ (ones ++ many))
    ∙ ap (λ t. header ++ 10 ∷ (guard_text m.guard ++ t)) (sym (flat-append (part m) (map single singles) (map block (db_numbers (keys_of m.areas)))))
