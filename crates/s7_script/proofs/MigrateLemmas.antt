-- What is read is a memory, so what is written for it is read again.
use Rattle.std.proofs.Common.{◌≡◌, ◌∙◌, ◌<◌, ℕ, Bool, true, false, cond, zero, suc, refl, sym, ap, subst, arith, List, [], ◌∷◌, ◌++◌, length, map, replicate, slice_index, Option, Some, None, Result, Ok, Err}
use Rattle.std.specs.Prelude.{◌==◌, ◌+◌, nat_lt, IfSome}
use Rattle.std.specs.List.{AllByRecursion, filter, position}
use Rattle.std.specs.Map.{keys_of}
use Rattle.std.specs.BTreeMap.{insert_entry}
use Rattle.std.specs.Ordering.{match_ordering}
use Rattle.std.specs.declared.cmp.Ordering.{Ordering}
use Rattle.std.specs.declared.cmp.Ordering.TheVariants.{Less, Equal, Greater}
use Rattle.hex.specs.Hex.{IsBytes, decode_of, decode_sized}
use Rattle.hex.specs.declared.error.FromHexError.{FromHexError}
use Rattle.hex.proofs.HexLemmas.{decode_of-ok, decode_sized-ok, decode_sized-twice}
use Rattle.s7_area.specs.Laws.{AreasJoin}
use Rattle.s7_area.specs.Memory.{AreaList, Memory, key_cmp, area_octets, with_area}
use Rattle.s7_area.specs.Registers.{IsMemory, db_numbers, fault_of, is_wrong_size}
use Rattle.s7_area.specs.declared.key.AreaKey.{AreaKey}
use Rattle.s7_area.specs.declared.register.RegisterFault.{RegisterFault}
use Rattle.s7_area.specs.declared.register.RegisterFault.TheVariants as refusal
use Rattle.s7_area.proofs.MemoryLemmas.{IsMemory-with_area, Keeps-none}
use Rattle.s7_text.specs.Lines.{Text, lines, is_passed, next_line}
use Rattle.s7_text.specs.Fields.{fields_after, first_field, is_space, number_of}
use Rattle.s7_script.specs.Reading.{Open, State, ◌>>=◌, after_header, area_line, area_named, areas, block_line, by_current, by_version, closed, ended, filled, guard_line, guarded, hex_octets, is_guard_line, joined, line_octets, named_line, nothing_read, number_within, octets_by, opened, read_lines, registered, run_octet, run_of, run_parts, version_of, with_guard, with_line, with_more, with_octets, with_size}
use Rattle.s7_script.specs.Spelling.{IsInRange, block, order, single, spelling}
use Rattle.s7_script.specs.declared.areas.fault.AreasFault.{AreasFault}
use Rattle.s7_script.specs.declared.areas.fault.AreasKind.TheVariants as kind
use Rattle.s7_script.specs.declared.areas.version.Version.{Version}
use Rattle.s7_script.proofs.GuardLemmas.{bind_ok, cond_ok, line_guards, number_ok}
use Rattle.s7_script.proofs.KeptLemmas.{all-found, sorted-insert}
use Rattle.s7_script.proofs.OctetLemmas.{AllBytes, bytes_of, is_bytes}
use Rattle.s7_script.proofs.SpellingLemmas.{areas-spelling, exact}

-- ---- what is known of what was read

abbrev InRange : AreaKey × List ℕ → Type 0
InRange e = (e.0.number < 65536) × AllBytes e.1

record IsRead (m : Memory) : Type 0 where
  memory : IsMemory m
  range : AllByRecursion InRange m.areas

record Kept (s : State) : Type 0 where
  areas : IsRead s.areas
  current : IfSome s.current (λ a. InRange (a.key, a.octets))

abbrev Same : {A : Type 0} → Result A AreasFault → Result A AreasFault → Type 0
Same a b = a ≡ b

ok_is : {A : Type 0} (x y : A) → Same (Ok x) (Ok y) → x ≡ y
ok_is x y h = cc

-- ---- octets

bytes-append : (xs ys : List ℕ) → AllBytes xs → AllBytes ys → AllBytes (xs ++ ys)
bytes-append [] ys a b = b
bytes-append (x ∷ xs) ys a b = (a.0, bytes-append xs ys a.1 b)

bytes-replicate : (n b : ℕ) → b < 256 → AllBytes (replicate n b)
bytes-replicate zero b byte = tt
bytes-replicate (suc n) b byte = (byte, bytes-replicate n b byte)

hex_bytes : (line : ℕ) (text octets : List ℕ) (r : Result (List ℕ) FromHexError) → decode_of text ≡ r → hex_octets line r ≡ Ok octets → AllBytes octets
hex_bytes line text octets (Ok found) is h =
    let same : found ≡ octets = cc in
    subst AllBytes same (bytes_of found (decode_of-ok text found is).3)
hex_bytes line text octets (Err e) is h = cc

octet_byte : (line octet : ℕ) (text : Text) (r : Result (List ℕ) FromHexError) → decode_sized text 1 ≡ r → run_octet line r ≡ Ok octet → octet < 256
octet_byte line octet text (Ok found) is h =
    let same : slice_index found 0 ≡ octet = cc in
    let bytes = (decode_of-ok text found (sym (decode_sized-twice text 1 (decode_sized-ok text 1 found is)) ∙ is)).3 in
    subst (λ b. b < 256) same (bytes 0)
octet_byte line octet text (Err e) is h = cc

run_byte : (line : ℕ) (parts : Text × Text) (run : ℕ × ℕ) → run_of line parts ≡ Ok run → run.1 < 256
run_byte line parts run h =
    let count = number_within 1 9999999999 (number_of parts.0) line in
    let octet = run_octet line (decode_sized parts.1 1) in
    let first = bind_ok count (λ n. octet >>= (λ b. Ok (n, b))) run h in
    let second = bind_ok octet (λ b. Ok (first.0, b)) run first.2 in
    let same : second.0 ≡ run.1 = ap (λ (p : ℕ × ℕ). p.1) (ok_is (first.0, second.0) run second.2) in
    subst (λ b. b < 256) same (octet_byte line second.0 parts.1 (decode_sized parts.1 1) refl second.1)

by_bytes : (line : ℕ) (text octets : List ℕ) (o : Option (Text × Text)) → octets_by line text o ≡ Ok octets → AllBytes octets
by_bytes line text octets None h = hex_bytes line text octets (decode_of text) refl h
by_bytes line text octets (Some parts) h =
    let read = bind_ok (run_of line parts) (λ run. Ok (replicate run.0 run.1)) octets h in
    subst AllBytes (ok_is (replicate read.0.0 read.0.1) octets read.2) (bytes-replicate read.0.0 read.0.1 (run_byte line parts read.0 read.1))

-- ---- the line of an area

size_key : (line : ℕ) (key : AreaKey) (o : Option Text) (area : AreaKey × ℕ) → with_size line key o ≡ Ok area → key ≡ area.0
size_key line key None area h = cc
size_key line key (Some text) area h =
    let size = number_within 0 9999999999 (number_of (first_field text (position is_space text))) line in
    let read = bind_ok size (λ n. ended line (key, n) (fields_after text (position is_space text))) area h in
    last (fields_after text (position is_space text)) read.0 read.2
  where
    last : (rest : Option Text) (n : ℕ) → ended line (key, n) rest ≡ Ok area → key ≡ area.0
    last None n h = ap (λ (p : AreaKey × ℕ). p.0) (ok_is (key, n) area h)
    last (Some rest) n h = cc

block_number : (line : ℕ) (o : Option Text) (area : AreaKey × ℕ) → block_line line o ≡ Ok area → area.0.number < 65536
block_number line None area h = cc
block_number line (Some text) area h =
    let number = number_of (first_field text (position is_space text)) in
    let rest = fields_after text (position is_space text) in
    let read = bind_ok (number_within 1 65535 number line) (λ n. with_size line (record { area = 0x84; number = n }) rest) area h in
    let within = number_ok 1 65535 number line read.0 read.1 in
    let same = size_key line (record { area = 0x84; number = read.0 }) rest area read.2 in
    subst (λ (k : AreaKey). k.number < 65536) same (omega arith)

named_number : (line : ℕ) (name : Option ℕ) (rest : Option Text) (area : AreaKey × ℕ) → named_line line name rest ≡ Ok area → area.0.number < 65536
named_number line None rest area h = cc
named_number line (Some name) rest area h = go (name == 0x84) h
  where
    go : (t : Bool) → cond t (block_line line rest) (with_size line (record { area = name; number = 0 }) rest) ≡ Ok area → area.0.number < 65536
    go true h = block_number line rest area h
    go false h = subst (λ (k : AreaKey). k.number < 65536) (size_key line (record { area = name; number = 0 }) rest area h) (omega arith)

-- ---- areas join

entries-insert : (P : AreaKey × List ℕ → Type 0) (m : AreaList) (key : AreaKey) (octets : List ℕ) → P (key, octets) → AllByRecursion P m → AllByRecursion P (insert_entry key_cmp m key octets)
entries-insert P [] key octets new all = (new, tt)
entries-insert P (e ∷ m) key octets new all = go (key_cmp key e.0) refl (entries-insert P m key octets new all.1)
  where
    go : (o : Ordering) → key_cmp key e.0 ≡ o → AllByRecursion P (insert_entry key_cmp m key octets)
        → AllByRecursion P (match_ordering o ((key, octets) ∷ e ∷ m) ((e.0, octets) ∷ m) (e ∷ insert_entry key_cmp m key octets))
    go Less is rest = (new, (all.0, all.1))
    go Equal is rest = (subst (λ k. P (k, octets)) (exact key e.0 is) new, all.1)
    go Greater is rest = (all.0, rest)

register_keeps : AreasJoin → (s next : State) (a : Open) (f : Option RegisterFault) → fault_of s.areas a.key (length a.octets) ≡ f → joined s a f ≡ Ok next → IsRead s.areas → InRange (a.key, a.octets) → Kept next
register_keeps law s next a None none h read range =
    let m = with_area s.areas a.key a.octets in
    let sorted = sorted-insert key_cmp law.ordered s.areas.areas a.key a.octets read.memory.ordered in
    subst Kept (ok_is (record s { areas = m; current = None }) next h) (record {
      areas = record {
        memory = IsMemory-with_area s.areas a.key a.octets sorted none read.memory;
        range = entries-insert InRange s.areas.areas a.key a.octets range read.range;
      };
      current = tt;
    })
register_keeps law s next a (Some fault) is h read range = cc

fill_keeps : AreasJoin → (s next : State) (a : Open) (t : Bool) → cond t (registered s a) (Ok (record s { current = Some a })) ≡ Ok next → IsRead s.areas → InRange (a.key, a.octets) → Kept next
fill_keeps law s next a true h read range = register_keeps law s next a (fault_of s.areas a.key (length a.octets)) refl h read range
fill_keeps law s next a false h read range = subst Kept (ok_is (record s { current = Some a }) next h) (record { areas = read; current = range })

octets_keep : AreasJoin → (line : ℕ) (s next : State) (a : Open) (octets : List ℕ) → with_more line s a octets ≡ Ok next → IsRead s.areas → InRange (a.key, a.octets) → AllBytes octets → Kept next
octets_keep law line s next a octets h read range bytes = go (nat_lt a.size (length a.octets + length octets)) h
  where
    go : (t : Bool) → Same (cond t (Err (record { line = line; kind = kind.Length })) (filled s (record a { octets = a.octets ++ octets }))) (Ok next) → Kept next
    go true h = cc
    go false h =
        fill_keeps law s next (record a { octets = a.octets ++ octets }) (length (a.octets ++ octets) == a.size) h read (range.0, bytes-append a.octets octets range.1 bytes)

-- ---- lines

open_keeps : (line : ℕ) (s next : State) (area : AreaKey × ℕ) → opened line s area ≡ Ok next → IsRead s.areas → area.0.number < 65536 → Kept next
open_keeps line s next area h read few = go (is_wrong_size s.areas area.0 area.1) h
  where
    go : (t : Bool) → Same (cond t (Err (record { line = line; kind = kind.Register refusal.Size })) (Ok (record s { may_guard = false; current = Some (record { line = line; key = area.0; size = area.1; octets = [] }) }))) (Ok next) → Kept next
    go true h = cc
    go false h =
        subst Kept (ok_is (record s { may_guard = false; current = Some (record { line = line; key = area.0; size = area.1; octets = [] }) }) next h)
        (record { areas = read; current = (few, tt) })

guard_keeps : (line : ℕ) (s next : State) (rest : Option Text) → guarded line s rest ≡ Ok next → Kept s → Kept next
guard_keeps line s next rest h kept =
    let may = cond_ok s.may_guard (record { line = line; kind = kind.Line }) (guard_line line rest >>= (λ guard. Ok (record s { may_guard = false; areas = with_guard s.areas guard }))) next h in
    let read = bind_ok (guard_line line rest) (λ guard. Ok (record s { may_guard = false; areas = with_guard s.areas guard })) next may.1 in
    let is = kept.areas.memory in
    subst Kept (ok_is (record s { may_guard = false; areas = with_guard s.areas read.0 }) next read.2) (record {
      areas = record {
        memory = record { areas = is.areas; ordered = is.ordered; total = is.total; blocks = is.blocks; guard = line_guards line rest read.0 read.1 };
        range = kept.areas.range;
      };
      current = kept.current;
    })

current_keeps : AreasJoin → (line : ℕ) (s next : State) (o : Option Open) (text : Text) → by_current line s o text ≡ Ok next → IsRead s.areas → IfSome o (λ a. InRange (a.key, a.octets)) → Kept next
current_keeps law line s next None text h read range =
    let area = bind_ok (area_line line text) (λ area. opened line s area) next h in
    open_keeps line s next area.0 area.2 read
    (named_number line (area_named (first_field text (position is_space text))) (fields_after text (position is_space text)) area.0 area.1)
current_keeps law line s next (Some a) text h read range = go (line_octets line s.version text) refl h
  where
    go : (r : Result (List ℕ) AreasFault) → line_octets line s.version text ≡ r → with_octets line s a r ≡ Ok next → Kept next
    go (Err e) is h = cc
    go (Ok octets) is h = octets_keep law line s next a octets h read range (by_bytes line text octets (run_parts s.version text) is)

by_tests : AreasJoin → (line : ℕ) (s next : State) (text : Text) (passed guard : Bool)
    → cond passed (Ok s) (cond guard (guarded line s (fields_after text (position is_space text))) (by_current line s s.current text)) ≡ Ok next → Kept s → Kept next
by_tests law line s next text true guard h kept = subst Kept (ok_is s next h) kept
by_tests law line s next text false true h kept = guard_keeps line s next (fields_after text (position is_space text)) h kept
by_tests law line s next text false false h kept = current_keeps law line s next s.current text h kept.areas kept.current

line_keeps : AreasJoin → (line : ℕ) (s next : State) (text : Text) → with_line line s text ≡ Ok next → Kept s → Kept next
unfolding with_line
line_keeps law line s next text h kept = by_tests law line s next text (is_passed text) (is_guard_line text) h kept

close_keeps : (line : ℕ) (s : State) (o : Option Open) (m : Memory) → closed line s o ≡ Ok m → Kept s → IsRead m
close_keeps line s None m h kept = subst IsRead (ok_is s.areas m h) kept.areas
close_keeps line s (Some a) m h kept = cc

lines_keep : AreasJoin → (texts : List Text) (line : ℕ) (s : State) (m : Memory) → read_lines line s texts ≡ Ok m → Kept s → IsRead m
unfolding read_lines
lines_keep law [] line s m h kept = close_keeps line s s.current m h kept
lines_keep law (text ∷ texts) line s m h kept =
    let read = bind_ok (with_line line s text) (λ next. read_lines (next_line line) next texts) m h in
    lines_keep law texts (next_line line) read.0 m read.2 (line_keeps law line s read.0 text read.1 kept)

nothing_kept : (version : Version) → Kept (nothing_read version)
nothing_kept version = record { areas = record { memory = Keeps-none.0; range = tt }; current = tt }

version_reads : AreasJoin → (o : Option Version) (rest : List Text) (m : Memory) → by_version o rest ≡ Ok m → IsRead m
version_reads law None rest m h = cc
version_reads law (Some version) rest m h = lines_keep law rest 2 (nothing_read version) m h (nothing_kept version)

text_reads : AreasJoin → (texts : List Text) (m : Memory) → after_header texts ≡ Ok m → IsRead m
text_reads law [] m h = cc
text_reads law (text ∷ rest) m h = version_reads law (version_of text) rest m h

-- ---- the names in order

octets_in : (m : Memory) (key : AreaKey) → AllByRecursion InRange m.areas → key.number < 65536 → IsInRange m key
octets_in m key all few = (few, go (area_octets m key) refl)
  where
    go : (o : Option (List ℕ)) → area_octets m key ≡ o → IfSome o IsBytes
    go None found = tt
    go (Some octets) found = is_bytes octets ((all-found key_cmp InRange exact key octets m.areas all found).1)

blocks_in : (m : Memory) (es : AreaList) → AllByRecursion InRange m.areas → AllByRecursion InRange es → AllByRecursion (IsInRange m) (map block (db_numbers (keys_of es)))
blocks_in m [] all range = tt
blocks_in m (e ∷ es) all range = go (e.0.area == 0x84) (blocks_in m es all range.1)
  where
    go : (t : Bool) → AllByRecursion (IsInRange m) (map block (db_numbers (keys_of es)))
        → AllByRecursion (IsInRange m) (map block (map (λ key. key.number) (cond t (e.0 ∷ filter (λ key. key.area == 0x84) (keys_of es)) (filter (λ key. key.area == 0x84) (keys_of es)))))
    go true rest = (octets_in m (block e.0.number) all range.0.0, rest)
    go false rest = rest

order_in : (m : Memory) → AllByRecursion InRange m.areas → AllByRecursion (IsInRange m) (order m)
order_in m all =
    let few : 0 < 65536 = omega arith in (
      octets_in m (single 0x81) all few,
      (octets_in m (single 0x82) all few, (octets_in m (single 0x83) all few, (octets_in m (single 0x1C) all few, (octets_in m (single 0x1D) all few, blocks_in m m.areas all all)))),
    )

pub areas_migrate : AreasJoin → (text : Text) (m : Memory) → areas text ≡ Ok m → areas (spelling m) ≡ Ok m
areas_migrate law text m h =
    let read = text_reads law (lines text) m h in
    areas-spelling law m read.memory (order_in m read.range)
