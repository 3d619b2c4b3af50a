-- Far jobs that fit into one telegram pass the client's checks.
use Rattle.std.proofs.Common.{◌≡◌, ◌∙◌, ◌+◌, ◌*◌, ◌/◌, ◌^◌, ◌≤◌, ◌<◌, ℕ, Bool, true, false, cond, eqb, ltb, refl, ap, sym, subst, arith, List, [], ◌∷◌, ◌++◌, length, map, length-append, Option, Some, None, Ok, Err}
use Rattle.std.specs.Prelude.{◌==◌, ◌&&◌, ◌||◌, not, is_none, is_some, Result}
use Rattle.std.specs.List.{list_all}
use Rattle.std.proofs.lemmas.Bool.{and_from, eqb-true, eq-eqb, le-leb}
use Rattle.s7_item.specs.Codes.{bits, counters, timers}
use Rattle.s7_item.specs.DataItem.{octets_at}
use Rattle.s7_item.specs.Item.{octet_count}
use Rattle.s7_item.specs.Word.{size_of}
use Rattle.s7_item.specs.declared.item.Item.{Item}
use Rattle.s7_item.specs.declared.places.DataPlace.{DataPlace}
use Rattle.s7_area.specs.Places.{differ, is_misfit}
use Rattle.s7_split.specs.Groups.{groups_of, packed_of}
use Rattle.s7_split.specs.Parts.{range_end}
use Rattle.s7_split.specs.declared.packing.PackFault.{PackFault}
use Rattle.s7_split.specs.declared.packing.PackFault.TheVariants.{TooMany}
use Rattle.s7_plant.specs.declared.request.Request.{Request}
use Rattle.s7_plant.specs.declared.request.Request.TheVariants as asked
use Rattle.s7_dialogue.specs.Checks.{check_items, is_known, is_placed, octet_count_of, pack_check}
use Rattle.s7_dialogue.specs.declared.job.Job.{Job}
use Rattle.s7_relay.specs.Laws.{LiesIn}
use Rattle.s7_relay.specs.Travel.{AreGood, PassesChecks, far_items, far_job, far_octets, fits_pdu, is_one_group, is_packed_in_one}
use Rattle.s7_relay.specs.Windows.{far_item, moved, near_code, near_put_code, put_codes}
use Rattle.s7_relay.specs.declared.windows.Window.{Window}
use Rattle.s7_relay.proofs.FarLemmas.{ends, far_alone, far_moved}
use Rattle.s7_relay.proofs.TravelLemmas.{far_octets_same, reads_are_good, writes_are_good}

-- ---- one far item

-- its word length is known, and it is in place
record IsSound (far : Item) : Type 0 where
  known : is_known far ≡ true
  placed : is_placed far ≡ true

some_of : (o : Option ℕ) → is_none o ≡ false → is_some o ≡ true
some_of None is = absurd (cc is)
some_of (Some n) is = refl

fit_parts : (unknown bit c t : Bool) → (unknown || bit || c || t) ≡ false → (unknown ≡ false) × (bit ≡ false)
fit_parts true bit c t fits = absurd (cc fits)
fit_parts false true c t fits = absurd (cc fits)
fit_parts false false c t fits = (refl, refl)

bit_alone : (bit one : Bool) → (bit && not one) ≡ false → (not bit || one) ≡ true
bit_alone true true is = refl
bit_alone true false is = absurd (cc is)
bit_alone false one is = refl

range_by : (bit : Bool) (address octets : ℕ) → address / 8 + octets ≤ 2097152 → address < 2 ^ 24
    → cond bit (address + 1) (8 * (address / 8 + octets)) ≤ 2 ^ 24
range_by true address octets most less = omega (arith, less)
range_by false address octets most less = omega (arith, most)

range_ends : (w : Window) (item : Item) → LiesIn w item (moved w item) → range_end (moved w item) ≤ 2 ^ 24
range_ends w item lies =
    let far = moved w item in
    let within = w.within in
    let alone = far_alone w in
    let end = (ends far (w.offset + w.length) lies.inside).ends in
    let start : cond false (far.address * 2) (far.address / 8) + octet_count far ≤ w.offset + w.length =
    subst (λ b. cond b (far.address * 2) (far.address / 8) + octet_count far ≤ w.offset + w.length) alone end in
    subst (λ b. cond b (far.address + far.count)
    (cond (eqb far.word 1) (far.address + 1) (8 * (far.address / 8 + octet_count far))) ≤ 2 ^ 24) (sym alone)
    (range_by (eqb far.word 1) far.address (octet_count far) (omega (arith, start, within)) lies.address)

moved_sound : (w : Window) (item : Item) → LiesIn w item (moved w item) → IsSound (moved w item)
unfolding is_misfit
moved_sound w item lies =
    let far = moved w item in
    let parts =
    fit_parts (is_none (size_of far.word)) (far.word == bits && not (far.count == 1))
    (differ (far.word == counters) (far.area == counters)) (differ (far.word == timers) (far.area == timers)) lies.fits in
    record {
      known = some_of (size_of far.word) parts.0;
      placed = and_from (not (far.count == 0) && (not (far.word == 1) || far.count == 1)) _
          (and_from (not (far.count == 0)) (not (far.word == 1) || far.count == 1)
          (ends far (w.offset + w.length) lies.inside).some (bit_alone (far.word == bits) (far.count == 1) parts.1))
          (le-leb (range_end far) (2 ^ 24) (range_ends w item lies));
    }

far_sound : (ws : List Window) (item : Item) → near_code ws item ≡ 255 → IsSound (far_item ws item)
far_sound ws item good =
    let is = far_moved ws item good in subst IsSound (sym is.2) (moved_sound is.0 item is.3)

-- ---- all far items

record AreSound (fars : List Item) : Type 0 where
  known : list_all is_known fars ≡ true
  placed : list_all is_placed fars ≡ true

items_sound : (ws : List Window) (items : List Item) (codes : List ℕ) → AreGood ws items codes
    → AreSound (far_items ws items codes)
items_sound ws [] codes good = record { known = refl; placed = refl }
items_sound ws (item ∷ items) [] good = record { known = refl; placed = refl }
items_sound ws (item ∷ items) (code ∷ codes) good = by (eqb code 255) refl (items_sound ws items codes good.1)
  where
    by : (b : Bool) → eqb code 255 ≡ b → AreSound (far_items ws items codes)
        → AreSound (cond b (far_item ws item ∷ far_items ws items codes) (far_items ws items codes))
    by true is rest =
        let first = far_sound ws item (good.0 (eqb-true code 255 is)) in
        record {
          known = and_from (is_known (far_item ws item)) _ first.known rest.known;
          placed = and_from (is_placed (far_item ws item)) _ first.placed rest.placed;
        }
    by false is rest = rest

-- ---- the octets of those that are written

-- octets that are written are as many as the item has
put_long : (ws : List Window) (item : Item) (octets : List ℕ) → near_put_code ws item octets ≡ 255
    → length octets ≡ octet_count item
put_long ws item octets is = by (eqb (length octets) (octet_count item)) refl
  where
    wrong : (b : Bool) (near : ℕ) → eqb near 255 ≡ b → cond (b && not false) 7 near ≡ 255 → ⊥
    wrong true near good code = omega (arith, code)
    wrong false near other code =
        let same : false ≡ true = sym other ∙ ap (λ n. eqb n 255) code in cc

    by : (b : Bool) → eqb (length octets) (octet_count item) ≡ b → length octets ≡ octet_count item
    by true same = eqb-true (length octets) (octet_count item) same
    by false other =
        absurd (wrong (eqb (near_code ws item) 255) (near_code ws item) refl
        (ap (λ b. cond (eqb (near_code ws item) 255 && not b) 7 (near_code ws item)) (sym other) ∙ is))

octets_first : (ws : List Window) (item : Item) (rest : List ℕ) (fars : List Item) (b : Bool) (taken : List ℕ)
    → (b ≡ true → length taken ≡ octet_count item) → length rest ≡ octet_count_of fars
    → length (cond b (taken ++ rest) rest) ≡ octet_count_of (cond b (far_item ws item ∷ fars) fars)
octets_first ws item rest fars true taken long all =
    omega (arith, length-append taken rest, long refl, far_octets_same ws item, all)
octets_first ws item rest fars false taken long all = all

octets_sound : (ws : List Window) (items : List Item) (places : List DataPlace) (octets : List ℕ)
    → length (far_octets (put_codes ws items places octets) places octets)
    ≡ octet_count_of (far_items ws items (put_codes ws items places octets))
octets_sound ws [] places octets = refl
octets_sound ws (item ∷ items) [] octets = refl
octets_sound ws (item ∷ items) (place ∷ places) octets =
    let code = near_put_code ws item (octets_at octets place) in
    let codes = put_codes ws items places octets in
    octets_first ws item (far_octets codes places octets) (far_items ws items codes) (eqb code 255)
    (octets_at octets place) (λ is. put_long ws item (octets_at octets place) (eqb-true code 255 is))
    (octets_sound ws items places octets)

-- ---- the checks

packed_by : (packed : Result Unit PackFault) (groups : List (List Item)) → is_packed_in_one packed groups ≡ true
    → packed ≡ Ok tt
packed_by (Ok tt) groups is = refl
packed_by (Err fault) groups is = absurd (cc is)

few_by : (many : Bool) (rest : Result Unit PackFault) → cond many (Err TooMany) rest ≡ Ok tt → many ≡ false
few_by true rest is = absurd (cc is)
few_by false rest is = refl

good_by : (many known placed has : Bool) (packed : Result Unit PackFault) → many ≡ false → known ≡ true
    → placed ≡ true → has ≡ true → packed ≡ Ok tt
    → cond many 0x00400000 (cond (not known) 0x00500000 (cond (not (placed && has)) 0x00200000 (pack_check packed))) ≡ 0
good_by true known placed has packed few known_is placed_is has_is is = absurd (cc few)
good_by false false placed has packed few known_is placed_is has_is is = absurd (cc known_is)
good_by false true false has packed few known_is placed_is has_is is = absurd (cc placed_is)
good_by false true true false packed few known_is placed_is has_is is = absurd (cc has_is)
good_by false true true true packed few known_is placed_is has_is is = ap pack_check is

-- WHERE ITEMS ARE ONE GROUP and sound, the client finds no fault in them
one_group_passes : (pdu : ℕ) (write has : Bool) (fars : List Item) → AreSound fars → has ≡ true
    → is_one_group pdu write fars ≡ true → check_items fars has pdu write ≡ 0
one_group_passes pdu write has fars sound enough one =
    let packed = packed_by (packed_of pdu write fars) (groups_of pdu write fars) one in
    good_by (ltb 20 (length fars)) (list_all is_known fars) (list_all is_placed fars) has (packed_of pdu write fars)
    (few_by (ltb 20 (length fars)) _ packed) sound.known sound.placed enough packed

-- ---- far jobs

some_job : (x y : Job) → Some x ≡ Some y → x ≡ y
some_job x y e = cc

passes_as : (pdu : ℕ) (x job : Job) → Some x ≡ Some job → fits_pdu pdu job ≡ true
    → (fits_pdu pdu x ≡ true → PassesChecks pdu x) → PassesChecks pdu job
passes_as pdu x job is fits passes =
    let same = some_job x job is in
    subst (PassesChecks pdu) same (passes (ap (fits_pdu pdu) same ∙ fits))

pub far_passes : (ws : List Window) (request : Request) (job : Job) (pdu : ℕ) → far_job ws request ≡ Some job
    → fits_pdu pdu job ≡ true → PassesChecks pdu job
far_passes ws (asked.Read items) job pdu is fits =
    passes_as pdu _ job is fits
    (one_group_passes pdu false true _ (items_sound ws items (map (near_code ws) items) (reads_are_good ws items)) refl)
far_passes ws (asked.Write items places octets) job pdu is fits =
    let codes = put_codes ws items places octets in
    let long = octets_sound ws items places octets in
    passes_as pdu _ job is fits
    (one_group_passes pdu true _ _ (items_sound ws items codes (writes_are_good ws items places octets))
    (eq-eqb (length (far_octets codes places octets)) (octet_count_of (far_items ws items codes)) long))
far_passes ws (asked.Szl id index) job pdu is fits = absurd (cc is)
far_passes ws (asked.ClockRead moment) job pdu is fits = absurd (cc is)
far_passes ws (asked.ClockSet moment value) job pdu is fits = absurd (cc is)
far_passes ws (asked.Start cold) job pdu is fits = absurd (cc is)
far_passes ws asked.Stop job pdu is fits = absurd (cc is)
far_passes ws asked.Compress job pdu is fits = absurd (cc is)
far_passes ws asked.CopyRam job pdu is fits = absurd (cc is)
far_passes ws asked.ListAll job pdu is fits = absurd (cc is)
far_passes ws (asked.ListOf kind) job pdu is fits = absurd (cc is)
far_passes ws (asked.Info kind number) job pdu is fits = absurd (cc is)
far_passes ws (asked.StartUpload kind number) job pdu is fits = absurd (cc is)
far_passes ws (asked.Insert kind number image spare) job pdu is fits = absurd (cc is)
far_passes ws (asked.Delete kind number) job pdu is fits = absurd (cc is)
