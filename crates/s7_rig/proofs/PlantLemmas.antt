-- A plant stays one, whatever is asked that can be carried out.
use Rattle.std.proofs.Common.{◌≡◌, ◌∙◌, ℕ, zero, suc, ◌≤◌, Bool, true, false, cond, not, eqb, ◌&&◌, ◌||◌, Option, None, Some}
use Rattle.std.proofs.Common.{List, [], ◌∷◌, length, take, refl, sym, ap, subst, arith}
use Rattle.std.specs.Prelude.{◌==◌, nat_lt, is_some, unwrap_or}
use Rattle.std.specs.declared.cmp.Ordering.{Ordering}
use Rattle.std.specs.declared.cmp.Ordering.TheVariants.{Less, Equal, Greater}
use Rattle.std.specs.Ordering.{match_ordering, is_eq}
use Rattle.std.specs.BTreeMap.{is_at, insert_entry}
use Rattle.std.specs.Cmp.{IsTotalOrder}
use Rattle.std.specs.List.{AllByRecursion}
use Rattle.std.specs.List.Sorted.{IsStrictlySortedBy}
use Rattle.std.specs.Map.{keys_of, lookup, remove_entry, set_value}
use Rattle.std.proofs.lemmas.Bool.{eqb-true, ltb-true}
use Rattle.std.proofs.lemmas.Grind.{common_steps}
use Rattle.std.proofs.lemmas.Map.{keys-set_value, lookup-none}
use Rattle.std.proofs.lemmas.Map.Entries.{none_below_head}
use Rattle.std.proofs.lemmas.Map.Keys.{sorted_tail}
use Rattle.s7_item.specs.Codes.{good}
use Rattle.s7_item.specs.DataItem.{octets_at}
use Rattle.s7_item.specs.Item.{octet_count}
use Rattle.s7_item.specs.declared.item.Item.{Item}
use Rattle.s7_item.specs.declared.places.DataPlace.{DataPlace}
use Rattle.s7_area.specs.declared.key.AreaKey.{AreaKey}
use Rattle.s7_area.specs.Memory as memory
use Rattle.s7_area.specs.Guards.{is_write_barred}
use Rattle.s7_area.specs.Memory.{Memory, AreaList, key_cmp, with_octets, code_in, write_code, written}
use Rattle.s7_area.specs.Places.{is_inside, is_misfit, changed_at, key_of}
use Rattle.s7_area.specs.Registers.{db_numbers, most_dbs, IsArea, IsMemory}
use Rattle.s7_block.specs.declared.block.Block.{Block}
use Rattle.s7_block.specs.Store.{Store, IsStore, IsStored, name_cmp, name_of, image_at, with_block, without_block}
use Rattle.s7_block.proofs.EntryLemmas.{sorted-insert_entry, sorted-remove_entry, all-insert_entry, all-remove_entry}
use Rattle.s7_block.proofs.StoreLemmas.{name_cmp_total, name_cmp_exact, store-none}
use Rattle.s7_turn.specs.declared.view.Entry.{Entry as Call}
use Rattle.s7_turn.specs.Histories.{replay}
use Rattle.s7_plant.specs.declared.journal.Entry.{Entry}
use Rattle.s7_plant.specs.declared.request.Ask.{Ask}
use Rattle.s7_plant.specs.declared.request.Request.{Request}
use Rattle.s7_plant.specs.declared.request.Request.TheVariants as asks
use Rattle.s7_plant.specs.Answers.{after, changed, is_barred, takes_block, write_all}
use Rattle.s7_plant.specs.Journals.{AreReady, after_call, calls_of}
use Rattle.s7_plant.specs.Requests.{IsReady}
use Rattle.s7_plant.specs.State.{State, begins_with}
use Rattle.s7_session.specs.Books.{History}
use Rattle.s7_rig.specs.Plants.{IsPlant}
use Rattle.s7_rig.specs.Split.{state_at}

-- ---- what writes keep

-- what holds of a memory, and each write of an item keeps, holds whatever is asked
module _ (P : Memory → Type 0)
    (each : (m : Memory) (right : Bool) (item : Item) (octets : List ℕ) → P m → P (written m right item octets)) where
  all_written : (m : Memory) (right : Bool) (items : List Item) (places : List DataPlace) (octets : List ℕ) → P m
      → P (write_all m right items places octets)
  all_written m right [] places octets has = has
  all_written m right (item ∷ items) [] octets has = has
  all_written m right (item ∷ items) (place ∷ places) octets has =
      all_written (written m right item (octets_at octets place)) right items places octets
      (each m right item (octets_at octets place) has)

  either : (b : Bool) (s next : State) → P s.memory → P next.memory → P (cond b s next).memory
  either true s next has other = has
  either false s next has other = other

  memory_changed : (s : State) (right : Bool) (request : Request) → P s.memory → P (changed s right request).memory
  memory_changed s right (asks.Read items) has = has
  memory_changed s right (asks.Write items places octets) has = all_written s.memory right items places octets has
  memory_changed s right (asks.Szl id index) has = has
  memory_changed s right (asks.ClockRead moment) has = has
  memory_changed s right (asks.ClockSet moment value) has = either (is_barred s right) s _ has has
  memory_changed s right (asks.Start cold) has = either (is_barred s right) s _ has has
  memory_changed s right asks.Stop has = either (is_barred s right) s _ has has
  memory_changed s right asks.Compress has = has
  memory_changed s right asks.CopyRam has = has
  memory_changed s right asks.ListAll has = has
  memory_changed s right (asks.ListOf kind) has = has
  memory_changed s right (asks.Info kind number) has = has
  memory_changed s right (asks.StartUpload kind number) has = has
  memory_changed s right (asks.Insert kind number image spare) has =
      either (is_barred s right) s _ has (either (takes_block s kind number) _ s has has)
  memory_changed s right (asks.Delete kind number) has = either (is_barred s right) s _ has has

-- ---- areas keep their names

abbrev names : Memory → List AreaKey
names m = keys_of m.areas

names_written : (m : Memory) (right : Bool) (item : Item) (octets : List ℕ)
    → names (written m right item octets) ≡ names m
unfolding written
names_written m right item octets =
    go (write_code m right item octets == good) (changed_at item octets (unwrap_or (memory.area_octets m (key_of item)) []))
  where
    go : (b : Bool) (new : List ℕ) → names (cond b (with_octets m (key_of item) new) m) ≡ names m
    go true new = keys-set_value (is_at (key_cmp (key_of item))) m.areas new
    go false new = refl

pub names_changed : (s : State) (right : Bool) (request : Request)
    → keys_of (changed s right request).memory.areas ≡ keys_of s.memory.areas
names_changed s right request =
    memory_changed (λ m. names m ≡ names s.memory) (λ m right item octets same. names_written m right item octets ∙ same)
    s right request refl

-- ---- and their lengths

abbrev AreAreas : Memory → Type 0
AreAreas m = AllByRecursion IsArea m.areas

set_step : (b : Bool) (e : AreaKey × List ℕ) (es rest : AreaList) (old new : List ℕ) (later : Option (List ℕ))
    → cond b (Some e.1) later ≡ Some old → length new ≡ length old → IsArea e → AllByRecursion IsArea es
    → (later ≡ Some old → AllByRecursion IsArea rest) → AllByRecursion IsArea (cond b ((e.0, new) ∷ es) (e ∷ rest))
set_step true e es rest old new later found same head tail more =
    let here : e.1 ≡ old = cc in
    let long : length new ≡ length e.1 = same ∙ ap length (sym here) in
    (record { name = head.name; some = rw long head.some; most = rw long head.most; even = rw long head.even }, tail)
set_step false e es rest old new later found same head tail more = (head, more found)

areas_set : (test : AreaKey → Bool) (es : AreaList) (old new : List ℕ) → lookup test es ≡ Some old
    → length new ≡ length old → AllByRecursion IsArea es → AllByRecursion IsArea (set_value test es new)
areas_set test [] old new found same all = tt
areas_set test (e ∷ es) old new found same all =
    set_step (test e.0) e es (set_value test es new) old new (lookup test es) found same all.0 all.1
    (λ later. areas_set test es old new later same all.1)

length-changed : (item : Item) (octets old : List ℕ) → is_inside item (length old) ≡ true
    → length octets ≡ octet_count item → length (changed_at item octets old) ≡ length old
unfolding changed_at
length-changed item octets old inside count = grind (arith, common_steps)

-- the code of a write from that of the place
abbrev judged : ℕ → Bool → ℕ
judged code counts = cond (eqb code 255 && not counts) 7 code

areas_inside : (m : Memory) (item : Item) (octets old : List ℕ) (inside counts : Bool)
    → memory.area_octets m (key_of item) ≡ Some old → is_inside item (length old) ≡ inside
    → eqb (length octets) (octet_count item) ≡ counts → AreAreas m
    → AreAreas (cond (eqb (judged (cond inside 255 5) counts) 255) (with_octets m (key_of item) (changed_at item octets old)) m)
areas_inside m item octets old false counts found is whole all = all
areas_inside m item octets old true false found is whole all = all
areas_inside m item octets old true true found is whole all =
    areas_set (is_at (key_cmp (key_of item))) m.areas old (changed_at item octets old) found
    (length-changed item octets old is (eqb-true (length octets) (octet_count item) whole)) all

areas_by : (m : Memory) (item : Item) (octets : List ℕ) (barred misfit : Bool) (found : Option (List ℕ))
    → memory.area_octets m (key_of item) ≡ found → AreAreas m
    → AreAreas
    (cond
    (eqb (cond barred 3 (judged (cond misfit 6 (code_in found item)) (eqb (length octets) (octet_count item)))) 255)
    (with_octets m (key_of item) (changed_at item octets (unwrap_or found []))) m)
areas_by m item octets true misfit found is all = all
areas_by m item octets false true found is all = all
areas_by m item octets false false None is all = all
areas_by m item octets false false (Some old) is all =
    areas_inside m item octets old (is_inside item (length old)) (eqb (length octets) (octet_count item)) is refl refl all

areas_written : (m : Memory) (right : Bool) (item : Item) (octets : List ℕ) → AreAreas m
    → AreAreas (written m right item octets)
unfolding written write_code
areas_written m right item octets all =
    areas_by m item octets (is_write_barred m.guard right) (is_misfit item) (memory.area_octets m (key_of item)) refl all

areas_changed : (s : State) (right : Bool) (request : Request) → AreAreas s.memory
    → AreAreas (changed s right request).memory
areas_changed s right request all = memory_changed AreAreas areas_written s right request all

-- ---- how many entries there are

module _ {K X : Type 0} (R : K → K → Ordering) where
  more_step : (r : Ordering) (k : K) (v : X) (e : K × X) (es rest : List (K × X)) → length rest ≤ suc (length es)
      → length (match_ordering r ((k, v) ∷ e ∷ es) ((e.0, v) ∷ es) (e ∷ rest)) ≤ suc (suc (length es))
  more_step Less k v e es rest few = omega arith
  more_step Equal k v e es rest few = omega arith
  more_step Greater k v e es rest few = omega (arith, few)

  -- one more at most
  one_more : (es : List (K × X)) (k : K) (v : X) → length (insert_entry R es k v) ≤ suc (length es)
  one_more [] k v = omega arith
  one_more (e ∷ es) k v = more_step (R k e.0) k v e es (insert_entry R es k v) (one_more es k v)

  same_step : (r : Ordering) (k : K) (v : X) (e : K × X) (es rest : List (K × X)) → (r ≡ Less → ⊥)
      → (r ≡ Greater → length rest ≡ length es)
      → length (match_ordering r ((k, v) ∷ e ∷ es) ((e.0, v) ∷ es) (e ∷ rest)) ≡ suc (length es)
  same_step Less k v e es rest below above = absurd (below refl)
  same_step Equal k v e es rest below above = refl
  same_step Greater k v e es rest below above = ap suc (above refl)

  not_found : (o : Option X) (x : X) → o ≡ None → o ≡ Some x → ⊥
  not_found o x none is = cc

  -- and as many where the key was there
  as_many : IsTotalOrder R → (es : List (K × X)) (k : K) (v x : X) → IsStrictlySortedBy R (keys_of es)
      → lookup (is_at (R k)) es ≡ Some x → length (insert_entry R es k v) ≡ length es
  as_many o [] k v x sorted is = absurd (cc)
  as_many o (e ∷ es) k v x sorted is =
      same_step (R k e.0) k v e es (insert_entry R es k v)
      (λ less. not_found (lookup (is_at (R k)) (e ∷ es)) x
      (lookup-none (is_at (R k)) (e ∷ es) (none_below_head o k e es sorted less)) is)
      (λ greater. as_many o es k v x (sorted_tail R e.0 (keys_of es) sorted)
      (sym (ap (λ r. cond (is_eq r) (Some e.1) (lookup (is_at (R k)) es)) greater) ∙ is))

  fewer_step : (b : Bool) (e : K × X) (es rest : List (K × X)) → length rest ≤ length es
      → length (cond b es (e ∷ rest)) ≤ suc (length es)
  fewer_step true e es rest few = omega arith
  fewer_step false e es rest few = omega (arith, few)

  no_more : (test : K → Bool) (es : List (K × X)) → length (remove_entry test es) ≤ length es
  no_more test [] = omega arith
  no_more test (e ∷ es) = fewer_step (test e.0) e es (remove_entry test es) (no_more test es)

-- ---- blocks stay a store

within_by : (s : Store) (b : Block) (less : Bool) (found : Option (List ℕ)) → IsStore s
    → nat_lt (length s.images) s.limit ≡ less → image_at s.images (name_of b) ≡ found
    → (less || is_some found) ≡ true → length (with_block s b).images ≤ s.limit
within_by s b true found store less is room =
    omega (arith, ltb-true (length s.images) s.limit less, one_more name_cmp s.images (name_of b) b.image)
within_by s b false (Some image) store less is room =
    omega (arith, store.within, as_many name_cmp name_cmp_total s.images (name_of b) b.image image store.ordered is)
within_by s b false None store less is room = absurd (cc)

with_block_store : (s : Store) (b : Block) → IsStore s → IsStored (name_of b, b.image)
    → (nat_lt (length s.images) s.limit || is_some (image_at s.images (name_of b))) ≡ true → IsStore (with_block s b)
with_block_store s b store new room = record {
  stored = all-insert_entry name_cmp name_cmp_exact IsStored s.images (name_of b) b.image new store.stored;
  ordered = sorted-insert_entry name_cmp name_cmp_total s.images (name_of b) b.image store.ordered;
  within = within_by s b _ _ store refl refl room;
  most = store.most;
}

without_block_store : (s : Store) (kind number : ℕ) → IsStore s → IsStore (without_block s kind number)
without_block_store s kind number store = record {
  stored = all-remove_entry name_cmp IsStored _ s.images store.stored;
  ordered = sorted-remove_entry name_cmp _ s.images store.ordered;
  within = omega (arith, store.within, no_more name_cmp (is_at (name_cmp (record { kind = kind; number = number }))) s.images);
  most = store.most;
}

either_store : (b : Bool) (s next : State) → IsStore s.blocks → IsStore next.blocks → IsStore (cond b s next).blocks
either_store true s next store other = store
either_store false s next store other = other

inserted_store : (s : State) (kind number : ℕ) (image : List ℕ) (takes : Bool) → takes_block s kind number ≡ takes
    → IsStore s.blocks → IsStored (record { kind = kind; number = number }, image)
    → IsStore
    (cond takes (record s { blocks = with_block s.blocks (record { kind = kind; number = number; image = image }) }) s).blocks
inserted_store s kind number image true is store new =
    with_block_store s.blocks (record { kind = kind; number = number; image = image }) store new is
inserted_store s kind number image false is store new = store

changed_store : (s : State) (right : Bool) (request : Request) → IsReady request → IsStore s.blocks
    → IsStore (changed s right request).blocks
changed_store s right (asks.Read items) ready store = store
changed_store s right (asks.Write items places octets) ready store = store
changed_store s right (asks.Szl id index) ready store = store
changed_store s right (asks.ClockRead moment) ready store = store
changed_store s right (asks.ClockSet moment value) ready store = either_store (is_barred s right) s _ store store
changed_store s right (asks.Start cold) ready store = either_store (is_barred s right) s _ store store
changed_store s right asks.Stop ready store = either_store (is_barred s right) s _ store store
changed_store s right asks.Compress ready store = store
changed_store s right asks.CopyRam ready store = store
changed_store s right asks.ListAll ready store = store
changed_store s right (asks.ListOf kind) ready store = store
changed_store s right (asks.Info kind number) ready store = store
changed_store s right (asks.StartUpload kind number) ready store = store
changed_store s right (asks.Insert kind number image spare) ready store =
    either_store (is_barred s right) s _ store
    (inserted_store s kind number image _ refl store (record { kind = ready.0; head = ready.1 }))
changed_store s right (asks.Delete kind number) ready store =
    either_store (is_barred s right) s _ store (without_block_store s.blocks kind number store)

-- ---- plants

changed_plant : (s : State) (right : Bool) (request : Request) → IsReady request → IsPlant s
    → IsPlant (changed s right request)
changed_plant s right request ready plant = record {
  areas = areas_changed s right request plant.areas;
  dbs = subst (λ keys. length (db_numbers keys) ≤ most_dbs) (sym (names_changed s right request)) plant.dbs;
  blocks = changed_store s right request ready plant.blocks;
}

abbrev IsReadyCall : Call Ask → Type 0
IsReadyCall call = IsReady call.request.request

replayed_plant : (s : State) (calls : History) → AllByRecursion IsReadyCall calls → IsPlant s
    → IsPlant (replay after_call s calls)
replayed_plant s [] ready plant = plant
replayed_plant s (call ∷ calls) ready plant =
    replayed_plant (after s call.request) calls ready.1
    (changed_plant s call.request.right call.request.request ready.0 plant)

first_ready : (calls : History) (n : ℕ) → AllByRecursion IsReadyCall calls → AllByRecursion IsReadyCall (take n calls)
first_ready calls zero ready = tt
first_ready [] (suc n) ready = tt
first_ready (call ∷ calls) (suc n) ready = (ready.0, first_ready calls n ready.1)

calls_ready : (entries : List Entry) → AreReady entries → AllByRecursion IsReadyCall (calls_of entries)
calls_ready [] ready = tt
calls_ready (e ∷ entries) ready =
    (ready 0 e (omega arith), calls_ready entries (λ k d within. ready (suc k) d (omega (arith, within))))

-- the states that the entries of a journal lead to are plants
pub plants_at : (opening : State) (entries : List Entry) (n : ℕ) → AreReady entries → IsPlant opening
    → IsPlant (state_at opening (calls_of entries) n)
plants_at opening entries n ready plant =
    replayed_plant opening (take n (calls_of entries)) (first_ready (calls_of entries) n (calls_ready entries ready)) plant

-- and it begins as one
pub begins_plant : (m : Memory) → IsMemory m → IsPlant (begins_with m)
begins_plant m kept = record { areas = kept.areas; dbs = kept.blocks; blocks = store-none 1024 (omega arith) }
