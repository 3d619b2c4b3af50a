-- The images of a book, as its journal grows.
use Rattle.std.proofs.Common.{◌≡◌, ℕ, ◌<◌, Bool, true, false, cond, eqb, ltb, ◌&&◌, ◌||◌, is_some, Option, None, Some, List, [], ◌∷◌, ◌++◌, length, refl, sym, ap, ◌∙◌, subst, arith}
use Rattle.std.specs.BTreeMap.{insert_entry, is_at}
use Rattle.std.proofs.lemmas.Bool.Decides.{nat_tests}
use Rattle.s7_area.specs.Laws.{WritesKeepTheShape}
use Rattle.s7_area.specs.Memory.{Memory, shape_of, written}
use Rattle.s7_block.specs.Marks.{MarkList, mark_at}
use Rattle.s7_block.specs.Store.{Store, name_cmp, image_at, without_block}
use Rattle.s7_item.specs.DataItem.{octets_at}
use Rattle.s7_item.specs.declared.item.Item.{Item}
use Rattle.s7_item.specs.declared.places.DataPlace.{DataPlace}
use Rattle.s7_outer.specs.Held.{Held}
use Rattle.s7_plant.specs.declared.journal.Entry.{Entry}
use Rattle.s7_plant.specs.declared.request.Request.{Request}
use Rattle.s7_plant.specs.declared.request.Request.TheVariants.{Read, Write, Szl, ClockRead, ClockSet}
use Rattle.s7_plant.specs.declared.request.Request.TheVariants.{Start, Stop, Compress, CopyRam, ListAll, ListOf, Info}
use Rattle.s7_plant.specs.declared.request.Request.TheVariants.{StartUpload, Insert, Delete}
use Rattle.s7_plant.specs.Answers.{after, answer, changed, controlled, is_barred, refused, service_function, takes_block, write_all}
use Rattle.s7_plant.specs.Images.{AreSources, HasPlace, all_there, image_of_source, named, sources_after}
use Rattle.s7_plant.specs.Journals.{at, replay_entries}
use Rattle.s7_plant.specs.Replies.{said}
use Rattle.s7_plant.specs.State.{State}
use Rattle.s7_plant.proofs.SourceLemmas.{as_many, get_last, none_there, remove_absent, sourced_insert, sourced_remove, sourced_stays}

-- ---- the sources

pub sources_stay : (opening : State) (entries more : List Entry) (sources : MarkList) (blocks : Store) → AreSources opening entries sources blocks → AreSources opening (entries ++ more) sources blocks
sources_stay opening entries more sources blocks is =
    record { images = sourced_stays opening.blocks.images entries more sources.marks blocks.images is.images; limit = is.limit }

-- an image that an entry stores came from there
stored_last : (entries : List Entry) (entry : Entry) (opening : State) (kind number : ℕ) (image : List ℕ) (spare : Held) → entry.ask.request ≡ Insert kind number image spare → image_of_source opening.blocks.images (entries ++ entry ∷ []) (named kind number) (Some (length entries)) ≡ Some image
stored_last entries entry opening kind number image spare is =
    rw (get_last entries entry, is) (same_name kind number image)
  where
    same_name : (a b : ℕ) (v : List ℕ) → cond (eqb a a && eqb b b) (Some v) None ≡ Some v
    same_name a b v = grind (arith, nat_tests)

with_blocks : State → Store → State
with_blocks s blocks = record s { blocks = blocks }

module _ (opening s : State) (entries : List Entry) (entry : Entry) (sources : MarkList) (is : AreSources opening entries sources s.blocks) where
  stay : AreSources opening (entries ++ entry ∷ []) sources s.blocks
  stay = sources_stay opening entries (entry ∷ []) sources s.blocks is

  -- what a right may be wanted for, and leaves the blocks
  allowed : (b : Bool) (t : State) → t.blocks ≡ s.blocks → AreSources opening (entries ++ entry ∷ []) sources ((cond b s t).blocks)
  allowed true t same = stay
  allowed false t same = subst (AreSources opening (entries ++ entry ∷ []) sources) (sym same) stay

  insert_by : (kind number : ℕ) (image : List ℕ) (spare : Held) (barred takes : Bool) (error : ℕ) → entry.ask.request ≡ Insert kind number image spare → error ≡ (cond barred (refused 53825) (cond takes (controlled service_function 0) (refused 36612))).error → AreSources opening (entries ++ entry ∷ []) (sources_after sources (length entries) (Insert kind number image spare) error) ((cond barred s (cond takes (record s { blocks = record { images = insert_entry name_cmp s.blocks.images (named kind number) image; limit = s.blocks.limit } }) s)).blocks)
  insert_by kind number image spare true takes error asks said = rw said stay
  insert_by kind number image spare false false error asks said = rw said stay
  insert_by kind number image spare false true error asks said =
      rw said (record {
        images = sourced_insert opening.blocks.images (entries ++ entry ∷ []) (named kind number) (length entries) image (stored_last entries entry opening kind number image spare asks) sources.marks s.blocks.images stay.images;
        limit = is.limit;
      })

  delete_by : (kind number : ℕ) (barred : Bool) (found : Option (List ℕ)) (error : ℕ) → image_at s.blocks.images (named kind number) ≡ found → error ≡ (cond barred (refused 53825) (cond (is_some found) (controlled service_function 0) (refused 53769))).error → AreSources opening (entries ++ entry ∷ []) (sources_after sources (length entries) (Delete kind number) error) ((cond barred s (record s { blocks = without_block s.blocks kind number })).blocks)
  delete_by kind number true found error at said = rw said stay
  delete_by kind number false None error at said =
      rw said (record { images = stay.images ∙ ap all_there (sym (remove_absent (is_at (name_cmp (named kind number))) s.blocks.images at)); limit = is.limit })
  delete_by kind number false (Some image) error at said =
      rw said (record { images = sourced_remove opening.blocks.images (entries ++ entry ∷ []) (is_at (name_cmp (named kind number))) sources.marks s.blocks.images stay.images; limit = is.limit })

  -- one more entry
  pub sources_more : (right : Bool) (r : Request) (error : ℕ) → entry.ask.request ≡ r → error ≡ (answer s right r).error → AreSources opening (entries ++ entry ∷ []) (sources_after sources (length entries) r error) (changed s right r).blocks
  sources_more right (Read items) error asks said = stay
  sources_more right (Write items places octets) error asks said = stay
  sources_more right (Szl id index) error asks said = stay
  sources_more right (ClockRead moment) error asks said = stay
  sources_more right (ClockSet moment value) error asks said = allowed (is_barred s right) _ refl
  sources_more right (Start cold) error asks said = allowed (is_barred s right) _ refl
  sources_more right Stop error asks said = allowed (is_barred s right) _ refl
  sources_more right Compress error asks said = stay
  sources_more right CopyRam error asks said = stay
  sources_more right ListAll error asks said = stay
  sources_more right (ListOf kind) error asks said = stay
  sources_more right (Info kind number) error asks said = stay
  sources_more right (StartUpload kind number) error asks said = stay
  sources_more right (Insert kind number image spare) error asks said = insert_by kind number image spare (is_barred s right) (takes_block s kind number) error asks said
  sources_more right (Delete kind number) error asks said = delete_by kind number (is_barred s right) (image_at s.blocks.images (named kind number)) error refl said

  place_by : (kind number : ℕ) (barred less : Bool) (found : Option (List ℕ)) (error : ℕ) → ltb (length s.blocks.images) s.blocks.limit ≡ less → image_at s.blocks.images (named kind number) ≡ found → error ≡ (cond barred (refused 53825) (cond (less || is_some found) (controlled service_function 0) (refused 36612))).error → error ≡ 0 → mark_at sources.marks (named kind number) ≡ None → length sources.marks < sources.limit
  place_by kind number true less found error l f told done none = absurd (omega arith)
  place_by kind number false true found error l f told done none =
      let many = as_many opening.blocks.images entries sources.marks s.blocks.images is.images in
      let room : length s.blocks.images < s.blocks.limit = grind (arith, nat_tests) in
      omega (arith, many, room, is.limit)
  place_by kind number false false None error l f told done none = absurd (omega arith)
  place_by kind number false false (Some image) error l f told done none =
      let gone : image_at s.blocks.images (named kind number) ≡ None = none_there opening.blocks.images entries (is_at (name_cmp (named kind number))) sources.marks s.blocks.images is.images none in cc

  -- a block that is stored has a place among the sources
  pub has_place : (right : Bool) (r : Request) (error : ℕ) → error ≡ (answer s right r).error → HasPlace sources r error
  has_place right (Insert kind number image spare) error said =
      place_by kind number (is_barred s right) _ _ error refl refl said
  has_place right other error said = tt

-- ---- what no request changes

module _ (keeps : WritesKeepTheShape) where
  shape_written : (right : Bool) (m : Memory) (items : List Item) (places : List DataPlace) (octets : List ℕ) → shape_of (write_all m right items places octets) ≡ shape_of m
  shape_written right m [] places octets = refl
  shape_written right m (item ∷ items) [] octets = refl
  shape_written right m (item ∷ items) (place ∷ places) octets =
      shape_written right (written m right item (octets_at octets place)) items places octets ∙ keeps m right item (octets_at octets place)

  shape_allowed : (b : Bool) (s t : State) → t.memory ≡ s.memory → shape_of ((cond b s t).memory) ≡ shape_of s.memory
  shape_allowed true s t same = refl
  shape_allowed false s t same = ap shape_of same

  shape_inserted : (a b : Bool) (s t : State) → t.memory ≡ s.memory → shape_of ((cond a s (cond b t s)).memory) ≡ shape_of s.memory
  shape_inserted true b s t same = refl
  shape_inserted false true s t same = ap shape_of same
  shape_inserted false false s t same = refl

  pub shape_changed : (s : State) (right : Bool) (r : Request) → shape_of (changed s right r).memory ≡ shape_of s.memory
  shape_changed s right (Write items places octets) = shape_written right s.memory items places octets
  shape_changed s right (ClockSet moment value) = shape_allowed (is_barred s right) s _ refl
  shape_changed s right (Start cold) = shape_allowed (is_barred s right) s _ refl
  shape_changed s right Stop = shape_allowed (is_barred s right) s _ refl
  shape_changed s right (Insert kind number image spare) = shape_inserted (is_barred s right) (takes_block s kind number) s _ refl
  shape_changed s right (Delete kind number) = shape_allowed (is_barred s right) s _ refl
  shape_changed s right other = refl

  pub shape_replayed : (s : State) (entries : List Entry) → shape_of (replay_entries s entries).memory ≡ shape_of s.memory
  shape_replayed s [] = refl
  shape_replayed s (e ∷ entries) = shape_replayed (after s e.ask) entries ∙ shape_changed s e.ask.right e.ask.request

limit_allowed : (b : Bool) (s t : State) → t.blocks.limit ≡ s.blocks.limit → (cond b s t).blocks.limit ≡ s.blocks.limit
limit_allowed true s t same = refl
limit_allowed false s t same = same

limit_inserted : (a b : Bool) (s t : State) → t.blocks.limit ≡ s.blocks.limit → (cond a s (cond b t s)).blocks.limit ≡ s.blocks.limit
limit_inserted true b s t same = refl
limit_inserted false true s t same = same
limit_inserted false false s t same = refl

limit_changed : (s : State) (right : Bool) (r : Request) → (changed s right r).blocks.limit ≡ s.blocks.limit
limit_changed s right (ClockSet moment value) = limit_allowed (is_barred s right) s _ refl
limit_changed s right (Start cold) = limit_allowed (is_barred s right) s _ refl
limit_changed s right Stop = limit_allowed (is_barred s right) s _ refl
limit_changed s right (Insert kind number image spare) = limit_inserted (is_barred s right) (takes_block s kind number) s _ refl
limit_changed s right (Delete kind number) = limit_allowed (is_barred s right) s _ refl
limit_changed s right other = refl

pub limit_replayed : (s : State) (entries : List Entry) → (replay_entries s entries).blocks.limit ≡ s.blocks.limit
limit_replayed s [] = refl
limit_replayed s (e ∷ entries) = limit_replayed (after s e.ask) entries ∙ limit_changed s e.ask.right e.ask.request
