-- The images of a plant that a book keeps. From them it makes the plant after any number of entries.
use Rattle.std.specs.Prelude.{◌≡◌, ℕ, ◌+◌, ◌*◌, ◌/◌, ◌%◌, ◌<◌, ◌≤◌, ◌==◌, ◌&&◌, Bool, true, if◌then◌else◌, Option, None, Some, List, length, map, slice_get, slice_set, slice_index_or, All}
use Rattle.s7_area.specs.Memory.{shape_of}
use Rattle.s7_block.specs.declared.block.BlockName.{BlockName}
use Rattle.s7_block.specs.Marks.{Marked, MarkList, mark_at, with_mark, without_mark}
use Rattle.s7_block.specs.Store.{Images as BlockImages, Store, image_at}
use Rattle.s7_plant.specs.declared.images.Images.{Images}
use Rattle.s7_plant.specs.declared.images.Kept.{Kept}
use Rattle.s7_plant.specs.declared.journal.Entry.{Entry}
use Rattle.s7_plant.specs.declared.plant.Plant.{Plant}
use Rattle.s7_plant.specs.declared.request.Request.{Request}
use Rattle.s7_plant.specs.declared.request.Request.TheVariants.{Insert, Delete}
use Rattle.s7_plant.specs.Journals.{Entries, at, image_interval, replay_entries}
use Rattle.s7_plant.specs.State.{State}

-- ---- where blocks came from

abbrev pub named : ℕ → ℕ → BlockName
named kind number = record { kind = kind; number = number }

-- the image of the block of this name that a request stores
abbrev pub stored_as : BlockName → Request → Option (List ℕ)
stored_as name (Insert kind number image spare) =
    if kind == name.kind && number == name.number then Some image else None
stored_as name other = None

-- the image of the block of this name that an entry stores
abbrev pub stored_at : BlockName → Option Entry → Option (List ℕ)
stored_at name None = None
stored_at name (Some entry) = stored_as name entry.ask.request

-- THE IMAGE of a block by its source: the entry of this number stored it, or it was there at the opening
abbrev pub image_of_source : BlockImages → List Entry → BlockName → Option ℕ → Option (List ℕ)
image_of_source opening entries name None = image_at opening name
image_of_source opening entries name (Some number) = stored_at name (slice_get entries number)

-- the names of blocks, each with the image at its source
abbrev pub sourced : BlockImages → List Entry → Marked → List (BlockName × Option (List ℕ))
sourced opening entries marks = map (λ e. (e.0, image_of_source opening entries e.0 e.1)) marks

-- the names of images, each with its image as `Some`
abbrev pub all_there : BlockImages → List (BlockName × Option (List ℕ))
all_there images = map (λ e. (e.0, Some e.1)) images

-- these are the sources of the blocks, and the list of sources has room for as many blocks as the store
pub record AreSources (opening : State) (entries : List Entry) (sources : MarkList) (blocks : Store) : Type 0 where
  pub images : sourced opening.blocks.images entries sources.marks ≡ all_there blocks.images
  pub limit : sources.limit ≡ blocks.limit

-- ---- what is kept

-- the kept state is the state after the first n entries
pub record IsKeptAt (opening : State) (entries : List Entry) (n : ℕ) (kept : Kept) : Type 0 where
  pub memory : kept.areas ≡ (at opening entries n).memory
  pub offset : kept.offset ≡ (at opening entries n).offset
  pub running : kept.running ≡ (at opening entries n).running
  pub sources : AreSources opening entries kept.sources (at opening entries n).blocks

-- the kept state has the areas' names and lengths of the opening, and room for as many sources as the opening's store
-- has for blocks
pub record HasRoomOf (opening : State) (kept : Kept) : Type 0 where
  pub shape : shape_of kept.areas ≡ shape_of opening.memory
  pub limit : kept.sources.limit ≡ opening.blocks.limit

-- THE IMAGES of a book that began at this state and has this journal: one after each 4,096th entry, the sources of the
-- blocks that are there now, and room for the images that may come
pub record AreKept (opening : State) (journal : Entries) (images : Images) : Type 0 where
  pub count : images.count ≡ length journal.entries / image_interval
  pub kept :
      (i : ℕ) (d : Kept) → i < images.count
      → IsKeptAt opening journal.entries ((i + 1) * image_interval) (slice_index_or images.kept.items i d)
  pub sources : AreSources opening journal.entries images.sources (replay_entries opening journal.entries).blocks
  pub room : length images.kept.items ≡ journal.limit / image_interval
  pub within : images.count ≤ length images.kept.items
  pub fits : All (HasRoomOf opening) images.kept.items
  pub few : journal.limit ≤ 262144

-- ---- one more entry

-- the sources of the blocks after a request that became the entry of this number and was answered with this error word
abbrev pub sources_after : MarkList → ℕ → Request → ℕ → MarkList
sources_after sources entry (Insert kind number image spare) error =
    if error == 0 then with_mark sources (named kind number) entry else sources
sources_after sources entry (Delete kind number) error =
    if error == 0 then without_mark sources (named kind number) else sources
sources_after sources entry other error = sources

-- there is room for the source of a block that is stored
abbrev pub HasPlace : MarkList → Request → ℕ → Type 0
HasPlace sources (Insert kind number image spare) error =
    error ≡ 0 → mark_at sources.marks (named kind number) ≡ None → length sources.marks < sources.limit
HasPlace sources other error = Unit {0}

-- an image is kept after the entry of this number
abbrev pub is_kept_after : ℕ → Bool
is_kept_after entry = (entry + 1) % image_interval == 0

-- the plant as it is kept
abbrev pub kept_of : Plant → MarkList → Kept
kept_of plant sources =
    record { areas = plant.areas; offset = plant.offset; running = plant.running; sources = sources }

-- the state of what is kept, with these blocks
abbrev pub kept_state : Kept → Store → State
kept_state kept blocks =
    record { memory = kept.areas; blocks = blocks; offset = kept.offset; running = kept.running }

-- what has to hold before the images note an entry
pub record CanBeNoted (images : Images) (entry : ℕ) (request : Request) (error : ℕ) (plant : Plant) : Type 0 where
  pub few : entry < 262144
  pub place : HasPlace images.sources request error
  pub room : is_kept_after entry ≡ true → images.count < length images.kept.items
  pub shapes : All (λ (k : Kept). shape_of plant.areas ≡ shape_of k.areas) images.kept.items
  pub limits : All (λ (k : Kept). images.sources.limit ≡ k.sources.limit) images.kept.items

-- what the record of an entry leaves: the plant is kept at the next index if its number is a multiple of 4,096
pub record AreNoted (before : Images) (entry : ℕ) (request : Request) (error : ℕ) (plant : Plant) (after : Images) : Type 0 where
  pub sources : after.sources ≡ sources_after before.sources entry request error
  pub kept :
      after.kept.items
      ≡ (if is_kept_after entry then slice_set before.kept.items before.count (kept_of plant after.sources) else before.kept.items)
  pub count : after.count ≡ (if is_kept_after entry then before.count + 1 else before.count)
