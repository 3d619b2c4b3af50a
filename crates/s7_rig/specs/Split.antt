-- What jobs that succeeded read, by the calls of a history.
use Rattle.std.specs.Prelude.{◌≡◌, ℕ, ◌<◌, Bool, false, List, [], ◌∷◌, ◌++◌, length, map, take, slice_get, Some}
use Rattle.std.specs.List.{flat_map}
use Rattle.s7_area.specs.Memory.{read_code, read_octets}
use Rattle.s7_dialogue.specs.declared.job.Job.{Job}
use Rattle.s7_dialogue.specs.declared.job.Job.TheVariants as job
use Rattle.s7_dialogue.specs.declared.job.JobResult.{JobResult}
use Rattle.s7_dialogue.specs.Codes.{no_fault}
use Rattle.s7_dialogue.specs.DataBlocks.{data_parts}
use Rattle.s7_dialogue.specs.Dialogue.{alone}
use Rattle.s7_item.specs.declared.item.Item.{Item}
use Rattle.s7_turn.specs.Histories.{entry, replay}
use Rattle.s7_plant.specs.declared.request.Request.TheVariants.{Read, Info}
use Rattle.s7_plant.specs.Requests.{asked}
use Rattle.s7_plant.specs.Journals.{after_call}
use Rattle.s7_plant.specs.State.{State}
use Rattle.s7_session.specs.Books.{History}
use Rattle.s7_split.specs.Groups.{groups_of}
use Rattle.s7_split.specs.Parts.{parts_of}
use Rattle.s7_rig.specs.Complete.{data_block}
use Rattle.s7_rig.specs.Dialogues.{AreGood}

-- the state that the calls before this number left
abbrev pub state_at : State → History → ℕ → State
state_at opening history number = replay after_call opening (take number history)

-- ---- several items

-- each number is greater than the one before
unfoldable pub Rise : List ℕ → Type 0
Rise [] = Unit {0}
Rise (n ∷ []) = Unit {0}
Rise (n ∷ m ∷ more) = (n < m) × Rise (m ∷ more)

-- the call of this number is the link's read of this group alone, with a right or without, and these are the codes and
-- the octets of its items in the memory that all calls before it left: no octets of an item whose code refuses it
pub record IsGroupReadAt (opening : State) (history : History) (link : ℕ) (group : List Item) (number : ℕ)
    (octets codes : List ℕ) : Type 0 where
  pub right : Bool
  pub call : slice_get history number ≡ Some (entry link (asked right (Read group)))
  pub codes_are : codes ≡ map (read_code (state_at opening history number).memory right) group
  pub octets_are : octets ≡ flat_map (read_octets (state_at opening history number).memory right) group

-- the octets and the codes are those of the groups, each read at its number, joined
unfoldable pub AreGroupsReadAt : State → History → ℕ → List (List Item) → List ℕ → List ℕ → List ℕ → Type 0
AreGroupsReadAt opening history link [] [] octets codes = (octets ≡ []) × (codes ≡ [])
AreGroupsReadAt opening history link [] (number ∷ numbers) octets codes = ⊥
AreGroupsReadAt opening history link (group ∷ groups) [] octets codes = ⊥
AreGroupsReadAt opening history link (group ∷ groups) (number ∷ numbers) octets codes =
    (front : List ℕ) × (rest : List ℕ) × (first : List ℕ) × (others : List ℕ)
    × (octets ≡ front ++ rest) × (codes ≡ first ++ others)
    × IsGroupReadAt opening history link group number front first
    × AreGroupsReadAt opening history link groups numbers rest others

-- A READ OF SEVERAL ITEMS: the numbers rise, there is one for each group of items that fits a telegram, and each group
-- has the octets and codes that the areas gave at its call
pub record GroupedRead (opening : State) (history : History) (numbers : List ℕ) (link : ℕ) (items : List Item) (pdu : ℕ)
    (octets codes : List ℕ) : Type 0 where
  pub rise : Rise numbers
  pub read : AreGroupsReadAt opening history link (groups_of pdu false items) numbers octets codes

-- ---- one item

-- The octets are those of the parts, each part read alone at its number; the memory has each part.
abbrev pub AreReadAt : State → History → ℕ → List Item → List ℕ → List ℕ → Type 0
AreReadAt opening history link parts numbers octets =
    (codes : List ℕ) × AreGood codes × AreGroupsReadAt opening history link (alone parts) numbers octets codes

-- A SPLIT READ: the numbers rise, there is one for each part of the item, and each part has the octets that the areas
-- held at its call
pub record SplitRead (opening : State) (history : History) (numbers : List ℕ) (link : ℕ) (item : Item) (pdu : ℕ)
    (octets : List ℕ) : Type 0 where
  pub rise : Rise numbers
  pub read : AreReadAt opening history link (parts_of item pdu false) numbers octets

-- ---- a whole data block

-- A DATA BLOCK READ WHOLE: the first number is that of the link's question for its head; the areas then had the block
-- with this number of octets. The numbers rise, there is one more for each part of the block, and the octets are those
-- that the areas held at that call
pub record BlockRead (opening : State) (history : History) (numbers : List ℕ) (link number pdu : ℕ) (octets : List ℕ)
    : Type 0 where
  pub asked_at : ℕ
  pub later : List ℕ
  pub numbers_are : numbers ≡ asked_at ∷ later
  pub right : Bool
  pub call : slice_get history asked_at ≡ Some (entry link (asked right (Info 0x41 number)))
  pub stood : List ℕ
  pub there : data_block (state_at opening history asked_at).memory number ≡ Some stood
  pub rise : Rise numbers
  pub read : AreReadAt opening history link (data_parts number (length stood) pdu false) later octets

-- ---- results

-- what a job read is what the areas held at its entries; the number of a data block has two octets
abbrev pub ReadStands : State → History → ℕ → ℕ → Job → List ℕ → List ℕ → List ℕ → Type 0
ReadStands opening history link pdu (job.ReadArea item) places octets codes =
    SplitRead opening history places link item pdu octets
ReadStands opening history link pdu (job.ReadMany items) places octets codes =
    GroupedRead opening history places link items pdu octets codes
ReadStands opening history link pdu (job.DbGet number) places octets codes =
    number < 65536 → BlockRead opening history places link number pdu octets
ReadStands opening history link pdu _ places octets codes = Unit {0}

-- if the result of a read has code 0, it is what the areas held at its entries
abbrev pub StandsAtPlaces : State → History → ℕ → ℕ → JobResult → List ℕ → Type 0
StandsAtPlaces opening history link pdu told places =
    told.code ≡ no_fault
    → ReadStands opening history link pdu told.job places told.octets (take told.count told.codes)

-- `StandsAtPlaces` holds of each result, with the numbers of its entries
unfoldable pub AllStand : State → History → ℕ → ℕ → List JobResult → List (List ℕ) → Type 0
AllStand opening history link pdu [] [] = Unit {0}
AllStand opening history link pdu [] (numbers ∷ places) = ⊥
AllStand opening history link pdu (told ∷ results) [] = ⊥
AllStand opening history link pdu (told ∷ results) (numbers ∷ places) =
    StandsAtPlaces opening history link pdu told numbers × AllStand opening history link pdu results places
