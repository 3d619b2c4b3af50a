-- Which jobs of a rig succeed.
use Rattle.std.specs.Prelude.{◌≡◌, ◌≢◌, ◌⊎◌, ℕ, ◌<◌, ◌≤◌, Bool, true, false, ◌==◌, List, [], ◌∷◌, length, slice_get}
use Rattle.std.specs.Prelude.{Option, None, Some, IsSome, MatchOption}
use Rattle.std.specs.List.{AllByRecursion}
use Rattle.s7_item.specs.declared.item.Item.{Item}
use Rattle.s7_item.specs.Item.{octet_count}
use Rattle.s7_area.specs.Guards.{is_read_barred, is_write_barred}
use Rattle.s7_area.specs.Memory.{Memory, area_octets, place_code}
use Rattle.s7_item.specs.Codes.{data_blocks}
use Rattle.s7_szl.specs.Tables.{table_of}
use Rattle.s7_dialogue.specs.declared.job.Job.{Job}
use Rattle.s7_dialogue.specs.declared.job.Job.TheVariants as job
use Rattle.s7_dialogue.specs.declared.job.JobResult.{JobResult}
use Rattle.s7_dialogue.specs.Checks.{check_item, check_items, check_moment, octet_count_of}
use Rattle.s7_dialogue.specs.Codes.{no_fault, timed_out}
use Rattle.s7_turn.specs.Histories.{entry}
use Rattle.s7_plant.specs.declared.request.Ask.{Ask}
use Rattle.s7_session.specs.Books.{History}

-- the areas have the octets of the item
abbrev pub IsThere : Memory → Item → Type 0
IsThere m item = place_code m item ≡ 0xFF

-- the octets of a data block
abbrev pub data_block : Memory → ℕ → Option (List ℕ)
data_block m number = area_octets m (record { area = data_blocks; number = number })

-- the areas have the data block of this number, a number of two octets
abbrev pub IsBlock : Memory → ℕ → Type 0
IsBlock m number = (number < 65536) × IsSome (data_block m number)

-- the areas have the data block of this number, a number of two octets, and its octets fit an upload
abbrev pub HasBlock : Memory → ℕ → Type 0
HasBlock m number = (number < 65536) × MatchOption (data_block m number) ⊥ (λ octets. length octets ≤ 65536)

-- the areas have no guard, or the caller has the right
abbrev pub IsAllowed : Memory → Bool → Type 0
IsAllowed m right = (m.guard ≡ None) ⊎ (right ≡ true)

-- The job can succeed on a link with this PDU, with the link's right or without. A read or a write of one item can if
-- the client finds no fault in the item and its octets, the areas have its octets, and it needs no right that the link
-- lacks. A read or a write of several items can if the client finds no fault in them and their octets for this PDU;
-- each item has a code of its own, and the job succeeds whatever these are. A read of a status list can if there is
-- such a list. Counting the blocks, reading the clock and reading the run state always can. Setting the clock can if
-- the client finds no fault in the moment, and the areas have no guard or the link has the right; compressing the
-- memory and copying it can under the same condition on guard and right. Reading the head of a data block of the areas
-- can, and listing the data blocks if there is one. Such a block can be read whole if it may be read, uploaded if it
-- also isn't too long, and filled if it may be written. A connect and a disconnect always can. Nothing is claimed here
-- of the other jobs: they depend on what was done before, or on the blocks of the store.
abbrev pub CanComeOff : Memory → Bool → ℕ → Job → Type 0
CanComeOff m right pdu job.Connect = Unit {0}
CanComeOff m right pdu (job.ReadArea item) =
    (check_item item true ≡ no_fault) × IsThere m item × (is_read_barred m.guard right ≡ false)
CanComeOff m right pdu (job.WriteArea item octets) =
    (check_item item (length octets == octet_count item) ≡ no_fault) × IsThere m item
    × (is_write_barred m.guard right ≡ false)
CanComeOff m right pdu (job.ReadMany items) = check_items items true pdu false ≡ no_fault
CanComeOff m right pdu (job.WriteMany items octets) =
    check_items items (length octets == octet_count_of items) pdu true ≡ no_fault
CanComeOff m right pdu job.List = Unit {0}
CanComeOff m right pdu (job.ListOf kind) = (kind ≡ 0x41) × ((number : ℕ) × IsSome (data_block m number))
CanComeOff m right pdu (job.Info kind number) = (kind ≡ 0x41) × IsBlock m number
CanComeOff m right pdu (job.Upload kind number) =
    (kind ≡ 0x41) × HasBlock m number × (is_read_barred m.guard right ≡ false)
CanComeOff m right pdu (job.DbGet number) = IsBlock m number × (is_read_barred m.guard right ≡ false)
CanComeOff m right pdu (job.DbFill number value) = IsBlock m number × (is_write_barred m.guard right ≡ false)
CanComeOff m right pdu (job.Szl id index) = IsSome (table_of id index true)
CanComeOff m right pdu job.ClockRead = Unit {0}
CanComeOff m right pdu (job.ClockSet moment) = (check_moment moment ≡ no_fault) × IsAllowed m right
CanComeOff m right pdu job.Compress = IsAllowed m right
CanComeOff m right pdu job.CopyRam = IsAllowed m right
CanComeOff m right pdu job.Status = Unit {0}
CanComeOff m right pdu job.Disconnect = Unit {0}
CanComeOff m right pdu _ = ⊥

abbrev pub IsNoDisconnect : Job → Type 0
IsNoDisconnect job.Disconnect = ⊥
IsNoDisconnect _ = Unit {0}

-- the calls of a history at these numbers have the right
abbrev pub AreWithRight : History → List ℕ → Type 0
AreWithRight history numbers =
    AllByRecursion (λ (number : ℕ). (caller : ℕ) (ask : Ask) → slice_get history number ≡ Some (entry caller ask)
    → ask.right ≡ true) numbers

-- The results of a client, in order, with the numbers of their calls in a history. Up to the first job that timed out,
-- and up to a disconnect, each job that can succeed has code 0. A job whose calls all have the right succeeds if it can
-- with the right.
unfoldable pub AllComeOff : Memory → History → ℕ → List JobResult → List (List ℕ) → Type 0
AllComeOff m history pdu [] [] = Unit {0}
AllComeOff m history pdu [] (numbers ∷ places) = ⊥
AllComeOff m history pdu (told ∷ results) [] = ⊥
AllComeOff m history pdu (told ∷ results) (numbers ∷ places) =
    told.code ≢ timed_out
    → ((right : Bool) → (right ≡ true → AreWithRight history numbers) → CanComeOff m right pdu told.job
    → told.code ≡ no_fault)
    × (IsNoDisconnect told.job → AllComeOff m history pdu results places)
