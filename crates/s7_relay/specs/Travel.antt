-- What of a telegram is asked far.
use Rattle.std.specs.Prelude.{◌≡◌, ℕ, ◌==◌, Bool, true, false, if◌then◌else◌, Option, None, Some, Result, Ok, Err, List, [], ◌∷◌, ◌++◌, length, map}
use Rattle.std.specs.List.{list_any}
use Rattle.s7_item.specs.Codes.{good}
use Rattle.s7_item.specs.DataItem.{is_good, octets_at}
use Rattle.s7_item.specs.declared.item.Item.{Item}
use Rattle.s7_item.specs.declared.places.DataPlace.{DataPlace}
use Rattle.s7_split.specs.Groups.{groups_of, packed_of}
use Rattle.s7_split.specs.declared.packing.PackFault.{PackFault}
use Rattle.s7_plant.specs.declared.request.Request.{Request}
use Rattle.s7_plant.specs.declared.request.Request.TheVariants.{Read, Write}
use Rattle.s7_dialogue.specs.Checks.{check_items, octet_count_of}
use Rattle.s7_dialogue.specs.Codes.{no_fault}
use Rattle.s7_dialogue.specs.declared.job.Job.{Job}
use Rattle.s7_dialogue.specs.declared.job.Job.TheVariants.{ReadMany, WriteMany}
use Rattle.s7_relay.specs.Windows.{far_item, near_code, put_codes}
use Rattle.s7_relay.specs.declared.windows.Window.{Window}

-- THE NEAR CODES of a request's items, FF for those that travel. A request that is neither a read nor a write has no
-- items.
abbrev pub request_codes : List Window → Request → List ℕ
request_codes windows (Read items) = map (near_code windows) items
request_codes windows (Write items places octets) = put_codes windows items places octets
request_codes windows _ = []

-- whether an item travels
abbrev pub travels : List Window → Request → Bool
travels windows request = list_any is_good (request_codes windows request)

-- the far items of the items that travel, in order
abbrev pub far_items : List Window → List Item → List ℕ → List Item
far_items windows [] codes = []
far_items windows (item ∷ items) [] = []
far_items windows (item ∷ items) (code ∷ codes) =
    if code == good then far_item windows item ∷ far_items windows items codes else far_items windows items codes

-- the octets of the items that travel, joined
abbrev pub far_octets : List ℕ → List DataPlace → List ℕ → List ℕ
far_octets [] places octets = []
far_octets (code ∷ codes) [] octets = []
far_octets (code ∷ codes) (place ∷ places) octets =
    if code == good then octets_at octets place ++ far_octets codes places octets
    else far_octets codes places octets

-- THE FAR JOB of a request. A request that is neither a read nor a write has none.
abbrev pub far_job : List Window → Request → Option Job
far_job windows (Read items) = Some (ReadMany (far_items windows items (map (near_code windows) items)))
far_job windows (Write items places octets) =
    let codes = put_codes windows items places octets in
    Some (WriteMany (far_items windows items codes) (far_octets codes places octets))
far_job windows _ = None

-- items with the code FF have a window
abbrev pub AreGood : List Window → List Item → List ℕ → Type 0
AreGood windows [] codes = Unit {0}
AreGood windows (item ∷ items) [] = Unit {0}
AreGood windows (item ∷ items) (code ∷ codes) =
    (code ≡ good → near_code windows item ≡ good) × AreGood windows items codes

-- ---- one far telegram

abbrev pub is_packed_in_one : Result Unit PackFault → List (List Item) → Bool
is_packed_in_one (Ok packed) groups = length groups == 1
is_packed_in_one (Err fault) groups = false

-- whether the items are packed into one group at this PDU
abbrev pub is_one_group : ℕ → Bool → List Item → Bool
is_one_group pdu write items = is_packed_in_one (packed_of pdu write items) (groups_of pdu write items)

abbrev pub fits_pdu : ℕ → Job → Bool
fits_pdu pdu (ReadMany items) = is_one_group pdu false items
fits_pdu pdu (WriteMany items octets) = is_one_group pdu true items
fits_pdu pdu _ = true

-- WHETHER A FAR JOB FITS into one telegram at the PDU that was granted
abbrev pub fits_one : Option ℕ → Job → Bool
fits_one None job = true
fits_one (Some pdu) job = fits_pdu pdu job

-- A JOB PASSES THE CLIENT'S CHECKS at the PDU that was granted: it is a read or a write of several items in which the
-- client finds no fault
abbrev pub PassesChecks : ℕ → Job → Type 0
PassesChecks pdu (ReadMany items) = check_items items true pdu false ≡ no_fault
PassesChecks pdu (WriteMany items octets) = check_items items (length octets == octet_count_of items) pdu true ≡ no_fault
PassesChecks pdu _ = ⊥

-- a far job that fits into one telegram passes the client's checks
abbrev pub FarJobsPassChecks : Type 0
FarJobsPassChecks =
    (windows : List Window) (request : Request) (job : Job) (pdu : ℕ) → far_job windows request ≡ Some job
    → fits_pdu pdu job ≡ true → PassesChecks pdu job
