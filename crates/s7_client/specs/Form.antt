-- The form of results: what a job gives if it succeeds, by the kind of job.
use Rattle.std.specs.Prelude.{◌≡◌, ◌≢◌, ℕ, ◌+◌, ◌≤◌, ◌==◌, ◌%◌, true, if◌then◌else◌, IsSome, List, [], ◌∷◌, length}
use Rattle.std.specs.Option.{ForSome}
use Rattle.s7_item.specs.declared.item.Item.{Item}
use Rattle.s7_item.specs.Item.{octet_count}
use Rattle.s7_dialogue.specs.declared.grant.Grant.{Grant}
use Rattle.s7_dialogue.specs.declared.job.Job.{Job}
use Rattle.s7_dialogue.specs.declared.job.Job.TheVariants as job
use Rattle.s7_header.specs.Negotiation.{least_pdu}
use Rattle.s7_szl.specs.Images.{adds_up}
use Rattle.s7_szl.specs.Readers.{mode_of}
use Rattle.s7_clock.specs.Moment.{moment_in}
use Rattle.s7_dialogue.specs.Codes.{no_fault}
use Rattle.s7_dialogue.specs.Dialogue.{End, fault_end}
use Rattle.s7_dialogue.specs.Course.{Origin, for_departure, for_nothing, conduct_of, course}

-- the number of octets that an item with this code gives; 0 if it wasn't read
abbrev pub count_read : Item → ℕ → ℕ
count_read item code = if code == 0xFF then octet_count item else 0

-- the number of octets that all items give
unfoldable pub octets_read : List Item → List ℕ → ℕ
octets_read [] cs = 0
octets_read (item ∷ items) [] = 0
octets_read (item ∷ items) (code ∷ cs) = count_read item code + octets_read items cs

-- Several items give as many codes as items, and the octets of those that were read. Other jobs give no codes, and
-- only reads give octets. These are four octets for each of seven kinds of blocks, four for each block of a kind,
-- the 36 of a head, the image of a block, the octets of a data block, an image of a status list that adds up, an
-- image that says whether the controller runs, or ten octets of a clock with a valid date and time.
abbrev pub FormOf : Job → List ℕ → List ℕ → Type 0
FormOf job.Connect octets codes = (octets ≡ []) × (codes ≡ [])
FormOf (job.ReadArea item) octets codes = codes ≡ []
FormOf (job.WriteArea item written) octets codes = (octets ≡ []) × (codes ≡ [])
FormOf (job.ReadMany items) octets codes =
    (length codes ≤ 20) × (length codes ≡ length items) × (length octets ≡ octets_read items codes)
FormOf (job.WriteMany items written) octets codes =
    (length codes ≤ 20) × (length codes ≡ length items) × (octets ≡ [])
FormOf job.List octets codes = (length octets ≡ 28) × (codes ≡ [])
FormOf (job.ListOf kind) octets codes = (length octets % 4 ≡ 0) × (codes ≡ [])
FormOf (job.Info kind number) octets codes = (length octets ≡ 36) × (codes ≡ [])
FormOf (job.Upload kind number) octets codes = codes ≡ []
FormOf (job.Download image) octets codes = (octets ≡ []) × (codes ≡ [])
FormOf (job.Delete kind number) octets codes = (octets ≡ []) × (codes ≡ [])
FormOf (job.DbGet number) octets codes = codes ≡ []
FormOf (job.DbFill number value) octets codes = (octets ≡ []) × (codes ≡ [])
FormOf (job.Szl id index) octets codes = (adds_up octets ≡ true) × (codes ≡ [])
FormOf job.ClockRead octets codes = IsSome (moment_in octets) × (codes ≡ [])
FormOf (job.ClockSet moment) octets codes = (octets ≡ []) × (codes ≡ [])
FormOf job.Start octets codes = (octets ≡ []) × (codes ≡ [])
FormOf job.ColdStart octets codes = (octets ≡ []) × (codes ≡ [])
FormOf job.Stop octets codes = (octets ≡ []) × (codes ≡ [])
FormOf job.Compress octets codes = (octets ≡ []) × (codes ≡ [])
FormOf job.CopyRam octets codes = (octets ≡ []) × (codes ≡ [])
FormOf job.Status octets codes = IsSome (mode_of octets) × (codes ≡ [])
FormOf (job.PasswordSet text) octets codes = (octets ≡ []) × (codes ≡ [])
FormOf job.PasswordClear octets codes = (octets ≡ []) × (codes ≡ [])
FormOf job.Disconnect octets codes = (octets ≡ []) × (codes ≡ [])

-- the end has the form of the job if the job succeeded, and else neither octets nor codes
abbrev pub HasForm : Job → End → Type 0
HasForm job end =
    (end.code ≡ no_fault → FormOf job end.octets end.codes)
    × (end.code ≢ no_fault → (end.octets ≡ []) × (end.codes ≡ []))

-- a successful read of one item gives as many octets as the item has
abbrev pub IsWhole : Job → End → Type 0
IsWhole (job.ReadArea item) end = end.code ≡ no_fault → length end.octets ≡ octet_count item
IsWhole _ end = Unit {0}

-- Every end of a job has its form.
pub record EndsHaveForm : Type 0 where
  -- the ends that follow from octets
  pub octets : (origin : Origin) (b : List ℕ) (end : End) (carried : List ℕ)
      → (course origin b).awaits ≡ for_nothing end carried → HasForm origin.job end
  -- if a PDU of at least 64 was granted, one item is read whole
  pub whole : (origin : Origin) (b : List ℕ) (end : End) (carried : List ℕ)
      → ForSome origin.granted (λ (grant : Grant). least_pdu ≤ grant.pdu)
      → (course origin b).awaits ≡ for_nothing end carried → IsWhole origin.job end
  -- the end after the transmission of a disconnect request, which only a disconnect transmits
  pub departure : (origin : Origin) (b : List ℕ) → (course origin b).awaits ≡ for_departure
      → (origin.job ≡ job.Disconnect) × HasForm origin.job ((conduct_of origin).ended [])
  -- the end by a fault of the link
  pub fault : (done : Job) (code : ℕ) → code ≢ no_fault → HasForm done (fault_end code)
