-- The text of a watcher in a rig: its samples are what the areas held.
use Rattle.std.specs.Prelude.{◌≡◌, ◌≢◌, ℕ, Bool, true, false, List, [], ◌∷◌, ◌++◌, length, map, take, drop, slice_get, Some}
use Rattle.s7_item.specs.declared.item.Item.{Item}
use Rattle.s7_area.specs.Memory.{Memory, read_code, read_octets}
use Rattle.s7_dialogue.specs.declared.config.Config.{Config}
use Rattle.s7_dialogue.specs.declared.job.Job.{Job}
use Rattle.s7_dialogue.specs.declared.job.Job.TheVariants as job
use Rattle.s7_dialogue.specs.declared.job.JobResult.{JobResult}
use Rattle.s7_turn.specs.Histories.{entry}
use Rattle.s7_plant.specs.declared.request.Request.TheVariants.{Read}
use Rattle.s7_plant.specs.Requests.{asked}
use Rattle.s7_plant.specs.State.{State, begins_with}
use Rattle.s7_session.specs.Books.{History, history_of}
use Rattle.s7_split.specs.Groups.{groups_of}
use Rattle.s7_rig.specs.Followed.{Follow, all_of}
use Rattle.s7_rig.specs.Scripts.{Script}
use Rattle.s7_rig.specs.Rigs.{RigRan, Turning}
use Rattle.s7_rig.specs.Shown.{ClientTold, EndTold}
use Rattle.s7_rig.specs.Split.{AllStand, Rise, state_at}
use Rattle.s7_text.specs.Lines.{Text}
use Rattle.s7_symbol.specs.declared.tag.Tag.{Tag}
use Rattle.s7_watch.specs.Samples.{Sample, items_of}
use Rattle.s7_watch.specs.Looks.{Look, jobs_of, looks}
use Rattle.s7_watch.specs.Lines.{failed_line, nothing_seen, result_lines, sampled_lines}

-- ---- the samples of a read

-- what an item gives in a memory, with a right or without
abbrev pub sample_in : Memory → Bool → Item → Sample
sample_in m right item = record { code = read_code m right item; octets = read_octets m right item }

-- THE SAMPLES OF A GROUP: the entry of this number is the link's read of the group alone, with a right or without, and
-- each sample is what its item gives in the memory that all entries before it left
pub record IsSampledAt (opening : State) (history : History) (link : ℕ) (group : List Item) (number : ℕ)
    (samples : List Sample) : Type 0 where
  pub right : Bool
  pub call : slice_get history number ≡ Some (entry link (asked right (Read group)))
  pub samples_are : samples ≡ map (sample_in (state_at opening history number).memory right) group

-- the samples are those of the groups, each at its number, joined
unfoldable pub AreSampledAt : State → History → ℕ → List (List Item) → List ℕ → List Sample → Type 0
AreSampledAt opening history link [] [] samples = samples ≡ []
AreSampledAt opening history link [] (number ∷ numbers) samples = ⊥
AreSampledAt opening history link (group ∷ groups) [] samples = ⊥
AreSampledAt opening history link (group ∷ groups) (number ∷ numbers) samples =
    (now : List Sample) × (later : List Sample) × (samples ≡ now ++ later)
    × IsSampledAt opening history link group number now × AreSampledAt opening history link groups numbers later

-- THE SAMPLES OF A READ: those of its groups of items. A telegram of this PDU takes one group, and each group has an
-- entry.
abbrev pub IsSampled : State → History → ℕ → ℕ → List Tag → List ℕ → List Sample → Type 0
IsSampled opening history link pdu tags numbers samples =
    AreSampledAt opening history link (groups_of pdu false (items_of tags)) numbers samples

-- ---- the reads of a watcher

-- these are the samples of the reads that succeeded, in order; the text is the line of the read that failed, or nothing
unfoldable pub AreSampled : State → History → ℕ → ℕ → List Look → List JobResult → List (List ℕ) → List (List Sample)
    → Text → Type 0
AreSampled opening history link pdu [] results places readings end = (readings ≡ []) × (end ≡ [])
AreSampled opening history link pdu (look ∷ ahead) [] places readings end = (readings ≡ []) × (end ≡ [])
AreSampled opening history link pdu (look ∷ ahead) (told ∷ results) [] readings end = ⊥
AreSampled opening history link pdu (look ∷ ahead) (told ∷ results) (numbers ∷ places) [] end =
    (told.code ≢ 0) × (end ≡ failed_line look.round told.code)
AreSampled opening history link pdu (look ∷ ahead) (told ∷ results) (numbers ∷ places) (samples ∷ readings) end =
    (told.code ≡ 0) × IsSampled opening history link pdu look.tags numbers samples
    × AreSampled opening history link pdu ahead results places readings end

-- THIS IS THE TEXT OF A WATCHER of these tags: the lines of the samples of its reads, and the line of a read that
-- failed. The reads are the jobs after its connect. The numbers of all its entries in the history rise.
pub record IsWatched (opening : State) (history : History) (pdu : ℕ) (tags : List Tag) (rounds : ℕ) (c : ClientTold)
    (text : Text) : Type 0 where
  pub readings : List (List Sample)
  pub end : Text
  pub sampled : AreSampled opening history c.link pdu (looks tags rounds) (drop 1 c.results) (drop 1 c.places)
      readings end
  pub text_is : text ≡ sampled_lines (nothing_seen tags) (looks tags rounds) readings ++ end
  pub rise : Rise (all_of c.places)

-- A WATCHER of these tags connects, reads all of them in rounds, and disconnects. It disconnects as soon as a read
-- fails.
abbrev pub watch_script : List Tag → ℕ → Script
watch_script tags rounds = record {
  jobs = job.Connect ∷ (jobs_of (looks tags rounds) ++ job.Disconnect ∷ []);
  halts = true;
}

-- WATCHES ARE SEEN: if the results of a watcher follow its script, if what they read is what the areas held at their
-- entries, and if the numbers of these rise, then the lines of the results are those of the samples that the areas held.
pub record WatchesAreSeen : Type 0 where
  pub seen : (opening : State) (history : History) (pdu : ℕ) (tags : List Tag) (rounds : ℕ) (c : ClientTold)
      (left : List Job)
      → Follow true (watch_script tags rounds).jobs c.results left
      → AllStand opening history c.link pdu c.results c.places
      → Rise (all_of c.places)
      → IsWatched opening history pdu tags rounds c
      (result_lines (nothing_seen tags) (looks tags rounds) (drop 1 c.results))

-- RIGS SHOW WATCHES: however a rig ran, the lines of the results of a client with a watcher's script are those of the
-- samples that the areas held at its entries in the history.
pub record RigsShowWatches : Type 0 where
  pub shown : (opening : Memory) (limit : ℕ) (config : Config) (scripts : List Script) (turning : Turning)
      (end : EndTold) → RigRan opening limit config scripts turning end
      → (k : ℕ) (c : ClientTold) (tags : List Tag) (rounds : ℕ) → slice_get end.clients k ≡ Some c
      → slice_get scripts k ≡ Some (watch_script tags rounds)
      → IsWatched (begins_with opening) (history_of end.book) config.pdu tags rounds c
      (result_lines (nothing_seen tags) (looks tags rounds) (drop 1 c.results))
