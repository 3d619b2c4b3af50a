-- The results of a rig's clients follow their scripts, and the numbers of their entries rise.
use Rattle.std.specs.Prelude.{◌≡◌, ℕ, Bool, List, [], ◌∷◌, slice_get, Some}
use Rattle.std.specs.List.{flat_map}
use Rattle.s7_area.specs.Memory.{Memory}
use Rattle.s7_dialogue.specs.declared.config.Config.{Config}
use Rattle.s7_dialogue.specs.declared.job.Job.{Job}
use Rattle.s7_dialogue.specs.declared.job.JobResult.{JobResult}
use Rattle.s7_rig.specs.Rigs.{RigRan, Turning}
use Rattle.s7_rig.specs.Scripts.{Script, left_behind}
use Rattle.s7_rig.specs.Shown.{ClientTold, EndTold}
use Rattle.s7_rig.specs.Split.{Rise}

-- the results are those of the first jobs, in order, for a client that halts or doesn't; the jobs `left` are left
unfoldable pub Follow : Bool → List Job → List JobResult → List Job → Type 0
Follow halts jobs [] left = left ≡ jobs
Follow halts [] (told ∷ results) left = ⊥
Follow halts (next ∷ jobs) (told ∷ results) left =
    (told.job ≡ next) × Follow halts (left_behind halts told jobs) results left

abbrev pub numbers : List ℕ → List ℕ
numbers ns = ns

-- the numbers of all entries of a client
abbrev pub all_of : List (List ℕ) → List ℕ
all_of places = flat_map numbers places

-- However a rig ran, the results of each client are those of its script's jobs in order, and the numbers of its entries
-- rise over all its jobs.
pub record RigsFollow : Type 0 where
  pub follow : (opening : Memory) (limit : ℕ) (config : Config) (scripts : List Script) (turning : Turning)
      (end : EndTold) → RigRan opening limit config scripts turning end
      → (k : ℕ) (c : ClientTold) (script : Script) → slice_get end.clients k ≡ Some c → slice_get scripts k ≡ Some script
      → (left : List Job) × Follow script.halts script.jobs c.results left
  pub rise : (opening : Memory) (limit : ℕ) (config : Config) (scripts : List Script) (turning : Turning)
      (end : EndTold) → RigRan opening limit config scripts turning end
      → (k : ℕ) (c : ClientTold) → slice_get end.clients k ≡ Some c → Rise (all_of c.places)
