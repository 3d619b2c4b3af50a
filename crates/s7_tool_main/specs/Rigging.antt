-- What the command `rig` does.
use Rattle.std.specs.Prelude.{◌≡◌, ◌⊎◌, ℕ, List, [], ◌∷◌, ◌++◌, map, Option, Some, None, Ok, Err}
use Rattle.std.specs.Prelude.{IfSome, IsNone, IsSomeAnd}
use Rattle.s7_outer.specs.FilesShown.{FilesShown}
use Rattle.s7_outer.specs.OutShown.{OutShown}
use Rattle.s7_area.specs.Memory.{Memory}
use Rattle.s7_client.specs.Completions.{Told}
use Rattle.s7_rig.specs.declared.end.RigEnd.{RigEnd}
use Rattle.s7_rig.specs.Shown.{EndTold, end_told}
use Rattle.s7_rig.specs.Rigs.{RigRan, ToldWanting}
use Rattle.s7_rig.specs.Scripts.{Script, goes_on}
use Rattle.s7_script.specs.Naming.{Named, naming, path, block, faulty}
use Rattle.s7_script.specs.Loading.{NamedGives}
use Rattle.s7_script.specs.declared.areas.load.LoadFault.{LoadFault}
use Rattle.s7_script.specs.declared.scripts.script_list.ScriptLine.{ScriptLine}
use Rattle.s7_symbol.specs.declared.tag.Tag.{Tag}
use Rattle.s7_watched.specs.Watched.{watch_script}
use Rattle.s7_args.specs.Tool.{RigTold}
use Rattle.s7_program.specs.Lines.{memory_line}
use Rattle.s7_program.specs.Output.{Printed}
use Rattle.s7_tool_main.specs.declared.ended.Ended.{Ended}
use Rattle.s7_tool_main.specs.declared.ended.Ended.TheVariants as ended
use Rattle.s7_tool_main.specs.Asked.{rig_config, turning_of}
use Rattle.s7_tool_main.specs.Loading.{FailsTags, PathFails, ReadsTags, ReadsWatch, RefusesScript, RefusesTags, RefusesWatch}
use Rattle.s7_tool_main.specs.Loading.{refusal_line}
use Rattle.s7_tool_main.specs.Report.{PrintsText, areas_line}
use Rattle.s7_tool_main.specs.RigText.{are_clients_good, rig_text}
use Rattle.s7_tool_main.specs.Run.{jobs_of}
use Rattle.s7_tool_main.specs.Scripts.{ReadsBefore, ReadsScripts}
use Rattle.s7_tool_main.specs.Watching.{ShowsWatch}

-- ---- files

-- the line for areas that can't be read; there is none for a file that failed, nor if memory ran out
abbrev pub areas_refusal_line : LoadFault → Option (List ℕ)
areas_refusal_line why = refusal_line areas_line why

-- the areas were refused for their first faulty line or their length, and the line for this was printed
pub record RefusesAreas (named : Named) (files : FilesShown) (printed : List ℕ → Type 0) : Type 0 where
  pub fault : LoadFault
  pub line : List ℕ
  pub refused : NamedGives named files (Err fault)
  pub line_is : areas_refusal_line fault ≡ Some line
  pub is_printed : printed line

-- the script under this path is the next to be read: the areas were read, and so were the scripts before it, whose
-- lines may name these tags
pub record ComesTo (known : Option (List Tag)) (told : RigTold) (files : FilesShown) (path : List ℕ) : Type 0 where
  pub opening : Memory
  pub opened : NamedGives (naming told.areas) files (Ok opening)
  pub next : ReadsBefore known told.scripts files path

pub record RefusesOneScript (known : Option (List Tag)) (told : RigTold) (files : FilesShown)
    (printed : List ℕ → Type 0) : Type 0 where
  pub path : List ℕ
  pub next : ComesTo known told files path
  pub refused : RefusesScript known path files printed

-- the areas or the next script were refused
abbrev pub RefusesOther : Option (List Tag) → RigTold → FilesShown → (List ℕ → Type 0) → Type 0
RefusesOther known told files printed =
    RefusesAreas (naming told.areas) files printed ⊎ RefusesOneScript known told files printed

-- A watch file is named and was refused; or none is named or it was read, and the areas or the next script were
-- refused.
abbrev pub RefusesAfterTags : Option (List Tag) → RigTold → FilesShown → (List ℕ → Type 0) → Type 0
RefusesAfterTags known told files printed =
    RefusesWatch told.watch files printed ⊎ ReadsWatch told.watch files (λ watched. RefusesOther known told files printed)

-- A FILE WAS REFUSED: the first that can't be read, in the order of the tag file, the watch file, the areas and the
-- scripts as the words name them
abbrev pub RefusesFile : RigTold → FilesShown → (List ℕ → Type 0) → Type 0
RefusesFile told files printed =
    RefusesTags told.tags files printed
    ⊎ ReadsTags told.tags files (λ known. RefusesAfterTags known told files printed)

abbrev pub IsPathOf : Named → List ℕ → Type 0
IsPathOf (path p) q = q ≡ p
IsPathOf (block number octets) q = ⊥
IsPathOf faulty q = ⊥

-- the file of the areas or that of the next script failed
pub record FailsOther (known : Option (List Tag)) (told : RigTold) (old new : FilesShown) (printed : List ℕ → Type 0)
    : Type 0 where
  pub path : List ℕ
  pub named : IsPathOf (naming told.areas) path ⊎ ComesTo known told old path
  pub fails : PathFails path old new printed

-- A watch file is named and failed; or none is named or it was read, and the file of the areas or that of the next
-- script failed.
abbrev pub FailsAfterTags : Option (List Tag) → RigTold → FilesShown → FilesShown → (List ℕ → Type 0) → Type 0
FailsAfterTags known told old new printed =
    FailsTags told.watch old new printed
    ⊎ ReadsWatch told.watch old (λ watched. FailsOther known told old new printed)

-- A FILE FAILED: the tag file, the watch file, the file of the areas or a script. Of the files that the words name,
-- those before it in this order were read.
abbrev pub FailsOneFile : RigTold → FilesShown → FilesShown → (List ℕ → Type 0) → Type 0
FailsOneFile told old new printed =
    FailsTags told.tags old new printed ⊎ ReadsTags told.tags old (λ known. FailsAfterTags known told old new printed)

-- ---- the rig

-- the client of a script does all its jobs, whether one fails or not
abbrev pub client_script : List ScriptLine → Script
client_script lines = goes_on (jobs_of lines)

-- the script of the watcher, if tags are watched
abbrev pub watchers : Option (List Tag) → ℕ → List Script
watchers None rounds = []
watchers (Some tags) rounds = watch_script tags rounds ∷ []

-- a client for each script, and then the watcher, if tags are watched
abbrev pub rig_scripts : List (List ScriptLine) → Option (List Tag) → ℕ → List Script
rig_scripts scripts watched rounds = map client_script scripts ++ watchers watched rounds

-- a rig ran over these areas, with a client for each of these scripts, as the words ask
abbrev pub RanJobs : RigTold → Memory → List Script → EndTold → Type 0
RanJobs told opening scripts end =
    RigRan opening told.journal (rig_config told.pdu told.jobs) scripts (turning_of told) end

-- memory ran out for such a rig
abbrev pub JobsWanting : RigTold → Memory → List Script → Option Told → Option Told → Type 0
JobsWanting told opening scripts before after =
    ToldWanting opening told.journal (rig_config told.pdu told.jobs) scripts (turning_of told) before after

-- A RIG RAN over the areas and the scripts that the words name, and its text was printed, as `PrintsText` states. The
-- lines of the scripts may name the tags of the tag file, if one is named. If a watch file is named, the rig has a
-- watcher of the tags there, and its text has the watcher's lines, as `ShowsWatch` states. If the files show their
-- octets, what was read of them is what they hold.
pub record RanRig (told : RigTold) (files : FilesShown) (out out' : OutShown) (end : EndTold)
    (how : Ended) : Type 0 where
  pub known : Option (List Tag)
  pub tagged : ReadsTags told.tags files (λ found. found ≡ known)
  pub watched : Option (List Tag)
  pub watching : ReadsWatch told.watch files (λ found. found ≡ watched)
  pub opening : Memory
  pub opened : NamedGives (naming told.areas) files (Ok opening)
  pub scripts : List (List ScriptLine)
  pub read : ReadsScripts known told.scripts files scripts
  pub ran : RanJobs told opening (rig_scripts scripts watched told.rounds) end
  pub printed : PrintsText (rig_text scripts watched told.rounds end) (are_clients_good scripts watched end.clients)
      out out' how
  pub watch : IfSome watched (λ tags. ShowsWatch opening told.pdu scripts tags told.rounds end
      (rig_text scripts watched told.rounds end))

-- HOW `rig` ENDED, by the files and the output before and after, and the rig if one ran
abbrev pub RigEnds : RigTold → FilesShown → FilesShown → OutShown → OutShown → Option RigEnd → Ended → Type 0
RigEnds told files files' out out' rig ended.Done =
    IsSomeAnd rig (λ r. RanRig told files out out' (end_told r) ended.Done)
RigEnds told files files' out out' rig ended.Jobs =
    IsSomeAnd rig (λ r. RanRig told files out out' (end_told r) ended.Jobs)
RigEnds told files files' out out' rig ended.Output =
    IsSomeAnd rig (λ r. RanRig told files out out' (end_told r) ended.Output)
RigEnds told files files' out out' rig ended.Refused = IsNone rig × RefusesFile told files (Printed out out')
RigEnds told files files' out out' rig ended.File = IsNone rig × FailsOneFile told files files' (Printed out out')
RigEnds told files files' out out' rig ended.Memory = IsNone rig × Printed out out' memory_line
RigEnds told files files' out out' rig ended.Dial = ⊥

-- ---- what a completion was notified of

-- memory ran out for a rig over the areas and the scripts that the words name
pub record BreaksOffRig (told : RigTold) (files : FilesShown) (before after : Option Told) : Type 0 where
  pub known : Option (List Tag)
  pub tagged : ReadsTags told.tags files (λ found. found ≡ known)
  pub watched : Option (List Tag)
  pub watching : ReadsWatch told.watch files (λ found. found ≡ watched)
  pub opening : Memory
  pub opened : NamedGives (naming told.areas) files (Ok opening)
  pub scripts : List (List ScriptLine)
  pub read : ReadsScripts known told.scripts files scripts
  pub wanting : JobsWanting told opening (rig_scripts scripts watched told.rounds) before after

-- IF MEMORY RAN OUT, the completion was notified of nothing, or of the results that `BreaksOffRig` allows for a rig
-- that was begun.
abbrev pub RigWanting : RigTold → FilesShown → Option Told → Option Told → Type 0
RigWanting told files before after = (after ≡ before) ⊎ BreaksOffRig told files before after
