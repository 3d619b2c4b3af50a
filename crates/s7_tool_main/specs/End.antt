-- How the program ended, by the command that the words name, and what it left.
use Rattle.std.specs.Prelude.{◌≡◌, ℕ, List, [], Option, Some, None, IsNone, IsSomeAnd}
use Rattle.s7_outer.specs.DialShown.{DialShown}
use Rattle.s7_outer.specs.FilesShown.{FilesShown}
use Rattle.s7_outer.specs.OutShown.{OutShown}
use Rattle.s7_outer.specs.Shown.{Shown}
use Rattle.s7_client.specs.Completions.{Told}
use Rattle.s7_dialogue.specs.declared.job.JobResult.{JobResult}
use Rattle.s7_rig.specs.declared.end.RigEnd.{RigEnd}
use Rattle.s7_rig.specs.Rigs.{ToldWanting}
use Rattle.s7_rig.specs.Shown.{end_told, first_results}
use Rattle.s7_args.specs.Tool.{ToolTold, gen, partner, rig, run}
use Rattle.s7_program.specs.Lines.{memory_line}
use Rattle.s7_program.specs.Output.{Printed}
use Rattle.s7_tool_main.specs.declared.ended.Ended.{Ended}
use Rattle.s7_tool_main.specs.declared.ended.RunEnd.{RunEnd}
use Rattle.s7_tool_main.specs.declared.ended.ToolEnd.{ToolEnd}
use Rattle.s7_tool_main.specs.Gen.{RanGen, client_scripts, made_areas, made_config, made_turning}
use Rattle.s7_tool_main.specs.Partners.{CallFailsFor, FailsOne, PartnersLack, RanPartners, RefusesOne}
use Rattle.s7_tool_main.specs.Ran.{CallFails, FailsRun, RanScript, RefusesRun, RunLacksMemory}
use Rattle.s7_tool_main.specs.Rigging.{FailsOneFile, RanRig, RefusesFile, RigWanting}

-- ---- what was carried out

-- A COMMAND WAS CARRIED OUT, and ended in this way: `run` ran its script, `rig` and `gen` ran their rig, and `partner`
-- ran its partners
abbrev pub CarriesOut : {L C : Type 0} → (L → Shown) → Option ToolTold → FilesShown → DialShown L → OutShown → OutShown
    → ToolEnd L C → Ended → Type 0
CarriesOut shows None files dial out out' end how = ⊥
CarriesOut shows (Some (run told)) files dial out out' end how =
    IsSomeAnd end.run (λ r. RanScript shows told files dial out out' r how)
CarriesOut shows (Some (rig told)) files dial out out' end how =
    IsSomeAnd end.rig (λ r. RanRig told files out out' (end_told r) how)
CarriesOut shows (Some (gen seed)) files dial out out' end how =
    IsSomeAnd end.rig (λ r. RanGen seed out out' (end_told r) how)
CarriesOut shows (Some (partner told)) files dial out out' end how =
    RanPartners shows told told.other files dial out out' end.run how

-- MEMORY RAN OUT, and the line for this was printed, after what `run` or `partner` printed of a run that ended early
abbrev pub LacksMemory : {L C : Type 0} → (L → Shown) → Option ToolTold → FilesShown → DialShown L → OutShown → OutShown
    → ToolEnd L C → Type 0
LacksMemory shows None files dial out out' end = Printed out out' memory_line
LacksMemory shows (Some (run told)) files dial out out' end = RunLacksMemory shows told files dial out out' end.run
LacksMemory shows (Some (rig told)) files dial out out' end = IsNone end.rig × Printed out out' memory_line
LacksMemory shows (Some (gen seed)) files dial out out' end = IsNone end.rig × Printed out out' memory_line
LacksMemory shows (Some (partner told)) files dial out out' end =
    PartnersLack shows told told.other files dial out out' end.run

-- ---- what was refused, and what failed

-- A FILE WAS REFUSED: the first of the files of `run`, `rig` or `partner` that can't be read; `gen` reads none
abbrev pub Refuses : Option ToolTold → FilesShown → (List ℕ → Type 0) → Type 0
Refuses None files printed = ⊥
Refuses (Some (run told)) files printed = RefusesRun told files printed
Refuses (Some (rig told)) files printed = RefusesFile told files printed
Refuses (Some (gen seed)) files printed = ⊥
Refuses (Some (partner told)) files printed = RefusesOne told told.other files printed

-- A FILE FAILED: the next file of `run`, `rig` or `partner`
abbrev pub FileFails : Option ToolTold → FilesShown → FilesShown → (List ℕ → Type 0) → Type 0
FileFails None files files' printed = ⊥
FileFails (Some (run told)) files files' printed = FailsRun told files files' printed
FileFails (Some (rig told)) files files' printed = FailsOneFile told files files' printed
FileFails (Some (gen seed)) files files' printed = ⊥
FileFails (Some (partner told)) files files' printed = FailsOne told told.other files files' printed

-- THE DIAL FAILED: the call of `run`, or of `partner` with one file; `rig` and `gen` dial nothing
abbrev pub DialFails : {L : Type 0} → Option ToolTold → FilesShown → DialShown L → DialShown L → (List ℕ → Type 0)
    → Type 0
DialFails None files dial dial' printed = ⊥
DialFails (Some (run told)) files dial dial' printed = CallFails told files dial dial' printed
DialFails (Some (rig told)) files dial dial' printed = ⊥
DialFails (Some (gen seed)) files dial dial' printed = ⊥
DialFails (Some (partner told)) files dial dial' printed = CallFailsFor told told.other files dial dial' printed

-- a command that reads no file
abbrev pub ReadsNone : Option ToolTold → Type 0
ReadsNone None = Unit {0}
ReadsNone (Some (run told)) = ⊥
ReadsNone (Some (rig told)) = ⊥
ReadsNone (Some (gen seed)) = Unit {0}
ReadsNone (Some (partner told)) = ⊥

-- ---- what is left

-- nothing was run
pub record IsUnrun {L C : Type 0} (end : ToolEnd L C) : Type 0 where
  pub run : IsNone end.run
  pub rig : IsNone end.rig

-- what a command may leave: `run` and `partner` a run, `rig` and `gen` a rig
abbrev pub LeavesOnly : {L C : Type 0} → Option ToolTold → ToolEnd L C → Type 0
LeavesOnly None end = IsUnrun end
LeavesOnly (Some (run told)) end = IsNone end.rig
LeavesOnly (Some (rig told)) end = IsNone end.run
LeavesOnly (Some (gen seed)) end = IsNone end.run
LeavesOnly (Some (partner told)) end = IsNone end.rig

-- ---- what a completion was notified of

-- the results of a run, none if there is none
abbrev pub results_in : {L : Type 0} → Option (RunEnd L) → List JobResult
results_in None = []
results_in (Some r) = r.results.items

-- the results of a rig's first client, none if there is no rig
abbrev pub results_in_rig : Option RigEnd → List JobResult
results_in_rig None = []
results_in_rig (Some r) = first_results (end_told r)

abbrev pub heard_in : {L : Type 0} → Option (RunEnd L) → Option RigEnd → List JobResult
heard_in None left = results_in_rig left
heard_in (Some r) left = r.results.items

-- WHAT A COMPLETION WAS NOTIFIED OF: the results of the run if there is one, otherwise those of the rig's first client
abbrev pub heard : {L C : Type 0} → ToolEnd L C → List JobResult
heard end = heard_in end.run end.rig

-- WHAT A COMPLETION WAS NOTIFIED OF if memory ran out and no run is left: nothing, or the results of the first client
-- of a rig by then
abbrev pub HeardWanting : Option ToolTold → FilesShown → Option Told → Option Told → Type 0
HeardWanting None files before after = after ≡ before
HeardWanting (Some (run told)) files before after = after ≡ before
HeardWanting (Some (rig told)) files before after = RigWanting told files before after
HeardWanting (Some (gen seed)) files before after =
    ToldWanting made_areas 65536 made_config (client_scripts seed) (made_turning seed) before after
HeardWanting (Some (partner told)) files before after = after ≡ before
