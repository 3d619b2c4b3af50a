-- What the command `run` does.
use Rattle.std.specs.Prelude.{◌≡◌, ◌⊎◌, ℕ, List, Option, Some, IsNone, IsSomeAnd, MatchOption}
use Rattle.s7_outer.specs.Count.{Rose}
use Rattle.s7_outer.specs.DialShown.{DialShown}
use Rattle.s7_outer.specs.FilesShown.{FilesShown}
use Rattle.s7_outer.specs.OutShown.{OutShown}
use Rattle.s7_outer.specs.Shown.{Shown}
use Rattle.s7_dialogue.specs.declared.config.Config.{Config}
use Rattle.s7_client.specs.Runs.{Between}
use Rattle.s7_script.specs.declared.scripts.script_list.ScriptLine.{ScriptLine}
use Rattle.s7_args.specs.Tool.{RunTold}
use Rattle.s7_program.specs.Lines.{memory_line}
use Rattle.s7_program.specs.Output.{Printed}
use Rattle.s7_tool_main.specs.declared.ended.Ended.{Ended}
use Rattle.s7_tool_main.specs.declared.ended.Ended.TheVariants as ended
use Rattle.s7_tool_main.specs.declared.ended.RunEnd.{RunEnd}
use Rattle.s7_tool_main.specs.Asked.{config_by}
use Rattle.s7_tool_main.specs.Loading.{FailsTags, PathFails, ReadsScript, ReadsTags, RefusesScript, RefusesTags}
use Rattle.s7_tool_main.specs.Report.{dial_line}
use Rattle.s7_tool_main.specs.Run.{Goes, first_place}

-- ---- what was run

-- the jobs of these lines were carried out over a link in order, all of them or until they ended early, and left the
-- run and the output as they are now
pub record RunsOver {L : Type 0} (shows : L → Shown) (config : Config) (lines : List ScriptLine) (link : Shown)
    (out out' : OutShown) (run : RunEnd L) (how : Ended) : Type 0 where
  pub after : Between
  pub goes : Goes config lines (first_place link out)
      (record { link = shows run.line; between = after; results = run.results.items; out = out' }) how

-- A LINK WAS DIALLED, the link that the dial gives for the host and the port if it shows that, and the jobs of these
-- lines were carried out over it
pub record RunsDialled {L : Type 0} (shows : L → Shown) (told : RunTold) (dial : DialShown L) (lines : List ScriptLine)
    (out out' : OutShown) (run : RunEnd L) (how : Ended) : Type 0 where
  pub link : Shown
  pub given : (next : L) → dial.next told.host told.port ≡ Some next → link ≡ shows next
  pub runs : RunsOver shows (config_by told) lines link out out' run how

-- THE SCRIPT WAS READ, and before it the tag file, if one is named, whose tags its lines may name
abbrev pub ReadsAll : RunTold → FilesShown → (List ScriptLine → Type 0) → Type 0
ReadsAll told files so = ReadsTags told.tags files (λ known. ReadsScript known told.script files so)

-- A SCRIPT WAS RUN: it was read, and its jobs were carried out over the link that was dialled
abbrev pub RanScript : {L : Type 0} → (L → Shown) → RunTold → FilesShown → DialShown L → OutShown → OutShown
    → RunEnd L → Ended → Type 0
RanScript shows told files dial out out' run how =
    ReadsAll told files (λ lines. RunsDialled shows told dial lines out out' run how)

-- ---- how it ended

-- A FILE WAS REFUSED: the tag file if one is named, or after it the script
abbrev pub RefusesRun : RunTold → FilesShown → (List ℕ → Type 0) → Type 0
RefusesRun told files printed =
    RefusesTags told.tags files printed
    ⊎ ReadsTags told.tags files (λ known. RefusesScript known told.script files printed)

-- A FILE FAILED: the tag file if one is named, or after it the script
abbrev pub FailsRun : RunTold → FilesShown → FilesShown → (List ℕ → Type 0) → Type 0
FailsRun told old new printed =
    FailsTags told.tags old new printed ⊎ ReadsTags told.tags old (λ known. PathFails told.script old new printed)

-- THE CALL FAILED after the files were read: the counter of its host and port rose, and the line for this was printed
pub record CallFails {L : Type 0} (told : RunTold) (files : FilesShown) (dial dial' : DialShown L)
    (printed : List ℕ → Type 0) : Type 0 where
  pub read : ReadsAll told files (λ lines. Unit {0})
  pub rose : Rose (dial.faults told.host told.port) (dial'.faults told.host told.port)
  pub is_printed : printed dial_line

-- memory ran out: a run is left that ended early, or there is none and the line for this was printed
abbrev pub RunLacksMemory : {L : Type 0} → (L → Shown) → RunTold → FilesShown → DialShown L → OutShown → OutShown
    → Option (RunEnd L) → Type 0
RunLacksMemory shows told files dial out out' run =
    MatchOption run (Printed out out' memory_line) (λ r. RanScript shows told files dial out out' r ended.Memory)

-- HOW `run` ENDED, by the files, the dial and the output before and after, and the run if there is one
abbrev pub RunEnds : {L : Type 0} → (L → Shown) → RunTold → FilesShown → FilesShown → DialShown L → DialShown L
    → OutShown → OutShown → Option (RunEnd L) → Ended → Type 0
RunEnds shows told files files' dial dial' out out' run ended.Done =
    IsSomeAnd run (λ r. RanScript shows told files dial out out' r ended.Done)
RunEnds shows told files files' dial dial' out out' run ended.Jobs =
    IsSomeAnd run (λ r. RanScript shows told files dial out out' r ended.Jobs)
RunEnds shows told files files' dial dial' out out' run ended.Output =
    IsSomeAnd run (λ r. RanScript shows told files dial out out' r ended.Output)
RunEnds shows told files files' dial dial' out out' run ended.Memory =
    RunLacksMemory shows told files dial out out' run
RunEnds shows told files files' dial dial' out out' run ended.Refused =
    IsNone run × RefusesRun told files (Printed out out')
RunEnds shows told files files' dial dial' out out' run ended.File =
    IsNone run × FailsRun told files files' (Printed out out')
RunEnds shows told files files' dial dial' out out' run ended.Dial =
    IsNone run × CallFails told files dial dial' (Printed out out')

-- ---- the same after the script was read

abbrev pub LinesEnd : {L : Type 0} → (L → Shown) → RunTold → List ScriptLine → DialShown L → DialShown L → OutShown
    → OutShown → Option (RunEnd L) → Ended → Type 0
LinesEnd shows told lines dial dial' out out' run ended.Done =
    IsSomeAnd run (λ r. RunsDialled shows told dial lines out out' r ended.Done)
LinesEnd shows told lines dial dial' out out' run ended.Jobs =
    IsSomeAnd run (λ r. RunsDialled shows told dial lines out out' r ended.Jobs)
LinesEnd shows told lines dial dial' out out' run ended.Output =
    IsSomeAnd run (λ r. RunsDialled shows told dial lines out out' r ended.Output)
LinesEnd shows told lines dial dial' out out' run ended.Memory =
    MatchOption run (Printed out out' memory_line) (λ r. RunsDialled shows told dial lines out out' r ended.Memory)
LinesEnd shows told lines dial dial' out out' run ended.Refused = ⊥
LinesEnd shows told lines dial dial' out out' run ended.File = ⊥
LinesEnd shows told lines dial dial' out out' run ended.Dial =
    IsNone run × (Rose (dial.faults told.host told.port) (dial'.faults told.host told.port))
    × Printed out out' dial_line
