-- The text that is printed.
use Rattle.std.specs.Prelude.{◌≡◌, ℕ, Bool, true, false, List, [], ◌∷◌, ◌++◌, codes, Option, None, Some, IsSomeAnd}
use Rattle.std.specs.Fmt.{decimal}
use Rattle.s7_outer.specs.OutShown.{OutShown}
use Rattle.s7_dialogue.specs.declared.job.JobResult.{JobResult}
use Rattle.s7_script.specs.Printing.{print}
use Rattle.s7_script.specs.TagPrinting.{print_tag}
use Rattle.s7_script.specs.declared.scripts.script_list.ScriptLine.{ScriptLine}
use Rattle.s7_symbol.specs.declared.kind.TagKind.{TagKind}
use Rattle.s7_program.specs.Lines.{file_line, line_end, memory_line}
use Rattle.s7_program.specs.Output.{BreaksOff, Gains, Printed}
use Rattle.s7_tool_main.specs.declared.ended.Ended.{Ended}
use Rattle.s7_tool_main.specs.declared.ended.Ended.TheVariants as ended

-- ---- lines

-- the line for the result of a job, by the number of its line and the type of the tag that the line names
abbrev pub line_by : ℕ → Option TagKind → JobResult → List ℕ
line_by number None told = print number told
line_by number (Some kind) told = print_tag number kind told

-- THE LINE for the result of a job of a script's line
abbrev pub line_text : ScriptLine → JobResult → List ℕ
line_text next told = line_by next.line next.tag told

-- THE REPORT of these lines: the line for the result of each job that has one
unfoldable pub report : List ScriptLine → List JobResult → List ℕ
report [] results = []
report (next ∷ lines) [] = []
report (next ∷ lines) (told ∷ results) = line_text next told ++ report lines results

abbrev pub usage_line : List ℕ
usage_line = codes "usage: s7tool run SCRIPT, rig AREAS SCRIPT..., gen N, partner A [B]" ++ line_end

abbrev pub areas_line : ℕ → List ℕ
areas_line n = codes "areas line " ++ (decimal n ++ line_end)

abbrev pub script_line : ℕ → List ℕ
script_line n = codes "script line " ++ (decimal n ++ line_end)

abbrev pub tags_line : ℕ → List ℕ
tags_line n = codes "tags line " ++ (decimal n ++ line_end)

abbrev pub too_long_line : List ℕ
too_long_line = codes "file too long" ++ line_end

abbrev pub dial_line : List ℕ
dial_line = codes "dial failed" ++ line_end

-- ---- the output

-- THE TEXT OF WHAT WAS DONE WAS PRINTED, or a prefix of it if the output failed; how the command ended, by whether all
-- went well
abbrev pub PrintsText : List ℕ → Bool → OutShown → OutShown → Ended → Type 0
PrintsText text good old new ended.Done = Gains old new text × (good ≡ true)
PrintsText text good old new ended.Jobs = Gains old new text × (good ≡ false)
PrintsText text good old new ended.Output = BreaksOff old new text
PrintsText text good old new ended.Refused = ⊥
PrintsText text good old new ended.File = ⊥
PrintsText text good old new ended.Dial = ⊥
PrintsText text good old new ended.Memory = ⊥

-- WHY A FILE WASN'T LOADED was printed: the line for a refusal, if there is one, or the line for a file that failed
abbrev pub TellsFault : Option (List ℕ) → Type 0 → List ℕ → OutShown → OutShown → Ended → Type 0
TellsFault line failed path old new ended.Refused = IsSomeAnd line (Printed old new)
TellsFault line failed path old new ended.File = failed × Printed old new (file_line path)
TellsFault line failed path old new ended.Memory = Printed old new memory_line
TellsFault line failed path old new ended.Done = ⊥
TellsFault line failed path old new ended.Jobs = ⊥
TellsFault line failed path old new ended.Output = ⊥
TellsFault line failed path old new ended.Dial = ⊥
