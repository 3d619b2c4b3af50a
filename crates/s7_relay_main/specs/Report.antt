-- The text that is printed.
use Rattle.std.specs.Prelude.{◌≡◌, ℕ, List, ◌++◌, codes, Option, Some, None, IsSomeAnd}
use Rattle.std.specs.Fmt.{decimal}
use Rattle.s7_outer.specs.OutShown.{OutShown}
use Rattle.s7_session.specs.declared.outcome.Outcome.{Outcome}
use Rattle.s7_program.specs.Lines.{file_line, journal_line, line_end, line_with, memory_line, outcome_text}
use Rattle.s7_program.specs.Output.{BreaksOff, Gains, Printed}
use Rattle.s7_script.specs.declared.areas.load.LoadFault.{LoadFault}
use Rattle.s7_script.specs.declared.areas.load.LoadFault.TheVariants as fault
use Rattle.s7_relay_main.specs.declared.ended.Ended.{Ended}
use Rattle.s7_relay_main.specs.declared.ended.Ended.TheVariants as ended

-- the number of the one link
abbrev pub near_link : ℕ
near_link = 1

-- THE REPORT of a link with this outcome: the line of the link, and a line with the number of telegrams that the doer
-- kept
abbrev pub report_text : Outcome → ℕ → List ℕ
report_text result entries = line_with near_link (outcome_text result) entries ++ journal_line entries

abbrev pub usage_line : List ℕ
usage_line = codes "usage: s7relay WINDOWS" ++ line_end

-- the line for a windows file that can't be read; there is none for a file that failed, nor if memory ran out
abbrev pub refusal_line : LoadFault → Option (List ℕ)
refusal_line (fault.Line n) = Some (codes "windows line " ++ (decimal n ++ line_end))
refusal_line fault.TooLong = Some (codes "windows too long" ++ line_end)
refusal_line fault.Failed = None
refusal_line fault.Memory = None

-- THE REPORT WAS PRINTED, or a prefix of it if the output failed, or the line that says that memory ran out
abbrev pub Reports : List ℕ → OutShown → OutShown → Ended → Type 0
Reports text old new ended.Done = Gains old new text
Reports text old new ended.Output = BreaksOff old new text
Reports text old new ended.Memory = Printed old new memory_line
Reports text old new ended.Windows = ⊥
Reports text old new ended.File = ⊥

-- WHY NO WINDOWS WERE LOADED was printed
abbrev pub TellsFault : LoadFault → List ℕ → OutShown → OutShown → Ended → Type 0
TellsFault why path old new ended.Windows = IsSomeAnd (refusal_line why) (Printed old new)
TellsFault why path old new ended.File = (why ≡ fault.Failed) × Printed old new (file_line path)
TellsFault why path old new ended.Memory = Printed old new memory_line
TellsFault why path old new ended.Done = ⊥
TellsFault why path old new ended.Output = ⊥
