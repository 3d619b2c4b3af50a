-- The text that is printed.
use Rattle.std.specs.Prelude.{◌≡◌, ℕ, List, [], ◌++◌, length, codes, Option, Some, None, IsSomeAnd}
use Rattle.std.specs.Prelude.{Bool, true, false, nat_le, if◌then◌else◌}
use Rattle.std.specs.Fmt.{decimal}
use Rattle.std.specs.List.{flat_map}
use Rattle.s7_outer.specs.OutShown.{OutShown}
use Rattle.s7_plant.specs.Books.{BookTold}
use Rattle.s7_plant.specs.Journals.{at}
use Rattle.s7_plant.specs.State.{state_of}
use Rattle.s7_script.specs.Spelling.{spelling}
use Rattle.s7_script.specs.declared.areas.load.LoadFault.{LoadFault}
use Rattle.s7_script.specs.declared.areas.load.LoadFault.TheVariants as fault
use Rattle.s7_listener.specs.Served.{ServedTold}
use Rattle.s7_program.specs.Lines.{file_line, journal_line, line_end, line_with, memory_line, outcome_text}
use Rattle.s7_program.specs.Output.{BreaksOff, Gains, Printed}
use Rattle.s7_server_main.specs.declared.run.Ended.{Ended}
use Rattle.s7_server_main.specs.declared.run.Ended.TheVariants as ended
use Rattle.s7_server_main.specs.Told.{RunTold}

-- ---- lines

-- a link's line
abbrev pub line_of : ServedTold → List ℕ
line_of served = line_with served.link (outcome_text served.outcome) served.entries

-- the line for a door that failed after the first link
abbrev pub door_text : Bool → List ℕ
door_text false = []
door_text true = codes "door" ++ line_end

-- THE REPORT: a line for each link in the order of their numbers, one for the journal, and one more if the door failed
abbrev pub report_of : List ServedTold → ℕ → Bool → List ℕ
report_of links journal door_failed = flat_map line_of links ++ (journal_line journal ++ door_text door_failed)

-- THE AREAS AFTER THE FIRST n ENTRIES: this number and an area file, or a line that says that there are fewer entries
abbrev pub entry_text : BookTold → Option ℕ → List ℕ
entry_text book None = []
entry_text book (Some n) =
    if nat_le n (length book.journal.entries)
    then codes "at " ++ (decimal n
    ++ (line_end ++ spelling (at (state_of book.opening) book.journal.entries n).memory))
    else codes "at " ++ (decimal n ++ (codes " none" ++ line_end))

-- the report of a run, and after it the areas that are asked for
abbrev pub report_text : RunTold → Option ℕ → List ℕ
report_text run entry =
    report_of run.links (length run.book.journal.entries) run.door_failed ++ entry_text run.book entry

abbrev pub usage_line : List ℕ
usage_line = codes "usage: s7server pipe AREAS, s7server serve AREAS" ++ line_end

-- the line for areas that can't be read; there is none for a file that failed, nor if memory ran out
abbrev pub refusal_line : LoadFault → Option (List ℕ)
refusal_line (fault.Line n) = Some (codes "areas line " ++ (decimal n ++ line_end))
refusal_line fault.TooLong = Some (codes "areas too long" ++ line_end)
refusal_line fault.Failed = None
refusal_line fault.Memory = None

-- the line for a door that failed before a link came
abbrev pub door_line : List ℕ
door_line = codes "door failed" ++ line_end

-- ---- the output

-- THE REPORT WAS PRINTED, or a prefix of it if the output failed, or the line that says that memory ran out
abbrev pub Reports : List ℕ → OutShown → OutShown → Ended → Type 0
Reports text old new ended.Done = Gains old new text
Reports text old new ended.Output = BreaksOff old new text
Reports text old new ended.Memory = Printed old new memory_line
Reports text old new ended.Areas = ⊥
Reports text old new ended.File = ⊥
Reports text old new ended.Door = ⊥

-- WHY NO AREAS WERE LOADED, or why a path wasn't written, was printed
abbrev pub TellsFault : LoadFault → List ℕ → OutShown → OutShown → Ended → Type 0
TellsFault why path old new ended.Areas = IsSomeAnd (refusal_line why) (Printed old new)
TellsFault why path old new ended.File = (why ≡ fault.Failed) × Printed old new (file_line path)
TellsFault why path old new ended.Memory = Printed old new memory_line
TellsFault why path old new ended.Done = ⊥
TellsFault why path old new ended.Output = ⊥
TellsFault why path old new ended.Door = ⊥
