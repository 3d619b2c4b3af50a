-- How the program ended, and what it left.
use Rattle.std.specs.Prelude.{◌≡◌, ℕ, List, length, Option, Some, None, IsNone}
use Rattle.s7_outer.specs.DialShown.{DialShown}
use Rattle.s7_outer.specs.FilesShown.{FilesShown}
use Rattle.s7_outer.specs.OutShown.{OutShown}
use Rattle.s7_outer.specs.Shown.{Shown}
use Rattle.s7_session.specs.declared.outcome.Outcome.{Outcome}
use Rattle.s7_program.specs.Lines.{file_line, memory_line}
use Rattle.s7_program.specs.Output.{BreaksOff, Gains, Printed}
use Rattle.s7_script.specs.Loading.{PathFailed}
use Rattle.s7_script.specs.declared.areas.load.LoadFault.{LoadFault}
use Rattle.s7_relay.specs.Doer.{DoerModel, begins}
use Rattle.s7_relay.specs.declared.windows.Window.{Window}
use Rattle.s7_args.specs.Relay.{RelayTold}
use Rattle.s7_relay_main.specs.declared.ended.Ended.{Ended}
use Rattle.s7_relay_main.specs.declared.ended.Ended.TheVariants as ended
use Rattle.s7_relay_main.specs.Asked.{relay_config}
use Rattle.s7_relay_main.specs.Loading.{IsRefusedFor, ReadsWindows}
use Rattle.s7_relay_main.specs.Relay.{Relays}
use Rattle.s7_relay_main.specs.Report.{refusal_line, report_text}

-- ---- what was served

-- WHAT WAS SERVED, if a doer is left
abbrev pub Serves : {M : Type 0} → (M → Shown) → Option RelayTold → FilesShown → DialShown M → Shown → Shown
    → Option Outcome → Option (DoerModel M) → Type 0
Serves shows asked files dial pipe line result None = Unit {0}
Serves shows asked files dial pipe line None (Some doer) = ⊥
Serves shows None files dial pipe line (Some result) (Some doer) = ⊥
Serves shows (Some told) files dial pipe line (Some result) (Some doer) =
    Relays shows told files dial pipe line result doer

-- a link was served, and `printed` holds of the text of its report
abbrev pub HasReport : {M : Type 0} → Option Outcome → Option (DoerModel M) → (List ℕ → Type 0) → Type 0
HasReport None doer printed = ⊥
HasReport (Some result) None printed = ⊥
HasReport (Some result) (Some doer) printed = printed (report_text result (length doer.kept))

-- a doer that was opened with the windows, the server and the limit that are named, and has relayed nothing
pub record Opens {M : Type 0} (told : RelayTold) (files : FilesShown) (dial : DialShown M) (doer : DoerModel M)
    : Type 0 where
  pub windows : List Window
  pub read : ReadsWindows told.windows files windows
  pub begun : doer ≡ begins windows told.host told.port (relay_config told.polls) told.journal dial

-- ---- what was refused, and what failed

-- THE WINDOWS WERE REFUSED for the first faulty line of their file or for its length, and the line for this was printed
pub record RefusesWindows (path : List ℕ) (files : FilesShown) (printed : List ℕ → Type 0) : Type 0 where
  pub fault : LoadFault
  pub line : List ℕ
  pub refused : IsRefusedFor path files fault
  pub line_is : refusal_line fault ≡ Some line
  pub is_printed : printed line

abbrev pub Refuses : Option RelayTold → FilesShown → (List ℕ → Type 0) → Type 0
Refuses None files printed = ⊥
Refuses (Some told) files printed = RefusesWindows told.windows files printed

-- THE WINDOWS FILE FAILED: one call on its path failed, and the line for this was printed
pub record PathFails (path : List ℕ) (old new : FilesShown) (printed : List ℕ → Type 0) : Type 0 where
  pub rose : PathFailed path old.faults new.faults
  pub is_printed : printed (file_line path)

abbrev pub FileFails : Option RelayTold → FilesShown → FilesShown → (List ℕ → Type 0) → Type 0
FileFails None old new printed = ⊥
FileFails (Some told) old new printed = PathFails told.windows old new printed

-- ---- how it ended

-- WHY NO DOER WAS OPENED. For each way in which the program ended this says what holds of the files and the output,
-- before and after.
abbrev pub Unopened : RelayTold → FilesShown → FilesShown → OutShown → OutShown → Ended → Type 0
Unopened told files files' out out' ended.Windows = RefusesWindows told.windows files (Printed out out')
Unopened told files files' out out' ended.File = PathFails told.windows files files' (Printed out out')
Unopened told files files' out out' ended.Memory = Printed out out' memory_line
Unopened told files files' out out' ended.Done = ⊥
Unopened told files files' out out' ended.Output = ⊥

-- HOW THE PROGRAM ENDED, if its words ask for this. For each way in which it ended this says what holds of the outcome
-- and the doer, and of the files and the output, before and after.
abbrev pub Ends : {M : Type 0} → RelayTold → Option Outcome → Option (DoerModel M) → FilesShown → FilesShown
    → OutShown → OutShown → Ended → Type 0
Ends told result doer files files' out out' ended.Done = HasReport result doer (Gains out out')
Ends told result doer files files' out out' ended.Output = HasReport result doer (BreaksOff out out')
Ends told result doer files files' out out' ended.Windows =
    IsNone doer × RefusesWindows told.windows files (Printed out out')
Ends told result doer files files' out out' ended.File =
    IsNone doer × PathFails told.windows files files' (Printed out out')
Ends told result doer files files' out out' ended.Memory = Printed out out' memory_line
