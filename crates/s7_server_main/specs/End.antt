-- How the program ended, and what it left.
use Rattle.std.specs.Prelude.{◌≡◌, ℕ, List, [], Option, Some, None, IsNone, IsSomeAnd}
use Rattle.std.specs.Prelude.{Ok, Err, is_some, if◌then◌else◌}
use Rattle.s7_outer.specs.Count.{Rose}
use Rattle.s7_outer.specs.DoorShown.{DoorShown}
use Rattle.s7_outer.specs.FilesShown.{FilesShown}
use Rattle.s7_outer.specs.OutShown.{OutShown}
use Rattle.s7_outer.specs.Shown.{Shown}
use Rattle.s7_area.specs.Memory.{Memory}
use Rattle.s7_plant.specs.Books.{BookTold}
use Rattle.s7_plant.specs.Journals.{entries_of}
use Rattle.s7_plant.specs.State.{begins_with, state_of}
use Rattle.s7_listener.specs.Given.{HasFailed}
use Rattle.s7_program.specs.Lines.{file_line, memory_line}
use Rattle.s7_program.specs.Output.{BreaksOff, Gains, Printed}
use Rattle.s7_script.specs.Naming.{Named, path, block, faulty, naming}
use Rattle.s7_script.specs.Loading.{NamedGives}
use Rattle.s7_script.specs.declared.areas.load.LoadFault.{LoadFault}
use Rattle.s7_args.specs.Server.{ServerTold, pipe, serve}
use Rattle.s7_server_main.specs.declared.run.Ended.{Ended}
use Rattle.s7_server_main.specs.declared.run.Ended.TheVariants as ended
use Rattle.s7_server_main.specs.declared.run.Run.{Run}
use Rattle.s7_server_main.specs.Asked.{AskedTold, asked_by}
use Rattle.s7_server_main.specs.Hosts.{ServesDoor, ServesPipe}
use Rattle.s7_server_main.specs.Report.{door_line, refusal_line, report_text}
use Rattle.s7_server_main.specs.Saving.{HoldsAreas}
use Rattle.s7_server_main.specs.Told.{RunTold, run_told}

-- ---- what was served

-- THE LINKS WERE SERVED OVER THE AREAS THAT ARE NAMED; these are the areas of the file, if the files show their octets
pub record ServesNamed (asked : AskedTold) (files : FilesShown) (serves : Memory → ℕ → Type 0) : Type 0 where
  pub opening : Memory
  pub opened : NamedGives (naming asked.areas) files (Ok opening)
  pub served : serves opening asked.journal

-- what a command serves: `pipe` the one link, and `serve` the links that the door gives
abbrev pub Serves : {L : Type 0} → (L → Shown) → Option ServerTold → FilesShown → Shown → DoorShown L → DoorShown L
    → RunTold → Type 0
Serves shows None files link door door' run = ⊥
Serves shows (Some (pipe areas save journal)) files link door door' run =
    ServesNamed (asked_by (pipe areas save journal)) files (λ opening limit. ServesPipe opening limit link run)
Serves shows (Some (serve areas port links save journal entry)) files link door door' run =
    ServesNamed (asked_by (serve areas port links save journal entry)) files
    (λ opening limit. ServesDoor shows port links opening limit door door' run)

-- The link that is handed back. `pipe` hands it back if it didn't serve it. `serve` and a faulty command line hand it
-- back always.
abbrev pub handed_back : {L O : Type 0} → Option ServerTold → Option (Run L O) → L → Option L
handed_back None run link = Some link
handed_back (Some (pipe areas save journal)) run link = if is_some run then None else Some link
handed_back (Some (serve areas port links save journal entry)) run link = Some link

-- no command but `serve` uses the door
abbrev pub KeepsDoor : {L : Type 0} → Option ServerTold → DoorShown L → DoorShown L → Type 0
KeepsDoor None door door' = door' ≡ door
KeepsDoor (Some (pipe areas save journal)) door door' = door' ≡ door
KeepsDoor (Some (serve areas port links save journal entry)) door door' = Unit {0}

-- a book that was opened with the named areas, which are those of the file if the files show their octets; nothing was
-- entered in it
pub record Opens (asked : AskedTold) (files : FilesShown) (book : BookTold) : Type 0 where
  pub opened : NamedGives (naming asked.areas) files (Ok book.opening.areas)
  pub begins : state_of book.opening ≡ begins_with book.opening.areas
  pub plant : state_of book.plant ≡ begins_with book.opening.areas
  pub journal : book.journal ≡ entries_of [] asked.journal

-- ---- what was refused, and what failed

-- THE AREAS WERE REFUSED for their first faulty line or their length, as the file has them if the files show their
-- octets, and the line for this was printed
pub record RefusesNamed (named : Named) (files : FilesShown) (printed : List ℕ → Type 0) : Type 0 where
  pub fault : LoadFault
  pub line : List ℕ
  pub refused : NamedGives named files (Err fault)
  pub line_is : refusal_line fault ≡ Some line
  pub is_printed : printed line

abbrev pub Refuses : Option ServerTold → FilesShown → (List ℕ → Type 0) → Type 0
Refuses None files printed = ⊥
Refuses (Some command) files printed = RefusesNamed (naming (asked_by command).areas) files printed

abbrev pub path_of : Named → Option (List ℕ)
path_of (path p) = Some p
path_of (block number octets) = None
path_of faulty = None

-- the path of the area file, if the areas are named by a path
abbrev pub areas_path : Option ServerTold → Option (List ℕ)
areas_path None = None
areas_path (Some command) = path_of (naming (asked_by command).areas)

-- the number of entries after which the areas are printed, if that is asked for
abbrev pub entry_asked : Option ServerTold → Option ℕ
entry_asked None = None
entry_asked (Some command) = (asked_by command).entry

-- the path to which the areas are saved, if that is asked for
abbrev pub save_path : Option ServerTold → Option (List ℕ)
save_path None = None
save_path (Some command) = (asked_by command).save

-- A FILE FAILED: the counter of this path rose, and the line for this was printed
abbrev pub FileFails : Option (List ℕ) → FilesShown → FilesShown → OutShown → OutShown → Type 0
FileFails failed files files' out out' =
    IsSomeAnd failed (λ p. Rose (files.faults p) (files'.faults p) × Printed out out' (file_line p))

-- the named areas were read; they are those of the file if the files show their octets
abbrev pub ReadsNamed : Named → FilesShown → Type 0
ReadsNamed named files = (opening : Memory) × NamedGives named files (Ok opening)

-- THE DOOR FAILED before a link came, after the areas were read, and the line for this was printed
abbrev pub DoorFails : {L : Type 0} → Option ServerTold → FilesShown → DoorShown L → DoorShown L → OutShown → OutShown
    → Type 0
DoorFails None files door door' out out' = ⊥
DoorFails (Some (pipe areas save journal)) files door door' out out' = ⊥
DoorFails (Some (serve areas port links save journal entry)) files door door' out out' =
    (ReadsNamed (naming areas) files × HasFailed port door door') × Printed out out' door_line

-- ---- how it ended

-- WHY NO BOOK WAS OPENED, by how it ended, and the files and the output before and after
abbrev pub Unopened : AskedTold → FilesShown → FilesShown → OutShown → OutShown → Ended → Type 0
Unopened asked files files' out out' ended.Areas = RefusesNamed (naming asked.areas) files (Printed out out')
Unopened asked files files' out out' ended.File = FileFails (path_of (naming asked.areas)) files files' out out'
Unopened asked files files' out out' ended.Memory = Printed out out' memory_line
Unopened asked files files' out out' ended.Done = ⊥
Unopened asked files files' out out' ended.Output = ⊥
Unopened asked files files' out out' ended.Door = ⊥

-- the areas that a run left are in the file to which they are saved
abbrev pub Saves : {L O : Type 0} → AskedTold → Run L O → FilesShown → FilesShown → Type 0
Saves asked run files files' = HoldsAreas asked.save files files' run.book.plant.areas

-- HOW A COMMAND ENDED, by what was asked for, the run if there is one, and the files and the output before and after;
-- if the door failed before a link came, `failed` holds
abbrev pub Ends : {L O : Type 0} → (L → Shown) → AskedTold → Type 0 → Option (Run L O)
    → FilesShown → FilesShown → OutShown → OutShown → Ended → Type 0
Ends shows asked failed run files files' out out' ended.Done =
    IsSomeAnd run (λ r. Saves asked r files files' × Gains out out' (report_text (run_told shows r) asked.entry))
Ends shows asked failed run files files' out out' ended.Output =
    IsSomeAnd run (λ r. Saves asked r files files' × BreaksOff out out' (report_text (run_told shows r) asked.entry))
Ends shows asked failed run files files' out out' ended.Areas =
    IsNone run × RefusesNamed (naming asked.areas) files (Printed out out')
Ends shows asked failed run files files' out out' ended.File =
    FileFails (if is_some run then asked.save else path_of (naming asked.areas)) files files' out out'
Ends shows asked failed run files files' out out' ended.Door = IsNone run × failed × Printed out out' door_line
Ends shows asked failed run files files' out out' ended.Memory = Printed out out' memory_line
