-- How a tag file, a watch file, a script or a sends file was loaded.
use Rattle.std.specs.Prelude.{◌≡◌, ◌≢◌, ◌≤◌, ℕ, ◌+◌, List, [], ◌∷◌, length, Option, Some, None, Result, Ok, Err, IsTrue}
use Rattle.s7_outer.specs.declared.files.FileFault.{FileFault}
use Rattle.s7_outer.specs.declared.files.FileFault.TheVariants as file
use Rattle.s7_outer.specs.FilesShown.{FilesShown}
use Rattle.s7_outer.specs.Files.{file_limit, IsCutFrom}
use Rattle.s7_script.specs.Loading.{FailedOnce, PathFailed}
use Rattle.s7_script.specs.Tagged.{script_by}
use Rattle.s7_script.specs.Sends.{sends}
use Rattle.s7_script.specs.declared.areas.load.LoadFault.{LoadFault}
use Rattle.s7_script.specs.declared.areas.load.LoadFault.TheVariants as fault
use Rattle.s7_script.specs.declared.scripts.script_fault.ScriptFault.{ScriptFault}
use Rattle.s7_script.specs.declared.sends.send_list.SendLine.{SendLine}
use Rattle.s7_script.specs.declared.scripts.script_list.ScriptLine.{ScriptLine}
use Rattle.s7_symbol.specs.Tags.{tags}
use Rattle.s7_symbol.specs.declared.fault.TagFault.{TagFault}
use Rattle.s7_symbol.specs.declared.tag.Tag.{Tag}
use Rattle.s7_program.specs.Lines.{file_line}
use Rattle.s7_tool_main.specs.declared.load.TextKind.{TextKind}
use Rattle.s7_tool_main.specs.declared.load.TextKind.TheVariants as kind
use Rattle.s7_tool_main.specs.Report.{areas_line, script_line, tags_line, too_long_line}

-- NO FILE IS CHANGED, and at most one call on a path failed
pub record KeepsPaths (old new : FilesShown) : Type 0 where
  pub kept : new ≡ record old { faults = new.faults }
  pub counts : FailedOnce old.faults new.faults

-- ---- readers

-- a reader of a text: what the text names, or the number of its first faulty line
abbrev pub Reader : Type 0 → Type 0
Reader A = List ℕ → Result (List A) ℕ

abbrev pub numbered : {A E : Type 0} → (E → ℕ) → Result A E → Result A ℕ
numbered line_of (Ok named) = Ok named
numbered line_of (Err e) = Err (line_of e)

abbrev pub tag_reader : Reader Tag
tag_reader text = numbered (λ (e : TagFault). e.line) (tags text)

-- the tags, or line 1 if there is none
abbrev pub some_tags : Result (List Tag) ℕ → Result (List Tag) ℕ
some_tags (Ok []) = Err 1
some_tags (Ok (tag ∷ tags)) = Ok (tag ∷ tags)
some_tags (Err n) = Err n

-- the reader of watch files, which are tag files: the first line of one without a tag is faulty
abbrev pub watch_reader : Reader Tag
watch_reader text = some_tags (tag_reader text)

-- the reader of scripts whose lines may name these tags
abbrev pub script_reader : Option (List Tag) → Reader ScriptLine
script_reader known text = numbered (λ (e : ScriptFault). e.line) (script_by known text)

abbrev pub sends_reader : Reader SendLine
sends_reader text = numbered (λ (e : ScriptFault). e.line) (sends text)

-- ---- a text that was read: a tag file, a script or a sends file, with its reader

-- THE TEXT WAS READ: its octets name lines, of which `then` holds. The octets are no more than the limit, and they are
-- those of the file if the files show them.
pub record ReadsText {A : Type 0} (reader : Reader A) (path : List ℕ) (files : FilesShown) (then : List A → Type 0)
    : Type 0 where
  pub octets : List ℕ
  pub lines : List A
  pub sized : length octets ≤ file_limit
  pub held : IsTrue files.tells → files.held path ≡ Some octets
  pub named : reader octets ≡ Ok lines
  pub so : then lines

-- ---- a text that wasn't read

-- The octets that were read have line `n` as their first faulty line. They are no more than the limit, and they are
-- those of the file if the files show them.
pub record HasFaultyLine {A : Type 0} (reader : Reader A) (path : List ℕ) (files : FilesShown) (n : ℕ)
    : Type 0 where
  pub octets : List ℕ
  pub sized : length octets ≤ file_limit
  pub held : IsTrue files.tells → files.held path ≡ Some octets
  pub fails : reader octets ≡ Err n

-- more octets than the limit were read; they are the first octets of a longer file if the files show them
pub record IsTooLong (path : List ℕ) (files : FilesShown) : Type 0 where
  pub octets : List ℕ
  pub passed : length octets ≡ file_limit + 1
  pub cut : IsTrue files.tells → IsCutFrom (files.held path) octets

-- why the text can't be read; a file that failed, or memory that ran out, says nothing about the text
abbrev pub IsRefusedFor : {A : Type 0} → Reader A → List ℕ → FilesShown → LoadFault → Type 0
IsRefusedFor reader path files fault.Failed = Unit {0}
IsRefusedFor reader path files fault.TooLong = IsTooLong path files
IsRefusedFor reader path files (fault.Line n) = HasFaultyLine reader path files n
IsRefusedFor reader path files fault.Memory = Unit {0}

-- the text wasn't loaded: it can't be read, or the call on its path failed, or memory ran out; no other call failed
pub record IsUnloaded {A : Type 0} (reader : Reader A) (path : List ℕ) (old new : FilesShown) (why : LoadFault)
    : Type 0 where
  pub refused : IsRefusedFor reader path old why
  pub failed : why ≡ fault.Failed → PathFailed path old.faults new.faults
  pub unfailed : why ≢ fault.Failed → new ≡ old

-- the result for octets that were read
abbrev pub AnswersText : {A : Type 0} → Reader A → List ℕ → Result (List A) LoadFault → Type 0
AnswersText reader text (Ok lines) = reader text ≡ Ok lines
AnswersText reader text (Err fault.Failed) = ⊥
AnswersText reader text (Err fault.TooLong) = ⊥
AnswersText reader text (Err (fault.Line n)) = reader text ≡ Err n
AnswersText reader text (Err fault.Memory) = Unit {0}

-- the fault of a file that couldn't be read
abbrev pub fault_of : FileFault → LoadFault
fault_of file.Failed = fault.Failed
fault_of file.TooLong = fault.TooLong
fault_of file.Memory = fault.Memory

-- ---- what is printed about it

-- the line for a faulty line of a text of this kind
abbrev pub faulty_line : TextKind → ℕ → List ℕ
faulty_line kind.Tags = tags_line
faulty_line kind.Script = script_line
faulty_line kind.Areas = areas_line

-- the line for a text that can't be read; there is none for a file that failed, nor if memory ran out
abbrev pub refusal_line : (ℕ → List ℕ) → LoadFault → Option (List ℕ)
refusal_line faulty (fault.Line n) = Some (faulty n)
refusal_line faulty fault.TooLong = Some too_long_line
refusal_line faulty fault.Failed = None
refusal_line faulty fault.Memory = None

-- THE TEXT WAS REFUSED for its first faulty line or its length, and the line for this was printed
pub record RefusesText {A : Type 0} (reader : Reader A) (faulty : ℕ → List ℕ) (path : List ℕ) (files : FilesShown)
    (printed : List ℕ → Type 0) : Type 0 where
  pub fault : LoadFault
  pub line : List ℕ
  pub refused : IsRefusedFor reader path files fault
  pub line_is : refusal_line faulty fault ≡ Some line
  pub is_printed : printed line

-- THE FILE OF A PATH FAILED: one call on the path failed, and the line for this was printed
pub record PathFails (path : List ℕ) (old new : FilesShown) (printed : List ℕ → Type 0) : Type 0 where
  pub rose : PathFailed path old.faults new.faults
  pub is_printed : printed (file_line path)

-- ---- tag files, scripts and sends files

-- `so` holds of the tags that this reader read from the file; of `None` if no file is named
abbrev pub ReadsTagsBy : Reader Tag → Option (List ℕ) → FilesShown → (Option (List Tag) → Type 0) → Type 0
ReadsTagsBy reader None files so = so None
ReadsTagsBy reader (Some path) files so = ReadsText reader path files (λ found. so (Some found))

-- `so` holds of THE TAGS that lines of scripts may name: those of the tag file, or `None` if no tag file is named
abbrev pub ReadsTags : Option (List ℕ) → FilesShown → (Option (List Tag) → Type 0) → Type 0
ReadsTags named files so = ReadsTagsBy tag_reader named files so

-- `so` holds of THE TAGS that are watched: those of the watch file, or `None` if no watch file is named
abbrev pub ReadsWatch : Option (List ℕ) → FilesShown → (Option (List Tag) → Type 0) → Type 0
ReadsWatch named files so = ReadsTagsBy watch_reader named files so

-- a file is named, and its text was refused, as `RefusesText` states for this reader
abbrev pub RefusesTagsBy : Reader Tag → Option (List ℕ) → FilesShown → (List ℕ → Type 0) → Type 0
RefusesTagsBy reader None files printed = ⊥
RefusesTagsBy reader (Some path) files printed = RefusesText reader tags_line path files printed

-- a tag file is named, and was refused
abbrev pub RefusesTags : Option (List ℕ) → FilesShown → (List ℕ → Type 0) → Type 0
RefusesTags named files printed = RefusesTagsBy tag_reader named files printed

-- a watch file is named, and was refused
abbrev pub RefusesWatch : Option (List ℕ) → FilesShown → (List ℕ → Type 0) → Type 0
RefusesWatch named files printed = RefusesTagsBy watch_reader named files printed

-- the named file of tags wasn't loaded, for this reason
pub record StopsAtTagsBy (reader : Reader Tag) (named : Option (List ℕ)) (old new : FilesShown) (path : List ℕ)
    (why : LoadFault) : Type 0 where
  pub is : named ≡ Some path
  pub unloaded : IsUnloaded reader path old new why

-- the named tag file wasn't loaded, for this reason
abbrev pub StopsAtTags : Option (List ℕ) → FilesShown → FilesShown → List ℕ → LoadFault → Type 0
StopsAtTags named old new path why = StopsAtTagsBy tag_reader named old new path why

-- the named watch file wasn't loaded, for this reason
abbrev pub StopsAtWatch : Option (List ℕ) → FilesShown → FilesShown → List ℕ → LoadFault → Type 0
StopsAtWatch named old new path why = StopsAtTagsBy watch_reader named old new path why

-- a tag file or a watch file is named, and failed
abbrev pub FailsTags : Option (List ℕ) → FilesShown → FilesShown → (List ℕ → Type 0) → Type 0
FailsTags None old new printed = ⊥
FailsTags (Some path) old new printed = PathFails path old new printed

abbrev pub ReadsScript : Option (List Tag) → List ℕ → FilesShown → (List ScriptLine → Type 0) → Type 0
ReadsScript known path files so = ReadsText (script_reader known) path files so

abbrev pub RefusesScript : Option (List Tag) → List ℕ → FilesShown → (List ℕ → Type 0) → Type 0
RefusesScript known path files printed = RefusesText (script_reader known) script_line path files printed

abbrev pub ReadsSends : List ℕ → FilesShown → (List SendLine → Type 0) → Type 0
ReadsSends path files so = ReadsText sends_reader path files so

abbrev pub RefusesSends : List ℕ → FilesShown → (List ℕ → Type 0) → Type 0
RefusesSends path files printed = RefusesText sends_reader script_line path files printed
