-- What a word gives of the areas that it names.
use Rattle.std.specs.Prelude.{◌≡◌, ◌≢◌, ◌≤◌, ◌⊎◌, ℕ, ◌+◌, List, length, Some, None, Result, Ok, Err, IsTrue}
use Rattle.s7_outer.specs.Count.{Rose}
use Rattle.s7_outer.specs.FilesShown.{FilesShown}
use Rattle.s7_outer.specs.Files.{file_limit, IsCutFrom, NonePathFell, NoPathRoseTwice}
use Rattle.s7_item.specs.Codes.{data_blocks}
use Rattle.s7_area.specs.Memory.{Memory, no_areas, with_area}
use Rattle.s7_text.specs.Lines.{Text}
use Rattle.s7_script.specs.Reading.{areas}
use Rattle.s7_script.specs.Naming.{Named, path, block, faulty}
use Rattle.s7_script.specs.declared.areas.fault.AreasFault.{AreasFault}
use Rattle.s7_script.specs.declared.areas.load.LoadFault.{LoadFault}
use Rattle.s7_script.specs.declared.areas.load.LoadFault.TheVariants as fault

-- the data block of this number alone, without a guard
abbrev pub opening : ℕ → List ℕ → Memory
opening number octets = with_area no_areas (record { area = data_blocks; number = number }) octets

-- the areas that were read, or only the line of the fault
abbrev pub with_line_fault : Result Memory AreasFault → Result Memory LoadFault
with_line_fault (Ok m) = Ok m
with_line_fault (Err e) = Err (fault.Line e.line)

-- ---- what is read under a path

-- THE OCTETS READ UNDER A PATH have this property. They are at most as many as the limit, and they are those of the
-- file if the files show them.
pub record Reads (p : Text) (files : FilesShown) (says : Text → Type 0) : Type 0 where
  pub octets : Text
  pub sized : length octets ≤ file_limit
  pub held : IsTrue files.tells → files.held p ≡ Some octets
  pub so : says octets

-- MORE OCTETS THAN THE LIMIT WERE READ under a path: one more. They are the first octets of a longer file if the files
-- show them.
pub record ReadsTooMany (p : Text) (files : FilesShown) : Type 0 where
  pub octets : Text
  pub passed : length octets ≡ file_limit + 1
  pub cut : IsTrue files.tells → IsCutFrom (files.held p) octets

-- what the file under a path gives, as an area file: its areas, its first faulty line, or that it is too long
abbrev pub FileGives : Text → FilesShown → Result Memory LoadFault → Type 0
FileGives p files (Ok m) = Reads p files (λ octets. areas octets ≡ Ok m)
FileGives p files (Err fault.Failed) = ⊥
FileGives p files (Err fault.TooLong) = ReadsTooMany p files
FileGives p files (Err (fault.Line n)) =
    Reads p files (λ octets. with_line_fault (areas octets) ≡ Err (fault.Line n))
FileGives p files (Err fault.Memory) = ⊥

-- WHAT THE NAMED AREAS GIVE: the one data block of an inline word, or what was read under the path. A file that failed
-- and memory that ran out give nothing
abbrev pub NamedGives : Named → FilesShown → Result Memory LoadFault → Type 0
NamedGives (path p) files result = FileGives p files result
NamedGives (block number octets) files result = result ≡ Ok (opening number octets)
NamedGives faulty files result = result ≡ Err (fault.Line 1)

-- the result is what the named areas give, unless memory ran out or the file failed
abbrev pub Answers : Named → FilesShown → Result Memory LoadFault → Type 0
Answers named files (Ok m) = NamedGives named files (Ok m)
Answers named files (Err fault.Failed) = Unit {0}
Answers named files (Err fault.TooLong) = NamedGives named files (Err fault.TooLong)
Answers named files (Err (fault.Line n)) = NamedGives named files (Err (fault.Line n))
Answers named files (Err fault.Memory) = Unit {0}

-- the files show that there is no file under the named path
abbrev pub IsMissing : Named → FilesShown → Type 0
IsMissing (path p) files = IsTrue files.tells × (files.held p ≡ None)
IsMissing (block number octets) files = ⊥
IsMissing faulty files = ⊥

-- ONE CALL ON A PATH FAILED: the path's count rose, and no count fell or rose twice
abbrev pub PathFailed : Text → (Text → ℕ) → (Text → ℕ) → Type 0
PathFailed p old new = Rose (old p) (new p) × NonePathFell old new × NoPathRoseTwice old new

-- AT MOST ONE CALL FAILED: the counts are as before, or one call on some path failed
abbrev pub FailedOnce : (Text → ℕ) → (Text → ℕ) → Type 0
FailedOnce old new = (new ≡ old) ⊎ ((p : Text) × PathFailed p old new)

-- the named file failed; an inline word never does
abbrev pub HasFailed : Named → FilesShown → FilesShown → Type 0
HasFailed (path p) old new = PathFailed p old.faults new.faults
HasFailed (block number octets) old new = ⊥
HasFailed faulty old new = ⊥

-- no path changes and no count falls; an inline word touches no file
abbrev pub LeavesFiles : Named → FilesShown → FilesShown → Type 0
LeavesFiles (path p) old new = (new ≡ record old { faults = new.faults }) × NonePathFell old.faults new.faults
LeavesFiles (block number octets) old new = new ≡ old
LeavesFiles faulty old new = new ≡ old

-- A WORD WAS LOADED
pub record Loads (named : Named) (old new : FilesShown) (result : Result Memory LoadFault) : Type 0 where
  pub answers : Answers named old result
  pub failed : result ≡ Err fault.Failed → HasFailed named old new
  -- unless the file failed, no count rose
  pub unfailed : result ≢ Err fault.Failed → new ≡ old
  -- a file that doesn't exist fails
  pub missing : IsMissing named old → result ≡ Err fault.Failed
  pub left : LeavesFiles named old new

-- what an inline word gives
abbrev pub inline_gives : Named → Result Memory LoadFault
inline_gives (path p) = Err fault.Failed
inline_gives (block number octets) = Ok (opening number octets)
inline_gives faulty = Err (fault.Line 1)

-- an inline word was loaded, unless memory ran out
abbrev pub LoadsBlock : Named → Result Memory LoadFault → Type 0
LoadsBlock named (Ok m) = inline_gives named ≡ Ok m
LoadsBlock named (Err fault.Failed) = ⊥
LoadsBlock named (Err fault.TooLong) = ⊥
LoadsBlock named (Err (fault.Line n)) = inline_gives named ≡ Err (fault.Line n)
LoadsBlock named (Err fault.Memory) = Unit {0}

-- what octets that were read give, as an area file
abbrev pub AnswersOctets : Text → Result Memory LoadFault → Type 0
AnswersOctets octets (Ok m) = areas octets ≡ Ok m
AnswersOctets octets (Err fault.Failed) = ⊥
AnswersOctets octets (Err fault.TooLong) = ⊥
AnswersOctets octets (Err (fault.Line n)) = with_line_fault (areas octets) ≡ Err (fault.Line n)
AnswersOctets octets (Err fault.Memory) = Unit {0}
