-- How a windows file was loaded.
use Rattle.std.specs.Prelude.{◌≡◌, ◌≢◌, ◌≤◌, ℕ, ◌+◌, List, length, Some, Result, Ok, Err, IsTrue}
use Rattle.s7_outer.specs.FilesShown.{FilesShown}
use Rattle.s7_outer.specs.Files.{file_limit, IsCutFrom}
use Rattle.s7_text.specs.Lines.{lines}
use Rattle.s7_script.specs.Loading.{PathFailed}
use Rattle.s7_script.specs.declared.areas.load.LoadFault.{LoadFault}
use Rattle.s7_script.specs.declared.areas.load.LoadFault.TheVariants as fault
use Rattle.s7_relay.specs.File.{IsFirstFault, SaysWindows}
use Rattle.s7_relay.specs.declared.fault.WindowFault.{WindowFault}
use Rattle.s7_relay.specs.declared.windows.Window.{Window}

-- ---- a file that was read

-- THE WINDOWS FILE WAS READ: the octets that were read state these windows. They are no more than the limit, and they
-- are those of the file if the files show them.
pub record ReadsWindows (path : List ℕ) (files : FilesShown) (windows : List Window) : Type 0 where
  pub octets : List ℕ
  pub sized : length octets ≤ file_limit
  pub held : IsTrue files.tells → files.held path ≡ Some octets
  pub says : SaysWindows octets windows

-- ---- a file that wasn't read

-- the first faulty line of a text is the one of this number
pub record IsFaultyAt (text : List ℕ) (n : ℕ) : Type 0 where
  pub fault : WindowFault
  pub first : IsFirstFault (lines text) fault
  pub line : fault.line ≡ n

-- The first faulty line of the octets that were read is the one of this number. They are no more than the limit, and
-- they are those of the file if the files show them.
pub record HasFaultyLine (path : List ℕ) (files : FilesShown) (n : ℕ) : Type 0 where
  pub octets : List ℕ
  pub sized : length octets ≤ file_limit
  pub held : IsTrue files.tells → files.held path ≡ Some octets
  pub faulty : IsFaultyAt octets n

-- more octets than the limit were read; they are the first octets of a longer file if the files show them
pub record IsTooLong (path : List ℕ) (files : FilesShown) : Type 0 where
  pub octets : List ℕ
  pub passed : length octets ≡ file_limit + 1
  pub cut : IsTrue files.tells → IsCutFrom (files.held path) octets

-- why the file can't be read; a path that failed, or memory that ran out, says nothing about its content
abbrev pub IsRefusedFor : List ℕ → FilesShown → LoadFault → Type 0
IsRefusedFor path files fault.Failed = Unit {0}
IsRefusedFor path files fault.TooLong = IsTooLong path files
IsRefusedFor path files (fault.Line n) = HasFaultyLine path files n
IsRefusedFor path files fault.Memory = Unit {0}

-- THE WINDOWS FILE WASN'T LOADED: it can't be read, or the call on its path failed, or memory ran out; no other call
-- failed
pub record IsUnloaded (path : List ℕ) (old new : FilesShown) (why : LoadFault) : Type 0 where
  pub refused : IsRefusedFor path old why
  pub failed : why ≡ fault.Failed → PathFailed path old.faults new.faults
  pub unfailed : why ≢ fault.Failed → new ≡ old

-- the result for octets that were read
abbrev pub AnswersWindows : List ℕ → Result (List Window) LoadFault → Type 0
AnswersWindows text (Ok windows) = SaysWindows text windows
AnswersWindows text (Err fault.Failed) = ⊥
AnswersWindows text (Err fault.TooLong) = ⊥
AnswersWindows text (Err (fault.Line n)) = IsFaultyAt text n
AnswersWindows text (Err fault.Memory) = Unit {0}
