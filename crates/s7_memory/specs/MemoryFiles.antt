-- What files in memory show.
use Rattle.std.specs.Prelude.{ℕ, List, [], Option, None, Some, String, true}
use Rattle.std.specs.BTreeMap.{BTreeMap, is_at}
use Rattle.std.specs.Cmp.Lexicographic.{slice_cmp}
use Rattle.std.specs.Map.{lookup}
use Rattle.std.specs.Ordering.{nat_cmp}
use Rattle.std.specs.String.{string_bytes}
use Rattle.std.specs.declared.alloc.Global.{Global}
use Rattle.s7_outer.specs.FilesShown.{FilesShown}
use Rattle.s7_memory.specs.declared.memory_files.MemoryFiles.{MemoryFiles}

-- the entries of the map; none if it wasn't made yet
abbrev pub entries_of : Option (BTreeMap (String Global) (List ℕ)) → List (String Global × List ℕ)
entries_of None = []
entries_of (Some files) = files.entries

-- the octets under a path
abbrev pub file_octets : Option (BTreeMap (String Global) (List ℕ)) → List ℕ → Option (List ℕ)
file_octets files path = lookup (is_at (λ key. slice_cmp nat_cmp path (string_bytes key))) (entries_of files)

abbrev pub files_of : MemoryFiles → FilesShown
files_of m = record { tells = true; held = file_octets m.files; faults = λ _. m.faults }

-- the number of the call that fails
abbrev pub failing_call : MemoryFiles → Option ℕ
failing_call m = m.fail_at

-- the number of reads and writes so far
abbrev pub calls_of : MemoryFiles → ℕ
calls_of m = m.calls

-- no file under any path, and no fault
abbrev pub no_files : FilesShown
no_files = record { tells = true; held = λ _. None; faults = λ _. 0 }

-- the number of failed calls
abbrev pub fault_count : MemoryFiles → ℕ
fault_count m = m.faults
