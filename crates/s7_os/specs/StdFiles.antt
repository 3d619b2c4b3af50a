-- What the machine's files show.
use Rattle.std.specs.Prelude.{None, false}
use Rattle.s7_outer.specs.FilesShown.{FilesShown}
use Rattle.s7_os.specs.declared.std_files.StdFiles.{StdFiles}

abbrev pub machine_files_of : {R : Type 0} → StdFiles R → FilesShown
machine_files_of s = record { tells = false; held = λ _. None; faults = λ _. s.faults }

-- files that weren't used yet
abbrev pub unused_files : FilesShown
unused_files = record { tells = false; held = λ _. None; faults = λ _. 0 }
