-- The scripts under paths.
use Rattle.std.specs.Prelude.{◌≡◌, ℕ, List, [], ◌∷◌, ◌++◌, Option}
use Rattle.s7_outer.specs.FilesShown.{FilesShown}
use Rattle.s7_script.specs.declared.scripts.script_list.ScriptLine.{ScriptLine}
use Rattle.s7_symbol.specs.declared.tag.Tag.{Tag}
use Rattle.s7_script.specs.declared.areas.load.LoadFault.{LoadFault}
use Rattle.s7_tool_main.specs.Loading.{IsUnloaded, ReadsScript, script_reader}

-- the scripts under these paths, whose lines may name these tags, were read in order
unfoldable pub ReadsScripts : Option (List Tag) → List (List ℕ) → FilesShown → List (List ScriptLine) → Type 0
ReadsScripts known [] files [] = Unit {0}
ReadsScripts known [] files (lines ∷ scripts) = ⊥
ReadsScripts known (path ∷ paths) files [] = ⊥
ReadsScripts known (path ∷ paths) files (lines ∷ scripts) =
    ReadsScript known path files (λ read. read ≡ lines) × ReadsScripts known paths files scripts

-- the script under a path was read, and is the last of the list
abbrev pub AddsScript : Option (List Tag) → List ℕ → FilesShown → List (List ScriptLine) → List (List ScriptLine)
    → Type 0
AddsScript known path files old new = ReadsScript known path files (λ read. new ≡ old ++ read ∷ [])

-- this is the next of these scripts: those before it were read
pub record ReadsBefore (known : Option (List Tag)) (paths : List (List ℕ)) (files : FilesShown) (path : List ℕ)
    : Type 0 where
  pub before : List (List ℕ)
  pub after : List (List ℕ)
  pub split : paths ≡ before ++ path ∷ after
  pub scripts : List (List ScriptLine)
  pub read : ReadsScripts known before files scripts

-- the first of these scripts that wasn't loaded, and why
pub record StopsAt (known : Option (List Tag)) (paths : List (List ℕ)) (old new : FilesShown) (path : List ℕ)
    (why : LoadFault) : Type 0 where
  pub next : ReadsBefore known paths old path
  pub unloaded : IsUnloaded (script_reader known) path old new why
