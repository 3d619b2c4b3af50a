-- Laws of area files, of printing and of scripts.
use Rattle.std.specs.Prelude.{◌≡◌, ℕ, List, Option, Ok}
use Rattle.std.specs.List.{AllByRecursion}
use Rattle.s7_area.specs.Memory.{Memory}
use Rattle.s7_dialogue.specs.declared.job.Job.{Job}
use Rattle.s7_dialogue.specs.declared.job.Job.TheVariants as job
use Rattle.s7_dialogue.specs.declared.job.JobResult.{JobResult}
use Rattle.s7_dialogue.specs.Dialogue.{End}
use Rattle.s7_client.specs.Form.{HasForm}
use Rattle.s7_dialogue.specs.Running.{IsResult}
use Rattle.s7_text.specs.Lines.{Text}
use Rattle.s7_script.specs.Reading.{areas}
use Rattle.s7_script.specs.Spelling.{spelling}
use Rattle.s7_script.specs.Printing.{IsPrintable}
use Rattle.s7_symbol.specs.declared.tag.Tag.{Tag}
use Rattle.s7_script.specs.Tagged.{script_by}
use Rattle.s7_script.specs.declared.scripts.script_list.ScriptLine.{ScriptLine}

-- The text that is written for what an area file names, of either version, is read as the same areas.
pub record AreasMigrate : Type 0 where
  pub migrates : (text : Text) (m : Memory) → areas text ≡ Ok m → areas (spelling m) ≡ Ok m

-- The result of an end that has its form can be printed.
pub record EndsPrint : Type 0 where
  pub prints : (asked : Job) (end : End) (message : List ℕ) (told : JobResult) → IsResult told asked end message
      → HasForm asked end → IsPrintable told

-- a job that neither connects nor disconnects
abbrev pub KeepsLink : Job → Type 0
KeepsLink job.Connect = ⊥
KeepsLink job.Disconnect = ⊥
KeepsLink _ = Unit {0}

-- No line of a script connects or disconnects, with tags or without.
pub record ScriptsKeepLinks : Type 0 where
  pub keeps : (tags : Option (List Tag)) (text : Text) (lines : List ScriptLine) → script_by tags text ≡ Ok lines
      → AllByRecursion (λ (l : ScriptLine). KeepsLink l.job) lines
