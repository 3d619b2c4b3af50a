-- The jobs of a script that may name tags, line by line, or its first faulty line.
use Rattle.std.specs.Prelude.{ℕ, List, [], ◌∷◌, ◌++◌, codes, Option, Some, None, Result, Ok, Err, if◌then◌else◌}
use Rattle.std.specs.List.{find}
use Rattle.std.specs.Str.{bytes_eq}
use Rattle.s7_dialogue.specs.declared.job.Job.{Job}
use Rattle.s7_dialogue.specs.declared.job.Job.TheVariants as job
use Rattle.s7_text.specs.Lines.{Text, lines, is_passed, next_line}
use Rattle.s7_text.specs.Fields.{field_of, rest_of}
use Rattle.s7_symbol.specs.Values.{octets_said}
use Rattle.s7_symbol.specs.declared.fault.ValueFault.{ValueFault}
use Rattle.s7_symbol.specs.declared.kind.TagKind.{TagKind}
use Rattle.s7_symbol.specs.declared.tag.Tag.{Tag}
use Rattle.s7_script.specs.Script.{ended, job_named, ◌>>=◌}
use Rattle.s7_script.specs.declared.scripts.script_list.ScriptLine.{ScriptLine}
use Rattle.s7_script.specs.declared.scripts.script_fault.ScriptFault.{ScriptFault}
use Rattle.s7_script.specs.declared.scripts.script_fault.ScriptKind.{ScriptKind}
use Rattle.s7_script.specs.declared.scripts.script_fault.ScriptKind.TheVariants as kind

-- a job, and the type of the tag that it gets or puts
abbrev pub Tagged : Type 0
Tagged = Job × Option TagKind

-- ---- jobs of tags

abbrev pub known : Option Tag → Result Tag ScriptKind
known None = Err kind.Word
known (Some tag) = Ok tag

-- the tag of this name
abbrev pub tag_named : Text → List Tag → Result Tag ScriptKind
tag_named name tags = known (find (λ (t : Tag). bytes_eq t.name name) tags)

-- the job of a line `get NAME`, by the fields after its word
abbrev pub get_job : List Tag → Option Text → Result Tagged ScriptKind
get_job tags None = Err kind.Fields
get_job tags (Some text) = do
  tag ← tag_named (field_of text) tags
  ended (job.ReadArea tag.item, Some tag.kind) (rest_of text)

-- the octets of a value of the tag's type
abbrev pub value_or_fault : Result (List ℕ) ValueFault → Result (List ℕ) ScriptKind
value_or_fault (Ok octets) = Ok octets
value_or_fault (Err e) = Err kind.Number

abbrev pub put_value : Tag → Option Text → Result Tagged ScriptKind
put_value tag None = Err kind.Fields
put_value tag (Some text) = do
  octets ← value_or_fault (octets_said tag.kind (field_of text))
  ended (job.WriteArea tag.item octets, Some tag.kind) (rest_of text)

-- the job of a line `put NAME VALUE`, by the fields after its word
abbrev pub put_job : List Tag → Option Text → Result Tagged ScriptKind
put_job tags None = Err kind.Fields
put_job tags (Some text) = do
  tag ← tag_named (field_of text) tags
  put_value tag (rest_of text)

-- ---- the job of a line

abbrev pub untagged : Result Job ScriptKind → Result Tagged ScriptKind
untagged (Ok job) = Ok (job, None)
untagged (Err e) = Err e

-- `get` and `put` are words of a script only if there are tags
abbrev pub tagged_by : Option (List Tag) → Text → Option Text → Result Tagged ScriptKind
tagged_by None name rest = untagged (job_named name rest)
tagged_by (Some tags) name rest =
    if bytes_eq name (codes "get") then get_job tags rest
    else (if bytes_eq name (codes "put") then put_job tags rest
    else untagged (job_named name rest))

abbrev pub tagged_of : Option (List Tag) → Text → Result Tagged ScriptKind
tagged_of tags text = tagged_by tags (field_of text) (rest_of text)

-- ---- the lines in order

abbrev pub at_line : ℕ → Result Tagged ScriptKind → Result (List ScriptLine) ScriptFault
at_line line (Ok named) = Ok (record { line = line; job = named.0; tag = named.1 } ∷ [])
at_line line (Err kind) = Err (record { line = line; kind = kind })

-- empty lines and comments have no job, every other line has one
abbrev pub line_jobs : Option (List Tag) → ℕ → Text → Result (List ScriptLine) ScriptFault
line_jobs tags line text = if is_passed text then Ok [] else at_line line (tagged_of tags text)

-- the jobs of the lines from this number on, or the first faulty line
unfoldable pub script_lines : Option (List Tag) → ℕ → List Text → Result (List ScriptLine) ScriptFault
script_lines tags line [] = Ok []
script_lines tags line (text ∷ rest) = do
  jobs ← line_jobs tags line text
  more ← script_lines tags (next_line line) rest
  Ok (jobs ++ more)

-- the jobs that a script names, or its first faulty line
abbrev pub script_by : Option (List Tag) → Text → Result (List ScriptLine) ScriptFault
script_by tags text = script_lines tags 1 (lines text)

-- THE JOBS OF A SCRIPT without tags
abbrev pub script : Text → Result (List ScriptLine) ScriptFault
script text = script_by None text

-- THE JOBS OF A SCRIPT that may name these tags
abbrev pub tag_script : List Tag → Text → Result (List ScriptLine) ScriptFault
tag_script tags text = script_by (Some tags) text
