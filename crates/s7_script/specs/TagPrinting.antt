-- The line that is printed for the result of a job that gets or puts a tag.
use Rattle.std.specs.Prelude.{ℕ, ◌==◌, ◌∷◌, ◌++◌, [], codes, if◌then◌else◌}
use Rattle.std.specs.Fmt.{decimal}
use Rattle.hex.specs.Hex.{encode_upper}
use Rattle.s7_dialogue.specs.declared.job.Job.{Job}
use Rattle.s7_dialogue.specs.declared.job.Job.TheVariants as job
use Rattle.s7_dialogue.specs.declared.job.JobResult.{JobResult}
use Rattle.s7_text.specs.Lines.{Text}
use Rattle.s7_symbol.specs.Shown.{shown}
use Rattle.s7_symbol.specs.declared.kind.TagKind.{TagKind}
use Rattle.s7_script.specs.Printing.{four_octets, word_of}

-- the word of a job that gets or puts
abbrev pub tag_word : Job → Text
tag_word (job.ReadArea item) = codes "get"
tag_word (job.WriteArea item octets) = codes "put"
tag_word other = word_of other

-- the text of a tag of this type that was read, and `-` for any other job
abbrev pub value_got : TagKind → JobResult → Job → Text
value_got of r (job.ReadArea item) = if r.code == 0 then shown of r.octets else codes "-"
value_got of r other = codes "-"

-- THE LINE of a result: the number of the script's line, the word of the job, its code, and its value
abbrev pub print_tag : ℕ → TagKind → JobResult → Text
print_tag line of r =
    decimal line ++ 32 ∷ tag_word r.job ++ 32 ∷ encode_upper (four_octets r.code) ++ 32 ∷ value_got of r r.job ++ 10 ∷ []
