-- The lines of a watcher.
use Rattle.std.specs.Prelude.{ℕ, ◌+◌, ◌==◌, List, [], ◌∷◌, ◌++◌, length, take, drop, map, codes, Option, None, Some, if◌then◌else◌}
use Rattle.std.specs.Fmt.{decimal}
use Rattle.hex.specs.Hex.{encode_upper}
use Rattle.s7_item.specs.Codes.{good}
use Rattle.s7_dialogue.specs.declared.job.JobResult.{JobResult}
use Rattle.s7_text.specs.Lines.{Text}
use Rattle.s7_symbol.specs.Octets.{four_octets}
use Rattle.s7_symbol.specs.Shown.{shown}
use Rattle.s7_symbol.specs.declared.kind.TagKind.{TagKind}
use Rattle.s7_symbol.specs.declared.tag.Tag.{Tag}
use Rattle.s7_watch.specs.Samples.{Sample, is_new, items_of, samples_in}
use Rattle.s7_watch.specs.Looks.{Look, most_tags}

-- ---- one line

-- the text of the value, `bad` and the octets if they have no value, or `code` and the return code of a refused item
abbrev pub sample_text : TagKind → Sample → Text
sample_text of sample =
    if sample.code == good then shown of sample.octets else codes "code " ++ encode_upper (sample.code ∷ [])

abbrev pub round_text : ℕ → Text
round_text round = codes "round " ++ decimal round

-- `round`, the number of the round, the tag's name, and the text of the sample
abbrev pub sample_line : ℕ → Tag → Sample → Text
sample_line round tag sample =
    round_text round ++ 32 ∷ (tag.name ++ 32 ∷ (sample_text tag.kind sample ++ 10 ∷ []))

-- `round`, the number of the round, `failed`, and the code of the job
abbrev pub failed_line : ℕ → ℕ → Text
failed_line round code = round_text round ++ codes " failed " ++ encode_upper (four_octets code) ++ 10 ∷ []

-- ---- the lines of a read

abbrev pub line_if_new : ℕ → Tag → Option Sample → Sample → Text
line_if_new round tag last sample = if is_new last sample then sample_line round tag sample else []

-- the lines of those of these samples that are new; `lasts` are the samples that the tags had before
unfoldable pub new_lines : ℕ → List Tag → List (Option Sample) → List Sample → Text
new_lines round [] lasts samples = []
new_lines round (tag ∷ tags) [] samples = []
new_lines round (tag ∷ tags) (last ∷ lasts) [] = []
new_lines round (tag ∷ tags) (last ∷ lasts) (sample ∷ samples) =
    line_if_new round tag last sample ++ new_lines round tags lasts samples

-- before its first sample a tag has no last one
abbrev pub unseen : Tag → Option Sample
unseen tag = None

abbrev pub nothing_seen : List Tag → List (Option Sample)
nothing_seen tags = map unseen tags

abbrev pub seen_now : Sample → Option Sample
seen_now sample = Some sample

-- the last samples of all tags, once these samples are those of the tags from this index on
abbrev pub with_samples : List (Option Sample) → ℕ → List Sample → List (Option Sample)
with_samples lasts first samples =
    take first lasts ++ (map seen_now samples ++ drop (first + length samples) lasts)

-- THE LINES of the samples of a read, given the samples that all tags had before
abbrev pub look_lines : Look → List (Option Sample) → List Sample → Text
look_lines look lasts samples = new_lines look.round look.tags (take most_tags (drop look.first lasts)) samples

-- THE LINES of the samples of reads, in order
unfoldable pub sampled_lines : List (Option Sample) → List Look → List (List Sample) → Text
sampled_lines lasts [] readings = []
sampled_lines lasts (look ∷ looks) [] = []
sampled_lines lasts (look ∷ looks) (samples ∷ readings) =
    look_lines look lasts samples ++ sampled_lines (with_samples lasts look.first samples) looks readings

-- ---- the lines of results

-- the return codes of a result's items
abbrev pub codes_of : JobResult → List ℕ
codes_of told = take told.count told.codes

abbrev pub samples_of : Look → JobResult → List Sample
samples_of look told = samples_in (items_of look.tags) (codes_of told) told.octets

-- THE LINES of the result of a read: those of its samples, or the line of its failure
abbrev pub result_text : Look → List (Option Sample) → JobResult → Text
result_text look lasts told =
    if told.code == 0 then look_lines look lasts (samples_of look told) else failed_line look.round told.code

-- THE LINES of the results of reads, in order, up to the first that failed
unfoldable pub result_lines : List (Option Sample) → List Look → List JobResult → Text
result_lines lasts [] results = []
result_lines lasts (look ∷ looks) [] = []
result_lines lasts (look ∷ looks) (told ∷ results) =
    if told.code == 0
    then look_lines look lasts (samples_of look told)
    ++ result_lines (with_samples lasts look.first (samples_of look told)) looks results
    else failed_line look.round told.code
