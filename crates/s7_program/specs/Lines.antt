-- The lines that programs print about links, journals, files and memory: this project's own.
use Rattle.std.specs.Prelude.{ℕ, List, [], ◌∷◌, ◌++◌, codes}
use Rattle.std.specs.Fmt.{decimal}
use Rattle.s7_session.specs.declared.outcome.Outcome.{Outcome}
use Rattle.s7_session.specs.declared.outcome.Outcome.TheVariants as outcome

-- a line ends with LF
abbrev pub line_end : List ℕ
line_end = 10 ∷ []

abbrev pub outcome_text : Outcome → List ℕ
outcome_text outcome.Ended = codes "ended"
outcome_text (outcome.Torn n) = codes "torn " ++ decimal n
outcome_text (outcome.BadFrame at) = codes "bad-frame " ++ decimal at
outcome_text (outcome.FrameTooLong at) = codes "frame-too-long " ++ decimal at
outcome_text (outcome.BadTpdu at) = codes "bad-tpdu " ++ decimal at
outcome_text (outcome.Unexpected at) = codes "unexpected " ++ decimal at
outcome_text (outcome.TooManyFragments at) = codes "too-many-fragments " ++ decimal at
outcome_text (outcome.TooLong at) = codes "too-long " ++ decimal at
outcome_text (outcome.NotS7 at) = codes "not-s7 " ++ decimal at
outcome_text outcome.ReadFault = codes "read-fault"
outcome_text outcome.WriteFault = codes "write-fault"
outcome_text outcome.Spent = codes "spent"
outcome_text outcome.Memory = codes "memory"

-- the line of a link with this number, text of its outcome and number of entries
abbrev pub line_with : ℕ → List ℕ → ℕ → List ℕ
line_with link text entries =
    codes "link " ++ (decimal link ++ (codes " " ++ (text ++ (codes " entries " ++ (decimal entries ++ line_end)))))

abbrev pub journal_line : ℕ → List ℕ
journal_line journal = codes "journal " ++ (decimal journal ++ line_end)

unfoldable pub file_line : List ℕ → List ℕ
file_line path = codes "file failed " ++ (path ++ line_end)

abbrev pub memory_line : List ℕ
memory_line = codes "memory" ++ line_end
