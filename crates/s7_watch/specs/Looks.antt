-- The reads of a watcher. In each round it reads all tags in their order, twenty tags in each read, and the rest in the
-- last one.
use Rattle.std.specs.Prelude.{ℕ, zero, suc, ◌+◌, ◌-◌, ◌*◌, List, [], ◌++◌, length, take, drop, map}
use Rattle.std.specs.Int.{div_ceil}
use Rattle.std.specs.List.{range_with_len}
use Rattle.s7_dialogue.specs.declared.job.Job.{Job}
use Rattle.s7_dialogue.specs.declared.job.Job.TheVariants as job
use Rattle.s7_symbol.specs.declared.tag.Tag.{Tag}
use Rattle.s7_watch.specs.Samples.{items_of}

-- the most tags of a read
abbrev pub most_tags : ℕ
most_tags = 20

-- a read: the round to which it belongs, the index of its first tag, and its tags
pub record Look : Type 0 where
  pub round : ℕ
  pub first : ℕ
  pub tags : List Tag

-- the number of reads of a round over this number of tags
abbrev pub look_count : ℕ → ℕ
look_count tags = div_ceil tags most_tags

-- the elements of a list that belong to the tags of one read: `number` is the number of the read, and the first read
-- has number 0
abbrev pub part : {A : Type 0} → ℕ → List A → List A
part number all = take most_tags (drop (most_tags * number) all)

-- the read of this number in a round
abbrev pub look_at : List Tag → ℕ → ℕ → Look
look_at tags round number = record { round = round; first = most_tags * number; tags = part number tags }

-- the reads of a round, from the one of this number on
abbrev pub looks_after : List Tag → ℕ → ℕ → List Look
looks_after tags round number =
    map (look_at tags round) (range_with_len number (look_count (length tags) - number))

-- the reads of this number of rounds: of the first round those from the read of this number on, and of the others all
unfoldable pub looks_from : List Tag → ℕ → ℕ → ℕ → List Look
looks_from tags round number zero = []
looks_from tags round number (suc more) = looks_after tags round number ++ looks_from tags (round + 1) 0 more

-- ALL READS of this number of rounds, which are numbered from 1
abbrev pub looks : List Tag → ℕ → List Look
looks tags rounds = looks_from tags 1 0 rounds

-- the job of a read
abbrev pub job_of : Look → Job
job_of look = job.ReadMany (items_of look.tags)

abbrev pub jobs_of : List Look → List Job
jobs_of looks = map job_of looks
