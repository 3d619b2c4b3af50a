-- What contracts see of a watcher, and what its calls do.
use Rattle.std.specs.Prelude.{◌≡◌, ℕ, ◌≤◌, ◌==◌, List, [], ◌∷◌, length, Option, None, Some, if◌then◌else◌}
use Rattle.s7_client.specs.Form.{octets_read}
use Rattle.s7_dialogue.specs.declared.job.Job.{Job}
use Rattle.s7_dialogue.specs.declared.job.JobResult.{JobResult}
use Rattle.s7_symbol.specs.declared.tag.Tag.{Tag}
use Rattle.s7_watch.specs.Samples.{Sample, items_of}
use Rattle.s7_watch.specs.Looks.{Look, job_of, looks}
use Rattle.s7_watch.specs.Lines.{codes_of, nothing_seen, samples_of, with_samples}

-- the reads whose jobs weren't handed out, the last sample of each tag, and the read whose job was handed out and whose
-- result wasn't taken
pub record WatchTold : Type 0 where
  pub ahead : List Look
  pub lasts : List (Option Sample)
  pub out : Option Look

-- a watcher before its first round
abbrev pub fresh : List Tag → ℕ → WatchTold
fresh tags rounds = record { ahead = looks tags rounds; lasts = nothing_seen tags; out = None }

-- THE NEXT JOB is handed out; there is none exactly if no read is left
abbrev pub Hands : List Look → WatchTold → WatchTold → Option Job → Type 0
Hands [] old new given = (given ≡ None) × (new ≡ old)
Hands (look ∷ ahead) old new given = (given ≡ Some (job_of look)) × (new ≡ record old { ahead = ahead; out = Some look })

-- the job is that of the read whose result wasn't taken
abbrev pub IsOut : Option Look → Job → Type 0
IsOut None asked = ⊥
IsOut (Some look) asked = asked ≡ job_of look

-- a read that succeeded gave a code for each item, and the octets of those that were read
abbrev pub IsReadOf : List Tag → JobResult → Type 0
IsReadOf tags told =
    (told.count ≤ 20) × (told.count ≡ length (items_of tags)) × (length told.octets ≡ octets_read (items_of tags) (codes_of told))

-- after the result of a read: its samples are the last ones of its tags; after a failure no read is left
abbrev pub after_result : Look → JobResult → WatchTold → WatchTold
after_result look told old =
    if told.code == 0
    then record { ahead = old.ahead; lasts = with_samples old.lasts look.first (samples_of look told); out = None }
    else record { ahead = []; lasts = old.lasts; out = None }
