-- What a job read that came off.
use Rattle.std.proofs.Common.{◌≡◌, ℕ, ◌≤◌, List, refl}
use Rattle.std.specs.Prelude.{Some}
use Rattle.s7_dialogue.specs.declared.grant.Grant.{Grant}
use Rattle.s7_dialogue.specs.declared.job.Job.{Job}
use Rattle.s7_dialogue.specs.declared.job.Job.TheVariants as job
use Rattle.s7_dialogue.specs.Course.{Origin, conduct_of}
use Rattle.s7_dialogue.specs.Dialogue.{End}
use Rattle.s7_rig.specs.Dialogues.{AreReplies, ReadsAs}
use Rattle.s7_rig.proofs.Conversing.{Exchange, entries_of, Converses}
use Rattle.s7_rig.proofs.BlockReadLemmas.{block_read}
use Rattle.s7_rig.proofs.GroupLemmas.{items_read}
use Rattle.s7_rig.proofs.PartLemmas.{item_read}

-- It is what its exchanges' entries read, whatever memories replied.
pub job_read : {pdu : ℕ} (origin : Origin) (grant : Grant) (end : End) (xs : List Exchange)
    → 64 ≤ pdu → origin.granted ≡ Some grant → end.code ≡ 0 → Converses pdu (conduct_of origin) end xs
    → AreReplies (entries_of xs) → ReadsAs origin.job grant.pdu (entries_of xs) end.octets end.codes
job_read {pdu} origin grant end xs least granted good c replies = by origin.job refl
  where
    by : (done : Job) → origin.job ≡ done → ReadsAs done grant.pdu (entries_of xs) end.octets end.codes
    by (job.ReadArea item) is = item_read origin grant item end xs granted is good c replies
    by (job.ReadMany items) is = items_read origin grant items end xs granted is good c
    by (job.DbGet number) is = λ low. block_read origin grant number end xs least granted low is good c replies
    by _ is = tt
