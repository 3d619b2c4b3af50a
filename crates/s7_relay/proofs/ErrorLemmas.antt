-- The error words 8F05 and 8F06 have their causes.
use Rattle.std.proofs.Common.{◌≡◌, ◌⊎◌, inl, inr, ℕ, Bool, true, false, cond, eqb, ◌||◌, List, [], refl, arith}
use Rattle.s7_plant.specs.Answers.{refused}
use Rattle.s7_plant.specs.declared.request.Request.{Request}
use Rattle.s7_plant.specs.declared.request.Request.TheVariants as asked
use Rattle.s7_dialogue.specs.declared.job.JobResult.{JobResult}
use Rattle.s7_relay.specs.Errors.{error_of, far_fault, is_failure, no_answer, no_link}
use Rattle.s7_relay.specs.Replies.{codes_in, reply_by, reply_with}
use Rattle.s7_relay.specs.ReplyLaws.{LateAnswersHaveCauses, LostLinksHaveCauses}
use Rattle.s7_relay.specs.declared.passage.Passage.TheVariants as passage

by_code : (ended failed tired : Bool) → cond (ended || failed) no_link (cond tired no_answer far_fault) ≡ no_link
    → (failed ≡ true) ⊎ (ended ≡ true)
by_code true failed tired e = inr refl
by_code false true tired e = inl refl
by_code false false true e = absurd (omega (arith, e))
by_code false false false e = absurd (omega (arith, e))

lost_by : (code : ℕ) → error_of code ≡ no_link → (is_failure code ≡ true) ⊎ (eqb code 0x00020000 ≡ true)
lost_by code e = by_code (eqb code 0x00020000) (is_failure code) (eqb code 0x02000000) e

-- the reply by codes has another error word, or none
with_other : (request : Request) (near codes octets : List ℕ) → (reply_with request near codes octets).error ≡ no_link → ⊥
with_other (asked.Read items) near codes octets e = omega (arith, e)
with_other (asked.Write items places written) near codes octets e = omega (arith, e)
with_other (asked.Szl id index) near codes octets e = omega (arith, e)
with_other (asked.ClockRead moment) near codes octets e = omega (arith, e)
with_other (asked.ClockSet moment value) near codes octets e = omega (arith, e)
with_other (asked.Start cold) near codes octets e = omega (arith, e)
with_other asked.Stop near codes octets e = omega (arith, e)
with_other asked.Compress near codes octets e = omega (arith, e)
with_other asked.CopyRam near codes octets e = omega (arith, e)
with_other asked.ListAll near codes octets e = omega (arith, e)
with_other (asked.ListOf kind) near codes octets e = omega (arith, e)
with_other (asked.Info kind number) near codes octets e = omega (arith, e)
with_other (asked.StartUpload kind number) near codes octets e = omega (arith, e)
with_other (asked.Insert kind number image spare) near codes octets e = omega (arith, e)
with_other (asked.Delete kind number) near codes octets e = omega (arith, e)

lost_asked : (request : Request) (near : List ℕ) (told : JobResult) → (reply_by request near told).error ≡ no_link
    → (is_failure told.code ≡ true) ⊎ (eqb told.code 0x00020000 ≡ true)
lost_asked request near told e = by (eqb told.code 0) e
  where
    by : (b : Bool) → (cond b (reply_with request near (codes_in told) told.octets) (refused (error_of told.code))).error ≡ no_link
        → (is_failure told.code ≡ true) ⊎ (eqb told.code 0x00020000 ≡ true)
    by true e = absurd (with_other request near (codes_in told) told.octets e)
    by false e = lost_by told.code e

pub lost_have_causes : LostLinksHaveCauses
lost_have_causes request near passage.Near e = absurd (with_other request near [] [] e)
lost_have_causes request near passage.Undialled e = inl refl
lost_have_causes request near (passage.Unconnected connect) e = lost_by connect.code e
lost_have_causes request near (passage.Unpacked connect) e = absurd (omega (arith, e))
lost_have_causes request near (passage.Asked connect told) e = lost_asked request near told e

-- ---- the error word 8F06

late_by : (ended failed tired : Bool) → cond (ended || failed) no_link (cond tired no_answer far_fault) ≡ no_answer
    → tired ≡ true
late_by true failed tired e = absurd (omega (arith, e))
late_by false true tired e = absurd (omega (arith, e))
late_by false false true e = refl
late_by false false false e = absurd (omega (arith, e))

late_code : (code : ℕ) → error_of code ≡ no_answer → eqb code 0x02000000 ≡ true
late_code code e = late_by (eqb code 0x00020000) (is_failure code) (eqb code 0x02000000) e

-- the reply by codes has no such error word
with_late : (request : Request) (near codes octets : List ℕ) → (reply_with request near codes octets).error ≡ no_answer
    → ⊥
with_late (asked.Read items) near codes octets e = omega (arith, e)
with_late (asked.Write items places written) near codes octets e = omega (arith, e)
with_late (asked.Szl id index) near codes octets e = omega (arith, e)
with_late (asked.ClockRead moment) near codes octets e = omega (arith, e)
with_late (asked.ClockSet moment value) near codes octets e = omega (arith, e)
with_late (asked.Start cold) near codes octets e = omega (arith, e)
with_late asked.Stop near codes octets e = omega (arith, e)
with_late asked.Compress near codes octets e = omega (arith, e)
with_late asked.CopyRam near codes octets e = omega (arith, e)
with_late asked.ListAll near codes octets e = omega (arith, e)
with_late (asked.ListOf kind) near codes octets e = omega (arith, e)
with_late (asked.Info kind number) near codes octets e = omega (arith, e)
with_late (asked.StartUpload kind number) near codes octets e = omega (arith, e)
with_late (asked.Insert kind number image spare) near codes octets e = omega (arith, e)
with_late (asked.Delete kind number) near codes octets e = omega (arith, e)

late_asked : (request : Request) (near : List ℕ) (told : JobResult) → (reply_by request near told).error ≡ no_answer
    → eqb told.code 0x02000000 ≡ true
late_asked request near told e = by (eqb told.code 0) e
  where
    by : (b : Bool) → (cond b (reply_with request near (codes_in told) told.octets) (refused (error_of told.code))).error ≡ no_answer
        → eqb told.code 0x02000000 ≡ true
    by true e = absurd (with_late request near (codes_in told) told.octets e)
    by false e = late_code told.code e

pub late_have_causes : LateAnswersHaveCauses
late_have_causes request near passage.Near e = absurd (with_late request near [] [] e)
late_have_causes request near passage.Undialled e = absurd (omega (arith, e))
late_have_causes request near (passage.Unconnected connect) e = late_code connect.code e
late_have_causes request near (passage.Unpacked connect) e = absurd (omega (arith, e))
late_have_causes request near (passage.Asked connect told) e = late_asked request near told e
