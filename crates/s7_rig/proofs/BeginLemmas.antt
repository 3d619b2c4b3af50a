-- How jobs begin on their client.
use Rattle.std.proofs.Common.{◌≡◌, ◌<◌, false, [], Some, refl, ap, sym, ◌∙◌, subst}
use Rattle.s7_tpkt.specs.Packets.{rest_of}
use Rattle.s7_dialogue.specs.declared.grant.Grant.{Grant}
use Rattle.s7_dialogue.specs.Dialogue.{First, nothing, plan_of}
use Rattle.s7_dialogue.specs.Course.{Origin, begins_anew, size_at, sequence_at, conduct_of, blank, by_first}
use Rattle.s7_dialogue.specs.Course.{begun, course, limits}
use Rattle.s7_client.proofs.CourseLemmas.{course_nothing}
use Rattle.s7_rig.proofs.Awaiting.{Awaiting}
use Rattle.s7_rig.proofs.TelegramLemmas.{AsksAll, asks_all}

pub clear_at_first : (origin : Origin) → rest_of (limits origin) [] ≡ []
unfolding rest_of
clear_at_first origin = refl

begun_by : (origin : Origin) (first : First) → (plan_of origin.job origin.config origin.granted).first ≡ first
    → begun origin ≡ by_first origin.config (conduct_of origin) (blank origin) first
unfolding begun
begun_by origin first e = ap (by_first origin.config (conduct_of origin) (blank origin)) e

-- the course before any octet, by what goes out first
pub first_course : (origin : Origin) (first : First) → (plan_of origin.job origin.config origin.granted).first ≡ first
    → course origin [] ≡ by_first origin.config (conduct_of origin) (blank origin) first
first_course origin first e = course_nothing origin ∙ begun_by origin first e

-- a connected client goes on with its link
not_anew : (origin : Origin) (granted : Grant) → origin.granted ≡ Some granted
    → begins_anew origin.granted origin.job ≡ false
not_anew origin granted h = ap (λ g. begins_anew g origin.job) h

-- A job on a connected client asks all that it may at once, and is over where that is nothing.
pub record BeginsAsking (origin : Origin) : Type 0 where
  pub awaiting : Awaiting origin []
  pub asks : AsksAll (conduct_of origin) (blank origin) (course origin [])

pub begins_asking : (origin : Origin) (granted : Grant) → origin.granted ≡ Some granted → origin.size ≡ 1024
    → origin.sequence < 65536 → (plan_of origin.job origin.config origin.granted).first ≡ nothing → BeginsAsking origin
begins_asking origin granted h size low e =
    let goes_on = not_anew origin granted h in
    let c = conduct_of origin in
    let agreed : (blank origin).size ≡ 1024 = ap (λ b. size_at b origin.size) goes_on ∙ size in
    let last : (blank origin).sequence ≡ origin.sequence = ap (λ b. sequence_at b origin.sequence) goes_on in
    let asks : AsksAll c (blank origin) (course origin []) =
    subst (AsksAll c (blank origin)) (sym (first_course origin nothing e))
    (asks_all c (blank origin) agreed (subst (λ n. n < 65536) (sym last) low)) in
    record {
      awaiting = record {
        rest = clear_at_first origin;
        unfinished = asks.unfinished;
        size = asks.size;
        sequence = asks.sequence;
        none_more = asks.none_more;
        awaits = asks.awaits;
      };
      asks = asks;
    }
