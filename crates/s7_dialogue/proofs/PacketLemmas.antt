-- What a packet makes of a course, by the TPDU in it.
use Rattle.std.proofs.Common.{◌≡◌, ℕ, Bool, List, Ok, refl, ap, ◌∙◌}
use Rattle.s7_cotp.specs.Told.{Told, ConnectionTold, confirm, fragment}
use Rattle.s7_cotp.specs.Reading.{tpdu_of}
use Rattle.s7_cotp.specs.Messages.{Step, joined_with}
use Rattle.s7_wire.specs.Bounds.{message_limit, size_of_code}
use Rattle.s7_wire.specs.Reading.{with_joining, with_told, with_tpdu, with_body}
use Rattle.s7_wire.specs.declared.found.Opening.TheVariants.{Confirm}
use Rattle.s7_dialogue.specs.Course.{Origin, Course, Awaits, for_confirm, for_answers, conduct_of, asking, size_where, read_before, with_reading, unless_over, with_packet}

pub packet_read : (origin : Origin) (c : Course) (body : List ℕ) → with_packet origin c body
    ≡ unless_over (with_reading (conduct_of origin) c (with_tpdu Confirm (read_before c) body (tpdu_of body))) c
    c.awaits
unfolding with_packet with_body
packet_read origin c body = refl

told_read : (origin : Origin) (c : Course) (body : List ℕ) (awaits : Awaits) (told : Told) → c.awaits ≡ awaits
    → tpdu_of body ≡ Ok told → with_packet origin c body
    ≡ unless_over
    (with_reading (conduct_of origin) c (with_told Confirm (read_before c) body (size_where awaits c.size) told)) c
    awaits
told_read origin c body awaits told is says =
    let next : Awaits → Course = λ a.
    unless_over
    (with_reading (conduct_of origin) c (with_told Confirm (read_before c) body (size_where a c.size) told)) c a in
    packet_read origin c body
    ∙ (ap (λ tpdu. unless_over (with_reading (conduct_of origin) c (with_tpdu Confirm (read_before c) body tpdu)) c
    c.awaits) says
    ∙ ap next is)

-- a fragment where answers are awaited
pub fragment_read : (origin : Origin) (c : Course) (body user : List ℕ) (last : Bool) (step : Step)
    → c.awaits ≡ for_answers → tpdu_of body ≡ Ok (fragment last user)
    → joined_with message_limit c.unfinished.octets c.unfinished.count (record { last = last; user = user }) ≡ step
    → with_packet origin c body ≡ with_reading (conduct_of origin) c (with_joining (read_before c) body step)
fragment_read origin c body user last step awaits says joins =
    told_read origin c body for_answers (fragment last user) awaits says
    ∙ ap (λ s. with_reading (conduct_of origin) c (with_joining (read_before c) body s)) joins

-- the confirm where it is awaited
pub confirm_read : (origin : Origin) (c : Course) (body : List ℕ) (told : ConnectionTold) → c.awaits ≡ for_confirm
    → tpdu_of body ≡ Ok (confirm told)
    → with_packet origin c body ≡ asking (conduct_of origin) (record c { size = size_of_code told.size_code })
confirm_read origin c body told awaits says = told_read origin c body for_confirm (confirm told) awaits says
