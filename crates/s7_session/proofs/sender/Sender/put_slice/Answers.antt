use Rattle.std.proofs.Common.{◌++◌, take, true, false, refl, ap, sym, ◌∙◌, arith}
use Rattle.std.proofs.lemmas.Bool.{lt-ltb, le-ltb}
use Rattle.std.proofs.lemmas.List.{take_all}
use Rattle.s7_wire.specs.Sent.{sent_message}
use Rattle.s7_session.specs.Judgement.{slice_room}
use Rattle.s7_session.proofs.SliceLemmas.{slice_of}
use Rattle.s7_session.proofs.sender.Sender.put_slice.Goals as goal

pub returns-then-octets-room : goal.returns-then-octets-room
returns-then-octets-room c =
    let a = c.args.answer in
    let octets = c.args.octets.now in
    let room = c.slice_room-room.ensures in
    c.put_user.ensures
    ∙ ap (λ m. c.args.self.now.outbox.unsent ++ sent_message c.args.size.octets m)
    (slice_of c.args.sequence a.group a.subfunction a.sequence c.args.pdu 1 c.params.result _ octets (ap (λ n. take n octets) room) c.params.ensures
    true (lt-ltb (slice_room c.args.pdu) _ (omega (arith, room, c.if-octets-room.true))) refl)

pub returns-else-octets-room : goal.returns-else-octets-room
returns-else-octets-room c =
    let a = c.args.answer in
    let octets = c.args.octets.now in
    let room = c.slice_room-room.ensures in
    c.put_user-else-octets-room.ensures
    ∙ ap (λ m. c.args.self.now.outbox.unsent ++ sent_message c.args.size.octets m)
    (slice_of c.args.sequence a.group a.subfunction a.sequence c.args.pdu 0 c.params-else-octets-room.result octets octets
    (sym (take_all (slice_room c.args.pdu) octets (omega (arith, room, c.if-octets-room.false)))) c.params-else-octets-room.ensures
    false (le-ltb (slice_room c.args.pdu) _ (omega (arith, room, c.if-octets-room.false))) refl)
