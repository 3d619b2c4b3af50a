use Rattle.std.proofs.Common.{ℕ, List, ◌++◌, ap, sym, ◌∙◌}
use Rattle.std.specs.Prelude.{Option, option_map}
use Rattle.s7_block.specs.Sides.{Uploads, Upload, left_in, upload_after}
use Rattle.s7_block.specs.Slices.{Piece, first_piece}
use Rattle.s7_wire.specs.Sent.{sent_message}
use Rattle.s7_session.specs.Conversing.{link_of}
use Rattle.s7_session.specs.Judgement.{slice_answer}
use Rattle.s7_session.specs.LinkState.{LinkState}
use Rattle.s7_block.specs.Slices.{image_room}
use Rattle.s7_session.proofs.LoadLemmas.{slice_settled}
use Rattle.s7_session.proofs.conversation.Conversation.put_upload_slice.Goals as goal

-- the upload behind a slice of this room
abbrev upload_by : LinkState → ℕ → Option (List ℕ) → ℕ → Option Upload
upload_by link id left room = upload_after link.upload id room left

pub returns-in-Some-clause-made : goal.returns-in-Some-clause-made
returns-in-Some-clause-made c = λ verdicts.
    let n = c.args.size.octets in
    let link = link_of c.args.self.now.held in
    let left = left_in link.upload c.args.id in
    let piece : Piece = record { more = c.in-Some.slice.more; octets = c.in-Some.slice.octets.now } in
    let room = c.image_room.ensures ∙ ap image_room c.from.ensures in
    slice_settled n link c.args.pdu c.args.sequence c.args.id left piece _ verdicts _
    (ap (λ r. option_map (first_piece r) left) (sym room) ∙ (sym c.slice.ensures.slice ∙ ap (option_map _) c.in-Some.is))
    (ap (λ (u : Uploads). u.upload) c.slice.follows.holds-at-none ∙ ap (upload_by link c.args.id left) room)
    (c.put_image.ensures ∙ ap (λ x. x ++ sent_message n (slice_answer c.args.sequence piece)) c.requires.sent)
