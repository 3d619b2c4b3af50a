use Rattle.std.proofs.Common.{Bool, ◌≡◌, ◌++◌, ◌<◌, refl, sym, ap, ◌∙◌, rules, if◌then◌else◌, []}
use Rattle.std.specs.Prelude.{None, is_none}
use Rattle.s7_wire.specs.Reads.{message_at}
use Rattle.s7_partner.specs.Held.{closed_of}
use Rattle.s7_partner.specs.Telegrams.{Piece, piece_in, sequence_of}
use Rattle.s7_partner.specs.States.{goes_on_with}
use Rattle.s7_partner.specs.Pieces.{piece_held}
use Rattle.s7_partner.proofs.ExchangeLemmas.{takes_piece, does_piece}
use Rattle.s7_partner.proofs.partner.Partner.take_piece.Goals as goal

pub returns-clause-reaches : goal.returns-clause-reaches
returns-clause-reaches c =
    let old = c.args.self.now in
    let first : c.is_none-first.result ≡ is_none old.receiving = search rules in
    let block = c.in-Some-block_of.block in
    let p : Piece = piece_held c.in-Some.piece in
    takes_piece old _ c.keep.new.self (message_at old.reader) p block c.sequence_of-sequence.result c.in-Some.piece.more
    (ap (λ (b : Bool). piece_in b (message_at old.reader)) (sym first)
    ∙ (ap (piece_in c.is_none-first.result) (sym c.message-message.ensures) ∙ sym c.in-Some.ensures))
    (sym (c.in-Some-block_of.ensures old.octets.octets))
    (ap (λ (b : Bool). goes_on_with block.total (if b then [] else old.octets.octets) p) (sym first)
    ∙ (sym c.take_octets.ensures.goes_on ∙ c.if-not-take_octets.false))
    (c.if-not-take_octets.ensures.taken
    ∙ ap (λ (b : Bool). (if b then [] else old.octets.octets) ++ p.octets) first)
    refl (record { role = refl; config = refl; reader = refl; inbox = refl })
    refl refl refl refl c.requires.idle.whole refl refl
    (c.sequence_of-sequence.ensures ∙ ap sequence_of c.message-message.ensures) c.keep.ensures

pub returns-clause-does : goal.returns-clause-does
returns-clause-does c =
    let old = c.args.self.now in
    let k = c.keep.ensures in
    let first : c.is_none-first.result ≡ is_none old.receiving = search rules in
    let block = c.in-Some-block_of.block in
    let p : Piece = piece_held c.in-Some.piece in
    let most : block.total < 65536 = search rules in
    let live : closed_of old ≡ None = c.requires.live in
    does_piece old c.keep.new.self (message_at old.reader) p block c.in-Some.piece.more
    (sym (c.in-Some-block_of.ensures old.octets.octets))
    (ap (λ (b : Bool). goes_on_with block.total (if b then [] else old.octets.octets) p) (sym first)
    ∙ (sym c.take_octets.ensures.goes_on ∙ c.if-not-take_octets.false))
    (ap (λ o. o.octets) k.octets ∙ (c.if-not-take_octets.ensures.taken
    ∙ ap (λ (b : Bool). (if b then [] else old.octets.octets) ++ p.octets) first))
    refl most live k.stage k.sending k.receiving k.whole (k.handed ∙ c.requires.idle.handed)
