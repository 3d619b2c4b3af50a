use Rattle.std.proofs.Common.{refl, sym, ap, ◌∙◌}
use Rattle.std.specs.Prelude.{option_map}
use Rattle.s7_wire.specs.Reads.{message_at}
use Rattle.s7_partner.specs.Held.{sending_in}
use Rattle.s7_partner.specs.States.{is_acknowledged}
use Rattle.s7_partner.specs.Pieces.{with_piece_read}
use Rattle.s7_partner.proofs.ReachLemmas.{reaches_from}
use Rattle.s7_partner.proofs.ExchangeLemmas.{exchanges_piece}
use Rattle.s7_partner.proofs.partner.Partner.exchange.Goals as goal

pub returns-clause-reaches : goal.returns-clause-reaches
returns-clause-reaches c =
    let octets = message_at c.args.self.now.reader in
    exchanges_piece c.args.self.now c.take_piece.new.self c.args.pdu octets
    (ap (is_acknowledged (option_map sending_in c.args.self.now.sending)) (sym c.message.ensures)
    ∙ (sym c.is_acknowledged.ensures ∙ c.if-is_acknowledged.false))
    (reaches_from c.args.self.now _ c.take_piece.new.self (λ s. with_piece_read s octets)
    (record { role = refl; config = refl; reader = refl; inbox = refl })
    (record {
      stage = refl;
      sequence = refl;
      number = refl;
      sending = refl;
      receiving = refl;
      octets = refl;
      whole = refl;
      handed = refl;
    }) refl c.take_piece.ensures.reaches)
