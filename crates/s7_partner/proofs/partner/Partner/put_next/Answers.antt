use Rattle.std.proofs.Common.{refl}
use Rattle.s7_partner.proofs.StateLemmas.{next_reaches}
use Rattle.s7_partner.proofs.partner.Partner.put_next.Goals as goal

pub returns-clause-reaches : goal.returns-clause-reaches
returns-clause-reaches c =
    next_reaches c.args.self.now _ c.in-Some.sending _ c.args.pdu c.size-size.result.octets
    c.sequence_after-sequence.result c.in-Some.is refl refl c.size-size.ensures c.sequence_after-sequence.ensures refl
    c.put_piece.ensures.puts (record { role = refl; config = refl; reader = refl; inbox = refl })
    refl refl refl refl refl refl
