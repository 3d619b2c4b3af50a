use Rattle.std.proofs.Common.{ap, length, arith}
use Rattle.s7_wire.specs.Reads.{message_at}
use Rattle.s7_partner.proofs.ReachLemmas.{message_negotiating, message_going}
use Rattle.s7_partner.proofs.partner.Partner.take_message.Goals as goal

pub returns-in-Negotiating-clause-reaches : goal.returns-in-Negotiating-clause-reaches
returns-in-Negotiating-clause-reaches c =
    message_negotiating c.args.self.now c.negotiate.new.self (message_at c.args.self.now.reader)
    (omega (arith, c.if-message-lt-LEAST_MESSAGE.false, ap length c.message.ensures)) c.in-Negotiating.is
    c.negotiate.ensures.reaches

pub returns-in-Going-clause-reaches : goal.returns-in-Going-clause-reaches
returns-in-Going-clause-reaches c =
    message_going c.args.self.now c.exchange.new.self (message_at c.args.self.now.reader) c.in-Going.pdu
    (omega (arith, c.if-message-lt-LEAST_MESSAGE.false, ap length c.message.ensures)) c.in-Going.is
    c.exchange.ensures.reaches
