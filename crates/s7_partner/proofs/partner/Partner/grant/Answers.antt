use Rattle.std.proofs.Common.{refl, sym, ap, ◌∙◌}
use Rattle.s7_wire.specs.Reads.{message_at}
use Rattle.s7_partner.specs.Granting.{asked_in}
use Rattle.s7_partner.proofs.ReachLemmas.{reaches_grant}
use Rattle.s7_partner.proofs.partner.Partner.grant.Goals as goal

pub returns-clause-reaches : goal.returns-clause-reaches
returns-clause-reaches c =
    reaches_grant c.args.self.now _ c.set_out.new.self (message_at c.args.self.now.reader) c.size-size.result.octets
    c.in-Some.sequence c.in-Some.asked c.granted_by-granted.result
    (ap asked_in (sym c.message.ensures) ∙ sym c.in-Some.ensures.asked)
    c.size-size.ensures c.granted_by-granted.ensures c.put_negotiation.ensures.puts
    (record {
      stage = refl;
      sequence = refl;
      number = refl;
      sending = refl;
      receiving = refl;
      octets = refl;
      whole = refl;
      handed = refl;
    })
    (record { role = refl; config = refl; reader = refl; inbox = refl })
    c.set_out.ensures.reaches
