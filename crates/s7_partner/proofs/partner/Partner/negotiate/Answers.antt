use Rattle.s7_wire.specs.Reads.{message_at}
use Rattle.s7_partner.proofs.ReachLemmas.{negotiates_active, negotiates_passive}
use Rattle.s7_partner.proofs.partner.Partner.negotiate.Goals as goal

pub returns-in-Active-clause-reaches : goal.returns-in-Active-clause-reaches
returns-in-Active-clause-reaches c =
    negotiates_active c.args.self.now c.take_grant.new.self (message_at c.args.self.now.reader) c.args.self.now.role
    c.in-Active.is c.take_grant.ensures.reaches

pub returns-in-Passive-clause-reaches : goal.returns-in-Passive-clause-reaches
returns-in-Passive-clause-reaches c =
    negotiates_passive c.args.self.now c.grant.new.self (message_at c.args.self.now.reader) c.args.self.now.role
    c.in-Passive.is c.grant.ensures.reaches
