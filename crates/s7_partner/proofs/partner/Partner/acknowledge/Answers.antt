use Rattle.std.proofs.Common.{refl}
use Rattle.s7_partner.proofs.StepLemmas.{acknowledges_none, acknowledges_last}
use Rattle.s7_partner.proofs.partner.Partner.acknowledge.Goals as goal

pub returns-in_default-clause-acknowledges : goal.returns-in_default-clause-acknowledges
returns-in_default-clause-acknowledges c = λ link. acknowledges_none c.args.self.now link c.requires

pub returns-clause-acknowledges : goal.returns-clause-acknowledges
returns-clause-acknowledges c = λ link.
    acknowledges_last c.args.self.now _ c.in-Some.block c.size-size.result.octets link c.requires c.in-Some.is refl
    c.size-size.ensures c.put_confirm.ensures.puts
    (record { role = refl; config = refl; reader = refl; inbox = refl })
    refl refl refl refl refl refl refl
