use Rattle.std.proofs.Common.{refl}
use Rattle.s7_partner.proofs.ReachLemmas.{sets_out}
use Rattle.s7_partner.proofs.partner.Partner.set_out.Goals as goal

pub returns-clause-reaches : goal.returns-clause-reaches
returns-clause-reaches c =
    sets_out c.args.self.now _ c.put_next.new.self c.args.pdu
    (record { role = refl; config = refl; reader = refl; inbox = refl })
    refl refl refl refl refl refl refl refl refl c.put_next.ensures.reaches
