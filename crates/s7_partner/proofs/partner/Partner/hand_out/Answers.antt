use Rattle.std.proofs.Common.{is_none, refl, ap, ◌∙◌}
use Rattle.s7_partner.proofs.PollLemmas.{polls_kept, polls_received}
use Rattle.s7_partner.proofs.partner.Partner.hand_out.Goals as goal

pub returns : goal.returns
returns c = λ link.
    polls_received c.args.self.now _ c.args.block c.in-Ok.body link c.requires.live c.requires.whole
    (c.in-Ok.ensures ∙ c.as_slice.ensures.octets)
    (record { role = refl; config = refl; reader = refl; inbox = refl })
    refl refl refl refl refl refl refl refl refl

pub returns-in_default : goal.returns-in_default
returns-in_default c = λ link. polls_kept c.args.self.now link _ c.requires.live (ap is_none c.requires.whole)
