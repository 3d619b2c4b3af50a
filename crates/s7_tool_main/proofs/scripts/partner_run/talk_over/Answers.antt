use Rattle.s7_partner_run.specs.Talking.{post_of}
use Rattle.s7_tool_main.proofs.PartnerLemmas.{talked_over}
use Rattle.s7_tool_main.proofs.scripts.partner_run.talk_over.Goals as goal

pub returns : goal.returns
returns g c =
    talked_over g.L.Link.shows _ (post_of c.talk-end.new.talker) _ _ (g.O.Out.shows c.talk-end.new.out) _ _
    c.talk-end.result _ c.talk-end.ensures.talked c.talk-end.ensures.failed c.ended_by.ensures c.new.ensures.items
