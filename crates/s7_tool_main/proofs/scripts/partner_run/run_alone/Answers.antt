use Rattle.std.proofs.Common.{subst}
use Rattle.s7_dialogue.specs.declared.config.Config.{Config}
use Rattle.s7_partner.specs.declared.role.Role.TheVariants.{Active}
use Rattle.s7_partner_run.specs.Talking.{IsFresh, post_of}
use Rattle.s7_args.specs.Shown.{partner_told_of}
use Rattle.s7_tool_main.proofs.PartnerLemmas.{alone_ended, given_is}
use Rattle.s7_tool_main.proofs.scripts.partner_run.run_alone.Goals as goal

pub returns-in-Link-clause-ended : goal.returns-in-Link-clause-ended
returns-in-Link-clause-ended g c =
    alone_ended g.L.Link.shows (partner_told_of c.args.words.now) c.args.one (g.K.Dial.shows c.args.dial.now)
    (g.K.Dial.shows c.call.new.self) (post_of c.in-Ok.talker) (g.L.Link.shows c.in-Link.line)
    (g.O.Out.shows c.args.out.now) _ _ c.talk_over-ended.result.0
    (subst (λ (x : Config). IsFresh Active x c.args.one (post_of c.in-Ok.talker)) c.partner_config.ensures c.in-Ok.ensures)
    (given_is g.L.Link.shows _ c.in-Link.line c.in-Link.ensures.gives) c.talk_over-ended.ensures

pub returns-in-Link-clause-unheard : goal.returns-in-Link-clause-unheard
returns-in-Link-clause-unheard g c = c.talk_over-ended.ensures.none
