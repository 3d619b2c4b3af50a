use Rattle.std.proofs.Common.{inl, subst}
use Rattle.s7_session.specs.Telegrams.{MemoryIsLast, verdicts_of}
use Rattle.s7_session.proofs.PastLemmas.{memory_is_last}
use Rattle.s7_relay.specs.Doer.{doer_model}
use Rattle.s7_relay.specs.DoerLaws.{goes_on_same}
use Rattle.s7_relay_main.specs.Relay.{first}
use Rattle.s7_relay_main.proofs.NearLemmas.{relayed_link}
use Rattle.s7_relay_main.proofs.TrailLemmas.{relays_none, trail_relays}
use Rattle.s7_relay_main.proofs.near.serve_near.Goals as goal

pub returns-in_default-clause-goes_on : goal.returns-in_default-clause-goes_on
returns-in_default-clause-goes_on g c =
    goes_on_same g.M.Link.shows (doer_model g.K.Dial.shows g.M.Link.shows c.args.doer.now)

pub returns-clause-came : goal.returns-clause-came
returns-clause-came g c =
    let ran = c.serve-outcome.ensures.run first c.in-Ok.ensures.fresh in
    inl (relayed_link g.K.Dial.shows g.M.Link.shows c.args.doer.now.limit _ _ _ _ _ _ _ _ ran c.requires.begun
    c.serve-outcome.ensures.kept.limit c.shutdown-2.ensures.shut)

pub returns-in_default-clause-relays_on : goal.returns-in_default-clause-relays_on
returns-in_default-clause-relays_on g c =
    relays_none g.M.Link.shows (doer_model g.K.Dial.shows g.M.Link.shows c.args.doer.now)

pub returns-clause-relays_on : goal.returns-clause-relays_on
returns-clause-relays_on g c =
    let run = c.serve-outcome.ensures.run first c.in-Ok.ensures.fresh in
    let last = subst (λ ms. MemoryIsLast (verdicts_of ms)) run.asked (memory_is_last first run.taken (verdicts_of run.mets)) in
    trail_relays g.K.Dial.shows g.M.Link.shows _ _ _ run.mets run.entries last run.trail
