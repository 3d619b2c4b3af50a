use Rattle.std.proofs.Common.{List, ℕ, sym, ◌∙◌, subst}
use Rattle.s7_relay.specs.Replies.{AreNear, GivesEnough}
use Rattle.s7_relay.proofs.EnoughLemmas.{are_near, passes_enough}
use Rattle.s7_relay.proofs.relay_doer.RelayDoer.relay.Goals as goal

pub say-requires-clause-near : goal.say-requires-clause-near
say-requires-clause-near g c =
    subst (AreNear c.args.request.now) (sym (c.as_slice-2.ensures.value ∙ c.request_codes-near.ensures))
    (are_near c.args.self.now.windows c.args.request.now c.requires.ready)

pub say-requires-clause-enough : goal.say-requires-clause-enough
say-requires-clause-enough g c =
    subst (λ (near : List ℕ). GivesEnough c.args.request.now near c.in_ok-passage.passage)
    (sym (c.as_slice-2.ensures.value ∙ c.request_codes-near.ensures))
    (passes_enough g.M.Link.shows _ c.args.self.now.windows c.args.request.now _ _ c.in_ok-passage.passage c.requires.ready
    c.in_ok-passage.ensures.passes)
