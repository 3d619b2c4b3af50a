use Rattle.std.proofs.Common.{◌≡◌, None, refl, sym, ◌∙◌}
use Rattle.s7_client.proofs.PollLemmas.{same_parts, not_under, round_pending, poll_idle, poll_pending, poll_done}
use Rattle.s7_client.proofs.connection.Connection.poll.Goals as goal

pub returns-in_default : goal.returns-in_default
returns-in_default g c =
    let none : c.args.self.now.job ≡ None = sym c.take.ensures.value ∙ not_under c.take.result c.in_default.not-Some in
    let same : c.take.new.self ≡ c.args.self.now.job = c.take.ensures.after ∙ sym none in
    poll_idle _ _ (g.L.Link.shows c.args.link.now) none (same_parts c.args.self.now _ refl refl refl refl same)

pub returns-in_default-ended : goal.returns-in_default-ended
returns-in_default-ended g c =
    poll_pending c.args.self.now _ c.in-Some.job c.round-ended.new.job (g.L.Link.shows c.args.link.now)
    (g.L.Link.shows c.round-ended.new.link) (sym c.take.ensures.value ∙ c.in-Some.is) refl refl refl refl
    (round_pending c.args.self.now.channel c.round-ended.new.self c.in-Some.job c.round-ended.new.job
    (g.L.Link.shows c.args.link.now) (g.L.Link.shows c.round-ended.new.link) c.args.self.now.config
    c.args.self.now.granted c.round-ended.result c.round-ended.ensures.round c.in_default-ended.not-Some)

pub returns : goal.returns
returns g c =
    let ended = c.in-Some-ended.ensures.ended in
    poll_done c.args.self.now _ c.in-Some.job c.round-ended.new.job c.round-ended.new.self
    (g.L.Link.shows c.args.link.now) (g.L.Link.shows c.round-ended.new.link) c.in-Some-ended.ending.leaves
    c.done.result (sym c.take.ensures.value ∙ c.in-Some.is) c.take.ensures.after refl c.grant_after-self.ensures
    c.closed_after-self.ensures c.in-Some-ended.ensures.round ended.leaves
    (λ end e. c.done.ensures end e (ended.code end e)) refl refl refl
