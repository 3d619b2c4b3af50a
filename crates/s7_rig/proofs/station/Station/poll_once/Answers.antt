use Rattle.s7_rig.specs.Shown.{post_of}
use Rattle.s7_rig.proofs.StandingLemmas.{moved_is}
use Rattle.s7_rig.proofs.PollsLemmas.{polls_done, polls_on}
use Rattle.s7_rig.proofs.station.Station.poll_once.Goals as goal

pub returns-in-Done : goal.returns-in-Done
returns-in-Done c =
    polls_done (post_of c.args.self.now) _ _ c.in-Done.told _ _ _ _ c.in-Done.ensures c.count_held-after.ensures.fits c.leave.ensures.left c.keep.ensures.results c.keep.ensures.places c.keep.ensures.noted

pub returns-in-Pending : goal.returns-in-Pending
returns-in-Pending c =
    let before = c.count_held-before.ensures in
    let after = c.count_held-after.ensures in
    polls_on (post_of c.args.self.now) _ _ c.poll_over-polled.result _ c.in-Pending.is c.poll_over-polled.ensures after.fits
    (moved_is c.args.self.now.pipes c.poll_over-polled.new.pipes _ _ _ _ _ before.to_client before.to_server after.to_client after.to_server c.ne.ensures)
