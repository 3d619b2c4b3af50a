use Rattle.std.proofs.Common.{arith}
use Rattle.std.specs.Prelude.{is_none}
use Rattle.s7_client.specs.declared.channel.Step.TheVariants as step
use Rattle.s7_client.proofs.CountLemmas.{counts_behind}
use Rattle.s7_client.proofs.LinkLemmas.{not_yet_not_went, over_not_went}
use Rattle.s7_client.proofs.RoundLemmas.{walks_none, walks_on, ends_walk, round_by, round_over}
use Rattle.s7_client.proofs.channel.Channel.round.Goals as goal

pub loop-job-init : goal.loop-job-init
loop-job-init g c = walks_none c.args.self.now c.args.job.now (g.L.Link.shows c.args.link.now) c.args.config.now
    c.args.granted c.requires.fits

pub loop-job-smaller : goal.loop-job-smaller
loop-job-smaller g c = c.step.ensures.step.less c.in-Went.is

pub loop-job-preserved : goal.loop-job-preserved
loop-job-preserved g c =
    walks_on c.args.self.now c.loop-job.self c.step.new.self c.args.job.now c.loop-job.job c.step.new.job
    (g.L.Link.shows c.args.link.now) (g.L.Link.shows c.loop-job.link) (g.L.Link.shows c.step.new.link)
    c.args.config.now c.args.granted c.loop-job.invariant c.in-Went.ensures.step c.in-Went.ensures.counts

pub wait-requires : goal.wait-requires
wait-requires g c = omega (arith, c.requires.waited, c.loop-job.invariant.waited, c.step.ensures.step.waited)

pub returns-in-NotYet-clause-round : goal.returns-in-NotYet-clause-round
returns-in-NotYet-clause-round g c =
    round_by c.args.self.now c.step.new.self c.args.job.now c.step.new.job c.wait.new.self
    (g.L.Link.shows c.args.link.now) (g.L.Link.shows c.step.new.link) c.args.config.now c.args.granted
    (is_none c.wait.result)
    (ends_walk c.args.self.now c.loop-job.self c.step.new.self c.args.job.now c.loop-job.job c.step.new.job
    (g.L.Link.shows c.args.link.now) (g.L.Link.shows c.loop-job.link) (g.L.Link.shows c.step.new.link)
    c.args.config.now c.args.granted step.NotYet not_yet_not_went c.loop-job.invariant c.in-NotYet.ensures.step)
    (counts_behind step.NotYet c.step.new.job.running (g.L.Link.shows c.args.link.now) (g.L.Link.shows c.loop-job.link)
    (g.L.Link.shows c.step.new.link) c.loop-job.invariant.counts c.in-NotYet.ensures.counts)
    c.wait.ensures.waits

pub returns-in-Over-clause-round : goal.returns-in-Over-clause-round
returns-in-Over-clause-round g c =
    round_over c.args.self.now c.step.new.self c.args.job.now c.step.new.job
    (g.L.Link.shows c.args.link.now) (g.L.Link.shows c.step.new.link) c.args.config.now c.args.granted
    c.ending.result
    (ends_walk c.args.self.now c.loop-job.self c.step.new.self c.args.job.now c.loop-job.job c.step.new.job
    (g.L.Link.shows c.args.link.now) (g.L.Link.shows c.loop-job.link) (g.L.Link.shows c.step.new.link)
    c.args.config.now c.args.granted step.Over over_not_went c.loop-job.invariant c.in-Over.ensures.step)
    (counts_behind step.Over c.step.new.job.running (g.L.Link.shows c.args.link.now) (g.L.Link.shows c.loop-job.link)
    (g.L.Link.shows c.step.new.link) c.loop-job.invariant.counts c.in-Over.ensures.counts)
    c.ending.ensures.none
