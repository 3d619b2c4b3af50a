use Rattle.std.proofs.Common.{◌≤◌}
use Rattle.s7_partner_run.specs.Talking.{post_of}
use Rattle.s7_partner_run.proofs.AloneLemmas.{TellsOn}
use Rattle.s7_partner_run.proofs.alone.talk.Given as goal

-- turns were taken, and their lines printed
abbrev pub invariant-loop : goal.invariant-loop
invariant-loop g l = record {
  tells : TellsOn l.counter (post_of l.fn.talker) (g.L.Link.shows l.fn.link) (g.O.Out.shows l.fn.out) (post_of l.talker)
      (g.L.Link.shows l.link) (g.O.Out.shows l.out);
  faults : (g.O.Out.shows l.fn.out).faults ≤ (g.O.Out.shows l.out).faults;
}
