use Rattle.std.proofs.Common.{refl}
use Rattle.s7_dialogue.proofs.FollowLemmas.{confirmed, confirmed_ready}
use Rattle.s7_dialogue.proofs.stages.running.Running.confirm.Goals as goal

pub invariant_of-self : goal.invariant_of-self
invariant_of-self c = record {
  ready =
      confirmed_ready c.args.self.now.job _ c.args.self.now.stage c.new.result c.requires c.args.self.now.ready
      c.new.ensures;
}

pub returns-clause-follows : goal.returns-clause-follows
returns-clause-follows c = λ config granted first. confirmed _ c.new.result config granted refl c.new.ensures first
