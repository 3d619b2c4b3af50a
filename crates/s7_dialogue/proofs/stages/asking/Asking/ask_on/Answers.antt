use Rattle.std.proofs.Common.{arith, ◌∙◌, sym, subst}
use Rattle.s7_dialogue.specs.Asks.{MayAskNone}
use Rattle.s7_dialogue.proofs.AskLemmas.{AsksSoFar, asks_none, asks_more, asks_all}
use Rattle.s7_dialogue.proofs.ReadyLemmas.{ready_next, next_as_many}
use Rattle.s7_dialogue.proofs.stages.asking.Asking.ask_on.Goals as goal

pub loop-next-init : goal.loop-next-init
loop-next-init c = record {
  asks = λ config granted job found codes course h same.
      asks_none config granted job found codes c.args.self.now course c.args.sequence h same;
  as_many = omega arith;
  ready = λ job found is. is;
}

pub loop-next-preserved : goal.loop-next-preserved
loop-next-preserved c =
    let step = c.in-Some.ensures.some in
    let before = c.loop-next.self in
    let after = c.ask.new.self in
    record {
      asks = λ config granted job found codes course h same.
          asks_more config granted job found codes c.args.self.now course before after c.loop-next.last c.in-Some.next
          before.put (c.loop-next.invariant.asks config granted job found codes course h same) step.0 step.1;
      as_many = next_as_many before after c.in-Some.next step.1 ∙ c.loop-next.invariant.as_many;
      ready = λ job found is.
          ready_next job found before after c.in-Some.next (omega (arith, before.items)) step.1
          (c.loop-next.invariant.ready job found is);
    }

pub returns-clause-asks : goal.returns-clause-asks
returns-clause-asks c = λ config granted job found codes course h same.
    asks_all config granted job found codes c.args.self.now course c.ask.new.self c.loop-next.last
    (subst (λ a. AsksSoFar config granted job found codes c.args.self.now course a c.loop-next.last)
    (sym c.in_default.ensures.unchanged)
    (c.loop-next.invariant.asks config granted job found codes course h same))
    (subst MayAskNone (sym c.in_default.ensures.unchanged) c.in_default.ensures.none)
