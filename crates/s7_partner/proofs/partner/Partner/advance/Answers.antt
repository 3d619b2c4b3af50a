use Rattle.std.proofs.Common.{◌≡◌, rules, sym, ◌∙◌}
use Rattle.std.specs.Prelude.{None}
use Rattle.s7_partner.specs.declared.step.Step.TheVariants.{Went}
use Rattle.s7_partner.specs.Steps.{work}
use Rattle.s7_partner.proofs.StepLemmas.{runs_none}
use Rattle.s7_partner.proofs.RunLemmas.{runs_both}
use Rattle.s7_partner.proofs.PollLemmas.{polls_behind, polls_sent, polls_closed, polls_pending, polls_idle, less_behind}
use Rattle.s7_partner.proofs.partner.Partner.advance.Goals as goal

pub loop-self-init : goal.loop-self-init
loop-self-init g c = record {
  runs = runs_none c.args.self.now (g.L.Link.shows c.args.link.now) c.requires.live;
  none_handed = c.requires.none_handed;
}

pub loop-self-smaller : goal.loop-self-smaller
loop-self-smaller g c =
    let none : c.loop-self.self.whole ≡ None = search rules in
    less_behind c.step.new.self.whole c.loop-self.self.whole (work c.step.new.self) (work c.loop-self.self) none
    (c.step.ensures.less c.in-Went.is)

pub loop-self-preserved : goal.loop-self-preserved
loop-self-preserved g c = record {
  runs = runs_both c.args.self.now c.loop-self.self c.step.new.self (g.L.Link.shows c.args.link.now)
      (g.L.Link.shows c.loop-self.link) (g.L.Link.shows c.step.new.link) Went c.loop-self.invariant.runs
      c.in-Went.ensures.runs;
  none_handed = c.step.ensures.none_handed c.in-Went.is;
}

pub returns-in-Some : goal.returns-in-Some
returns-in-Some g c =
    let k = g.L.Link.shows c.loop-self.link in
    polls_behind c.args.self.now c.loop-self.self c.hand_out.new.self (g.L.Link.shows c.args.link.now) k k
    c.hand_out.result c.loop-self.invariant.runs (c.hand_out.ensures k)

pub returns-in-NotYet : goal.returns-in-NotYet
returns-in-NotYet g c =
    let k = g.L.Link.shows c.loop-self.link in
    let k' = g.L.Link.shows c.step.new.link in
    polls_behind c.args.self.now c.loop-self.self c.step.new.self (g.L.Link.shows c.args.link.now) k k' _
    c.loop-self.invariant.runs
    (polls_pending c.loop-self.self c.step.new.self k k'
    (λ s holds. sym (c.is_waiting.ensures s holds) ∙ c.if-is_waiting.true) c.in-NotYet.ensures.runs)

pub returns-in-NotYet-2 : goal.returns-in-NotYet-2
returns-in-NotYet-2 g c =
    let k = g.L.Link.shows c.loop-self.link in
    let k' = g.L.Link.shows c.step.new.link in
    polls_behind c.args.self.now c.loop-self.self c.step.new.self (g.L.Link.shows c.args.link.now) k k' _
    c.loop-self.invariant.runs
    (polls_idle c.loop-self.self c.step.new.self k k'
    (λ s holds. sym (c.is_waiting.ensures s holds) ∙ c.if-is_waiting.false) c.in-NotYet-2.ensures.runs)

pub returns-in-Sent : goal.returns-in-Sent
returns-in-Sent g c =
    let k = g.L.Link.shows c.loop-self.link in
    let k' = g.L.Link.shows c.step.new.link in
    polls_behind c.args.self.now c.loop-self.self c.step.new.self (g.L.Link.shows c.args.link.now) k k' _
    c.loop-self.invariant.runs
    (polls_sent c.loop-self.self c.step.new.self k k' c.in-Sent.ensures.runs)

pub returns-in-Closed : goal.returns-in-Closed
returns-in-Closed g c =
    let k = g.L.Link.shows c.loop-self.link in
    let k' = g.L.Link.shows c.step.new.link in
    polls_behind c.args.self.now c.loop-self.self c.step.new.self (g.L.Link.shows c.args.link.now) k k' _
    c.loop-self.invariant.runs
    (polls_closed c.loop-self.self c.step.new.self k k' c.in-Closed.code c.in-Closed.ensures.runs)
