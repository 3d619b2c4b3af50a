use Rattle.s7_partner_run.specs.Pairs.{state_of}
use Rattle.s7_partner_run.proofs.TurnLemmas.{CountsOn}
use Rattle.s7_partner_run.proofs.pair.Pair.take_rounds.Given as goal

-- rounds were made
abbrev pub invariant-loop : goal.invariant-loop
invariant-loop l = CountsOn l.counter (state_of l.fn.self) (state_of l.self)
