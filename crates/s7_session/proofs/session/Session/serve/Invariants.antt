use Rattle.std.proofs.Common.{◌≡◌}
use Rattle.std.specs.Prelude.{None, Some}
use Rattle.s7_session.specs.declared.outcome.Outcome.{Outcome}
use Rattle.s7_session.specs.Stands.{Moves, number_of, closed_with}
use Rattle.s7_session.proofs.session.Session.serve.Given as goal

abbrev pub invariant-loop : goal.invariant-loop
invariant-loop g l = record {
  moves : Moves g.D.Doer.stands g.D.Doer.is_full g.D.Doer.may_lack g.D.Doer.did g.D.Doer.keeps l.fn.self (g.L.Link.shows l.fn.line) l.fn.doer l.self (g.L.Link.shows l.line) l.doer;
  number : number_of l.self ≡ number_of l.fn.self;
  kept : g.D.Doer.keeps l.fn.doer l.doer;
  going : closed_with l.fn.self ≡ None → closed_with l.self ≡ None;
  fails : closed_with l.fn.self ≡ None → (g.L.Link.shows l.line).faults ≡ (g.L.Link.shows l.fn.line).faults;
  same : (o : Outcome) → closed_with l.fn.self ≡ Some o → (l.self ≡ l.fn.self) × (g.L.Link.shows l.line ≡ g.L.Link.shows l.fn.line) × (l.doer ≡ l.fn.doer);
}
