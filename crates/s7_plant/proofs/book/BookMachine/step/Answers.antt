use Rattle.s7_plant.proofs.BookLemmas.{fixed_by_step, replayed_by_step}
use Rattle.s7_plant.proofs.book.BookMachine.step.Goals as goal

pub returns-clause-fixed : goal.returns-clause-fixed
returns-clause-fixed g c =
    (fixed_by_step g.O.Observer.seen c.args.self.now c.step.new.self _ c.step.result c.args.caller c.args.ask c.step.ensures.opening c.step.ensures.err c.step.ensures.observers, c.step.ensures.limit)

pub returns-clause-replayed : goal.returns-clause-replayed
returns-clause-replayed g c =
    replayed_by_step g.O.Observer.seen c.args.self.now c.step.new.self _ c.step.result c.args.caller c.args.ask c.step.ensures.opening c.step.ensures.err c.step.ensures.entered c.step.ensures.after c.step.ensures.observers
