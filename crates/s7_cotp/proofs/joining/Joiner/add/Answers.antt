use Rattle.s7_cotp.proofs.StepLemmas.{new_holds, new_goes_on, new_ends, new_fault}
use Rattle.s7_cotp.proofs.joining.Joiner.add.Goals as goal

pub returns-clause-holds : goal.returns-clause-holds
returns-clause-holds c = λ fs h. new_holds fs c.args.self.now c.take.new.self _ c.take.ensures.value h

pub returns-clause-goes_on : goal.returns-clause-goes_on
returns-clause-goes_on c = λ fs h e. new_goes_on fs c.args.self.now c.take.new.self _ c.take.result c.take.ensures.value c.take.ensures.answer h e

pub returns-clause-ends_message : goal.returns-clause-ends_message
returns-clause-ends_message c = λ fs h e. new_ends fs c.args.self.now c.take.new.self _ c.take.result c.take.ensures.value c.take.ensures.answer h e

pub returns-clause-fault : goal.returns-clause-fault
returns-clause-fault c = λ fs behind h e. new_fault fs c.args.self.now c.take.new.self _ behind c.take.result c.take.ensures.value c.take.ensures.answer h e
