use Rattle.std.proofs.Common.{sym, ◌∙◌}
use Rattle.s7_dialogue.proofs.StartLemmas.{begun, filled_new}
use Rattle.s7_dialogue.proofs.stages.running.Running.begin.Goals as goal

pub returns-clause-begins : goal.returns-clause-begins
returns-clause-begins c =
    begun _ c.args.granted c.start_of-stage.result.octets c.start_of-stage.result.codes c.start_of-stage.ensures
    (filled_new c.resize.result c.start_of-stage.result.octets _ c.new-found.result.items c.resize.new.self.items
    (sym c.is_err.ensures.value ∙ c.if-is_err.false) c.resize.ensures.items c.new-found.ensures.items
    c.new-found.ensures.len)
    c.new.ensures
