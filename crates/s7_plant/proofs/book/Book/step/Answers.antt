use Rattle.std.proofs.Common.{◌<◌, length, rules, ap}
use Rattle.s7_plant.specs.Replies.{Said}
use Rattle.s7_plant.specs.State.{state_of}
use Rattle.s7_plant.proofs.BookLemmas.{told_by_step}
use Rattle.s7_plant.proofs.KeptImageLemmas.{step_can, step_kept, step_replayed}
use Rattle.s7_plant.proofs.book.Book.step.Goals as goal

pub returns-clause-told : goal.returns-clause-told
returns-clause-told g c =
    told_by_step (state_of c.args.self.now.opening) (state_of c.args.self.now.plant) c.args.self.now.journal.entries c.push.new.self c.args.self.now.journal.limit c.len-number.result c.args.link c.code.result c.step.new.reply.error c.args.ask.right c.args.ask.request c.step.new.r _ _ c.args.self.now.replayed c.len-number.ensures.len c.code.ensures c.step.ensures.kept (ap (λ (s : Said). s.error) c.step.ensures.said) c.push.ensures c.tell_all.ensures

pub note-requires : goal.note-requires
note-requires g c =
    let room : length c.args.self.now.journal.entries < c.args.self.now.journal.limit = search rules in
    step_can c.writes_keep_the_shape.ensures (state_of c.args.self.now.opening) (state_of c.args.self.now.plant) c.args.self.now.journal.entries c.args.self.now.journal.limit c.args.self.now.images c.args.link c.len-number.result c.step.new.reply.error c.args.ask.right c.args.ask.request c.step.new.r c.step.new.self c.args.self.now.replayed c.args.self.now.kept room c.len-number.ensures.len c.step.ensures.kept (ap (λ (s : Said). s.error) c.step.ensures.said) c.step.ensures.after

pub invariant_of-self-2 : goal.invariant_of-self-2
invariant_of-self-2 g c =
    let room : length c.args.self.now.journal.entries < c.args.self.now.journal.limit = search rules in
    record {
      replayed = step_replayed c.writes_keep_the_shape.ensures (state_of c.args.self.now.opening) (state_of c.args.self.now.plant) c.args.self.now.journal.entries c.args.self.now.journal.limit c.args.self.now.images c.args.link c.len-number.result c.step.new.reply.error c.args.ask.right c.args.ask.request c.step.new.r c.step.new.self c.args.self.now.replayed c.args.self.now.kept room c.len-number.ensures.len c.step.ensures.kept (ap (λ (s : Said). s.error) c.step.ensures.said) c.step.ensures.after c.push.new.self c.push.ensures;
      kept = step_kept c.writes_keep_the_shape.ensures (state_of c.args.self.now.opening) (state_of c.args.self.now.plant) c.args.self.now.journal.entries c.args.self.now.journal.limit c.args.self.now.images c.args.link c.len-number.result c.step.new.reply.error c.args.ask.right c.args.ask.request c.step.new.r c.step.new.self c.args.self.now.replayed c.args.self.now.kept room c.len-number.ensures.len c.step.ensures.kept (ap (λ (s : Said). s.error) c.step.ensures.said) c.step.ensures.after c.note.new.self c.note.ensures c.push.new.self c.push.ensures;
    }
