use Rattle.std.proofs.Common.{◌++◌, refl, sym, ap, ◌∙◌}
use Rattle.s7_wire.specs.Reads.{message_at}
use Rattle.s7_client.proofs.PacketLemmas.{reached_answer, reached_nothing, follows_here, none_over}
use Rattle.s7_client.proofs.talk.Talk.message.Goals as goal

pub returns-in-Some-clause-reaches : goal.returns-in-Some-clause-reaches
returns-in-Some-clause-reaches c = λ origin course ec eg at.
    let asks = c.requires.asking in
    let taken = c.in-Some.ensures.some c.args.granted course (follows_here origin course c.args.self.now c.args.job.now
    c.args.config.now c.args.granted ec eg asks at)
    (sym at.sequence) (c.requires.unput course.size) in
    reached_answer origin course c.args.self.now _ c.args.job.now _ c.args.config.now c.args.granted
    c.message-message.result.now (message_at c.args.self.now.reader) taken.0 _ ec eg
    c.message-message.ensures c.if-message-lt-LEAST_MESSAGE.false asks at taken.1 taken.2 c.take.ensures.job refl refl
    refl refl c.requires.sent

pub returns-in-None-clause-reaches : goal.returns-in-None-clause-reaches
returns-in-None-clause-reaches c = λ origin course ec eg at.
    let asks = c.requires.asking in
    let none = c.in-None.ensures.none c.args.granted course.rows
    (follows_here origin course c.args.self.now c.args.job.now c.args.config.now c.args.granted ec eg asks at) in
    reached_nothing origin course c.args.self.now c.args.job.now _ c.message-message.result.now
    (message_at c.args.self.now.reader) c.message-message.ensures
    c.if-message-lt-LEAST_MESSAGE.false at none c.fail-in-None.ensures.fails c.fail-in-None.ensures.over
    (c.fail-in-None.ensures.job ∙ c.take.ensures.job)
    (c.add.ensures.octets ∙ ap (λ x. x ++ c.message-message.result.now) c.clear.ensures.octets)
    (none_over origin.config c.args.self.now c.fail-in-None.new.self c.requires.sent c.fail-in-None.ensures.over)
