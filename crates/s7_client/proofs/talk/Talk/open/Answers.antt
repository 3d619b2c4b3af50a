use Rattle.std.proofs.Common.{refl}
use Rattle.s7_client.proofs.PacketLemmas.{reached_open}
use Rattle.s7_client.proofs.talk.Talk.open.Goals as goal

pub returns-clause-reaches : goal.returns-clause-reaches
returns-clause-reaches c = λ origin course at.
    reached_open origin course c.args.self.now _ c.args.job.now _ c.confirm.new.self c.go_on-self.result
    c.requires.opening at
    (c.confirm.ensures.follows origin.config origin.granted)
    (λ follows sequence. c.go_on-self.ensures.reached origin.config origin.granted course follows sequence
    (c.confirm.ensures.none_unput origin.config course.size))
    c.confirm.ensures.job c.go_on-self.ensures.job refl refl refl refl c.requires.sent
