use Rattle.std.proofs.Common.{inl, sym}
use Rattle.s7_partner_run.specs.Talking.{post_of}
use Rattle.s7_partner_run.proofs.talker.Talker.turn.Goals as goal

pub returns : goal.returns
returns g c =
    inl (record {
      opened = sym c.if-is_closed.ensures;
      ready = post_of c.give_next.new.self;
      gives = c.give_next.ensures;
      polls = c.poll_once.ensures;
    })
