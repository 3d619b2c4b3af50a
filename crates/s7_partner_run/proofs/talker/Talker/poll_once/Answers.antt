use Rattle.std.proofs.Common.{ap, Bool}
use Rattle.s7_partner_run.specs.Talking.{Post, post_of}
use Rattle.s7_partner_run.proofs.talker.Talker.poll_once.Goals as goal

pub returns : goal.returns
returns g c = record {
  partner = c.poll-told.new.self;
  told = c.poll-told.result;
  poll = c.poll-told.ensures;
  same =
      ap (λ (b : Bool). record (post_of c.args.self.now) { partner = c.poll-told.new.self; is_idle = b })
      c.tells_idle-self.ensures;
  news = c.news_by.ensures;
}
