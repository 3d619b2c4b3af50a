use Rattle.std.proofs.Common.{ap, inl, Some}
use Rattle.s7_rig.proofs.PostsLemmas.{on_ok_at}
use Rattle.s7_rig.specs.Shown.{post_of}
use Rattle.s7_rig.proofs.station.Station.start_next.Goals as goal

pub returns : goal.returns
returns c =
    let ok = c.if-is_err.ensures.negation in
    inl (record {
      idle = on_ok_at c.start.result ok c.start.ensures.idle;
      job = c.in-Some.job;
      rest = c.pop_front.new.self.items;
      left = c.in-Some.ensures.items;
      client = c.start.new.self;
      started = on_ok_at c.start.result ok c.start.ensures.started;
      same = ap (λ n. record (post_of c.args.self.now) { rest = c.pop_front.new.self.items; client = c.start.new.self; noted = Some n }) c.new.ensures;
    })
