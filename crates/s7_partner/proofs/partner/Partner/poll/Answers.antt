use Rattle.std.proofs.Common.{◌≡◌, rules, ap}
use Rattle.std.specs.Prelude.{None}
use Rattle.s7_partner.specs.Held.{closed_of, code_in}
use Rattle.s7_partner.proofs.PollLemmas.{poll_behind, poll_closed}
use Rattle.s7_partner.proofs.partner.Partner.poll.Goals as goal

pub returns-in-Closed : goal.returns-in-Closed
returns-in-Closed g c =
    poll_closed c.args.self.now (g.L.Link.shows c.args.link.now) c.in-Closed.code (ap code_in c.in-Closed.is)

pub advance-requires : goal.advance-requires
advance-requires g c = record {
  live = (c.acknowledge.ensures.acknowledges (g.L.Link.shows c.args.link.now)).runs.closed;
  none_handed = c.acknowledge.ensures.handed;
}

pub returns : goal.returns
returns g c =
    let k = g.L.Link.shows c.args.link.now in
    let k' = g.L.Link.shows c.advance.new.link in
    let live : closed_of c.args.self.now ≡ None = search rules in
    poll_behind c.args.self.now c.acknowledge.new.self c.advance.new.self k k' c.advance.result live
    c.acknowledge.ensures.acknowledges c.advance.ensures
