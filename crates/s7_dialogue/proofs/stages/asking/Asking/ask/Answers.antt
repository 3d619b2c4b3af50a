use Rattle.std.proofs.Common.{arith}
use Rattle.s7_dialogue.proofs.GoingLemmas.{takes_less, next_no_more}
use Rattle.s7_dialogue.proofs.stages.asking.Asking.ask.Goals as goal

pub invariant_of-self : goal.invariant_of-self
invariant_of-self c =
    let more =
    next_no_more c.args.self.now.left c.next.new.self c.next.result c.next.ensures.some c.next.ensures.none in
    record {
      least_width = c.args.self.now.least_width;
      most_width = c.args.self.now.most_width;
      few = c.args.self.now.few;
      put = c.args.self.now.put;
      places = omega (arith, more.questions, c.args.self.now.places);
      octets = omega (arith, more.octets, c.args.self.now.octets);
      items = omega (arith, more.items, c.args.self.now.items);
    }

pub push-requires-clause-places : goal.push-requires-clause-places
push-requires-clause-places c =
    omega (
      arith,
      c.args.self.now.places,
      (takes_less c.args.self.now.left c.next.new.self c.in-Some.asked c.in-Some.ensures.some).questions,
    )

pub push-requires-clause-octets : goal.push-requires-clause-octets
push-requires-clause-octets c =
    omega (
      arith,
      c.args.self.now.octets,
      (takes_less c.args.self.now.left c.next.new.self c.in-Some.asked c.in-Some.ensures.some).octets,
    )

pub push-requires-clause-items : goal.push-requires-clause-items
push-requires-clause-items c =
    omega (
      arith,
      c.args.self.now.items,
      (takes_less c.args.self.now.left c.next.new.self c.in-Some.asked c.in-Some.ensures.some).items,
    )
