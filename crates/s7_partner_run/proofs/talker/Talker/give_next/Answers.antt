use Rattle.std.proofs.Common.{inl, refl}
use Rattle.std.proofs.lemmas.List.Elements.{All-rest}
use Rattle.s7_script.specs.Sends.{IsSized}
use Rattle.s7_partner_run.proofs.TalkLemmas.{on_ok_at}
use Rattle.s7_partner_run.proofs.talker.Talker.give_next.Goals as goal

pub invariant_of-self-2 : goal.invariant_of-self-2
invariant_of-self-2 c = record {
  sized = All-rest IsSized c.in-Some.line c.pop_front.new.self.items c.args.self.now.rest.items c.in-Some.ensures.items
      c.args.self.now.sized;
}

pub returns : goal.returns
returns c =
    inl (record {
      line = c.in-Some.line;
      rest = c.pop_front.new.self.items;
      left = c.in-Some.ensures.items;
      partner = c.b_send.new.self;
      given = on_ok_at c.b_send.result c.if-is_err.ensures.negation c.b_send.ensures.given;
      same = refl;
    })
