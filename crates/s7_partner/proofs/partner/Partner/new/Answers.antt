use Rattle.std.proofs.Common.{[], refl, ap, sym, ◌∙◌, arith, length}
use Rattle.std.specs.Prelude.{true, is_none, ◌&&◌}
use Rattle.s7_wire.specs.Reading.{Progress}
use Rattle.s7_partner.specs.Partners.{opening_by}
use Rattle.s7_partner.proofs.NewLemmas.{reading_none, size_none, size_not}
use Rattle.s7_partner.proofs.CourseLemmas.{course_none}
use Rattle.s7_partner.proofs.partner.Partner.new.Goals as goal

pub invariant_of-result : goal.invariant_of-result
invariant_of-result c = record {
  least_pdu = c.requires.least_pdu;
  most_pdu = c.requires.most_pdu;
  message_room = c.in_ok-new-2.ensures.1;
  block_room = c.in_ok-new-3.ensures.1;
  came = omega (arith, ap length (c.in_ok-new-3.ensures.0));
  sound = ap (λ o. is_none o && true) (size_none c.in_ok-new.field-0 c.in_ok-new.ensures.read);
  one = refl;
  kept = c.starting.ensures.room;
  bounded = c.starting.ensures.bounded;
  reads = ∣ ([], c.in_ok-new.ensures.read) ∣₁;
}

pub returns : goal.returns
returns c = record {
  plays = refl;
  configured = refl;
  unread = c.new-2.ensures;
  stands = record {
    opened = refl;
    holds = record {
      stage = refl;
      size = λ n e. absurd (size_not c.in_ok-new.field-0 n c.in_ok-new.ensures.read e);
      sequence = refl;
      number = refl;
      sending = refl;
      receiving = refl;
      whole = refl;
      handed = record { sequence = refl; number = refl };
    };
    opens = c.in_ok-new.ensures.opening ∙ c.opening_by.ensures;
    read = c.in_ok-new.ensures.read;
    going = c.in_ok-new.ensures.going;
    course = course_none c.args.role c.args.config
        (ap (λ (p : Progress). p.events) (reading_none (opening_by c.args.role)));
    owed = sym c.starting.ensures.unsent;
  };
}
