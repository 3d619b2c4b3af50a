use Rattle.std.proofs.Common.{◌+◌, length, refl, ap, sym, subst, ◌∙◌, arith, rules}
use Rattle.s7_bank.specs.Dividing.{ArePartOf}
use Rattle.s7_bank.proofs.ListLemmas.{none_isnt, length_more}
use Rattle.s7_bank.proofs.DividingLemmas.{PartsSoFar, left_first, part_here, left_next, first_left, parts_more, part_is, parts_are}
use Rattle.s7_bank.proofs.dividing.divide.Goals as goal

pub loop-bank-init : goal.loop-bank-init
loop-bank-init c =
    let none = c.in_ok-parts.ensures.items in
    record {
      left = left_first c.args.banks c.args.areas.now;
      parts = subst (PartsSoFar c.args.banks c.args.areas.now) (sym none) (λ i part e. none_isnt part e);
      many = ap (λ l. length l + 1) none;
      room = search rules;
    }

pub loop-bank-preserved : goal.loop-bank-preserved
loop-bank-preserved c =
    let at = c.loop-bank in
    let banks = c.args.banks in
    let all = c.args.areas.now in
    let part = c.in_ok-part.part in
    let parts = at.parts.items in
    let taken = c.in_ok-part.ensures in
    let here = part_here banks at.bank all at.areas part at.invariant.left taken.part in
    record {
      left = left_next banks at.bank all at.areas c.take_part.new.areas (omega (arith, at.auto.bank)) at.invariant.left taken.left;
      parts = subst (PartsSoFar banks all) (sym c.push_reserved.ensures.items)
          (parts_more banks all part parts at.invariant.parts
          (subst (λ n. ArePartOf banks n all part) (sym at.invariant.many) here));
      many = let one_more = ap length c.push_reserved.ensures.items ∙ length_more parts part (length parts) refl in
          omega (arith, at.invariant.many, one_more);
      room = let room = at.invariant.room in omega (arith, room, c.push_reserved.ensures.capacity);
    }

pub returns : goal.returns
returns c =
    let at = c.loop-bank in
    let banks = c.args.banks in
    let all = c.args.areas.now in
    let memory = c.db_numbers-known.ensures.memory in
    record {
      many = omega (arith, at.invariant.many, at.auto.bank-end, c.loop-bank-test.false, c.requires);
      parts = parts_are banks all at.parts.items memory at.invariant.parts;
      first = part_is banks 0 all at.areas memory
          (first_left banks at.bank all at.areas c.requires c.loop-bank-test.false at.invariant.left c.db_numbers-left.ensures.memory);
    }
