use Rattle.std.proofs.Common.{ap, sym, subst, refl, ◌∙◌, rules}
use Rattle.std.specs.Vec.Iter.{into_iter_items}
use Rattle.std.specs.Prelude.{IfSome}
use Rattle.s7_area.specs.Guards.{IsGuard}
use Rattle.s7_bank.proofs.ListLemmas.{walk_more, walk_left, walk_end}
use Rattle.s7_bank.proofs.DividingLemmas.{moved_none, moved_more, part_of_bank, left_by_bank}
use Rattle.s7_bank.proofs.dividing.take_part.Goals as goal

pub set_guard-requires : goal.set_guard-requires
set_guard-requires c = subst (λ o. IfSome o IsGuard) (sym c.guard.ensures) c.in_ok-numbers.ensures.memory.guard

pub loop-number-init : goal.loop-number-init
loop-number-init c =
    record {
      all = refl;
      left = search rules;
      moved = moved_none _ _ (ap (λ m. m.areas) c.set_guard.ensures ∙ ap (λ m. m.areas) c.new-part.ensures)
          (ap (λ m. m.guard) c.set_guard.ensures ∙ c.guard.ensures);
    }

pub loop-number-preserved : goal.loop-number-preserved
loop-number-preserved c =
    let at = c.loop-number in
    let n = c.in-Some.number in
    let rest = into_iter_items c.next.new.self in
    let steps = c.in-Some.ensures.steps in
    let moved = c.in_ok-move_block.ensures in
    record {
      all = walk_more at.yielded _ rest _ n at.invariant.all steps.0;
      left = walk_left _ rest n _ _ steps.0 steps.1 at.invariant.left;
      moved = moved_more at.yielded n _ _ _ _ _ at.invariant.moved moved.left moved.part moved.guards;
    }

pub returns : goal.returns
returns c =
    let at = c.loop-number in
    let numbers = walk_end at.yielded _ _ at.invariant.all (sym at.invariant.left ∙ c.in-None.ensures.steps.0)
    ∙ c.into_iter-number-iterator.ensures.into_iter_gives.0 ∙ c.in_ok-numbers.ensures.numbers in
    record {
      part = part_of_bank _ _ _ _ _ at.yielded c.requires.bank numbers at.invariant.moved c.db_numbers-taken.ensures.memory;
      left = left_by_bank _ _ _ _ _ at.yielded c.requires.bank numbers at.invariant.moved;
    }
