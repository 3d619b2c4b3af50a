use Rattle.std.proofs.Common.{◌^◌, ◌<◌, ap, arith}
use Rattle.std.specs.Option.{ok_or}
use Rattle.std.proofs.lemmas.Grind.{common_steps}
use Rattle.std.proofs.lemmas.List.Elements.{All-push}
use Rattle.s7_item.specs.declared.item.Item.{Item}
use Rattle.s7_item.specs.declared.params.ItemFault.TheVariants.{Spec}
use Rattle.s7_item.proofs.ItemLemmas.{items_in-step, items_in-ends}
use Rattle.s7_item.proofs.params.read_each.Goals as goal

pub returns-in-None-clause-read : goal.returns-in-None-clause-read
returns-in-None-clause-read c =
    let ends = items_in-ends _ _ _ _ _ _ c.loop-k-test.true c.loop-k.invariant.so_far c.read.ensures.item c.in-None.is in
    (ap (λ o. ok_or o Spec) ends, c.clear.ensures)

pub loop-k-preserved : goal.loop-k-preserved
loop-k-preserved c = record {
  so_far = items_in-step _ _ _ _ _ _ _ _ c.loop-k-test.true c.loop-k.invariant.so_far c.read.ensures.item c.in-Some.is c.push.ensures;
  many = grind (arith, common_steps);
  addresses =
      rw c.push.ensures (All-push (λ (item : Item). item.address < 2 ^ 24) c.loop-k.into c.in-Some.item c.loop-k.invariant.addresses c.in-Some.ensures.address);
}
