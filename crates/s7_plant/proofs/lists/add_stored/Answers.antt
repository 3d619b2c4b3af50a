use Rattle.std.proofs.Common.{◌≡◌, ap, ◌∙◌, length, refl, arith}
use Rattle.s7_block.specs.Store.{numbers_of}
use Rattle.s7_plant.proofs.BlockImageLemmas.{numbers_few}
use Rattle.s7_plant.proofs.lists.add_stored.Goals as goal

pub loop-number-init : goal.loop-number-init
loop-number-init c =
    let few = numbers_few c.args.plant.now.blocks c.args.kind c.numbers_of-number-items.ensures.store in
    let same : c.into_iter-number-iterator.result ≡ numbers_of c.args.plant.now.blocks.images c.args.kind = c.into_iter-number-iterator.ensures.into_iter_gives ∙ c.numbers_of-number-items.ensures.numbers in
    record {
      octets = cc;
      most = omega (arith, few, ap length same);
      same = refl;
    }
