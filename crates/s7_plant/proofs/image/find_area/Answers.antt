use Rattle.std.proofs.Common.{sym, arith}
use Rattle.s7_plant.proofs.BlockImageLemmas.{area_few}
use Rattle.s7_plant.proofs.image.find_area.Goals as goal

pub overflow_cast-rest : goal.overflow_cast-rest
overflow_cast-rest c =
    let few = area_few c.args.areas.now _ c.in-Some.rest.now c.db_numbers-numbers.ensures.memory (sym c.in-Some.ensures) in
    omega (arith, few)

pub db_head-requires : goal.db_head-requires
db_head-requires c =
    let few = area_few c.args.areas.now _ c.in-Some.rest.now c.db_numbers-numbers.ensures.memory (sym c.in-Some.ensures) in
    omega (arith, few)
