use Rattle.std.proofs.Common.{◌≡◌, ◌++◌, Some, sym, arith}
use Rattle.std.proofs.lemmas.Grind.{common_steps}
use Rattle.s7_plant.specs.Answers.{image_in}
use Rattle.s7_plant.specs.State.{state_of}
use Rattle.s7_plant.proofs.BlockSayLemmas.{front_of}
use Rattle.s7_plant.proofs.blocks.say_info.Goals as goal

pub returns-in-Some-clause-said : goal.returns-in-Some-clause-said
returns-in-Some-clause-said c =
    let front = front_of c.in-Some.image.head c.in-Some.image.rest.now (omega arith) in
    let is : image_in (state_of c.args.plant.now) c.args.kind c.args.number ≡ Some (c.in-Some.image.head ++ c.in-Some.image.rest.now) = sym c.in-Some.ensures in
    rw is (grind (arith, common_steps, front))
