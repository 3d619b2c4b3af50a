use Rattle.std.proofs.Common.{None, Some}
use Rattle.std.specs.Prelude.{replicate}
use Rattle.s7_dialogue.specs.DataPlaces.{part_count}
use Rattle.s7_dialogue.proofs.DataReadLemmas.{told_part}
use Rattle.s7_dialogue.proofs.transfers.data_block.read_part.Goals as goal

pub returns-in-None : goal.returns-in-None
returns-in-None c = λ so_far.
    told_part c.args.block.now c.args.place c.args.params.now c.args.body.now so_far None c.read_octets.result c.in-None.is
    (c.read_octets.ensures so_far)

pub returns-in-Some : goal.returns-in-Some
returns-in-Some c = λ so_far.
    let count = part_count c.args.block.now c.args.place in
    told_part c.args.block.now c.args.place c.args.params.now c.args.body.now so_far (Some c.in-Some.field-0)
    c.read_code.result c.in-Some.is (c.read_code.ensures so_far (replicate count c.in-Some.field-0))
