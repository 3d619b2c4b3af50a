use Rattle.std.proofs.Common.{◌∙◌, ap}
use Rattle.std.proofs.lemmas.List.{take_all}
use Rattle.s7_plant.specs.Images.{sourced}
use Rattle.s7_plant.proofs.RebuildLemmas.{no_source, one_joined}
use Rattle.s7_plant.proofs.images.blocks_from.Goals as goal

pub unreachable-requires : goal.unreachable-requires
unreachable-requires c =
    no_source c.args.opening.now.images c.args.entries.now c.args.sources.now c.as_slice-mark-items.result.now c.loop-mark.mark-index _ c.as_slice-mark-items.ensures.marks c.loop-mark-test.true c.requires.there c.in_default.ensures.image

pub loop-mark-preserved : goal.loop-mark-preserved
loop-mark-preserved c =
    let both = one_joined c.args.opening.now.images c.args.entries.now c.args.sources.now c.as_slice-mark-items.result.now c.loop-mark.mark-index _ c.loop-mark.blocks c.insert.new.self c.in-Some.image.now c.in_ok-image.image c.args.opening.now.limit c.as_slice-mark-items.ensures.marks c.as_slice-mark-items.ensures.list c.requires.limit c.loop-mark.invariant.limit c.loop-mark-test.true c.loop-mark.invariant.images c.in-Some.ensures.image c.in-Some.ensures.kind c.in-Some.ensures.head c.in_ok-image.ensures c.insert.ensures.joined in
    record { images = both.0; limit = both.1 }

pub returns : goal.returns
returns c = record {
  images = c.loop-mark.invariant.images ∙ ap (sourced c.args.opening.now.images c.args.entries.now) (take_all c.loop-mark.mark-index c.as_slice-mark-items.result.now c.loop-mark-test.false ∙ c.as_slice-mark-items.ensures.marks);
  limit = c.loop-mark.invariant.limit;
}
