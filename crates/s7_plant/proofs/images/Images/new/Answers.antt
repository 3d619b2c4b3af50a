use Rattle.std.proofs.Common.{refl, arith}
use Rattle.s7_plant.proofs.images.Images.new.Goals as goal
use Rattle.s7_plant.specs.State.{state_of}
use Rattle.s7_plant.proofs.KeptImageLemmas.{kept_none}

pub returns : goal.returns
returns c = kept_none (state_of c.args.opening.now) c.args.limit _ refl c.len-blocks.ensures.store c.in_ok-of-2.ensures.marks c.in_ok-of-2.ensures.limit (omega arith) c.loop.invariant.fits c.requires
