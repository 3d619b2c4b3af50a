use Rattle.std.proofs.Common.{◌≡◌, IfOk, refl, subst}
use Rattle.s7_plant.specs.Images.{kept_state}
use Rattle.s7_plant.specs.State.{State, state_of}
use Rattle.s7_plant.proofs.KeptImageLemmas.{kept_at, made_of}
use Rattle.s7_plant.proofs.RebuildLemmas.{each_there}
use Rattle.s7_plant.proofs.images.Images.newest.Goals as goal

pub blocks_from-requires-clause-there : goal.blocks_from-requires-clause-there
blocks_from-requires-clause-there c =
    let is = kept_at (state_of c.args.opening.now) c.args.journal.now c.args.self.now c.args.n _ c.index-kept.result.now c.requires.kept c.requires.within refl c.if-place-eq0.false c.index-kept.ensures in
    rw c.as_slice-entries.ensures.entries (each_there c.args.opening.now.blocks.images c.args.journal.now.entries c.index-kept.result.now.sources.marks _ is.sources.images)

pub returns : goal.returns
returns c =
    let is = kept_at (state_of c.args.opening.now) c.args.journal.now c.args.self.now c.args.n _ c.index-kept.result.now c.requires.kept c.requires.within refl c.if-place-eq0.false c.index-kept.ensures in
    let made = made_of (state_of c.args.opening.now) c.args.journal.now.entries _ c.index-kept.result.now c.in_ok-blocks.blocks (kept_state c.index-kept.result.now c.in_ok-blocks.blocks) is refl (rw c.as_slice-entries.ensures.entries at c.in_ok-blocks.ensures.images) c.in_ok-blocks.ensures.limit in
    subst (λ (s : State). IfOk c.with_blocks.result (λ plant. state_of plant ≡ s)) made c.with_blocks.ensures
