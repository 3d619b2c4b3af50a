use Rattle.std.proofs.Common.{sym, subst, arith}
use Rattle.s7_block.specs.Store.{Store}
use Rattle.s7_block.specs.StoreView.{images_of}
use Rattle.s7_block.specs.StorePlaces.{IsAt, IsGapFor}
use Rattle.s7_block.proofs.StoreLemmas.{block_there, none_there, block_absent, store-remove, images-removed}
use Rattle.s7_block.proofs.blocks.Blocks.delete.Goals as goal

pub invariant_of-self : goal.invariant_of-self
invariant_of-self c =
    let is = subst (λ (s : Store). IsAt s.images (record { kind = c.args.kind; number = c.args.number }) c.in-Ok.at) (sym c.self.view_is) c.in-Ok.ensures.found in
    rw c.remove.ensures.items
    (store-remove c.self.inside.blocks.items c.self.inside.limit c.self.invariant.0 c.in-Ok.at c.args.kind c.args.number is, omega (arith, c.remove.ensures.capacity, c.self.invariant.1))

pub returns-in-Ok-clause-block : goal.returns-in-Ok-clause-block
returns-in-Ok-clause-block c =
    let is = subst (λ (s : Store). IsAt s.images (record { kind = c.args.kind; number = c.args.number }) c.in-Ok.at) (sym c.self.view_is) c.in-Ok.ensures.found in
    rw (← c.self.view_is) (block_there c.self.inside.blocks.items c.self.inside.limit c.self.invariant.0 c.args.kind c.args.number c.in-Ok.at is c.remove.result c.remove.ensures.value)

pub returns-in-Ok-clause-others : goal.returns-in-Ok-clause-others
returns-in-Ok-clause-others c =
    let is = subst (λ (s : Store). IsAt s.images (record { kind = c.args.kind; number = c.args.number }) c.in-Ok.at) (sym c.self.view_is) c.in-Ok.ensures.found in
    let images = images-removed c.self.inside.blocks.items c.self.inside.limit c.self.invariant.0 c.args.kind c.args.number c.in-Ok.at is in
    rw (← c.self.view_is, c.remove.ensures.items) (λ i. record { images = images i; limit = c.self.inside.limit })

pub returns-in-Err-clause-block : goal.returns-in-Err-clause-block
returns-in-Err-clause-block c =
    let gap = subst (λ (s : Store). IsGapFor s.images (record { kind = c.args.kind; number = c.args.number }) c.in-Err.field-0) (sym c.self.view_is) c.in-Err.ensures.absent in
    let none = none_there c.self.inside.blocks.items c.self.inside.limit c.self.invariant.0 c.args.kind c.args.number c.in-Err.field-0 gap in
    rw (← c.self.view_is) (block_absent (record { images = images_of c.self.inside.blocks.items; limit = c.self.inside.limit }) c.args.kind c.args.number none).0

pub returns-in-Err-clause-others : goal.returns-in-Err-clause-others
returns-in-Err-clause-others c =
    let gap = subst (λ (s : Store). IsGapFor s.images (record { kind = c.args.kind; number = c.args.number }) c.in-Err.field-0) (sym c.self.view_is) c.in-Err.ensures.absent in
    let none = none_there c.self.inside.blocks.items c.self.inside.limit c.self.invariant.0 c.args.kind c.args.number c.in-Err.field-0 gap in
    rw (← c.self.view_is) (block_absent (record { images = images_of c.self.inside.blocks.items; limit = c.self.inside.limit }) c.args.kind c.args.number none).1
