use Rattle.std.proofs.Common.{sym, subst, refl, arith}
use Rattle.s7_block.specs.Store.{Store, name_of}
use Rattle.s7_block.specs.StoreView.{images_of}
use Rattle.s7_block.specs.StorePlaces.{IsAt, IsGapFor}
use Rattle.s7_block.proofs.StoreLemmas.{block_there, none_there, block_absent, store-set, store-insert, some_room, images-set, images-joined}
use Rattle.s7_block.proofs.blocks.Blocks.put.Goals as goal

pub invariant_of-self : goal.invariant_of-self
invariant_of-self c =
    let is = subst (λ (s : Store). IsAt s.images (name_of c.args.block) c.in-Ok.at) (sym c.self.view_is) (rw c.name.ensures at c.in-Ok.ensures.found) in
    let none = rw (← c.self.view_is) at c.requires in
    rw c.replace.ensures.after
    (store-set c.self.inside.blocks.items c.self.inside.limit c.self.invariant.0 c.in-Ok.at c.args.block none is, c.self.invariant.1)

pub unreachable-requires : goal.unreachable-requires
unreachable-requires c =
    let gap = subst (λ (s : Store). IsGapFor s.images (name_of c.args.block) c.in-Err.at) (sym c.self.view_is) (rw c.name.ensures at c.in-Err.ensures.absent) in
    let none = rw (← c.self.view_is) at c.requires in
    let room = some_room c.self.inside.blocks.items c.self.inside.limit c.self.invariant.0 c.in-Err.at c.args.block none gap in
    omega (arith, room, c.in-Err-insert.ensures.full, c.self.invariant.1)

pub invariant_of-self-in-Err : goal.invariant_of-self-in-Err
invariant_of-self-in-Err c =
    let gap = subst (λ (s : Store). IsGapFor s.images (name_of c.args.block) c.in-Err.at) (sym c.self.view_is) (rw c.name.ensures at c.in-Err.ensures.absent) in
    let none = rw (← c.self.view_is) at c.requires in
    rw c.in-Ok-insert.ensures.items
    (store-insert c.self.inside.blocks.items c.self.inside.limit c.self.invariant.0 c.in-Err.at c.args.block none gap, omega (arith, c.in-Ok-insert.ensures.capacity, c.self.invariant.1))

pub returns-in-Ok-clause-replaced : goal.returns-in-Ok-clause-replaced
returns-in-Ok-clause-replaced c =
    let is = subst (λ (s : Store). IsAt s.images (name_of c.args.block) c.in-Ok.at) (sym c.self.view_is) (rw c.name.ensures at c.in-Ok.ensures.found) in
    rw (← c.self.view_is) (block_there c.self.inside.blocks.items c.self.inside.limit c.self.invariant.0 c.args.block.kind c.args.block.number c.in-Ok.at is c.replace.result (rw c.replace.ensures.value c.index_mut.ensures.value))

pub returns-in-Ok-clause-joined : goal.returns-in-Ok-clause-joined
returns-in-Ok-clause-joined c =
    let is = subst (λ (s : Store). IsAt s.images (name_of c.args.block) c.in-Ok.at) (sym c.self.view_is) (rw c.name.ensures at c.in-Ok.ensures.found) in
    let images = images-set c.self.inside.blocks.items c.self.inside.limit c.self.invariant.0 c.args.block.kind c.args.block.number c.in-Ok.at is c.args.block refl in
    rw (← c.self.view_is, c.replace.ensures.after) (λ i. record { images = images i; limit = c.self.inside.limit })

pub returns-in-Ok-insert-clause-replaced : goal.returns-in-Ok-insert-clause-replaced
returns-in-Ok-insert-clause-replaced c =
    let gap = subst (λ (s : Store). IsGapFor s.images (name_of c.args.block) c.in-Err.at) (sym c.self.view_is) (rw c.name.ensures at c.in-Err.ensures.absent) in
    let none = none_there c.self.inside.blocks.items c.self.inside.limit c.self.invariant.0 c.args.block.kind c.args.block.number c.in-Err.at gap in
    rw (← c.self.view_is) (block_absent (record { images = images_of c.self.inside.blocks.items; limit = c.self.inside.limit }) c.args.block.kind c.args.block.number none).0

pub returns-in-Ok-insert-clause-joined : goal.returns-in-Ok-insert-clause-joined
returns-in-Ok-insert-clause-joined c =
    let gap = subst (λ (s : Store). IsGapFor s.images (name_of c.args.block) c.in-Err.at) (sym c.self.view_is) (rw c.name.ensures at c.in-Err.ensures.absent) in
    let images = images-joined c.self.inside.blocks.items c.self.inside.limit c.self.invariant.0 c.args.block.kind c.args.block.number c.in-Err.at gap c.args.block refl in
    rw (← c.self.view_is, c.in-Ok-insert.ensures.items) (λ i. record { images = images i; limit = c.self.inside.limit })
