use Rattle.std.proofs.Common.{sym, subst}
use Rattle.s7_block.specs.Store.{Store}
use Rattle.s7_block.specs.StoreView.{images_of}
use Rattle.s7_block.specs.StorePlaces.{IsAt, IsGapFor}
use Rattle.s7_block.proofs.StoreLemmas.{block_there, stored_there, none_there, block_absent}
use Rattle.s7_block.proofs.blocks.Blocks.get.Goals as goal

pub returns-in-Ok-clause-block : goal.returns-in-Ok-clause-block
returns-in-Ok-clause-block c =
    let is = subst (λ (s : Store). IsAt s.images (record { kind = c.args.kind; number = c.args.number }) c.in-Ok.at) (sym c.self.view_is) c.in-Ok.ensures.found in
    rw (← c.self.view_is) (block_there c.self.inside.blocks.items c.self.inside.limit c.self.invariant.0 c.args.kind c.args.number c.in-Ok.at is c.index.result.now c.index.ensures)

pub returns-in-Ok-clause-kind : goal.returns-in-Ok-clause-kind
returns-in-Ok-clause-kind c =
    let is = subst (λ (s : Store). IsAt s.images (record { kind = c.args.kind; number = c.args.number }) c.in-Ok.at) (sym c.self.view_is) c.in-Ok.ensures.found in
    (stored_there c.self.inside.blocks.items c.self.inside.limit c.self.invariant.0 c.args.kind c.args.number c.in-Ok.at is c.index.result.now c.index.ensures).kind

pub returns-in-Ok-clause-head : goal.returns-in-Ok-clause-head
returns-in-Ok-clause-head c =
    let is = subst (λ (s : Store). IsAt s.images (record { kind = c.args.kind; number = c.args.number }) c.in-Ok.at) (sym c.self.view_is) c.in-Ok.ensures.found in
    (stored_there c.self.inside.blocks.items c.self.inside.limit c.self.invariant.0 c.args.kind c.args.number c.in-Ok.at is c.index.result.now c.index.ensures).head

pub returns-in-Err-clause-block : goal.returns-in-Err-clause-block
returns-in-Err-clause-block c =
    let gap = subst (λ (s : Store). IsGapFor s.images (record { kind = c.args.kind; number = c.args.number }) c.in-Err.field-0) (sym c.self.view_is) c.in-Err.ensures.absent in
    let none = none_there c.self.inside.blocks.items c.self.inside.limit c.self.invariant.0 c.args.kind c.args.number c.in-Err.field-0 gap in
    rw (← c.self.view_is) (block_absent (record { images = images_of c.self.inside.blocks.items; limit = c.self.inside.limit }) c.args.kind c.args.number none).0
