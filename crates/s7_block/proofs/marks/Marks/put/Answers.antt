use Rattle.std.proofs.Common.{Some, sym, subst, arith}
use Rattle.s7_block.specs.Marks.{MarkList}
use Rattle.s7_block.specs.StorePlaces.{IsAt, IsGapFor}
use Rattle.s7_block.proofs.MarkLemmas.{marks-set, marks-joined, list-set, list-insert, no_mark}
use Rattle.s7_block.proofs.marks.Marks.put.Goals as goal

pub invariant_of-self : goal.invariant_of-self
invariant_of-self c =
    let is = subst (λ (m : MarkList). IsAt m.marks c.args.name c.in-Ok.at) (sym c.self.view_is) c.in-Ok.ensures.found in
    (list-set c.self.inside.marks.items c.self.inside.limit c.self.invariant.0 c.args.name c.in-Ok.at is (Some c.args.number), c.self.invariant.1)

pub invariant_of-self-in-Ok-insert : goal.invariant_of-self-in-Ok-insert
invariant_of-self-in-Ok-insert c =
    let gap = subst (λ (m : MarkList). IsGapFor m.marks c.args.name c.in-Err.at) (sym c.self.view_is) c.in-Err.ensures.absent in
    let room = (rw (← c.self.view_is) at c.requires) (no_mark c.self.inside.marks.items c.self.inside.limit c.self.invariant.0 c.args.name c.in-Err.at gap) in
    rw c.in-Ok-insert.ensures.items
    (list-insert c.self.inside.marks.items c.self.inside.limit c.self.invariant.0 c.args.name c.in-Err.at gap (Some c.args.number) room, omega (arith, c.in-Ok-insert.ensures.capacity, c.self.invariant.1))

pub unreachable-requires : goal.unreachable-requires
unreachable-requires c =
    let gap = subst (λ (m : MarkList). IsGapFor m.marks c.args.name c.in-Err.at) (sym c.self.view_is) c.in-Err.ensures.absent in
    let room = (rw (← c.self.view_is) at c.requires) (no_mark c.self.inside.marks.items c.self.inside.limit c.self.invariant.0 c.args.name c.in-Err.at gap) in
    omega (arith, room, c.in-Err-insert.ensures.full, c.self.invariant.1)

pub returns-in-Ok : goal.returns-in-Ok
returns-in-Ok c =
    let is = subst (λ (m : MarkList). IsAt m.marks c.args.name c.in-Ok.at) (sym c.self.view_is) c.in-Ok.ensures.found in
    let marks = marks-set c.self.inside.marks.items c.self.inside.limit c.self.invariant.0 c.args.name c.in-Ok.at is (Some c.args.number) in
    rw (← c.self.view_is) (λ i. record { marks = marks i; limit = c.self.inside.limit })

pub returns-in-Ok-insert : goal.returns-in-Ok-insert
returns-in-Ok-insert c =
    let gap = subst (λ (m : MarkList). IsGapFor m.marks c.args.name c.in-Err.at) (sym c.self.view_is) c.in-Err.ensures.absent in
    let marks = marks-joined c.self.inside.marks.items c.self.inside.limit c.self.invariant.0 c.args.name c.in-Err.at gap (Some c.args.number) in
    rw (← c.self.view_is, c.in-Ok-insert.ensures.items) (λ i. record { marks = marks i; limit = c.self.inside.limit })
