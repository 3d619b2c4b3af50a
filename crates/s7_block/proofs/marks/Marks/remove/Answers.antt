use Rattle.std.proofs.Common.{sym, subst, arith}
use Rattle.s7_block.specs.Marks.{MarkList}
use Rattle.s7_block.specs.StorePlaces.{IsAt, IsGapFor}
use Rattle.s7_block.proofs.MarkLemmas.{marks-removed, marks-without, list-remove}
use Rattle.s7_block.proofs.marks.Marks.remove.Goals as goal

pub invariant_of-self : goal.invariant_of-self
invariant_of-self c =
    let is = subst (λ (m : MarkList). IsAt m.marks c.args.name c.in-Ok.at) (sym c.self.view_is) c.in-Ok.ensures.found in
    rw c.remove.ensures.items
    (list-remove c.self.inside.marks.items c.self.inside.limit c.self.invariant.0 c.args.name c.in-Ok.at is, omega (arith, c.remove.ensures.capacity, c.self.invariant.1))

pub returns-in-Ok : goal.returns-in-Ok
returns-in-Ok c =
    let is = subst (λ (m : MarkList). IsAt m.marks c.args.name c.in-Ok.at) (sym c.self.view_is) c.in-Ok.ensures.found in
    let marks = marks-removed c.self.inside.marks.items c.self.inside.limit c.self.invariant.0 c.args.name c.in-Ok.at is in
    rw (← c.self.view_is, c.remove.ensures.items) (λ i. record { marks = marks i; limit = c.self.inside.limit })

pub returns-in-Err : goal.returns-in-Err
returns-in-Err c =
    let gap = subst (λ (m : MarkList). IsGapFor m.marks c.args.name c.in-Err.field-0) (sym c.self.view_is) c.in-Err.ensures.absent in
    let marks = marks-without c.self.inside.marks.items c.self.inside.limit c.self.invariant.0 c.args.name c.in-Err.field-0 gap in
    rw (← c.self.view_is) (λ i. record { marks = marks i; limit = c.self.inside.limit })
