use Rattle.std.proofs.Common.{ℕ, Option, rules, ap, length}
use Rattle.std.proofs.lemmas.List.Sorted.{answers_always}
use Rattle.s7_block.specs.declared.block.BlockName.{BlockName}
use Rattle.s7_block.proofs.MarkLemmas.{searched_marks}
use Rattle.s7_block.proofs.marks.Marks.search.Goals as goal

-- the closure gives a mark's name, and the slice is the vector's marks
pub returns : goal.returns
returns c =
    let facts = c.binary_search_by_key.ensures in
    let by_name = facts.position (λ (m : BlockName × Option ℕ). m.0) (answers_always _ _ _ (λ f a r g called. search rules)) in
    let both = searched_marks c.self.inside.marks.items c.self.invariant.0.ordered c.args.name _ (rw (ap length c.deref.ensures.value) at facts.bound) (rw c.deref.ensures.value at by_name) in
    rw (← c.self.view_is) (record { found = both.0; absent = both.1 })
