use Rattle.std.proofs.Common.{rules, ap, length}
use Rattle.std.proofs.lemmas.List.Sorted.{answers_always}
use Rattle.s7_block.specs.Store.{name_of}
use Rattle.s7_block.proofs.StoreLemmas.{searched}
use Rattle.s7_block.proofs.blocks.Blocks.search.Goals as goal

-- the closure gives a block's name, and the slice is the vector's blocks
pub returns : goal.returns
returns c =
    let facts = c.binary_search_by_key.ensures in
    let by_name = facts.position name_of (answers_always _ _ _ (λ f a r g called. search rules)) in
    let both = searched c.self.inside.blocks.items c.self.invariant.0.ordered c.args.name _ (rw (ap length c.deref.ensures.value) at facts.bound) (rw c.deref.ensures.value at by_name) in
    rw (← c.self.view_is) (record { found = both.0; absent = both.1 })
