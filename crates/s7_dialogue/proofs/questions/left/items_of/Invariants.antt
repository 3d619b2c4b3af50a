use Rattle.std.proofs.Common.{◌≡◌, take}
use Rattle.s7_dialogue.proofs.questions.left.items_of.Given as goal

-- the items so far are those of the slice
abbrev pub invariant-loop-item : goal.invariant-loop-item
invariant-loop-item l = l.items ≡ take l.item-index l.slice
