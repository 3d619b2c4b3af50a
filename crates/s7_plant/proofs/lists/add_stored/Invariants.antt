use Rattle.std.proofs.Common.{◌≡◌, ◌+◌, ◌*◌, ◌≤◌, ◌++◌, length}
use Rattle.std.specs.List.{flat_map}
use Rattle.s7_block.specs.Store.{numbers_of}
use Rattle.s7_plant.specs.Answers.{list_entry}
use Rattle.s7_plant.specs.State.{state_of}
use Rattle.s7_plant.proofs.lists.add_stored.Given as goal

-- the blocks so far, and those to come, are all
abbrev pub invariant-loop-number : goal.invariant-loop-number
invariant-loop-number l = record {
  octets : l.body.octets ++ flat_map (list_entry (state_of l.plant) l.kind) l.number-iterator ≡ l.fn.body.octets ++ flat_map (list_entry (state_of l.plant) l.kind) (numbers_of l.plant.blocks.images l.kind);
  most : length l.body.octets + 4 * length l.number-iterator ≤ length l.fn.body.octets + 8192;
  same : l.body.room ≡ l.fn.body.room;
}
