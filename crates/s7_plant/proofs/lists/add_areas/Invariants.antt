use Rattle.std.proofs.Common.{◌≡◌, ◌+◌, ◌*◌, ◌≤◌, ◌++◌, length}
use Rattle.std.specs.List.{flat_map}
use Rattle.std.specs.Map.{keys_of}
use Rattle.s7_area.specs.Registers.{db_numbers}
use Rattle.s7_plant.specs.Answers.{db_kind, list_entry}
use Rattle.s7_plant.specs.State.{state_of}
use Rattle.s7_plant.proofs.lists.add_areas.Given as goal

-- the data blocks so far, and those to come, are all
abbrev pub invariant-loop-number : goal.invariant-loop-number
invariant-loop-number l = record {
  octets : l.body.octets ++ flat_map (list_entry (state_of l.plant) db_kind) l.number-iterator ≡ l.fn.body.octets ++ flat_map (list_entry (state_of l.plant) db_kind) (db_numbers (keys_of l.plant.areas.areas));
  most : length l.body.octets + 4 * length l.number-iterator ≤ length l.fn.body.octets + 8192;
  same : l.body.room ≡ l.fn.body.room;
}
