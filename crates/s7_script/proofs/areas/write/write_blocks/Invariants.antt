use Rattle.std.proofs.Common.{◌≡◌, ◌++◌, map}
use Rattle.std.specs.List.{AllByRecursion, flat_map}
use Rattle.std.specs.Map.{keys_of}
use Rattle.s7_area.specs.Registers.{db_numbers}
use Rattle.s7_script.specs.Spelling.{IsInRange, part, block}
use Rattle.s7_script.proofs.areas.write.write_blocks.Given as goal

abbrev pub invariant-loop-number : goal.invariant-loop-number
invariant-loop-number l = record {
  text : l.text.items ++ flat_map (part l.areas) (map block l.number-iterator) ≡ l.fn.text.items ++ flat_map (part l.areas) (map block (db_numbers (keys_of l.areas.areas)));
  octets : AllByRecursion (IsInRange l.areas) (map block l.number-iterator) → AllByRecursion (IsInRange l.areas) (map block (db_numbers (keys_of l.areas.areas)));
}
