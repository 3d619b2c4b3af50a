use Rattle.std.proofs.Common.{◌≡◌, ◌++◌, map, drop}
use Rattle.std.specs.List.{AllByRecursion, flat_map}
use Rattle.s7_script.specs.Spelling.{IsInRange, part, single}
use Rattle.s7_script.proofs.areas.write.write_singles.Given as goal

abbrev pub invariant-loop-area : goal.invariant-loop-area
invariant-loop-area l = record {
  text : l.text.items ++ flat_map (part l.areas) (map single (drop l.area-index l.codes)) ≡ l.fn.text.items ++ flat_map (part l.areas) (map single l.codes);
  octets : AllByRecursion (IsInRange l.areas) (map single (drop l.area-index l.codes)) → AllByRecursion (IsInRange l.areas) (map single l.codes);
}
