use Rattle.std.proofs.Common.{◌≡◌, ◌++◌, All}
use Rattle.std.specs.Iterator.Adapters.{zip_first, zip_second}
use Rattle.std.specs.Slice.Iter.{iter_rest}
use Rattle.s7_script.specs.Printing.{IsPrintable}
use Rattle.s7_tool_main.specs.RigText.{results_text}
use Rattle.s7_tool_main.proofs.rigs.rig_report.add_results.Given as goal

abbrev pub invariant-loop-head : goal.invariant-loop-head
invariant-loop-head l = record {
  text : l.text.items ++ results_text l.link (iter_rest (zip_first l.head-iterator)) (iter_rest (zip_second l.head-iterator))
      ≡ l.initial.text.items ++ results_text l.link (iter_rest (zip_first l.initial.head-iterator)) (iter_rest (zip_second l.initial.head-iterator));
  printable : All IsPrintable (iter_rest (zip_second l.head-iterator));
}
