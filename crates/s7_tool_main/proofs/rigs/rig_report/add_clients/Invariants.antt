use Rattle.std.proofs.Common.{◌≡◌, ◌++◌, All, Vec, Global, map}
use Rattle.std.specs.Iterator.Adapters.{zip_first, zip_second}
use Rattle.std.specs.Slice.Iter.{iter_rest}
use Rattle.s7_rig.specs.Shown.{client_told}
use Rattle.s7_tool_main.specs.declared.head.Head.{Head}
use Rattle.s7_tool_main.specs.RigText.{ArePrintable, clients_text}
use Rattle.s7_tool_main.proofs.rigs.rig_report.add_clients.Given as goal

abbrev pub invariant-loop-lines : goal.invariant-loop-lines
invariant-loop-lines l = record {
  text : l.text.items ++ clients_text (map (λ (v : Vec Head Global). v.items) (iter_rest (zip_first l.lines-iterator))) (map client_told (iter_rest (zip_second l.lines-iterator)))
      ≡ l.initial.text.items ++ clients_text (map (λ (v : Vec Head Global). v.items) (iter_rest (zip_first l.initial.lines-iterator))) (map client_told (iter_rest (zip_second l.initial.lines-iterator)));
  printable : All ArePrintable (map client_told (iter_rest (zip_second l.lines-iterator)));
}
