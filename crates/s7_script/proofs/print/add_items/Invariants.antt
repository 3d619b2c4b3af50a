use Rattle.std.proofs.Common.{◌≡◌, ◌++◌, drop, length}
use Rattle.std.specs.List.{flat_map}
use Rattle.s7_client.specs.Form.{octets_read}
use Rattle.s7_script.specs.Printing.{read_values, spaced}
use Rattle.s7_script.proofs.print.add_items.Given as goal

abbrev pub invariant-loop-k : goal.invariant-loop-k
invariant-loop-k l = record {
  text : l.text.items ++ flat_map spaced (read_values (drop l.k l.items) (drop l.k l.codes) l.rest) ≡ l.fn.text.items ++ flat_map spaced (read_values l.items l.codes l.octets);
  octets : length l.rest ≡ octets_read (drop l.k l.items) (drop l.k l.codes);
}
