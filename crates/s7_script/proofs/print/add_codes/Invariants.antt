use Rattle.std.proofs.Common.{◌≡◌, ◌++◌, map, drop}
use Rattle.std.specs.List.{flat_map}
use Rattle.s7_script.specs.Printing.{code_text, spaced}
use Rattle.s7_script.proofs.print.add_codes.Given as goal

abbrev pub invariant-loop-code : goal.invariant-loop-code
invariant-loop-code l =
    l.text.items ++ flat_map spaced (map code_text (drop l.code-index l.codes)) ≡ l.fn.text.items ++ flat_map spaced (map code_text l.codes)
