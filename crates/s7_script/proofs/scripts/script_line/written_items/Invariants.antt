use Rattle.std.proofs.Common.{◌≡◌, option_map}
use Rattle.s7_script.specs.Script.{parts, written_items}
use Rattle.s7_script.specs.ScriptShown.{all_written, parts_left, written_after}
use Rattle.s7_script.proofs.PartLemmas.{text_left}
use Rattle.s7_script.proofs.scripts.script_line.written_items.Given as goal

abbrev pub invariant-loop-rest : goal.invariant-loop-rest
invariant-loop-rest l = written_after (all_written l.written) (written_items (parts_left (option_map (λ t. t.now) l.rest))) ≡ written_items (parts l.text)

abbrev pub decreases-loop-rest : goal.decreases-loop-rest
decreases-loop-rest l = text_left (option_map (λ t. t.now) l.rest)
