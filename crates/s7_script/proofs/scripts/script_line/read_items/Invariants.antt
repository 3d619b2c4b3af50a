use Rattle.std.proofs.Common.{◌≡◌, option_map}
use Rattle.s7_script.specs.Script.{parts, read_items}
use Rattle.s7_script.specs.ScriptShown.{appended, parts_left}
use Rattle.s7_script.proofs.PartLemmas.{text_left}
use Rattle.s7_script.proofs.scripts.script_line.read_items.Given as goal

abbrev pub invariant-loop-rest : goal.invariant-loop-rest
invariant-loop-rest l = appended l.items.items (read_items (parts_left (option_map (λ t. t.now) l.rest))) ≡ read_items (parts l.text)

abbrev pub decreases-loop-rest : goal.decreases-loop-rest
decreases-loop-rest l = text_left (option_map (λ t. t.now) l.rest)
