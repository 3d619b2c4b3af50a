use Rattle.std.proofs.Common.{◌≡◌, take, drop}
use Rattle.s7_script.specs.Script.{parts}
use Rattle.s7_script.proofs.PartLemmas.{begun}
use Rattle.s7_script.proofs.scripts.script_line.joint.Given as goal

abbrev pub invariant-loop-k : goal.invariant-loop-k
invariant-loop-k l = parts l.text ≡ begun (take l.k l.text) (parts (drop l.k l.text))
