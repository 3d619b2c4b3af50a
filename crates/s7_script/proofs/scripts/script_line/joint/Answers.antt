use Rattle.std.proofs.Common.{◌≡◌, ◌∙◌, ◌+◌, ap, sym, arith, suc, take, drop}
use Rattle.std.specs.Prelude.{codes}
use Rattle.std.specs.Str.{bytes_eq}
use Rattle.s7_script.specs.Script.{parts}
use Rattle.s7_script.proofs.PartLemmas.{begun, parts-begun, parts-ended, parts-found, parts-step}
use Rattle.s7_script.proofs.scripts.script_line.joint.Goals as goal

pub loop-k-init : goal.loop-k-init
loop-k-init c = parts-begun c.args.text.now

pub returns-then-begins_joint-clause-found : goal.returns-then-begins_joint-clause-found
returns-then-begins_joint-clause-found c =
    let found = ap (λ t. bytes_eq (codes " ; ") (take 3 t)) (sym c.from_place.ensures) ∙ sym c.begins_joint.ensures.value ∙ c.if-begins_joint.true in
    c.loop-k.invariant ∙ parts-found c.args.text.now c.loop-k.k found

pub loop-k-preserved : goal.loop-k-preserved
loop-k-preserved c =
    let text = c.args.text.now in
    let next : suc c.loop-k.k ≡ c.loop-k.k + 1 = omega arith in
    let differs = ap (λ t. bytes_eq (codes " ; ") (take 3 t)) (sym c.from_place.ensures) ∙ sym c.begins_joint.ensures.value ∙ c.if-begins_joint.false in
    c.loop-k.invariant ∙ parts-step text c.loop-k.k c.loop-k-test.true differs ∙ ap (λ n. begun (take n text) (parts (drop n text))) next

pub returns-clause-none : goal.returns-clause-none
returns-clause-none c = c.loop-k.invariant ∙ parts-ended c.args.text.now c.loop-k.k c.loop-k-test.false
