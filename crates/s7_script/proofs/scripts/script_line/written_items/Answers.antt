use Rattle.std.proofs.Common.{◌∙◌, ◌++◌, ◌∷◌, [], ap, sym, subst, option_map}
use Rattle.std.proofs.lemmas.Result.{err_from_is_err_and}
use Rattle.s7_script.specs.Script.{FailsAs, written_items}
use Rattle.s7_script.specs.ScriptShown.{all_written, parts_left, written_after, written_of}
use Rattle.s7_script.proofs.ScriptLemmas.{written-ended, written-fail, written-step}
use Rattle.s7_script.proofs.scripts.script_line.written_items.Goals as goal

pub returns-in_err-first : goal.returns-in_err-first
returns-in_err-first c =
    let e = c.in_err-first.field-0.0 in
    let w = all_written c.loop-rest.written in
    let p = err_from_is_err_and c.from_residual.result c.from_residual.ensures.1 in
    let left = ap (λ r. parts_left (option_map (λ t. t.now) r)) c.in-Some.is ∙ c.split_part.ensures.parts in
    let given = written-fail w c.split_part.result.0.now (parts_left (option_map (λ t. t.now) c.split_part.result.1)) e c.in_err-first.ensures in
    let whole = ap (λ ps. written_after w (written_items ps)) (sym left) ∙ c.loop-rest.invariant in
    rw (p.1, p.2) (subst (λ r. FailsAs e r) whole given)

pub loop-rest-preserved : goal.loop-rest-preserved
loop-rest-preserved c =
    let w = all_written c.loop-rest.written in
    let rest = parts_left (option_map (λ t. t.now) c.split_part.result.1) in
    let left = ap (λ r. parts_left (option_map (λ t. t.now) r)) c.in-Some.is ∙ c.split_part.ensures.parts in
    ap (λ items. written_after (items, c.add.new.self.octets.items) (written_items rest)) c.in_ok-add.ensures.items
    ∙ ap (λ octets. written_after (w.0 ++ c.in_ok-first.first.item ∷ [], octets) (written_items rest)) c.in_ok-add.ensures.octets
    ∙ sym (written-step w c.split_part.result.0.now rest (written_of c.in_ok-first.first) c.in_ok-first.ensures)
    ∙ ap (λ ps. written_after w (written_items ps)) (sym left) ∙ c.loop-rest.invariant

pub returns : goal.returns
returns c =
    let w = all_written c.loop-rest.written in
    sym c.loop-rest.invariant
    ∙ ap (λ r. written_after w (written_items (parts_left (option_map (λ t. t.now) r)))) c.in_default.is
    ∙ written-ended w
