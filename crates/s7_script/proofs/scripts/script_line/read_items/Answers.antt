use Rattle.std.proofs.Common.{◌∙◌, ap, sym, subst, option_map}
use Rattle.std.proofs.lemmas.Result.{err_from_is_err_and}
use Rattle.s7_script.specs.Script.{FailsAs, read_items}
use Rattle.s7_script.specs.ScriptShown.{appended, parts_left}
use Rattle.s7_script.proofs.ScriptLemmas.{items-ended, items-fail, items-step}
use Rattle.s7_script.proofs.scripts.script_line.read_items.Goals as goal

pub returns-in_err-item : goal.returns-in_err-item
returns-in_err-item c =
    let e = c.in_err-item.field-0.0 in
    let items = c.loop-rest.items.items in
    let p = err_from_is_err_and c.from_residual.result c.from_residual.ensures.1 in
    let left = ap (λ r. parts_left (option_map (λ t. t.now) r)) c.in-Some.is ∙ c.split_part.ensures.parts in
    let given = items-fail items c.split_part.result.0.now (parts_left (option_map (λ t. t.now) c.split_part.result.1)) e (sym c.in_err-item.ensures) in
    let whole = ap (λ ps. appended items (read_items ps)) (sym left) ∙ c.loop-rest.invariant in
    rw (p.1, p.2) (subst (λ r. FailsAs e r) whole given)

pub loop-rest-preserved : goal.loop-rest-preserved
loop-rest-preserved c =
    let items = c.loop-rest.items.items in
    let rest = parts_left (option_map (λ t. t.now) c.split_part.result.1) in
    let left = ap (λ r. parts_left (option_map (λ t. t.now) r)) c.in-Some.is ∙ c.split_part.ensures.parts in
    ap (λ all. appended all (read_items rest)) c.in_ok-add_item.ensures.items
    ∙ sym (items-step items c.split_part.result.0.now rest c.in_ok-item.item (sym c.in_ok-item.ensures))
    ∙ ap (λ ps. appended items (read_items ps)) (sym left) ∙ c.loop-rest.invariant

pub returns : goal.returns
returns c =
    let items = c.loop-rest.items.items in
    sym c.loop-rest.invariant
    ∙ ap (λ r. appended items (read_items (parts_left (option_map (λ t. t.now) r)))) c.in_default.is
    ∙ items-ended items
