use Rattle.std.proofs.Common.{◌∙◌, ap, sym, subst, eqb-true, length, Ok, option_map}
use Rattle.std.proofs.lemmas.Result.{err_from_is_err_and}
use Rattle.s7_text.specs.Lines.{lines}
use Rattle.s7_text.proofs.LineLemmas.{no_lines}
use Rattle.s7_script.specs.Script.{LineFails}
use Rattle.s7_script.specs.Tagged.{script_lines}
use Rattle.s7_script.specs.ScriptShown.{appended}
use Rattle.s7_script.proofs.ScriptLemmas.{lines-ended, lines-fail, lines-step}
use Rattle.s7_script.proofs.scripts.reading.read_lines.Goals as goal

pub returns-in_err-take_line : goal.returns-in_err-take_line
returns-in_err-take_line c =
    let e = c.in_err-take_line.field-0.0 in
    let tags = option_map (λ t. t.now) c.args.tags in
    let found = c.loop-rest.found.items in
    let line = c.loop-rest.line in
    let p = err_from_is_err_and c.from_residual.result c.from_residual.ensures.1 in
    let given = lines-fail tags found line c.first_line.result.0.now (lines c.first_line.result.1.now) e c.in_err-take_line.ensures.err in
    let whole = ap (λ ls. appended found (script_lines tags line ls)) (sym c.first_line.ensures.line) ∙ c.loop-rest.invariant in
    rw (p.1, p.2) (subst (λ r. LineFails e e.kind r) whole given)

pub loop-rest-preserved : goal.loop-rest-preserved
loop-rest-preserved c =
    let tags = option_map (λ t. t.now) c.args.tags in
    let found = c.loop-rest.found.items in
    let line = c.loop-rest.line in
    ap (λ n. appended c.take_line.new.found.items (script_lines tags n (lines c.first_line.result.1.now))) c.saturating_add-line.ensures
    ∙ sym (lines-step tags found c.take_line.new.found.items line c.first_line.result.0.now (lines c.first_line.result.1.now) c.in_ok-take_line.ensures.ok)
    ∙ ap (λ ls. appended found (script_lines tags line ls)) (sym c.first_line.ensures.line) ∙ c.loop-rest.invariant

pub returns : goal.returns
returns c =
    let tags = option_map (λ t. t.now) c.args.tags in
    let found = c.loop-rest.found.items in
    let empty = eqb-true (length c.loop-rest.rest.now) 0 (sym c.loop-rest-test.ensures) in
    sym c.loop-rest.invariant ∙ ap (λ ls. appended found (script_lines tags c.loop-rest.line ls)) (no_lines c.loop-rest.rest.now empty)
    ∙ lines-ended tags found c.loop-rest.line ∙ ap Ok (sym c.of_vec.ensures)
