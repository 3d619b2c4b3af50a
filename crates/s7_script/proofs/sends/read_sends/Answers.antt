use Rattle.std.proofs.Common.{◌∙◌, ap, sym, subst, eqb-true, length, Ok}
use Rattle.std.proofs.lemmas.Result.{err_from_is_err_and}
use Rattle.std.specs.List.{All}
use Rattle.s7_text.specs.Lines.{lines}
use Rattle.s7_script.specs.Script.{LineFails}
use Rattle.s7_script.specs.Sends.{IsSized, send_lines}
use Rattle.s7_script.specs.ScriptShown.{appended}
use Rattle.s7_text.proofs.LineLemmas.{no_lines}
use Rattle.s7_script.proofs.SendLemmas.{sends-ended, sends-fail, sends-step, sends_sized}
use Rattle.s7_script.proofs.sends.read_sends.Goals as goal

pub returns-in_err-take_line-clause-given : goal.returns-in_err-take_line-clause-given
returns-in_err-take_line-clause-given c =
    let e = c.in_err-take_line.field-0.0 in
    let found = c.loop-rest.found.items in
    let line = c.loop-rest.line in
    let p = err_from_is_err_and c.from_residual.result c.from_residual.ensures.1 in
    let given = sends-fail found line c.first_line.result.0.now (lines c.first_line.result.1.now) e c.in_err-take_line.ensures.err in
    let whole = ap (λ ls. appended found (send_lines line ls)) (sym c.first_line.ensures.line) ∙ c.loop-rest.invariant in
    rw (p.1, p.2) (subst (λ r. LineFails e e.kind r) whole given)

pub loop-rest-preserved : goal.loop-rest-preserved
loop-rest-preserved c =
    let found = c.loop-rest.found.items in
    let line = c.loop-rest.line in
    ap (λ n. appended c.take_line.new.found.items (send_lines n (lines c.first_line.result.1.now))) c.saturating_add-line.ensures
    ∙ sym (sends-step found c.take_line.new.found.items line c.first_line.result.0.now (lines c.first_line.result.1.now) c.in_ok-take_line.ensures.ok)
    ∙ ap (λ ls. appended found (send_lines line ls)) (sym c.first_line.ensures.line) ∙ c.loop-rest.invariant

pub returns-clause-given : goal.returns-clause-given
returns-clause-given c =
    let found = c.loop-rest.found.items in
    let empty = eqb-true (length c.loop-rest.rest.now) 0 (sym c.loop-rest-test.ensures) in
    sym c.loop-rest.invariant ∙ ap (λ ls. appended found (send_lines c.loop-rest.line ls)) (no_lines c.loop-rest.rest.now empty)
    ∙ sends-ended found c.loop-rest.line ∙ ap Ok (sym c.of_vec.ensures)

pub returns-clause-sized : goal.returns-clause-sized
returns-clause-sized c =
    let found = c.loop-rest.found.items in
    let empty = eqb-true (length c.loop-rest.rest.now) 0 (sym c.loop-rest-test.ensures) in
    let all = sym c.loop-rest.invariant ∙ ap (λ ls. appended found (send_lines c.loop-rest.line ls)) (no_lines c.loop-rest.rest.now empty)
    ∙ sends-ended found c.loop-rest.line in
    subst (All IsSized) (sym c.of_vec.ensures) (sends_sized c.args.text.now found all)
