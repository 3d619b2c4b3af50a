use Rattle.std.proofs.Common.{◌≡◌, ◌∙◌, ◌∷◌, [], ℕ, List, length, refl, sym, ap, subst, arith, Err, option_map, eqb-true}
use Rattle.std.proofs.lemmas.Result.{err_from_is_err_and}
use Rattle.s7_text.specs.Lines.{lines}
use Rattle.s7_script.specs.Reading.{FailsAs, closed, nothing_read, read_lines}
use Rattle.s7_script.specs.Shown.{open_of, state_of}
use Rattle.s7_script.specs.declared.areas.fault.AreasFault.{AreasFault}
use Rattle.s7_script.specs.declared.areas.fault.AreasKind.TheVariants as kind
use Rattle.s7_script.proofs.ReadLemmas.{ends, line_fails, line_passes}
use Rattle.s7_script.proofs.areas.read.read_rest.Goals as goal

no_lines : (xs : List ℕ) → length xs ≡ 0 → lines xs ≡ []
no_lines [] e = refl
no_lines (x ∷ xs) e = absurd (omega arith)

pub returns-in_err-take_line : goal.returns-in_err-take_line
returns-in_err-take_line c =
    let e = c.in_err-take_line.field-0.0 in
    let p = err_from_is_err_and c.from_residual.result c.from_residual.ensures.1 in
    let given : FailsAs e e.kind (read_lines c.loop-rest.line (state_of c.loop-rest.state) (c.first_line.result.0.now ∷ lines c.first_line.result.1.now)) =
    line_fails c.loop-rest.line (state_of c.loop-rest.state) c.first_line.result.0.now (lines c.first_line.result.1.now) e c.in_err-take_line.ensures.err in
    let whole = ap (λ ls. read_lines c.loop-rest.line (state_of c.loop-rest.state) ls) (sym c.first_line.ensures.line) ∙ c.loop-rest.invariant in
    rw (p.1, p.2) (subst (λ r. FailsAs e e.kind r) whole given)

pub loop-rest-preserved : goal.loop-rest-preserved
loop-rest-preserved c =
    ap (λ n. read_lines n (state_of c.take_line.new.self) (lines c.first_line.result.1.now)) c.saturating_add-line.ensures
    ∙ sym (line_passes c.loop-rest.line (state_of c.loop-rest.state) (state_of c.take_line.new.self) c.first_line.result.0.now (lines c.first_line.result.1.now) c.in_ok-take_line.ensures.ok)
    ∙ ap (λ ls. read_lines c.loop-rest.line (state_of c.loop-rest.state) ls) (sym c.first_line.ensures.line) ∙ c.loop-rest.invariant

pub returns-in-Some : goal.returns-in-Some
returns-in-Some c =
    let s = c.loop-rest.state in
    let line = c.loop-rest.line in
    let empty = eqb-true (length c.loop-rest.rest.now) 0 (sym c.loop-rest-test.ensures) in
    let whole : read_lines 2 (nothing_read c.args.version) (lines c.args.text.now) ≡ Err (record { line = line; kind = kind.Ended }) =
    sym c.loop-rest.invariant ∙ ap (λ ls. read_lines line (state_of s) ls) (no_lines c.loop-rest.rest.now empty) ∙ ends line (state_of s)
    ∙ ap (λ o. closed line (state_of s) (option_map open_of o)) c.in-Some.is in
    subst (λ (e : AreasFault). FailsAs e e.kind (read_lines 2 (nothing_read c.args.version) (lines c.args.text.now))) (sym c.fault.ensures) whole

pub returns-in-None : goal.returns-in-None
returns-in-None c =
    let s = c.loop-rest.state in
    let line = c.loop-rest.line in
    let empty = eqb-true (length c.loop-rest.rest.now) 0 (sym c.loop-rest-test.ensures) in
    sym c.loop-rest.invariant ∙ ap (λ ls. read_lines line (state_of s) ls) (no_lines c.loop-rest.rest.now empty) ∙ ends line (state_of s)
    ∙ ap (λ o. closed line (state_of s) (option_map open_of o)) c.in-None.is
