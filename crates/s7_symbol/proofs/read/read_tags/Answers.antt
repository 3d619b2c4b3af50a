use Rattle.std.proofs.Common.{◌∙◌, ap, sym, subst, eqb-true, length, Ok}
use Rattle.s7_text.specs.Lines.{lines}
use Rattle.s7_text.proofs.LineLemmas.{no_lines}
use Rattle.s7_symbol.specs.Tags.{FailsAs, tags_from}
use Rattle.s7_symbol.proofs.TagLemmas.{tags-ended, tags-fail, tags-step}
use Rattle.s7_symbol.proofs.read.read_tags.Goals as goal

pub returns-in-Err : goal.returns-in-Err
returns-in-Err c =
    let found = c.loop-rest.found.items in
    let line = c.loop-rest.line in
    let whole = ap (tags_from line found) (sym c.first_line.ensures.line) ∙ c.loop-rest.invariant in
    subst (λ r. FailsAs (record { line = line; kind = c.in-Err.kind }) c.in-Err.kind r) whole
    (tags-fail line found c.first_line.result.0.now (lines c.first_line.result.1.now) c.in-Err.kind c.in-Err.ensures.err)

pub loop-rest-preserved : goal.loop-rest-preserved
loop-rest-preserved c =
    let found = c.loop-rest.found.items in
    let line = c.loop-rest.line in
    ap (λ n. tags_from n c.take_line.new.found.items (lines c.first_line.result.1.now)) c.saturating_add-line.ensures
    ∙ sym (tags-step line found c.take_line.new.found.items c.first_line.result.0.now (lines c.first_line.result.1.now) c.in_default.ensures.ok)
    ∙ ap (tags_from line found) (sym c.first_line.ensures.line) ∙ c.loop-rest.invariant

pub returns : goal.returns
returns c =
    let found = c.loop-rest.found.items in
    let empty = eqb-true (length c.loop-rest.rest.now) 0 (sym c.loop-rest-test.ensures) in
    sym c.loop-rest.invariant ∙ ap (tags_from c.loop-rest.line found) (no_lines c.loop-rest.rest.now empty)
    ∙ tags-ended c.loop-rest.line found ∙ ap Ok (sym c.of_vec.ensures)
