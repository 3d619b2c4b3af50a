use Rattle.std.proofs.Common.{◌∙◌, ap, length, sym}
use Rattle.std.specs.Prelude.{◌==◌}
use Rattle.std.proofs.lemmas.Bool.{eqb-true}
use Rattle.s7_tool_main.proofs.TagLemmas.{some_by, watch_empty, watch_read, watch_unloaded}
use Rattle.s7_tool_main.proofs.load.load_watch_file.Goals as goal

pub returns-in-Err-clause-err : goal.returns-in-Err-clause-err
returns-in-Err-clause-err g c = watch_unloaded _ _ _ _ c.in-Err.ensures.err

pub returns-then-is_empty-clause-err : goal.returns-then-is_empty-clause-err
returns-then-is_empty-clause-err g c =
    let none = eqb-true (length c.as_slice.result.now) 0 (sym c.is_empty.ensures ∙ c.if-is_empty.true) in
    watch_empty _ _ _ c.in-Ok.tags (ap (λ l. length l) (sym c.as_slice.ensures) ∙ none) c.in-Ok.ensures.unchanged
    c.in-Ok.ensures.ok

pub returns-clause-ok : goal.returns-clause-ok
returns-clause-ok g c =
    let some = ap (λ l. length l == 0) (sym c.as_slice.ensures) ∙ sym c.is_empty.ensures ∙ c.if-is_empty.false in
    watch_read _ _ c.in-Ok.tags (some_by c.in-Ok.tags some) c.in-Ok.ensures.ok

pub returns-clause-some : goal.returns-clause-some
returns-clause-some g c =
    let some = ap (λ l. length l == 0) (sym c.as_slice.ensures) ∙ sym c.is_empty.ensures ∙ c.if-is_empty.false in
    some_by c.in-Ok.tags some
