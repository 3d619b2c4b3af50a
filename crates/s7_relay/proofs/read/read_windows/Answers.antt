use Rattle.std.proofs.Common.{map, subst, sym, List, ℕ}
use Rattle.s7_text.specs.Lines.{Text, lines}
use Rattle.s7_relay.specs.File.{terms_in}
use Rattle.s7_relay.specs.declared.windows.Window.{Window}
use Rattle.s7_relay.proofs.FileLemmas.{HasRead, nothing_read, one_read}
use Rattle.s7_relay.proofs.read.read_windows.Goals as goal

pub loop-rest-init : goal.loop-rest-init
loop-rest-init c =
    let texts = lines c.args.text.now in
    subst (λ (l : List Window). HasRead texts texts 1 (map terms_in l)) (sym c.new-found.ensures.items) (nothing_read texts)

pub loop-rest-preserved : goal.loop-rest-preserved
loop-rest-preserved c =
    let texts = lines c.args.text.now in
    let line = c.loop-rest.line in
    let found = map terms_in c.loop-rest.found.items in
    let more = map terms_in c.take_line.new.found.items in
    let after = lines c.first_line.result.1.now in
    let has = subst (λ (l : List Text). HasRead texts l line found) c.first_line.ensures.line c.loop-rest.invariant in
    subst (λ (n : ℕ). HasRead texts after n more) (sym c.saturating_add-line.ensures)
    (one_read texts after c.first_line.result.0.now line found more has c.in_default.ensures.ok)
