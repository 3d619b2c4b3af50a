use Rattle.std.proofs.Common.{◌≡◌, ◌∙◌, ap, arith, false, length, map, subst, sym, List, ◌∷◌, ◌++◌, []}
use Rattle.std.specs.Prelude.{◌==◌}
use Rattle.std.specs.List.{list_any}
use Rattle.std.proofs.lemmas.Grind.{common_steps}
use Rattle.s7_relay.specs.Keys.{same_key}
use Rattle.s7_relay.specs.File.{terms_in}
use Rattle.s7_relay.specs.LineShown.{Adds}
use Rattle.s7_relay.specs.declared.windows.Window.{Window}
use Rattle.s7_relay.proofs.FileLemmas.{adds_one, doubles, heard, met_is}
use Rattle.s7_relay.proofs.read.take_line.Goals as goal

pub returns-then-is_met-clause-err : goal.returns-then-is_met-clause-err
returns-then-is_met-clause-err c =
    let ws = c.args.found.now.items in
    let text = c.args.text.now in
    let some : (length text == 0) ≡ false = cc in
    let met =
    sym (met_is c.in_ok-window.window.near ws) ∙ ap (list_any (λ (w : Window). same_key w.near c.in_ok-window.window.near)) (sym c.as_slice.ensures.value)
    ∙ sym c.is_met.ensures ∙ c.if-is_met.true in
    doubles ws c.in_ok-window.window text (heard text some c.if-text-eq35.false) (sym c.in_ok-window.ensures) met

pub returns-clause-ok : goal.returns-clause-ok
returns-clause-ok c =
    let ws = c.args.found.now.items in
    let text = c.args.text.now in
    let some : (length text == 0) ≡ false = cc in
    let new =
    sym (met_is c.in_ok-window.window.near ws) ∙ ap (list_any (λ (w : Window). same_key w.near c.in_ok-window.window.near)) (sym c.as_slice.ensures.value)
    ∙ sym c.is_met.ensures ∙ c.if-is_met.false in
    let more : c.push.new.self.items ≡ ws ++ c.in_ok-window.window ∷ [] = grind (arith, common_steps) in
    subst (λ (l : List Window). Adds (map terms_in ws) text (map terms_in l)) (sym more)
    (adds_one ws c.in_ok-window.window text (heard text some c.if-text-eq35.false) (sym c.in_ok-window.ensures) new)
