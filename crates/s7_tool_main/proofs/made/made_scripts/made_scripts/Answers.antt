use Rattle.std.proofs.Common.{◌≡◌, ◌∙◌, ◌+◌, ◌-◌, ◌∷◌, ◌++◌, [], List, Vec, Global, suc, ap, sym, arith, map, append-nil}
use Rattle.std.proofs.lemmas.List.{map-append}
use Rattle.s7_dialogue.specs.declared.job.Job.{Job}
use Rattle.s7_tool_main.specs.Drawing.{after_lines, script_at, scripts_at}
use Rattle.s7_tool_main.proofs.DrawnLemmas.{one_more, scripts_made, scripts_more, scripts_none}
use Rattle.s7_tool_main.proofs.made.made_scripts.made_scripts.Goals as goal

pub loop-preserved : goal.loop-preserved
loop-preserved c =
    let items : Vec Job Global → List Job = λ s. s.items in
    let at = c.loop in
    let more : 4 - at.counter ≡ suc (4 - (at.counter + 1)) = let h = c.loop-test.true in omega arith in
    let pushed =
    ap (map items) c.in_ok-push.ensures.items ∙ map-append items at.all.items (c.in_ok-next_script.field-0 ∷ []) in
    record {
      scripts = one_more scripts_at script_at (after_lines 200) scripts_more (4 - (at.counter + 1)) at.draw _
          (4 - at.counter) (map items at.all.items) _ _ _ more c.in_ok-next_script.ensures.x
          c.in_ok-next_script.ensures.script pushed at.invariant.scripts;
      len = omega (arith, at.invariant.len, c.in_ok-push.ensures.len);
    }

pub returns-clause-scripts : goal.returns-clause-scripts
returns-clause-scripts c =
    let items : Vec Job Global → List Job = λ s. s.items in
    let at = c.loop in
    let none : 4 - at.counter ≡ 0 = let h = c.loop-test.false in omega arith in
    sym (append-nil (map items at.all.items))
    ∙ ap (λ ss. map items at.all.items ++ ss) (sym (scripts_none (4 - at.counter) at.draw none))
    ∙ at.invariant.scripts ∙ scripts_made c.args.seed
