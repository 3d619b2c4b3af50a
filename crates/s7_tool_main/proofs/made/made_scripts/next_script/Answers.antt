use Rattle.std.proofs.Common.{◌≡◌, ◌∙◌, ◌+◌, ◌-◌, ◌∷◌, ◌++◌, [], suc, ap, sym, arith, append-nil}
use Rattle.s7_dialogue.specs.declared.job.Job.TheVariants as job
use Rattle.s7_tool_main.specs.Drawing.{after_line, after_lines, line_at, lines_at}
use Rattle.s7_tool_main.proofs.DrawnLemmas.{after_more, after_none, lines_more, lines_none, one_more}
use Rattle.s7_tool_main.proofs.made.made_scripts.next_script.Goals as goal

pub loop-preserved : goal.loop-preserved
loop-preserved c =
    let at = c.loop in
    let left = 200 - (at.counter + 1) in
    let more : 200 - at.counter ≡ suc left = let h = c.loop-test.true in omega arith in
    let next = c.next_line.ensures.x in
    record {
      lines = one_more lines_at line_at after_line lines_more left at.draw _ (200 - at.counter) at.jobs.items _ _ _ more
          next c.in_ok-next_line.ensures.line c.in_ok-push-2.ensures.items at.invariant.lines;
      x = ap (after_lines left) next ∙ sym (after_more left at.draw) ∙ ap (λ n. after_lines n at.draw) (sym more)
          ∙ at.invariant.x;
    }

pub returns-clause-script : goal.returns-clause-script
returns-clause-script c =
    let at = c.loop in
    let none : 200 - at.counter ≡ 0 = let h = c.loop-test.false in omega arith in
    let all : at.jobs.items ≡ job.Connect ∷ lines_at 200 c.args.draw.now =
    sym (append-nil at.jobs.items)
    ∙ ap (λ js. at.jobs.items ++ js) (sym (lines_none (200 - at.counter) at.draw none)) ∙ at.invariant.lines in
    c.in_ok-push-3.ensures.items ∙ ap (λ js. js ++ job.Disconnect ∷ []) all

pub returns-clause-x : goal.returns-clause-x
returns-clause-x c =
    let at = c.loop in
    let none : 200 - at.counter ≡ 0 = let h = c.loop-test.false in omega arith in
    sym (after_none (200 - at.counter) at.draw none) ∙ at.invariant.x
