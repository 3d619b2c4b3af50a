use Rattle.std.proofs.Common.{OnOk, ap, subst}
use Rattle.s7_program.specs.Output.{Gains}
use Rattle.s7_tool_main.specs.declared.head.Head.{Head}
use Rattle.s7_tool_main.specs.Report.{line_by}
use Rattle.s7_tool_main.specs.Run.{PrintsFront, PrintsNothing}
use Rattle.s7_tool_main.proofs.RunLemmas.{does_one, early_at, early_before, on_ok, same_place}
use Rattle.s7_tool_main.proofs.ToldLemmas.{tells_kept, tells_result}
use Rattle.s7_tool_main.proofs.scripts.jobs.ScriptRun.do_job.Goals as goal

pub returns-in_err-told-clause-memory : goal.returns-in_err-told-clause-memory
returns-in_err-told-clause-memory g c is =
    early_before PrintsNothing _ _ _ _
    (same_place _ _ _ _ _ _ c.in_err-told.ensures.refused c.in_err-told.ensures.unchanged)

pub returns-clause-ok : goal.returns-clause-ok
returns-clause-ok g c =
    let from = g.O.Out.shows c.args.out.now in
    let to = g.O.Out.shows c.print-printed.new.out in
    let r = c.print-printed.result in
    on_ok r
    (subst (λ (h : Head). OnOk r (Gains from to (line_by h.line h.tag c.in_ok-told.told))) c.of-head.ensures
    c.print-printed.ensures.ok)
    (does_one _ c.args.next _ _
    (record { told = c.in_ok-told.told; run = c.in_ok-told.ensures.run; results = c.keep.ensures.items }))

pub returns-clause-output : goal.returns-clause-output
returns-clause-output g c is =
    let from = g.O.Out.shows c.args.out.now in
    let to = g.O.Out.shows c.print-printed.new.out in
    let front =
    subst (λ (h : Head). PrintsFront from to (line_by h.line h.tag c.in_ok-told.told)) c.of-head.ensures
    (c.print-printed.ensures.front is) in record {
      early = early_at PrintsFront _ c.args.next _ _
          (record { told = c.in_ok-told.told; run = c.in_ok-told.ensures.run; results = c.keep.ensures.items })
          front;
      rose = c.print-printed.ensures.rose is;
    }

pub returns-clause-memory : goal.returns-clause-memory
returns-clause-memory g c is =
    early_at PrintsNothing _ c.args.next _ _
    (record { told = c.in_ok-told.told; run = c.in_ok-told.ensures.run; results = c.keep.ensures.items })
    (ap g.O.Out.shows (c.print-printed.ensures.memory is))

pub returns-in_err-told-clause-tells : goal.returns-in_err-told-clause-tells
returns-in_err-told-clause-tells g c = tells_kept g.C.Completion.told _ _ _ c.in_err-told.ensures.untold

pub returns-clause-tells : goal.returns-clause-tells
returns-clause-tells g c = tells_result _ _ _ _ _ c.keep.ensures.items c.in_ok-told.ensures.told
