use Rattle.std.proofs.Common.{◌∷◌, [], ◌∙◌, refl, arith, rules}
use Rattle.s7_rig.proofs.TellsLemmas.{tells_then}
use Rattle.s7_tool_main.specs.Run.{PrintsFront, PrintsNothing, connect_line}
use Rattle.s7_tool_main.proofs.RunLemmas.{all_done, early_in_lines, early_within, left_open, on_ok, this_err}
use Rattle.s7_tool_main.proofs.scripts.jobs.ScriptRun.do_all.Goals as goal

pub returns-in_err-do_job-clause-output : goal.returns-in_err-do_job-clause-output
returns-in_err-do_job-clause-output g c is =
    let failed = c.in_err-do_job.ensures.output (search rules) in
    record {
      early = early_within PrintsFront _ (connect_line ∷ []) c.args.lines.items _ _ failed.early;
      rose = failed.rose;
    }

pub returns-in_err-do_job-clause-memory : goal.returns-in_err-do_job-clause-memory
returns-in_err-do_job-clause-memory g c is =
    early_within PrintsNothing _ (connect_line ∷ []) c.args.lines.items _ _ (c.in_err-do_job.ensures.memory (search rules))

pub returns-in_err-do_lines-clause-output : goal.returns-in_err-do_lines-clause-output
returns-in_err-do_lines-clause-output g c is =
    let first = c.in_ok-do_job.ensures in
    let failed = c.in_err-do_lines.ensures.output (search rules) in
    record {
      early = early_in_lines PrintsFront _ _ c.args.lines.items _ _ _ first.config first.ok failed.early;
      rose = omega (arith, first.faults, failed.rose);
    }

pub returns-in_err-do_lines-clause-memory : goal.returns-in_err-do_lines-clause-memory
returns-in_err-do_lines-clause-memory g c is =
    let first = c.in_ok-do_job.ensures in
    early_in_lines PrintsNothing _ _ c.args.lines.items _ _ _ first.config first.ok
    (c.in_err-do_lines.ensures.memory (search rules))

pub returns-clause-ok : goal.returns-clause-ok
returns-clause-ok g c =
    let first = c.in_ok-do_job.ensures in
    let lines = c.in_ok-do_lines.ensures in
    on_ok c.disconnect.result c.disconnect.ensures.ok
    (λ last. all_done _ _ _ c.args.lines.items _ _ _ _ first.config (lines.config ∙ first.config) first.ok lines.ok
    (last _) refl)

pub returns-clause-memory : goal.returns-clause-memory
returns-clause-memory g c is =
    let first = c.in_ok-do_job.ensures in
    let lines = c.in_ok-do_lines.ensures in
    left_open PrintsNothing _ _ c.args.lines.items _ _ _ _ first.config first.ok lines.ok
    (this_err _ _ _ is c.disconnect.ensures.err _)

pub returns-in_err-do_lines-clause-tells : goal.returns-in_err-do_lines-clause-tells
returns-in_err-do_lines-clause-tells g c = tells_then _ _ _ _ _ _ c.do_job.ensures.tells c.do_lines.ensures.tells

pub returns-clause-tells : goal.returns-clause-tells
returns-clause-tells g c =
    tells_then _ _ _ _ _ _ c.do_job.ensures.tells
    (tells_then _ _ _ _ _ _ c.do_lines.ensures.tells c.disconnect.ensures.tells)
