use Rattle.s7_tool_main.proofs.scripts.jobs.carry_out.Goals as goal

pub returns-in-Ok-clause-printable : goal.returns-in-Ok-clause-printable
returns-in-Ok-clause-printable g c =
    let run = c.in-Ok.ensures.run in
    c.ends_print.ensures.prints c.args.job run.end run.carried c.in-Ok.told run.result run.form
