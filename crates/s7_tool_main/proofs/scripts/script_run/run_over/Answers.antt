use Rattle.std.proofs.Common.{◌∙◌}
use Rattle.s7_client.specs.Completions.{completion_of, connection_of}
use Rattle.s7_client.specs.Runs.{between_of}
use Rattle.s7_tool_main.specs.Run.{place}
use Rattle.s7_tool_main.proofs.RunLemmas.{from_lent}
use Rattle.s7_tool_main.proofs.ToldLemmas.{tells_lent}
use Rattle.s7_tool_main.proofs.scripts.script_run.run_over.Goals as goal

pub returns-clause-over : goal.returns-clause-over
returns-clause-over g c =
    let run = c.args.run in
    let left = c.run_jobs-ended.new.run in
    record {
      after = between_of (connection_of left.client);
      goes = from_lent (connection_of run.client) _ c.args.lines.items
          (place g.L.Link.shows left (g.O.Out.shows c.run_jobs-ended.new.out)) c.run_jobs-ended.result
          (g.L.Link.shows run.line) run.results.items (g.O.Out.shows c.args.out.now)
          c.set_completion-none.ensures.connection c.requires.fresh c.requires.none c.run_jobs-ended.ensures.goes;
    }

pub returns-clause-tells : goal.returns-clause-tells
returns-clause-tells g c =
    tells_lent g.C.Completion.told _ _ c.args.done.now _ (completion_of c.run_jobs-ended.new.run.client) _
    c.requires.none (c.set_completion-none.ensures.done ∙ c.take.ensures.value) c.set_completion.ensures.out
    c.run_jobs-ended.ensures.tells
