use Rattle.s7_tool_main.proofs.ToldLemmas.{tells_kept, tells_result}
use Rattle.s7_tool_main.proofs.scripts.jobs.ScriptRun.disconnect.Goals as goal

pub returns-in_err-told-clause-tells : goal.returns-in_err-told-clause-tells
returns-in_err-told-clause-tells g c = tells_kept g.C.Completion.told _ _ _ c.in_err-told.ensures.untold

pub returns-clause-tells : goal.returns-clause-tells
returns-clause-tells g c = tells_result _ _ _ _ _ c.keep.ensures.items c.in_ok-told.ensures.told
