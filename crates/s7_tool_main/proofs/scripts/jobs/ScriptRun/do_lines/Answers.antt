use Rattle.std.proofs.Common.{◌≡◌, ◌∷◌, [], ◌++◌, rules, arith, ap, sym, ◌∙◌, append_assoc, length}
use Rattle.std.specs.Vec.Iter.{into_iter_items}
use Rattle.s7_rig.proofs.TellsLemmas.{tells_none, tells_then}
use Rattle.s7_tool_main.specs.Run.{PrintsFront, PrintsNothing}
use Rattle.s7_tool_main.proofs.RunLemmas.{early_inside, does_next, does_none}
use Rattle.s7_tool_main.proofs.scripts.jobs.ScriptRun.do_lines.Goals as goal

pub loop-next-init : goal.loop-next-init
loop-next-init g c = record {
  items = search rules;
  count = search rules;
  does = does_none _ _;
  idle = search rules;
  config = search rules;
  faults = search rules;
  len = search rules;
  tells = tells_none _ _;
  capacity = search rules;
}

pub loop-next-preserved : goal.loop-next-preserved
loop-next-preserved g c =
    let at = c.loop-next in
    let x = c.in-Some.next in
    let steps : into_iter_items at.next-iterator ≡ x ∷ into_iter_items c.next.new.self = c.in-Some.ensures.steps.0 in
    let gone = c.in-Some.ensures.steps.1 in
    record {
      items = append_assoc at.yielded (x ∷ []) _ ∙ ap (λ t. at.yielded ++ t) (sym steps) ∙ at.invariant.items;
      count = let was = at.invariant.count in let short = ap length steps in omega (arith, was, short, gone);
      does = does_next _ _ at.yielded x _ _ _ at.invariant.config at.invariant.does c.in_ok-do_job.ensures.ok;
      idle = c.in_ok-do_job.ensures.idle;
      config = c.in_ok-do_job.ensures.config ∙ at.invariant.config;
      faults = omega (arith, at.invariant.faults, c.in_ok-do_job.ensures.faults);
      len = omega (arith, at.invariant.len, c.in_ok-do_job.ensures.len, gone);
      tells = tells_then _ _ _ _ _ _ at.invariant.tells c.in_ok-do_job.ensures.tells;
      capacity = omega (arith, at.invariant.capacity, c.in_ok-do_job.ensures.capacity);
    }

pub returns-in_err-do_job-clause-output : goal.returns-in_err-do_job-clause-output
returns-in_err-do_job-clause-output g c is =
    let at = c.loop-next in
    let x = c.in-Some.next in
    let rest = into_iter_items c.next.new.self in
    let steps : into_iter_items at.next-iterator ≡ x ∷ rest = c.in-Some.ensures.steps.0 in
    let all : at.yielded ++ x ∷ rest ≡ c.args.lines.items = ap (λ t. at.yielded ++ t) (sym steps) ∙ at.invariant.items
    ∙ c.into_iter-next-iterator.ensures.into_iter_gives.0 in
    let failed = c.in_err-do_job.ensures.output (search rules) in
    record {
      early = early_inside PrintsFront _ _ at.yielded rest _ x _ _ _ at.invariant.config all at.invariant.does
          failed.early;
      rose = omega (arith, at.invariant.faults, failed.rose);
    }

pub returns-in_err-do_job-clause-memory : goal.returns-in_err-do_job-clause-memory
returns-in_err-do_job-clause-memory g c is =
    let at = c.loop-next in
    let x = c.in-Some.next in
    let rest = into_iter_items c.next.new.self in
    let steps : into_iter_items at.next-iterator ≡ x ∷ rest = c.in-Some.ensures.steps.0 in
    let all : at.yielded ++ x ∷ rest ≡ c.args.lines.items = ap (λ t. at.yielded ++ t) (sym steps) ∙ at.invariant.items
    ∙ c.into_iter-next-iterator.ensures.into_iter_gives.0 in
    early_inside PrintsNothing _ _ at.yielded rest _ x _ _ _ at.invariant.config all at.invariant.does
    (c.in_err-do_job.ensures.memory (search rules))

pub returns-in_err-do_job-clause-tells : goal.returns-in_err-do_job-clause-tells
returns-in_err-do_job-clause-tells g c =
    tells_then _ _ _ _ _ _ c.loop-next.invariant.tells c.in_err-do_job.ensures.tells
