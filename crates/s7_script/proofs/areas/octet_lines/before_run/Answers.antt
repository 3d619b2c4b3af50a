use Rattle.std.proofs.Common.{◌≡◌, ◌+◌, arith, drop, length, min, subst}
use Rattle.s7_script.specs.Spelling.{before_run}
use Rattle.s7_script.proofs.WriteLemmas.{no-run-here, places-end, run-here}
use Rattle.s7_script.proofs.areas.octet_lines.before_run.Goals as goal

pub returns-then-front-ge-LEAST_RUN : goal.returns-then-front-ge-LEAST_RUN
returns-then-front-ge-LEAST_RUN c = run-here c.args.octets.now c.loop-place.place c.front.result (omega arith) c.front.ensures c.if-front-ge-LEAST_RUN.true c.loop-place.invariant

pub loop-place-preserved : goal.loop-place-preserved
loop-place-preserved c = no-run-here c.args.octets.now c.loop-place.place c.front.result (omega arith) c.front.ensures (omega arith) c.loop-place.invariant

pub returns : goal.returns
returns c =
    let octets = c.args.octets.now in
    let at : c.loop-place.place ≡ c.min-most.result = omega arith in
    let most : c.min-most.result ≡ min (length octets) 32 = omega arith in
    places-end octets c.min-most.result most (subst (λ k. before_run octets ≡ k + before_run (drop k octets)) at c.loop-place.invariant)
