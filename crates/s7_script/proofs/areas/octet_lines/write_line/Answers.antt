use Rattle.std.proofs.Common.{◌∙◌, ◌++◌, ◌∷◌, [], ap, arith, length-take}
use Rattle.s7_script.proofs.WriteLemmas.{digits-text, few-before, front-within, length-digits, length-run, run-text, some-count}
use Rattle.s7_script.proofs.areas.octet_lines.write_line.Goals as goal

pub returns-then-front-ge-LEAST_RUN-clause-text : goal.returns-then-front-ge-LEAST_RUN-clause-text
returns-then-front-ge-LEAST_RUN-clause-text c =
    c.in_ok-write_run.ensures ∙ ap (λ t. c.args.text.now.items ++ (t ++ 10 ∷ [])) (run-text c.args.octets.now c.front-front.result c.front-front.ensures c.if-front-ge-LEAST_RUN.true)

pub returns-then-front-ge-LEAST_RUN-clause-count : goal.returns-then-front-ge-LEAST_RUN-clause-count
returns-then-front-ge-LEAST_RUN-clause-count c = length-run c.args.octets.now c.front-front.result c.front-front.ensures c.if-front-ge-LEAST_RUN.true

pub returns-then-front-ge-LEAST_RUN-clause-within : goal.returns-then-front-ge-LEAST_RUN-clause-within
returns-then-front-ge-LEAST_RUN-clause-within c = omega (arith, c.front-front.ensures, front-within c.args.octets.now)

pub slice_bounds-write_digits-end : goal.slice_bounds-write_digits-end
slice_bounds-write_digits-end c =
    omega (arith, c.before_run-count.ensures, few-before c.args.octets.now, length-take c.before_run-count.result c.args.octets.now)

pub returns-clause-text : goal.returns-clause-text
returns-clause-text c =
    c.in_ok-write_digits.ensures ∙ ap (λ t. c.args.text.now.items ++ (t ++ 10 ∷ [])) (digits-text c.args.octets.now c.before_run-count.result c.before_run-count.ensures (omega arith))

pub returns-clause-count : goal.returns-clause-count
returns-clause-count c = length-digits c.args.octets.now c.before_run-count.result c.before_run-count.ensures (omega arith)

pub returns-clause-some : goal.returns-clause-some
returns-clause-some c = some-count c.args.octets.now c.before_run-count.result c.requires c.before_run-count.ensures (omega arith)

pub returns-clause-within : goal.returns-clause-within
returns-clause-within c = omega (arith, c.before_run-count.ensures, few-before c.args.octets.now)
