use Rattle.std.proofs.Common.{◌++◌, sym, ap, ◌∙◌, arith}
use Rattle.std.specs.Fmt.{decimal}
use Rattle.s7_script.specs.Printing.{spaced}
use Rattle.s7_script.proofs.PrintLemmas.{numbers-step, numbers-ended}
use Rattle.s7_script.proofs.print.add_numbers.Goals as goal

pub loop-rest-preserved : goal.loop-rest-preserved
loop-rest-preserved c =
    numbers-step c.args.at c.loop-rest.rest.now c.split_at.result.0.now c.split_at.result.1.now c.loop-rest.text.items
    c.add_number.new.text.items (omega arith) c.split_at.ensures.front c.split_at.ensures.back
    (c.in_ok-add_number.ensures ∙ ap (λ n. c.loop-rest.text.items ++ spaced (decimal n)) c.number_in.ensures)
    ∙ c.loop-rest.invariant

pub returns : goal.returns
returns c =
    sym (numbers-ended c.args.at c.loop-rest.rest.now c.loop-rest.text.items (omega arith)) ∙ c.loop-rest.invariant
