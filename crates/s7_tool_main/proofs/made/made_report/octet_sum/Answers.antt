use Rattle.std.proofs.Common.{◌∙◌, ◌+◌, ap}
use Rattle.s7_tool_main.specs.GenText.{sum_at}
use Rattle.s7_tool_main.proofs.AreasLemmas.{sum_of_five}
use Rattle.s7_tool_main.proofs.made.made_report.octet_sum.Goals as goal

pub returns : goal.returns
returns c =
    let here = sum_at c.args.areas.now in
    let first = c.sum_at-2.ensures.sum ∙ ap here c.block_key.ensures in
    let second = c.sum_at-3.ensures.sum ∙ ap here c.block_key-2.ensures in
    let third = c.sum_at-4.ensures.sum ∙ ap here c.block_key-3.ensures in
    let fourth = c.sum_at-5.ensures.sum ∙ ap here c.block_key-4.ensures in
    (λ i. c.sum_at.ensures.sum i + first i + second i + third i + fourth i)
    ∙ sum_of_five c.args.areas.now.areas c.requires
