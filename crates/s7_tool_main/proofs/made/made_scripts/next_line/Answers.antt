use Rattle.std.proofs.Common.{◌∙◌, refl}
use Rattle.std.proofs.lemmas.Result.{IfOk-weaker}
use Rattle.s7_tool_main.proofs.DrawnLemmas.{after_read, after_write, line_drawn, line_read, line_two, line_write}
use Rattle.s7_tool_main.proofs.made.made_scripts.next_line.Goals as goal

pub returns-then-kind-eq2-clause-line : goal.returns-then-kind-eq2-clause-line
returns-then-kind-eq2-clause-line c =
    let kind = c.below-kind.ensures in
    let block = c.below.ensures in
    let start = c.below-start.ensures in
    let count = c.below-2.ensures in
    let drawn = line_drawn c.args.draw.now _ _ _ _ _ _ _ _ _ kind.x block.x start.x count.x
    kind.number block.number start.number count.number c.below-octet.ensures.number in
    IfOk-weaker c.write_line.result _ _
    (λ line made. made ∙ line_write _ _ _ _ _ _ c.block_item.ensures c.if-kind-eq2.true ∙ drawn) c.write_line.ensures

pub returns-then-kind-eq2-clause-x : goal.returns-then-kind-eq2-clause-x
returns-then-kind-eq2-clause-x c =
    after_write c.args.draw.now _ _ _ _ _ _ c.below-kind.ensures.x c.below.ensures.x c.below-start.ensures.x
    c.below-2.ensures.x c.below-octet.ensures.x c.below-kind.ensures.number c.if-kind-eq2.true

pub returns-then-kind-eq3-clause-line : goal.returns-then-kind-eq3-clause-line
returns-then-kind-eq3-clause-line c =
    let kind = c.below-kind.ensures in
    let block = c.below.ensures in
    let start = c.below-start.ensures in
    let count = c.below-2.ensures in
    let drawn = line_drawn c.args.draw.now _ _ _ _ _ _ _ _ _ kind.x block.x start.x count.x
    kind.number block.number start.number count.number refl in
    IfOk-weaker c.two_line.result _ _
    (λ line made. made ∙ line_two _ _ _ _ _ _ c.block_item-then-kind-eq3.ensures c.if-kind-eq3.true ∙ drawn)
    c.two_line.ensures

pub returns-then-kind-eq3-clause-x : goal.returns-then-kind-eq3-clause-x
returns-then-kind-eq3-clause-x c =
    after_read c.args.draw.now _ _ _ _ _ c.below-kind.ensures.x c.below.ensures.x c.below-start.ensures.x
    c.below-2.ensures.x c.below-kind.ensures.number c.if-kind-eq2.false

pub returns-else-kind-eq3-clause-line : goal.returns-else-kind-eq3-clause-line
returns-else-kind-eq3-clause-line c =
    let kind = c.below-kind.ensures in
    let block = c.below.ensures in
    let start = c.below-start.ensures in
    let count = c.below-2.ensures in
    let drawn = line_drawn c.args.draw.now _ _ _ _ _ _ _ _ _ kind.x block.x start.x count.x
    kind.number block.number start.number count.number refl in
    line_read _ _ _ _ _ _ c.block_item-item.ensures c.if-kind-eq2.false c.if-kind-eq3.false ∙ drawn

pub returns-else-kind-eq3-clause-x : goal.returns-else-kind-eq3-clause-x
returns-else-kind-eq3-clause-x c =
    after_read c.args.draw.now _ _ _ _ _ c.below-kind.ensures.x c.below.ensures.x c.below-start.ensures.x
    c.below-2.ensures.x c.below-kind.ensures.number c.if-kind-eq2.false
