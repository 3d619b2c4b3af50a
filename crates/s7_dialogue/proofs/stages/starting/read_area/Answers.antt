use Rattle.std.proofs.Common.{◌≡◌, true, false, ap, ◌∙◌, arith}
use Rattle.s7_dialogue.specs.declared.questions.left.Grouped.TheVariants.{Parts}
use Rattle.s7_dialogue.specs.Checks.{check_item}
use Rattle.s7_dialogue.specs.Dialogue.{alone}
use Rattle.s7_dialogue.proofs.CheckLemmas.{item_checked, can_split}
use Rattle.s7_dialogue.proofs.StartLemmas.{area_few, starts_asking, read_area_can}
use Rattle.s7_dialogue.proofs.stages.starting.read_area.Goals as goal

pub asking-requires-clause-few : goal.asking-requires-clause-few
asking-requires-clause-few c =
    let good : check_item c.args.item.now true ≡ 0 = cc in
    let told = item_checked c.args.item.now true good in
    area_few c.args.item.now c.args.granted.now.pdu false (Parts c.parts.result) (ap alone c.parts.ensures.parts)
    (can_split c.args.item.now told.0 told.1) c.requires.least
    (omega (arith, c.octet_count.ensures.count, c.octet_count.ensures.most))

pub returns : goal.returns
returns c =
    let good : check_item c.args.item.now true ≡ 0 = cc in
    starts_asking _ c.args.granted.now false (Parts c.parts.result) _ _ _ _ (ap alone c.parts.ensures.parts)
    (read_area_can c.args.item.now c.args.granted.now c.asking.result.octets c.asking.result.codes c.requires good
    (c.asking.ensures.octets ∙ c.octet_count.ensures.count) c.asking.ensures.codes)
    c.requires c.asking.ensures.stage
