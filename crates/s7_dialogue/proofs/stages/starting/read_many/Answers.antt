use Rattle.std.proofs.Common.{◌≡◌, true, false, sym, ◌∙◌, arith}
use Rattle.std.proofs.lemmas.Bool.{ltb-false}
use Rattle.s7_dialogue.specs.Checks.{check_items}
use Rattle.s7_dialogue.proofs.CheckLemmas.{items_checked}
use Rattle.s7_dialogue.proofs.GroupLemmas.{groups_cut}
use Rattle.s7_dialogue.proofs.StartLemmas.{many_few, starts_asking, read_many_can}
use Rattle.s7_dialogue.proofs.stages.starting.read_many.Goals as goal

pub asking-requires-clause-few : goal.asking-requires-clause-few
asking-requires-clause-few c =
    let items = c.args.items.now in
    let pdu = c.args.granted.now.pdu in
    let told =
    items_checked items true pdu false (sym c.check_items-check.ensures.check ∙ c.if-check-ne-GOOD.false) in
    many_few items pdu false c.grouped.result
    (c.grouped.ensures
    ∙ groups_cut pdu false items _ told.4 (c.check_items-check.ensures.ends c.if-check-ne-GOOD.false)) told.4
    (ltb-false _ _ told.0)
    (omega (arith, ltb-false _ _ told.0, c.octet_count_of.ensures.count, c.octet_count_of.ensures.most))

pub returns : goal.returns
returns c =
    let items = c.args.items.now in
    let pdu = c.args.granted.now.pdu in
    let good : check_items items true pdu false ≡ 0 =
    sym c.check_items-check.ensures.check ∙ c.if-check-ne-GOOD.false in
    let told = items_checked items true pdu false good in
    starts_asking _ c.args.granted.now false c.grouped.result _ _ _ _
    (c.grouped.ensures
    ∙ groups_cut pdu false items _ told.4 (c.check_items-check.ensures.ends c.if-check-ne-GOOD.false))
    (read_many_can items c.args.granted.now c.asking.result.octets c.asking.result.codes c.requires good
    (c.asking.ensures.octets ∙ c.octet_count_of.ensures.count) c.asking.ensures.codes)
    c.requires c.asking.ensures.stage
