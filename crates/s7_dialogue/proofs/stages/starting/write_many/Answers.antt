use Rattle.std.proofs.Common.{◌≡◌, true, length, eqb, sym, ap, ◌∙◌, arith}
use Rattle.std.proofs.lemmas.Bool.{ltb-false}
use Rattle.s7_dialogue.specs.Checks.{check_items, octet_count_of}
use Rattle.s7_dialogue.proofs.CheckLemmas.{items_checked}
use Rattle.s7_dialogue.proofs.GroupLemmas.{groups_cut}
use Rattle.s7_dialogue.proofs.StartLemmas.{many_few, starts_asking, write_many_can}
use Rattle.s7_dialogue.proofs.stages.starting.write_many.Goals as goal

pub asking-requires-clause-few : goal.asking-requires-clause-few
asking-requires-clause-few c =
    let items = c.args.items.now in
    let pdu = c.args.granted.now.pdu in
    let told = items_checked items (eqb (length c.args.octets.now) c.octet_count_of.result) pdu true
    (sym c.check_items-check.ensures.check ∙ c.if-check-ne-GOOD.false) in
    many_few items pdu true c.grouped.result
    (c.grouped.ensures
    ∙ groups_cut pdu true items _ told.4 (c.check_items-check.ensures.ends c.if-check-ne-GOOD.false)) told.4
    (ltb-false _ _ told.0)
    (omega (arith, ltb-false _ _ told.0, c.octet_count_of.ensures.count, c.octet_count_of.ensures.most))

pub returns : goal.returns
returns c =
    let items = c.args.items.now in
    let pdu = c.args.granted.now.pdu in
    let good : check_items items (eqb (length c.args.octets.now) (octet_count_of items)) pdu true ≡ 0 =
    ap (λ n. check_items items (eqb (length c.args.octets.now) n) pdu true) (sym c.octet_count_of.ensures.count)
    ∙ (sym c.check_items-check.ensures.check ∙ c.if-check-ne-GOOD.false) in
    let told = items_checked items (eqb (length c.args.octets.now) (octet_count_of items)) pdu true good in
    starts_asking _ c.args.granted.now true c.grouped.result _ _ _ _
    (c.grouped.ensures
    ∙ groups_cut pdu true items _ told.4 (c.check_items-check.ensures.ends c.if-check-ne-GOOD.false))
    (write_many_can items c.args.octets.now c.args.granted.now c.asking.result.octets c.asking.result.codes c.requires
    good
    c.asking.ensures.octets c.asking.ensures.codes)
    c.requires c.asking.ensures.stage
