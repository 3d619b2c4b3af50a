use Rattle.std.proofs.Common.{◌<◌, ◌+◌, List, length, drop, get_or, sym, ◌∙◌, ap, arith, length-drop, map, eqb}
use Rattle.std.proofs.lemmas.List.{drop_more}
use Rattle.s7_item.specs.Item.{octet_count}
use Rattle.s7_item.specs.Sizes.{data_size}
use Rattle.s7_item.specs.declared.item.Item.{Item}
use Rattle.s7_relay.proofs.ReplyLemmas.{told_on, size_first, last_is, codes_behind, octets_behind}
use Rattle.s7_relay.specs.Replies.{codes_wanted, octets_wanted}
use Rattle.s7_relay.proofs.reply.add_items.Goals as goal

pub loop-k-preserved : goal.loop-k-preserved
loop-k-preserved c =
    let k = c.loop-k.k in
    let items = c.args.items.now in
    let near = c.args.near.now in
    let none : Item = record { area = 0; db = 0; word = 0; count = 0; address = 0 } in
    let x = get_or items k none in
    let g = get_or near k 0 in
    let at : k < length items = omega (arith, c.loop-k-test.true) in
    let in_near : k < length near = omega (arith, c.requires.near) in
    let ex = drop_more items k none at in
    let ey = drop_more near k 0 in_near in
    let step = c.add_first-rest.ensures in
    let inv = c.loop-k.invariant in
    let size = ap (λ (xs : List Item). data_size (map octet_count xs)) ex ∙ size_first x (drop (k + 1) items) (eqb (k + 1) (length items)) (last_is k items at) in
    record {
      told = told_on x (drop (k + 1) items) g (drop (k + 1) near) (drop k items) (drop k near) _ _ _ _ _ _ _
          (eqb (k + 1) (length items)) ex ey
          (omega (arith, length-drop (k + 1) items, length-drop (k + 1) near, c.requires.near))
          (last_is k items at) step.codes step.octets step.told inv.told;
      most = omega (arith, inv.most, step.most, size);
      few = omega (arith, inv.few, size);
      codes = ap length step.codes ∙ codes_behind g (drop (k + 1) near) c.loop-k.codes.now (inv.codes ∙ ap codes_wanted ey);
      octets = ap length step.octets
          ∙ octets_behind x (drop (k + 1) items) g (drop (k + 1) near) c.loop-k.codes.now c.loop-k.octets.now
          (inv.octets ∙ (λ i. octets_wanted (ex i) (ey i) c.loop-k.codes.now))
          ∙ ap (octets_wanted (drop (k + 1) items) (drop (k + 1) near)) (sym step.codes);
      same = step.room ∙ inv.same;
    }
