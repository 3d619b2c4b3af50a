use Rattle.std.proofs.Common.{◌≡◌, ◌<◌, ◌+◌, ◌++◌, ◌∷◌, [], length, drop, get_or, cond, eqb, ap, ◌∙◌, arith, vec_len}
use Rattle.std.proofs.lemmas.List.{drop_more}
use Rattle.std.specs.Vec.{vec_capacity}
use Rattle.s7_item.specs.declared.item.Item.{Item}
use Rattle.s7_relay.specs.Windows.{far_item}
use Rattle.s7_relay.proofs.TravelLemmas.{items_on, good_on, found_more, found_none}
use Rattle.s7_relay.proofs.far_job.far_items.Goals as goal
use Rattle.s7_relay.proofs.far_job.far_items.Goals.{then-codes-k, else-codes-k}

pub far_item-requires : goal.far_item-requires
far_item-requires c =
    let k = c.loop-k.k in
    let items = c.args.items.now in
    let codes = c.args.codes.now in
    let none : Item = record { area = 0; db = 0; word = 0; count = 0; address = 0 } in
    let at : k < length items = omega (arith, c.loop-k-test.true) in
    let in_codes : k < length codes = omega (arith, c.requires.codes) in
    (good_on c.args.windows.now (get_or items k none) (drop (k + 1) items) (drop k items) (get_or codes k 0)
    (drop (k + 1) codes) (drop k codes) (drop_more items k none at) (drop_more codes k 0 in_codes) c.loop-k.invariant.good).0
    c.if-codes-k.true

pub loop-k-preserved : goal.loop-k-preserved
loop-k-preserved c =
    let k = c.loop-k.k in
    let items = c.args.items.now in
    let codes = c.args.codes.now in
    let none : Item = record { area = 0; db = 0; word = 0; count = 0; address = 0 } in
    let x = get_or items k none in
    let at : k < length items = omega (arith, c.loop-k-test.true) in
    let in_codes : k < length codes = omega (arith, c.requires.codes) in
    let ex = drop_more items k none at in
    let ey = drop_more codes k 0 in_codes in
    let inv = c.loop-k.invariant in
    let grown : c.if-codes-k.found.items ≡ c.loop-k.found.items ++ cond (eqb (get_or codes k 0) 255) (far_item c.args.windows.now x ∷ []) [] =
    elim c.if-codes-k.branch [
      | then-codes-k w ↦ found_more (get_or codes k 0) _ _ _ w.if-codes-k.true
          (ap (λ v. v.items) w.found-is ∙ w.push_reserved.ensures.items ∙ ap (λ (y : Item). c.loop-k.found.items ++ y ∷ []) w.far_item.ensures.item)
      | else-codes-k w ↦ found_none (get_or codes k 0) _ _ _ w.if-codes-k.false (ap (λ v. v.items) w.found-is)
    ] in
    record {
      told = items_on c.args.windows.now x (drop (k + 1) items) (drop k items) (get_or codes k 0)
          (drop (k + 1) codes) (drop k codes) _ _ _ ex ey grown inv.told;
      good = (good_on c.args.windows.now x (drop (k + 1) items) (drop k items) (get_or codes k 0)
          (drop (k + 1) codes) (drop k codes) ex ey inv.good).1;
      count = elim c.if-codes-k.branch [
        | then-codes-k w ↦ let same = ap vec_len w.found-is in omega (arith, same, w.push_reserved.ensures.len, inv.count)
        | else-codes-k w ↦ let same = ap vec_len w.found-is in omega (arith, same, inv.count)
      ];
      room = elim c.if-codes-k.branch [
        | then-codes-k w ↦ let same = ap vec_capacity w.found-is in omega (arith, same, w.push_reserved.ensures.capacity, inv.room)
        | else-codes-k w ↦ let same = ap vec_capacity w.found-is in omega (arith, same, inv.room)
      ];
    }
