use Rattle.std.proofs.Common.{◌≡◌, ◌∙◌, ◌+◌, ◌<◌, ◌≤◌, ℕ, List, [], length, drop, get_or, refl, sym, arith}
use Rattle.std.proofs.lemmas.List.{at_drop_all, get_or_default}
use Rattle.s7_item.specs.declared.item.Item.{Item}
use Rattle.s7_client.specs.Form.{count_read, octets_read}
use Rattle.s7_watch.proofs.CutLemmas.{octets_at}
use Rattle.s7_library_tests.proofs.watches.octets_read.Goals as goal

-- the octets of the item at an index come before those of the items after it
octets_on : (items : List Item) (codes : List ℕ) (k : ℕ) (d : Item) → k < length items → length codes ≡ length items
    → octets_read (drop k items) (drop k codes)
    ≡ count_read (get_or items k d) (get_or codes k 0) + octets_read (drop (k + 1) items) (drop (k + 1) codes)
octets_on items codes k d inside same =
    octets_at items codes k k (get_or items k d) (get_or codes k 0) (record {
      inside = inside;
      coded = omega arith;
      item_is = get_or_default items k d (get_or items k d) inside;
      code_is = refl;
    })

-- no items are left
none_left : (items : List Item) (codes : List ℕ) (k : ℕ) → length items ≤ k → octets_read (drop k items) (drop k codes) ≡ 0
unfolding octets_read
none_left items codes k over = at_drop_all (λ x. octets_read x (drop k codes)) items k over

pub loop-k-preserved : goal.loop-k-preserved
loop-k-preserved c =
    let none : Item = record { area = 0; db = 0; word = 0; count = 0; address = 0 } in
    let at = octets_on c.args.items.now c.args.codes.now c.loop-k.k none c.loop-k-test.true c.requires.codes in
    record {
      total = omega (arith, at, c.count_read-total.ensures.count, c.loop-k.invariant.total);
      most = omega (arith, c.count_read-total.ensures.most, c.loop-k.invariant.most);
    }

pub returns : goal.returns
returns c =
    let none = none_left c.args.items.now c.args.codes.now c.loop-k.k c.loop-k-test.false in
    omega (arith, none, c.loop-k.invariant.total)
