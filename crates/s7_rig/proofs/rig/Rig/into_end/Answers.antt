use Rattle.s7_plant.specs.Books.{book_told}
use Rattle.std.proofs.Common.{◌≡◌, map, refl, sym, ap, ◌∙◌, arith}
use Rattle.std.proofs.lemmas.Simd.{map-map}
use Rattle.std.specs.Vec.Iter.{into_iter_items}
use Rattle.s7_rig.specs.Shown.{post_of, post_told, client_told}
use Rattle.s7_rig.proofs.WalksLemmas.{walk_more, walk_left, walk_below, walk_end, shown_more, shown_count}
use Rattle.s7_rig.proofs.rig.Rig.into_end.Goals as goal

pub push_reserved-requires : goal.push_reserved-requires
push_reserved-requires c =
    let at = c.loop-station in
    let below = walk_below at.yielded _ (into_iter_items c.next.new.self) _ c.in-Some.station at.invariant.all c.in-Some.ensures.steps.0 in
    let count = shown_count client_told (λ s. post_told (post_of s)) at.clients.items at.yielded at.invariant.told in
    let room = at.invariant.room in
    omega (arith, at.clients.ok.0)

pub loop-station-preserved : goal.loop-station-preserved
loop-station-preserved c =
    let at = c.loop-station in
    let steps = c.in-Some.ensures.steps in record {
      may = tt {0};
      ends = tt {0};
      all = walk_more at.yielded _ (into_iter_items c.next.new.self) _ c.in-Some.station at.invariant.all steps.0;
      left = walk_left _ (into_iter_items c.next.new.self) c.in-Some.station _ _ steps.0 steps.1 at.invariant.left;
      room = let room = at.invariant.room in omega (arith, c.push_reserved.ensures.capacity);
      told = shown_more client_told (λ s. post_told (post_of s)) at.clients.items _ at.yielded _ c.in-Some.station c.push_reserved.ensures.items at.invariant.told refl;
    }

pub returns : goal.returns
returns c =
    let at = c.loop-station in
    let none = c.in-None.ensures.steps in
    let xs = c.args.self.stations.items in
    let all : at.yielded ≡ xs = walk_end at.yielded _ _ at.invariant.all (sym at.invariant.left ∙ none.0) in
    ap (λ cs. record { book = book_told c.args.self.book; clients = cs })
    (at.invariant.told ∙ (ap (map (λ s. post_told (post_of s))) all ∙ sym (map-map post_told post_of xs)))
