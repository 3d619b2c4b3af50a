use Rattle.std.proofs.Common.{[], ◌∷◌, length, map, refl, sym, ap, subst, ◌∙◌, arith}
use Rattle.std.proofs.lemmas.List.{length-append}
use Rattle.std.specs.Vec.Iter.{into_iter_items}
use Rattle.s7_rig.specs.Shown.{post_of, script_told}
use Rattle.s7_rig.specs.Runs.{IsFreshPost, AreFresh}
use Rattle.s7_rig.proofs.WalksLemmas.{walk_more, walk_left, count_more}
use Rattle.s7_rig.proofs.FreshLemmas.{AreFresh-none, AreFresh-more}
use Rattle.s7_rig.proofs.rig.Rig.new.Goals as goal

pub loop-script-init : goal.loop-script-init
loop-script-init c =
    let none = sym c.in_ok-stations.ensures.items in
    let gives = c.into_iter-script-iterator.ensures.into_iter_gives in record {
      may = tt {0};
      ends = tt {0};
      all = gives.0;
      left = gives.1 ∙ (c.args.scripts.ok.0 ∙ ap length (sym gives.0));
      link = refl;
      count = ap length (sym none);
      room = omega (arith, c.in_ok-stations.ensures.exact, c.len.ensures, c.args.scripts.ok.0);
      fresh = subst (λ xs. AreFresh c.args.areas.guard c.args.config 1 [] (map post_of xs)) none (AreFresh-none c.args.areas.guard c.args.config 1);
    }

pub loop-script-preserved : goal.loop-script-preserved
loop-script-preserved c =
    let at = c.loop-script in
    let steps = c.in-Some.ensures.steps in
    let items = c.push_reserved.ensures.items in record {
      may = tt {0};
      ends = tt {0};
      all = walk_more at.yielded _ (into_iter_items c.next.new.self) _ c.in-Some.script at.invariant.all steps.0;
      left = walk_left _ (into_iter_items c.next.new.self) c.in-Some.script _ _ steps.0 steps.1 at.invariant.left;
      link = let link = at.invariant.link in omega (arith, length-append at.yielded (c.in-Some.script ∷ []));
      count = count_more at.stations.items _ at.yielded _ c.in-Some.script items at.invariant.count;
      room = let room = at.invariant.room in omega (arith, c.push_reserved.ensures.capacity);
      fresh = AreFresh-more c.args.areas.guard c.args.config at.link post_of at.yielded c.in-Some.script at.stations.items _ c.in_ok-station.station at.invariant.link items at.invariant.fresh
          (subst (λ g. IsFreshPost g c.args.config at.link (script_told c.in-Some.script) (post_of c.in_ok-station.station)) c.guard-guard.ensures c.in_ok-station.ensures);
    }
