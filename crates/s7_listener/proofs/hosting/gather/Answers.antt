use Rattle.std.proofs.Common.{map, length, ap, ◌∙◌, sym, arith}
use Rattle.s7_listener.specs.Served.{told_of}
use Rattle.s7_listener.proofs.StepLemmas.{all_behind, all_same, empty_is, gathers_none, gathering_of, all_gathered}
use Rattle.s7_listener.proofs.hosting.gather.Goals as goal

pub loop-work-init : goal.loop-work-init
loop-work-init g c =
    let same = c.into_iter-work-iterator.ensures.into_iter_gives.0 in
    record {
      hall = c.requires.hall;
      kept = all_same _ _ _ same c.requires.keeps;
      room = omega (arith, c.requires.room, c.requires.none, c.args.works.ok, ap length same);
      gathering = λ pipes under_way. gathers_none _ _ _ _ (g.B.Bench.told c.args.seat) pipes c.args.works.items _ _ same
          (ap (map (told_of g.L.Link.shows)) (empty_is c.args.links.items c.args.links.len c.args.links.ok.0 c.requires.none)) under_way;
    }

pub loop-work-preserved : goal.loop-work-preserved
loop-work-preserved g c =
    let step = c.in-Some.ensures.steps.0 in
    record {
      hall = c.take_in-all.ensures.hall;
      kept = all_behind _ _ _ _ step c.loop-work.invariant.kept;
      room = omega (arith, c.loop-work.invariant.room, c.take_in-all.ensures.len, c.take_in-all.ensures.capacity, ap length step);
      gathering = λ pipes under_way. c.take_in-all.ensures.takes (g.B.Bench.told c.args.seat) pipes _
          (gathering_of _ _ _ _ (g.B.Bench.told c.args.seat) _ pipes _ _ _ step (c.loop-work.invariant.gathering pipes under_way));
    }

pub returns-clause-gathered : goal.returns-clause-gathered
returns-clause-gathered g c = λ pipes under_way.
    all_gathered _ _ _ _ (g.B.Bench.told c.args.seat) _ pipes _ _ (sym c.loop-work.work-iterator.rest.ok.0 ∙ c.in-None.ensures.steps.0) (c.loop-work.invariant.gathering pipes under_way)
