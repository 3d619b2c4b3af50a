use Rattle.std.proofs.Common.{◌∙◌, ap, length, length-append, arith}
use Rattle.std.proofs.lemmas.Grind.{common_steps}
use Rattle.s7_plant.specs.Answers.{kinds, kind_count}
use Rattle.s7_plant.specs.State.{state_of}
use Rattle.s7_plant.proofs.BlockSayLemmas.{told_more}
use Rattle.s7_plant.proofs.lists.say_counts.Goals as goal

pub loop-kind-preserved : goal.loop-kind-preserved
loop-kind-preserved c =
    let many = ap length c.add_count.ensures.octets ∙ length-append c.loop-kind.reply.body.octets _ in
    record {
      error = c.loop-kind.invariant.error;
      params = c.loop-kind.invariant.params;
      told = told_more (kind_count (state_of c.args.plant.now)) kinds c.loop-kind.kind-index 0 c.loop-kind.reply.body.octets _ _ c.loop-kind-test.true c.loop-kind.invariant.told c.add_count.ensures.octets;
      items = c.loop-kind.invariant.items;
      len = omega (arith, many);
      ready = grind (arith, common_steps);
    }
