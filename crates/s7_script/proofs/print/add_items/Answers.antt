use Rattle.std.proofs.Common.{◌∙◌, sym, arith}
use Rattle.s7_script.proofs.PrintLemmas.{octets-at, values-ended, values-step}
use Rattle.s7_script.proofs.print.add_items.Goals as goal

pub split_at-requires : goal.split_at-requires
split_at-requires c =
    let at = octets-at c.args.items.now c.args.codes.now c.loop-k.k c.count_read.result _ c.loop-k-test.true c.requires.codes c.count_read.ensures in
    omega (arith, at, c.loop-k.invariant.octets)

pub loop-k-preserved : goal.loop-k-preserved
loop-k-preserved c =
    let items = c.args.items.now in
    let codes = c.args.codes.now in
    let at = octets-at items codes c.loop-k.k c.count_read.result _ c.loop-k-test.true c.requires.codes c.count_read.ensures in
    record {
      text = values-step items codes c.loop-k.rest.now c.split_at.result.1.now c.split_at.result.0.now c.loop-k.text.items c.add_item.new.text.items c.loop-k.k c.count_read.result _
          c.loop-k-test.true c.requires.codes c.count_read.ensures c.split_at.ensures.front c.split_at.ensures.back c.in_ok-add_item.ensures ∙ c.loop-k.invariant.text;
      octets = omega (arith, at, c.loop-k.invariant.octets, c.split_at.ensures.back_len);
    }

pub returns : goal.returns
returns c = sym (values-ended c.args.items.now c.args.codes.now c.loop-k.rest.now c.loop-k.text.items c.loop-k.k c.loop-k-test.false) ∙ c.loop-k.invariant.text
