use Rattle.std.proofs.Common.{◌≡◌, ◌∙◌, ◌-◌, ap, sym, arith, get_or, length}
use Rattle.std.proofs.lemmas.List.{length-drop}
use Rattle.s7_client.specs.Form.{count_read}
use Rattle.s7_watch.proofs.CutLemmas.{lines_ended, lines_step, octets_at, watched_at}
use Rattle.s7_watch.proofs.reads.add_lines.Goals as goal

pub cut-requires : goal.cut-requires
cut-requires c =
    let w = c.index-looked-k.result in
    let k = c.loop-k.k in
    let at = octets_at _ _ k k _ _ (watched_at c.args.looked.now c.args.codes.now w k c.loop-k-test.true c.requires.codes c.index-looked-k.is) in
    omega (arith, at, c.loop-k.invariant.octets)

pub loop-k-preserved : goal.loop-k-preserved
loop-k-preserved c =
    let looked = c.args.looked.now in
    let codes = c.args.codes.now in
    let w = c.index-looked-k.result in
    let k = c.loop-k.k in
    let at = octets_at _ _ k k _ _ (watched_at looked codes w k c.loop-k-test.true c.requires.codes c.index-looked-k.is) in
    let n = count_read w.tag.item (get_or codes k 0) in
    let gone : length c.cut.result.1.now ≡ length c.loop-k.rest.now - n = ap length c.cut.ensures.rest ∙ length-drop n c.loop-k.rest.now in
    record {
      text = lines_step c.args.round looked codes c.loop-k.rest.now c.cut.result.0.now c.cut.result.1.now c.loop-k.text.items c.add_if_new.new.text.items w k
          c.loop-k-test.true c.requires.codes c.index-looked-k.is c.cut.ensures.own c.cut.ensures.rest c.in_ok-add_if_new.ensures ∙ c.loop-k.invariant.text;
      octets = omega (arith, at, c.loop-k.invariant.octets, gone);
    }

pub returns : goal.returns
returns c =
    sym (lines_ended c.args.round c.args.looked.now c.args.codes.now c.loop-k.rest.now c.loop-k.text.items c.loop-k.k c.loop-k-test.false)
    ∙ c.loop-k.invariant.text
