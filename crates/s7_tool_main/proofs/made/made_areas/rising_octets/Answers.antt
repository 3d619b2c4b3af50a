use Rattle.std.proofs.Common.{◌≡◌, ◌∙◌, ◌+◌, ◌%◌, ◌++◌, ◌∷◌, [], ap, sym, arith, length}
use Rattle.s7_tool_main.proofs.AreasLemmas.{length-rising, rising_more, rising_none}
use Rattle.s7_tool_main.proofs.made.made_areas.rising_octets.Goals as goal

pub loop-k-init : goal.loop-k-init
loop-k-init c = c.new-octets.ensures.items ∙ sym (rising_none c.args.first)

pub loop-k-preserved : goal.loop-k-preserved
loop-k-preserved c =
    c.in_ok-push.ensures.items ∙ ap (λ xs. xs ++ ((c.args.first + c.loop-k.k) % 256) ∷ []) c.loop-k.invariant
    ∙ sym (rising_more c.args.first c.loop-k.k)

pub returns-clause-len : goal.returns-clause-len
returns-clause-len c =
    let whole : c.loop-k.k ≡ c.args.count = let h = c.loop-k-test.false in let k = c.loop-k.auto.k-end in omega arith in
    ap length (c.of_vec.ensures ∙ c.loop-k.invariant) ∙ length-rising c.args.first c.loop-k.k ∙ whole
