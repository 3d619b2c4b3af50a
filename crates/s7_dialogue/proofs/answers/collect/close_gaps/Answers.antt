use Rattle.std.proofs.Common.{◌≡◌, ◌+◌, ◌-◌, eqb, sym, ap, ◌∙◌, arith}
use Rattle.s7_dialogue.proofs.GapLemmas.{on_past, on_closed}
use Rattle.s7_dialogue.proofs.answers.collect.close_gaps.Goals as goal
use Rattle.s7_dialogue.proofs.answers.collect.close_gaps.Goals.{then-is_good, else-is_good}

pub loop-k-preserved : goal.loop-k-preserved
loop-k-preserved c =
    let code = ap (λ code. eqb code 0xFF) (sym c.code_at.ensures) ∙ sym c.is_good.ensures in
    elim c.if-is_good.branch [
      | then-is_good w ↦
          let on =
          on_closed _ _ c.loop-k.found.items _ _ _ c.octet_count-count.result _ c.loop-k.from c.loop-k.to _ _
          c.loop-k-test.true
          c.octet_count-count.ensures.count (code ∙ w.if-is_good.true)
          (let e : c.loop-k.from + c.octet_count-count.result - c.loop-k.from ≡ c.octet_count-count.result =
          omega arith in e)
          c.loop-k.invariant.behind c.loop-k.invariant.within w.to-is
          (ap (λ v. v.items) w.found-is ∙ w.copy_within.ensures.items)
          c.loop-k.invariant.so_far in
          record { so_far = on.so_far; behind = on.behind; within = on.within }
      | else-is_good w ↦
          let on =
          on_past _ _ c.loop-k.found.items _ _ _ c.octet_count-count.result c.loop-k.from c.loop-k.to _ _
          c.loop-k-test.true
          c.octet_count-count.ensures.count (code ∙ w.if-is_good.false) c.loop-k.invariant.behind
          c.loop-k.invariant.within
          w.to-is (ap (λ v. v.items) w.found-is) c.loop-k.invariant.so_far in
          record { so_far = on.so_far; behind = on.behind; within = on.within }
    ]
