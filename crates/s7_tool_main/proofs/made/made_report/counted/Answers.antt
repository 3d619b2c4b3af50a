use Rattle.std.proofs.Common.{◌≡◌, ◌∙◌, ℕ, List, inl, inr, sym, ap, arith, length, min, take}
use Rattle.std.proofs.lemmas.Bool.Decides.{leb_tells}
use Rattle.std.proofs.lemmas.List.{take_all}
use Rattle.s7_dialogue.specs.declared.job.JobResult.{JobResult}
use Rattle.s7_tool_main.specs.GenText.{counted}
use Rattle.s7_tool_main.proofs.made.made_report.counted.Goals as goal

take_least : (xs : List JobResult) (n m : ℕ) → m ≡ min (length xs) n → take m xs ≡ take n xs
take_least xs n m least =
    elim (leb_tells (length xs) n) [
      | inl few ↦ let h = few.1 in take_all m xs (omega arith) ∙ sym (take_all n xs h)
      | inr many ↦ let h = many.1 in let same : m ≡ n = omega arith in ap (λ k. take k xs) same
    ]

pub returns : goal.returns
unfolding counted
returns c = take_least c.args.results.now 201 c.min.result c.min.ensures
