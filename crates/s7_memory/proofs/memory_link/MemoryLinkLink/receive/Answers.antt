use Rattle.std.proofs.Common.{◌≡◌, ℕ, ◌+◌, ◌++◌, List, Some, length, take, drop, ap, sym, ◌∙◌, arith}
use Rattle.std.proofs.lemmas.List.{take_at, drop-drop, take-append-drop}
use Rattle.std.proofs.lemmas.Grind.{common_steps}
use Rattle.s7_memory.proofs.memory_link.MemoryLinkLink.receive.Goals as goal

moved : (input part into : List ℕ) (at n : ℕ) → part ≡ take n (drop at input) → length part ≡ n → Some (drop at input) ≡ Some (take n (part ++ into) ++ drop (at + n) input)
moved input part into at n p l =
    ap Some (sym (ap (λ xs. xs ++ drop (at + n) input) (take_at part into n l ∙ p) ∙ (ap (λ ys. take n (drop at input) ++ ys) (sym (drop-drop n at input)) ∙ take-append-drop n (drop at input))))

pub returns-clause-took : goal.returns-clause-took
returns-clause-took c =
    let input = c.args.self.now.input in
    let at = c.args.self.now.at in
    let n = c.min-count.result in
    let part : c.copy_from_slice.new.self ≡ take n (drop at input) = grind (arith, common_steps) in
    let len : length c.copy_from_slice.new.self ≡ n = grind (arith, common_steps) in
    moved input c.copy_from_slice.new.self (drop n c.args.into.now) at n part len
