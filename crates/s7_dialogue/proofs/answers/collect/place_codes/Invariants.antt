use Rattle.std.proofs.Common.{◌≡◌, ◌+◌, drop}
use Rattle.s7_dialogue.specs.Taking.{with_codes}
use Rattle.s7_dialogue.proofs.answers.collect.place_codes.Given as goal

-- the codes so far, with those to come, are all
abbrev pub invariant-loop-k : goal.invariant-loop-k
invariant-loop-k l = with_codes (l.place + l.k) (drop l.k l.noted) l.codes ≡ with_codes l.place l.noted l.fn.codes
