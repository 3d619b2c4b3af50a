-- What a call that fills a list leaves in it.
use Rattle.std.specs.Prelude.{◌≡◌, Result, Ok, Err, MatchResult, List, []}

-- a call that fills a list has the result `told`: if it is Ok, the list holds what `told` has; if it is a refusal, the
-- list is empty
abbrev pub Gives : {X E : Type 0} → Result (List X) E → Result Unit E → List X → Type 0
Gives told result held =
    MatchResult result (λ _. told ≡ Ok held) (λ fault. (told ≡ Err fault) × (held ≡ []))
