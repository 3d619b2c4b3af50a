-- One more fresh client at the end.
use Rattle.std.proofs.Common.{◌≡◌, ℕ, ◌+◌, List, [], ◌∷◌, ◌++◌, length, map, Option, sym, ap, ◌∙◌, subst, arith}
use Rattle.std.proofs.lemmas.List.{length-map, map-append}
use Rattle.s7_area.specs.declared.guard.Guard.{Guard}
use Rattle.s7_dialogue.specs.declared.config.Config.{Config}
use Rattle.s7_rig.specs.Scripts.{Script}
use Rattle.s7_rig.specs.Shown.{script_told}
use Rattle.s7_rig.specs.declared.script.ClientScript.{ClientScript}
use Rattle.s7_rig.specs.State.{Post}
use Rattle.s7_rig.specs.Runs.{IsFreshPost, AreFresh}

pub AreFresh-none : (guard : Option Guard) (config : Config) (link : ℕ) → AreFresh guard config link [] []
unfolding AreFresh
AreFresh-none guard config link = tt {0}

pub AreFresh-push : (guard : Option Guard) (config : Config) (link at : ℕ) (scripts : List Script) (posts : List Post) (jobs : Script) (p : Post)
    → at ≡ link + length scripts → AreFresh guard config link scripts posts → IsFreshPost guard config at jobs p → AreFresh guard config link (scripts ++ jobs ∷ []) (posts ++ p ∷ [])
unfolding AreFresh
AreFresh-push guard config link at [] [] jobs p e h f =
    let k : at ≡ link = omega (arith, e) in
    (subst (λ n. IsFreshPost guard config n jobs p) k f, tt {0})
AreFresh-push guard config link at [] (q ∷ posts) jobs p e h f = absurd h
AreFresh-push guard config link at (s ∷ scripts) [] jobs p e h f = absurd h
AreFresh-push guard config link at (s ∷ scripts) (q ∷ posts) jobs p e h f =
    let k : at ≡ link + 1 + length scripts = omega (arith, e) in
    (h.0, AreFresh-push guard config (link + 1) at scripts posts jobs p k h.1 f)

-- the same of what stands for them
pub AreFresh-more : {S : Type 0} (guard : Option Guard) (config : Config) (at : ℕ) (post : S → Post) (scripts : List ClientScript) (jobs : ClientScript) (xs xs' : List S) (x : S)
    → at ≡ 1 + length scripts → xs' ≡ xs ++ x ∷ [] → AreFresh guard config 1 (map script_told scripts) (map post xs) → IsFreshPost guard config at (script_told jobs) (post x)
    → AreFresh guard config 1 (map script_told (scripts ++ jobs ∷ [])) (map post xs')
AreFresh-more guard config at post scripts jobs xs xs' x n e h f =
    let all = map-append script_told scripts (jobs ∷ []) in
    let posts = ap (map post) e ∙ map-append post xs (x ∷ []) in
    let k : at ≡ 1 + length (map script_told scripts) = n ∙ ap (λ m. 1 + m) (sym (length-map scripts script_told)) in
    subst (λ ps. AreFresh guard config 1 (map script_told (scripts ++ jobs ∷ [])) ps) (sym posts)
    (subst (λ ss. AreFresh guard config 1 ss (map post xs ++ post x ∷ [])) (sym all)
    (AreFresh-push guard config 1 at _ _ (script_told jobs) (post x) k h f))
