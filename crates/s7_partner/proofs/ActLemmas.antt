-- Acts behind others.
use Rattle.std.proofs.Common.{◌≡◌, List, [], ◌∷◌, ◌++◌, refl, ap, sym, ◌∙◌, append_assoc}
use Rattle.s7_dialogue.specs.declared.config.Config.{Config}
use Rattle.s7_partner.specs.declared.role.Role.{Role}
use Rattle.s7_partner.specs.States.{State, Act, start, with_act, with_acts, after, read_by, read_in}
use Rattle.s7_partner.specs.Acts.{AreTaken, AreQuiet}
use Rattle.s7_partner.specs.Partners.{IsPrefixOf}
use Rattle.s7_partner.proofs.GrowthLemmas.{acts_grow, prefix_to}

pub with_acts-append : (role : Role) (config : Config) (s : State) (xs ys : List Act)
    → with_acts role config s (xs ++ ys) ≡ with_acts role config (with_acts role config s xs) ys
with_acts-append role config s [] ys = refl
with_acts-append role config s (x ∷ xs) ys = with_acts-append role config (with_act role config s x) xs ys

pub after-append : (role : Role) (config : Config) (xs ys : List Act)
    → after role config (xs ++ ys) ≡ with_acts role config (after role config xs) ys
after-append role config xs ys = with_acts-append role config (start role config) xs ys

pub AreTaken-append : (role : Role) (config : Config) (s : State) (xs ys : List Act) → AreTaken role config s xs
    → AreTaken role config (with_acts role config s xs) ys → AreTaken role config s (xs ++ ys)
AreTaken-append role config s [] ys t u = u
AreTaken-append role config s (x ∷ xs) ys t u =
    (t.0, AreTaken-append role config (with_act role config s x) xs ys t.1 u)

pub taken_behind : (role : Role) (config : Config) (s : State) (xs ys : List Act) → AreTaken role config s (xs ++ ys)
    → AreTaken role config (with_acts role config s xs) ys
taken_behind role config s [] ys t = t
taken_behind role config s (x ∷ xs) ys t = taken_behind role config (with_act role config s x) xs ys t.1

pub AreQuiet-append : (role : Role) (config : Config) (s : State) (xs ys : List Act) → AreQuiet role config s xs
    → AreQuiet role config (with_acts role config s xs) ys → AreQuiet role config s (xs ++ ys)
AreQuiet-append role config s [] ys t u = u
AreQuiet-append role config s (x ∷ xs) ys t u =
    (t.0, AreQuiet-append role config (with_act role config s x) xs ys t.1 u)

pub read_in-append : (xs ys : List Act) → read_in (xs ++ ys) ≡ read_in xs ++ read_in ys
read_in-append [] ys = refl
read_in-append (x ∷ xs) ys =
    ap (λ e. read_by x ++ e) (read_in-append xs ys) ∙ sym (append_assoc (read_by x) (read_in xs) (read_in ys))

-- what may be sent behind further acts
pub after_grows : (role : Role) (config : Config) (xs ys : List Act)
    → IsPrefixOf (after role config xs).out (after role config (xs ++ ys)).out
after_grows role config xs ys =
    prefix_to (after role config xs).out (with_acts role config (after role config xs) ys).out
    (after role config (xs ++ ys)).out (acts_grow role config (after role config xs) ys)
    (ap (λ (s : State). s.out) (sym (after-append role config xs ys)))

-- and behind acts that begin so
pub front_grows : (role : Role) (config : Config) (all xs ys : List Act) → all ≡ xs ++ ys
    → IsPrefixOf (after role config xs).out (after role config all).out
front_grows role config all xs ys e =
    prefix_to (after role config xs).out (after role config (xs ++ ys)).out (after role config all).out
    (after_grows role config xs ys) (ap (λ (acts : List Act). (after role config acts).out) (sym e))
