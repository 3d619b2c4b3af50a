-- Facts about clients and pipes.
use Rattle.std.proofs.Common.{◌≡◌, ℕ, List, [], ◌∷◌, ◌++◌, length, refl, ap, sym, ◌∙◌, append_assoc, arith, length-append}
use Rattle.std.specs.Prelude.{Option, None, Some, unwrap_or, option_map, IsSome}
use Rattle.std.specs.Borrow.{GName}
use Rattle.std.specs.Io.KnownBytes.{prepend_known, append_known}
use Rattle.s7_memory.specs.PipesHeld.{PipesHeld}
use Rattle.s7_memory.specs.Pipes.{end_of}
use Rattle.s7_memory.specs.declared.pipes.Side.TheVariants as side
use Rattle.s7_client.specs.declared.connection.Connection.{Connection}
use Rattle.s7_dialogue.specs.declared.job.Job.{Job}
use Rattle.s7_dialogue.specs.Course.{Origin}
use Rattle.s7_client.specs.Polling.{StandsFor, job_of, waited_of, WaitsOnce}
use Rattle.std.proofs.lemmas.List.{append-nil}
use Rattle.s7_rig.proofs.EndLemmas.{IsQuiet}

-- a client that stands for octets has a job
pub has_job : (c : Connection) (origin : Origin) (b w : List ℕ) → StandsFor c origin b w → job_of c ≡ None → ⊥
has_job c origin b w s idle = absurd (none_job _ (sym idle ∙ ap (option_map _) s.is))
  where
    none_job : (j : Job) → None ≡ Some j → ⊥
    none_job j e = absurd (cc)

-- one without a job has waited for none
none_too : {A : Type 0} (f : A → Job) (g : A → ℕ) (o : Option A) → option_map f o ≡ None → option_map g o ≡ None
none_too f g None e = refl
none_too f g (Some a) e = absurd (cc)

waits_none : (o o' : Option ℕ) (polls : ℕ) → o ≡ None → WaitsOnce o o' polls → ⊥
waits_none None (Some n) polls e h = h
waits_none None None polls e h = h
waits_none (Some m) o' polls e h = absurd (cc)

-- and doesn't wait
pub waits_for_none : (c c' : Connection) (polls : ℕ) → job_of c ≡ None → WaitsOnce (waited_of c) (waited_of c') polls → ⊥
waits_for_none c c' polls idle h = waits_none (waited_of c) (waited_of c') polls (none_too _ _ _ idle) h

pub some_job : (o : Option Job) → IsSome o → o ≡ None → ⊥
some_job None h e = absurd (cc)
some_job (Some j) h e = absurd (cc)

-- ---- what a client moves over its end

pub took : (loan : GName) (p p' : PipesHeld) (received : List ℕ) → (end_of loan p side.Client).left ≡ prepend_known received (end_of loan p' side.Client).left → p.to_client ≡ received ++ p'.to_client
took loan p p' received e = ap (λ o. unwrap_or o []) e

pub wrote : (loan : GName) (p p' : PipesHeld) (written : List ℕ) → (end_of loan p' side.Client).written ≡ append_known (end_of loan p side.Client).written written → p'.to_server ≡ p.to_server ++ written
wrote loan p p' written e = ap (λ o. unwrap_or o []) e

pub same_moment : (loan : GName) (p p' : PipesHeld) → (end_of loan p' side.Client).moment ≡ (end_of loan p side.Client).moment → p'.moment ≡ p.moment
same_moment loan p p' e = ap (λ o. unwrap_or o 0) e

-- pipes neither fail nor end
pub pipes_quiet : (loan : GName) (p p' : PipesHeld) → IsQuiet (end_of loan p side.Client) (end_of loan p' side.Client)
pipes_quiet loan p p' = (λ rose. absurd (omega (arith, rose)), λ ended. absurd (cc))

-- octets that are taken go on to be those that were given
pub given_on : (answered heard unread to_client received used unread' to_client' : List ℕ)
    → answered ≡ heard ++ (unread ++ to_client) → to_client ≡ received ++ to_client' → unread ++ received ≡ used ++ unread'
    → answered ≡ (heard ++ used) ++ (unread' ++ to_client')
given_on answered heard unread to_client received used unread' to_client' given took inbox =
    given
    ∙ ap (λ x. heard ++ (unread ++ x)) took
    ∙ ap (λ x. heard ++ x) (sym (append_assoc unread received to_client') ∙ ap (λ x. x ++ to_client') inbox ∙ append_assoc used unread' to_client')
    ∙ sym (append_assoc heard used (unread' ++ to_client'))

pub taken_on : (sent used unread to_server written to_server' : List ℕ)
    → sent ≡ used ++ (unread ++ to_server) → to_server' ≡ to_server ++ written → sent ++ written ≡ used ++ (unread ++ to_server')
taken_on sent used unread to_server written to_server' taken wrote =
    ap (λ x. x ++ written) taken
    ∙ append_assoc used (unread ++ to_server) written
    ∙ ap (λ x. used ++ x) (append_assoc unread to_server written ∙ ap (λ x. unread ++ x) (sym wrote))

no_octets : (xs ys : List ℕ) → length (xs ++ ys) ≡ length ys → xs ≡ []
no_octets [] ys e = refl
no_octets (x ∷ xs) ys e = absurd (omega (arith, e, length-append xs ys))

-- a call that leaves the pipes and what is unread moves and uses nothing
pub used_nothing : (unread received used : List ℕ) (to_client : List ℕ) → to_client ≡ received ++ to_client → unread ++ received ≡ used ++ unread → used ≡ []
used_nothing unread received used to_client took inbox =
    let none : received ≡ [] = no_octets received to_client (ap length (sym took)) in
    no_octets used unread (ap length (sym inbox ∙ ap (λ x. unread ++ x) none ∙ append-nil unread))
