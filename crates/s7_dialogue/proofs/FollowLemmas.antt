-- Lemmas on jobs under way, as they go on.
use Rattle.std.proofs.Common.{◌≡◌, ℕ, Bool, true, false, cond, eqb, Option, Some, None, List, [], length, refl, sym, ap, ◌∙◌, subst}
use Rattle.std.specs.Prelude.{◌&&◌}
use Rattle.std.specs.List.{list_all}
use Rattle.std.proofs.lemmas.Bool.{and_from}
use Rattle.s7_item.specs.Item.{octet_count}
use Rattle.s7_dialogue.specs.declared.config.Config.{Config}
use Rattle.s7_dialogue.specs.declared.grant.Grant.{Grant}
use Rattle.s7_dialogue.specs.declared.job.Job.{Job}
use Rattle.s7_dialogue.specs.declared.job.Job.TheVariants as job
use Rattle.s7_dialogue.specs.declared.questions.left.Left.TheVariants as left
use Rattle.s7_dialogue.specs.declared.stages.asking.Asking.{Asking}
use Rattle.s7_dialogue.specs.declared.stages.running.Stage.{Stage}
use Rattle.s7_dialogue.specs.declared.stages.running.Stage.TheVariants as stage
use Rattle.s7_dialogue.specs.declared.stages.running.Running.{Running}
use Rattle.s7_dialogue.specs.Checks.{check_item, check_items, check_moment, check_password, check_image, octet_count_of}
use Rattle.s7_dialogue.specs.Flight.{Row}
use Rattle.s7_dialogue.specs.Dialogue.{nothing, connect_request, Plan, plan_of}
use Rattle.s7_dialogue.specs.Stages.{can_fly, can_ask_all, has_places, is_ready, IsOpening}
use Rattle.s7_dialogue.specs.Asks.{questions_behind, refused_at, IsNew}
use Rattle.s7_dialogue.specs.GoesOn.{conducted, Conducts, ConductsAt}
use Rattle.s7_dialogue.specs.Running.{Follows}

-- what a job that asks keeps
pub follows_at : (r : Running) (a : Asking) (config : Config) (granted : Option Grant) (rows : List Row)
    → r.stage ≡ stage.Asking a
    → Conducts config granted rows rows r.job r.found.items r.codes a → Follows r config granted rows
follows_at r a config granted rows is conducts =
    record {
      goes_on =
          subst (λ st. ConductsAt config granted rows rows r.job r.found.items r.codes st) (sym is) conducts;
    }

pub conducts_at : (r : Running) (a : Asking) (config : Config) (granted : Option Grant) (rows : List Row)
    → r.stage ≡ stage.Asking a
    → Follows r config granted rows → Conducts config granted rows rows r.job r.found.items r.codes a
conducts_at r a config granted rows is follows =
    subst (λ st. ConductsAt config granted rows rows r.job r.found.items r.codes st) is follows.goes_on

-- a job that stands the same follows the same
pub follows_as : (r r' : Running) (st : Stage) (config : Config) (granted : Option Grant) (rows : List Row)
    → r.stage ≡ st → r'.stage ≡ st → r'.job ≡ r.job → r'.found.items ≡ r.found.items → r'.codes ≡ r.codes
    → Follows r config granted rows → Follows r' config granted rows
follows_as r r' st config granted rows is is' same found codes follows = record {
  goes_on =
      subst (λ st. ConductsAt config granted rows rows r'.job r'.found.items r'.codes st) (sym is')
      (subst (λ (j : Job). ConductsAt config granted rows rows j r'.found.items r'.codes st) (sym same)
      (subst (λ (xs : List ℕ). ConductsAt config granted rows rows r.job xs r'.codes st) (sym found)
      (subst (λ (xs : List ℕ). ConductsAt config granted rows rows r.job r.found.items xs st) (sym codes)
      (subst (λ st. ConductsAt config granted rows rows r.job r.found.items r.codes st) is follows.goes_on))));
}

-- ---- the confirm

checked_first : (b : Bool) (p q : Plan) → p.first ≡ nothing → q.first ≡ nothing → (cond b p q).first ≡ connect_request
    → ⊥
checked_first true p q is too e = let f : nothing ≡ connect_request = sym is ∙ e in cc
checked_first false p q is too e = let f : nothing ≡ connect_request = sym too ∙ e in cc

-- only a connect on a client that isn't connected has a connect request first
connects : (done : Job) (config : Config) (granted : Option Grant)
    → (plan_of done config granted).first ≡ connect_request
    → (done ≡ job.Connect) × (granted ≡ None)
connects job.Connect config None e = (refl, refl)
connects _ config None e = absurd (cc)
connects (job.ReadArea item) config (Some g) e = absurd (checked_first (eqb (check_item item true) 0) _ _ refl refl e)
connects (job.WriteArea item octets) config (Some g) e =
    absurd (checked_first (eqb (check_item item (eqb (length octets) (octet_count item))) 0) _ _ refl refl e)
connects (job.ReadMany items) config (Some g) e =
    absurd (checked_first (eqb (check_items items true g.pdu false) 0) _ _ refl refl e)
connects (job.WriteMany items octets) config (Some g) e =
    absurd (checked_first (eqb (check_items items (eqb (length octets) (octet_count_of items)) g.pdu true) 0) _ _ refl
    refl e)
connects (job.ClockSet moment) config (Some g) e =
    absurd (checked_first (eqb (check_moment moment) 0) _ _ refl refl e)
connects (job.PasswordSet text) config (Some g) e =
    absurd (checked_first (eqb (check_password text) 0) _ _ refl refl e)
connects (job.Download image) config (Some g) e =
    absurd (checked_first (eqb (check_image image) 0) _ _ refl refl e)
connects _ config (Some g) e = absurd (cc)

negotiates_first : (config : Config) (found codes : List ℕ) (a : Asking) → IsNew a 1 left.Negotiation
    → Conducts config None [] [] job.Connect found codes a
negotiates_first config found codes a new = record {
  groups = [];
  conduct = ap (λ w. conducted config job.Connect w []) (sym new.width);
  whole = tt;
  asks = record {
    whole = ap (questions_behind config job.Connect a.from) (sym new.left);
    again = tt;
    flights = new.flights;
    spot = new.spot;
  };
  fit = tt;
  unanswered = λ other. tt;
  refused = ap refused_at new.refused;
  octets = λ asks. absurd (let e : false ≡ true = asks in cc);
  noted = λ asks. absurd (let e : false ≡ true = asks in cc);
}

pub confirmed : (r : Running) (a : Asking) (config : Config) (granted : Option Grant) → r.stage ≡ stage.Asking a
    → IsNew a 1 left.Negotiation → (plan_of r.job config granted).first ≡ connect_request
    → Follows r config granted []
confirmed r a config granted is new first =
    let both = connects r.job config granted first in
    follows_at r a config granted [] is
    (subst (λ (g : Option Grant). Conducts config g [] [] r.job r.found.items r.codes a) (sym both.1)
    (subst (λ (j : Job). Conducts config None [] [] j r.found.items r.codes a) (sym both.0)
    (negotiates_first config r.found.items r.codes a new)))

opening_places : (done : Job) (found : ℕ) (st : Stage) → IsOpening st → is_ready done found st ≡ true
    → has_places done found ≡ true
opening_places done found stage.Opening opens ready = ready
opening_places done found (stage.Asking a) opens ready = absurd opens
opening_places done found (stage.Single single) opens ready = absurd opens
opening_places done found stage.Leaving opens ready = absurd opens
opening_places done found (stage.Over code leaves) opens ready = absurd opens

-- the negotiation can be asked
pub confirmed_ready : (done : Job) (found : ℕ) (st : Stage) (a : Asking) → IsOpening st
    → is_ready done found st ≡ true
    → IsNew a 1 left.Negotiation → is_ready done found (stage.Asking a) ≡ true
confirmed_ready done found st a opens ready new =
    and_from (list_all (can_fly done found) a.flights.items)
    (can_ask_all done found a.from a.left && has_places done found)
    (ap (list_all (can_fly done found)) new.flights)
    (and_from (can_ask_all done found a.from a.left) (has_places done found)
    (ap (can_ask_all done found a.from) new.left) (opening_places done found st opens ready))
