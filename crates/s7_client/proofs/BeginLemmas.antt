-- Laws of jobs that begin: the client stands at the beginning of the course.
use Rattle.std.proofs.Common.{◌≡◌, ◌⊎◌, inl, inr, ℕ, ◌-◌, List, [], ◌++◌, length, drop, map, refl, ap, sym, ◌∙◌, subst, arith}
use Rattle.std.specs.Prelude.{Option}
use Rattle.std.proofs.lemmas.List.{append-nil, nil_from_length, length-drop}
use Rattle.s7_wire.specs.Sent.{sent_messages}
use Rattle.s7_dialogue.specs.declared.config.Config.{Config}
use Rattle.s7_dialogue.specs.declared.job.Job.{Job}
use Rattle.s7_dialogue.specs.declared.grant.Grant.{Grant}
use Rattle.s7_dialogue.specs.declared.grant.Leaves.{Leaves}
use Rattle.s7_dialogue.specs.declared.stages.asking.Asking.{Asking}
use Rattle.s7_dialogue.specs.declared.stages.flight.Flight.{Flight}
use Rattle.s7_dialogue.specs.declared.stages.single.Single.{Single}
use Rattle.s7_client.specs.declared.talk.Talk.{Talk}
use Rattle.s7_dialogue.specs.declared.stages.running.Running.{Running}
use Rattle.s7_dialogue.specs.declared.stages.running.Stage.{Stage}
use Rattle.s7_dialogue.specs.declared.stages.running.Stage.TheVariants as stage
use Rattle.s7_dialogue.specs.Flight.{open_count}
use Rattle.s7_dialogue.specs.Dialogue.{End, First, nothing, connect_request, disconnect_request, Plan, silent, over, plan_of}
use Rattle.s7_dialogue.specs.Course.{Origin, Course, for_confirm, for_departure, for_nothing, blank, begun, by_first, conduct_of, asking, asked_on, connect_octets, disconnect_octets}
use Rattle.s7_dialogue.specs.Stages.{message_of}
use Rattle.s7_dialogue.specs.Running.{awaited_in, awaited_by, unput_of, unput_by, conduct_in, Begins, BeginsAt, Reached, Follows, IsOver, IsOpening, IsAsking, IsLeaving}
use Rattle.s7_client.specs.At.{StartsAt, BeginsTalk, pending, size_by, size_in}
use Rattle.s7_dialogue.proofs.FlightLemmas.{asks_on}
use Rattle.s7_dialogue.proofs.SingleLemmas.{unasked_unput}
use Rattle.s7_client.proofs.PacketLemmas.{IsSettled, asking_settled, conduct_same, follows_as, not_opening, not_leaving, opening_not_asking}

-- ---- what is begun

plan_same : (done done' : Job) (config config' : Config) (granted : Option Grant) → done ≡ done' → config' ≡ config
    → plan_of done' config' granted ≡ plan_of done config granted
plan_same done done' config config' granted a b = ap (λ (x : Config). plan_of done' x granted) b
    ∙ ap (λ x. plan_of x config granted) (sym a)

pub begun_by : (origin : Origin) (plan : Plan) → plan_of origin.job origin.config origin.granted ≡ plan
    → begun origin ≡ by_first origin.config plan.conduct (blank origin) plan.first
unfolding begun
begun_by origin plan e = ap (λ (x : Plan). by_first origin.config x.conduct (blank origin) x.first) e

begun_first : (origin : Origin) (first : First) → (plan_of origin.job origin.config origin.granted).first ≡ first
    → begun origin ≡ by_first origin.config (conduct_of origin) (blank origin) first
unfolding begun
begun_first origin first e = ap (by_first origin.config (conduct_of origin) (blank origin)) e

pub silent_asked : (origin : Origin) (end : End)
    → asking (silent end) (blank origin) ≡ record (blank origin) { awaits = for_nothing end [] }
unfolding asked_on open_count
silent_asked origin end = refl

starts_as : (origin : Origin) (c : Course) (t : Talk) (r : Running) → begun origin ≡ c → StartsAt origin c t r
    → StartsAt origin (begun origin) t r
starts_as origin c t r e h = subst (λ x. StartsAt origin x t r) (sym e) h

begins_as : (r : Running) (config : Config) (granted : Option Grant) (s : Stage) → r.stage ≡ s
    → Begins r config granted → BeginsAt r config granted s
begins_as r config granted s is h = subst (BeginsAt r config granted) is h

pending_one : (config : Config) (size : ℕ) (t : Talk) (r : Running) (octets : List ℕ) → t.outbox.unsent ≡ octets
    → unput_of config (size_in t) r ≡ [] → octets ≡ pending config t r
pending_one config size t r octets put none = sym (append-nil octets)
    ∙ (ap (λ x. octets ++ x) (sym none) ∙ ap (λ x. x ++ unput_of config (size_in t) r) (sym put))

-- ---- a connect

starts_opening : (origin : Origin) (t t' : Talk) (r : Running) (config : Config) → origin.config ≡ config
    → r.job ≡ origin.job → size_in t ≡ (blank origin).size → t.sequence ≡ (blank origin).sequence
    → r.stage ≡ stage.Opening → Begins r config origin.granted → t'.outbox.unsent ≡ connect_octets config
    → size_in t' ≡ size_in t → t'.sequence ≡ t.sequence
    → StartsAt origin (begun origin) t' r
starts_opening origin t t' r config ec ej size sequence is begins put size' sequence' =
    let first : (plan_of origin.job origin.config origin.granted).first ≡ connect_request =
    ap (λ (x : Plan). x.first) (plan_same r.job origin.job config origin.config origin.granted ej ec)
    ∙ begins_as r config origin.granted stage.Opening is begins in
    starts_as origin (record (blank origin) { out = connect_octets origin.config; awaits = for_confirm }) t' r
    (begun_first origin connect_request first) (record {
      size = size' ∙ size;
      sequence = sequence' ∙ sequence;
      awaits = ap (awaited_by r.found.items r.codes []) (sym is);
      opens = λ h. (first, refl);
      follows = λ h. absurd (subst IsAsking is h);
      departs = λ h. absurd (subst IsLeaving is h);
      out = pending_one origin.config (size_in t') t' r (connect_octets origin.config) (put ∙ ap connect_octets (sym ec))
          (ap (unput_by origin.config (size_in t') r.job) is);
    })

pub begins_opening : (config : Config) (t t' : Talk) (r : Running) → r.stage ≡ stage.Opening
    → t'.outbox.unsent ≡ connect_octets config → t'.reader ≡ t.reader → t'.sequence ≡ t.sequence
    → BeginsTalk config t r t' r
begins_opening config t t' r is put reader sequence = record {
  starts = λ origin ec ej size' sequence' begins. starts_opening origin t t' r config ec ej size' sequence' is begins
      put (ap size_by reader) sequence;
  few = omega (arith, ap length put);
  quiet = λ h. absurd (subst IsOver is h);
  opening = λ h. h;
  opens = λ h. h;
  reader = reader;
  job = refl;
}

-- ---- a disconnect

starts_leaving : (origin : Origin) (t t' : Talk) (r : Running) (config : Config) → origin.config ≡ config
    → r.job ≡ origin.job → size_in t ≡ (blank origin).size → t.sequence ≡ (blank origin).sequence
    → r.stage ≡ stage.Leaving → Begins r config origin.granted → t'.outbox.unsent ≡ disconnect_octets
    → size_in t' ≡ size_in t → t'.sequence ≡ t.sequence
    → StartsAt origin (begun origin) t' r
starts_leaving origin t t' r config ec ej size sequence is begins put size' sequence' =
    let first : (plan_of origin.job origin.config origin.granted).first ≡ disconnect_request =
    ap (λ (x : Plan). x.first) (plan_same r.job origin.job config origin.config origin.granted ej ec)
    ∙ begins_as r config origin.granted stage.Leaving is begins in
    starts_as origin (record (blank origin) { out = disconnect_octets; awaits = for_departure }) t' r
    (begun_first origin disconnect_request first) (record {
      size = size' ∙ size;
      sequence = sequence' ∙ sequence;
      awaits = ap (awaited_by r.found.items r.codes []) (sym is);
      opens = λ h. absurd (subst IsOpening is h);
      follows = λ h. absurd (subst IsAsking is h);
      departs = λ h. first;
      out = pending_one origin.config (size_in t') t' r disconnect_octets put (ap (unput_by origin.config (size_in t') r.job) is);
    })

pub begins_leaving : (config : Config) (t t' : Talk) (r : Running) → r.stage ≡ stage.Leaving
    → t'.outbox.unsent ≡ disconnect_octets → t'.reader ≡ t.reader → t'.sequence ≡ t.sequence
    → BeginsTalk config t r t' r
begins_leaving config t t' r is put reader sequence = record {
  starts = λ origin ec ej size' sequence' begins. starts_leaving origin t t' r config ec ej size' sequence' is begins
      put (ap size_by reader) sequence;
  few = omega (arith, ap length put);
  quiet = λ h. absurd (subst IsOver is h);
  opening = λ h. h;
  opens = λ h. h;
  reader = reader;
  job = refl;
}

-- ---- a job that is over at once

starts_over : (origin : Origin) (t t' : Talk) (r : Running) (config : Config) (code : ℕ) (leaves : Leaves)
    → origin.config ≡ config → r.job ≡ origin.job → size_in t ≡ (blank origin).size
    → t.sequence ≡ (blank origin).sequence → r.stage ≡ stage.Over code leaves → Begins r config origin.granted
    → t'.outbox.unsent ≡ [] → size_in t' ≡ size_in t → t'.sequence ≡ t.sequence
    → StartsAt origin (begun origin) t' r
starts_over origin t t' r config code leaves ec ej size sequence is begins put size' sequence' =
    let end : End = record { code = code; octets = r.found.items; codes = r.codes; leaves = leaves } in
    let plan : plan_of origin.job origin.config origin.granted ≡ over end =
    plan_same r.job origin.job config origin.config origin.granted ej ec
    ∙ begins_as r config origin.granted (stage.Over code leaves) is begins in
    starts_as origin (record (blank origin) { awaits = for_nothing end [] }) t' r (begun_by origin (over end) plan
    ∙ silent_asked origin end) (record {
      size = size' ∙ size;
      sequence = sequence' ∙ sequence;
      awaits = ap (awaited_by r.found.items r.codes []) (sym is);
      opens = λ h. absurd (subst IsOpening is h);
      follows = λ h. absurd (subst IsAsking is h);
      departs = λ h. absurd (subst IsLeaving is h);
      out = pending_one origin.config (size_in t') t' r [] put (ap (unput_by origin.config (size_in t') r.job) is);
    })

pub begins_over : (config : Config) (t t' : Talk) (r : Running) (code : ℕ) (leaves : Leaves)
    → r.stage ≡ stage.Over code leaves → t'.outbox.unsent ≡ [] → t'.reader ≡ t.reader → t'.sequence ≡ t.sequence
    → BeginsTalk config t r t' r
begins_over config t t' r code leaves is put reader sequence = record {
  starts = λ origin ec ej size' sequence' begins. starts_over origin t t' r config code leaves ec ej size' sequence' is
      begins put (ap size_by reader) sequence;
  few = omega (arith, ap length put);
  quiet = λ h. put;
  opening = λ h. h;
  opens = λ h. h;
  reader = reader;
  job = refl;
}

-- ---- questions

none_unput : (config : Config) (size : ℕ) (done : Job) (a : Asking) → a.unput ≡ 0
    → unput_by config size done (stage.Asking a) ≡ []
none_unput config size done a none =
    let all : List Flight = a.flights.items in
    ap (λ x. sent_messages size (map (message_of config done) x))
    (nil_from_length (drop (length all - a.unput) all) (omega (arith, none, length-drop (length all - a.unput) all)))

-- the job asks first, and nothing was asked yet
record AsksFirst (r : Running) (config : Config) (granted : Option Grant) : Type 0 where
  nothing_first : (plan_of r.job config granted).first ≡ nothing
  none : (size : ℕ) → unput_of config size r ≡ []
  follows : Follows r config granted []

asks_first : (r : Running) (config : Config) (granted : Option Grant) (s : Stage) → IsAsking s → r.stage ≡ s
    → BeginsAt r config granted s → AsksFirst r config granted
asks_first r config granted stage.Opening asks is begins = absurd asks
asks_first r config granted (stage.Asking a) asks is begins = record {
  nothing_first = begins.0;
  none = λ size. ap (unput_by config size r.job) is ∙ none_unput config size r.job a begins.1;
  follows = begins.2;
}
asks_first r config granted (stage.Single s) asks is begins = record {
  nothing_first = begins.0;
  none = λ size. ap (unput_by config size r.job) is ∙ unasked_unput config size r.job s begins.1;
  follows = begins.2;
}
asks_first r config granted stage.Leaving asks is begins = absurd asks
asks_first r config granted (stage.Over code leaves) asks is begins = absurd asks

starts_asking : (origin : Origin) (t t' : Talk) (r r' : Running) (config : Config) (last : ℕ)
    → origin.config ≡ config → r.job ≡ origin.job → size_in t ≡ (blank origin).size
    → t.sequence ≡ (blank origin).sequence → IsAsking r.stage → Begins r config origin.granted
    → ((before : Course) → Follows r config origin.granted before.rows → before.sequence ≡ t.sequence
    → unput_of config before.size r ≡ []
    → Reached config origin.granted before (asking (conduct_in r config origin.granted) before) r' last)
    → t'.outbox.unsent ≡ [] → size_in t' ≡ size_in t → t'.sequence ≡ last → r'.job ≡ r.job
    → StartsAt origin (begun origin) t' r'
starts_asking origin t t' r r' config last ec ej size sequence asks begins reached put size' sequence' done =
    let granted = origin.granted in
    let first = blank origin in
    let h = asks_first r config granted r.stage asks refl begins in
    let nothing_first : (plan_of origin.job origin.config granted).first ≡ nothing = ap (λ (x : Plan). x.first)
    (plan_same r.job origin.job config origin.config granted ej ec) ∙ h.nothing_first in
    let same = conduct_same r.job origin.job config origin.config granted granted ej (sym ec) refl in
    let k = reached first h.follows (sym sequence) (h.none first.size) in
    let c = asking (conduct_in r config granted) first in
    let conduct = conduct_in r config granted in
    let keeps = asks_on conduct.width conduct first in
    let is_settled : IsSettled (awaited_in r' []) = subst IsSettled k.awaits
    (asking_settled (conduct_in r config granted) first) in
    starts_as origin c t' r' (begun_first origin nothing nothing_first ∙ ap (λ x. asking x first) (sym same)) (record {
      size = size' ∙ (size ∙ sym keeps.size);
      sequence = sequence' ∙ k.sequence;
      awaits = k.awaits;
      opens = λ h. absurd (not_opening r'.found.items r'.codes [] r'.stage is_settled h);
      follows = λ h. follows_as r' config origin.config granted granted c.rows ec refl (k.follows h);
      departs = λ h. absurd (not_leaving r'.found.items r'.codes [] r'.stage is_settled h);
      out =
          k.out
          ∙ (ap (λ n. unput_of config n r') (sym (size' ∙ size))
          ∙ (ap (λ (x : Config). unput_of x (size_in t') r') (sym ec)
          ∙ ap (λ x. x ++ unput_of origin.config (size_in t') r') (sym put)));
    })

pub begins_asking : (config : Config) (t t' : Talk) (r r' : Running) (last : ℕ) → IsAsking r.stage
    → ((granted : Option Grant) (before : Course) → Follows r config granted before.rows → before.sequence ≡ t.sequence
    → unput_of config before.size r ≡ []
    → Reached config granted before (asking (conduct_in r config granted) before) r' last)
    → t'.outbox.unsent ≡ [] → t'.reader ≡ t.reader → t'.sequence ≡ last → r'.job ≡ r.job
    → (IsOpening r'.stage → ⊥) → BeginsTalk config t r t' r'
begins_asking config t t' r r' last asks reached put reader sequence done not_before = record {
  starts = λ origin ec ej size' sequence' begins. starts_asking origin t t' r r' config last ec ej size' sequence' asks
      begins (reached origin.granted) put (ap size_by reader) sequence done;
  few = omega (arith, ap length put);
  quiet = λ h. put;
  opening = λ h. absurd (opening_not_asking r.stage h asks);
  opens = λ h. absurd (not_before h);
  reader = reader;
  job = done;
}

-- ---- a job that asks, or is over

-- what is known of a job that went on from its first questions, if there are any
pub begins_going : (config : Config) (t t' : Talk) (r r' : Running) (last : ℕ) (st : Stage) → r.stage ≡ st
    → (IsOpening st → ⊥) → (IsLeaving st → ⊥)
    → ((granted : Option Grant) (before : Course) → Follows r config granted before.rows → before.sequence ≡ t.sequence
    → unput_of config before.size r ≡ []
    → Reached config granted before (asking (conduct_in r config granted) before) r' last)
    → t'.outbox.unsent ≡ [] → t'.reader ≡ t.reader → t'.sequence ≡ last → r'.job ≡ r.job
    → (IsOpening r'.stage → IsOpening r.stage) → ((IsAsking r.stage → ⊥) → (r' ≡ r) × (last ≡ t.sequence))
    → BeginsTalk config t r t' r'
begins_going config t t' r r' last stage.Opening is first silent reached put reader sequence done not_before same =
    absurd (first tt)
begins_going config t t' r r' last (stage.Asking a) is first silent reached put reader sequence done not_before same =
    begins_asking config t t' r r' last (subst IsAsking (sym is) tt) reached put reader sequence done
    (λ h. subst IsOpening is (not_before h))
begins_going config t t' r r' last (stage.Single s) is first silent reached put reader sequence done not_before same =
    begins_asking config t t' r r' last (subst IsAsking (sym is) tt) reached put reader sequence done
    (λ h. subst IsOpening is (not_before h))
begins_going config t t' r r' last stage.Leaving is first silent reached put reader sequence done not_before same =
    absurd (silent tt)
begins_going config t t' r r' last (stage.Over code leaves) is first silent reached put reader sequence done not_before
    same =
    let still = same (λ asks. subst IsAsking is asks) in
    subst (λ (x : Running). BeginsTalk config t r t' x) (sym still.0)
    (begins_over config t t' r code leaves is put reader (sequence ∙ still.1))

-- a job that asks or is over has neither a connect nor a disconnect request first
pub is_going : (st : Stage)
    → ((x : Asking) × (st ≡ stage.Asking x)) ⊎ (((x : Single) × (st ≡ stage.Single x))
    ⊎ ((code : ℕ) × (leaves : Leaves) × (st ≡ stage.Over code leaves)))
    → (IsOpening st → ⊥) × (IsLeaving st → ⊥)
is_going stage.Opening (inl h) = absurd (let e : stage.Opening ≡ stage.Asking h.0 = h.1 in cc)
is_going stage.Opening (inr (inl h)) = absurd (let e : stage.Opening ≡ stage.Single h.0 = h.1 in cc)
is_going stage.Opening (inr (inr h)) = absurd (let e : stage.Opening ≡ stage.Over h.0 h.1 = h.2 in cc)
is_going stage.Leaving (inl h) = absurd (let e : stage.Leaving ≡ stage.Asking h.0 = h.1 in cc)
is_going stage.Leaving (inr (inl h)) = absurd (let e : stage.Leaving ≡ stage.Single h.0 = h.1 in cc)
is_going stage.Leaving (inr (inr h)) = absurd (let e : stage.Leaving ≡ stage.Over h.0 h.1 = h.2 in cc)
is_going (stage.Asking a) h = ((λ e. e), λ e. e)
is_going (stage.Single s) h = ((λ e. e), λ e. e)
is_going (stage.Over code leaves) h = ((λ e. e), λ e. e)
