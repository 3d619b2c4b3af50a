-- Laws of how doers that relay go on.
use Rattle.std.proofs.Common.{◌≡◌, ◌≤◌, inl, inr, ℕ, Bool, true, false, cond, ◌-◌, ◌^◌, Option, None, Some, List, [], ◌∷◌, ◌++◌, refl, ap, sym, ◌∙◌, subst, arith}
use Rattle.std.proofs.lemmas.List.{append-nil, append_assoc}
use Rattle.s7_outer.specs.Count.{RoseExactly, raised}
use Rattle.s7_outer.specs.DialShown.{DialShown}
use Rattle.s7_outer.specs.Shown.{Shown}
use Rattle.s7_dialogue.specs.declared.job.Job.{Job}
use Rattle.s7_dialogue.specs.declared.job.JobResult.{JobResult}
use Rattle.s7_relay.specs.Acts.{Act, CountsBy, GetsBy, GetsTo, Lead, Leads, StaysNear, is_failed, lacks, relayed_in, relays}
use Rattle.s7_relay.specs.Doer.{DoerModel, GoesOn}
use Rattle.s7_relay.specs.Errors.{is_failure}
use Rattle.s7_relay.specs.Far.{Dials, Does, FailsToDial, FarModel, FarServer, Lacks, Reaches, far_faults}
use Rattle.s7_relay.specs.declared.passage.Passage.{Passage}
use Rattle.s7_relay.specs.declared.passage.Passage.TheVariants as passage
use Rattle.s7_relay.specs.declared.windows.Window.{Window}

-- ---- what a telegram counts

dials_same : {M : Type 0} (shows : M → Shown) (server : FarServer) (old new : FarModel M) → Dials shows server old new
    → far_faults server new ≡ far_faults server old
dials_same shows server old new h =
    let dial = ap (λ (f : List ℕ → ℕ → ℕ). f server.host server.port) h.faults in
    let failures = ap (λ (f : FarModel _). f.failures) h.same in
    omega (arith, dial, failures)

fails_counts : {M : Type 0} (server : FarServer) (old new : FarModel M) → FailsToDial server old new
    → RoseExactly 1 (far_faults server old) (far_faults server new)
fails_counts server old new h =
    let rose = h.rose in
    let once = h.once server.host server.port in
    let failures = ap (λ (f : FarModel _). f.failures) h.same in
    (omega (arith, rose, failures), omega (arith, once, failures))

does_counts : {M : Type 0} (server : FarServer) (job : Job) (old new : FarModel M) (told : JobResult)
    → Does server job old new told → (b : Bool) → is_failure told.code ≡ b
    → CountsBy b (far_faults server old) (far_faults server new)
does_counts server job old new told h true is =
    let dial = ap (λ (d : DialShown _). d.faults server.host server.port) h.dial in
    let failures : new.failures ≡ raised old.failures = h.failures ∙ ap (λ b. cond b (raised old.failures) old.failures) is in
    (omega (arith, dial, failures), omega (arith, dial, failures))
does_counts server job old new told h false is =
    let dial = ap (λ (d : DialShown _). d.faults server.host server.port) h.dial in
    let failures : new.failures ≡ old.failures = h.failures ∙ ap (λ b. cond b (raised old.failures) old.failures) is in
    omega (arith, dial, failures)

reaches_same : {M : Type 0} (shows : M → Shown) (server : FarServer) (old new : FarModel M) (connect : Option JobResult)
    → Reaches shows server old new connect → far_faults server new ≡ far_faults server old
reaches_same shows server old new None h = ap (far_faults server) h.1
reaches_same shows server old new (Some told) h =
    let good : is_failure told.code ≡ false = ap is_failure h.1 in
    does_counts server _ h.2 new told h.4 false good ∙ dials_same shows server old h.2 h.3

-- if a first step left a count as it was, both steps together count as the second does
counts_on : (b : Bool) (before middle now : ℕ) → middle ≡ before → CountsBy b middle now → CountsBy b before now
counts_on b before middle now is = subst (λ n. CountsBy b n now) is

gets_counts : {M : Type 0} (shows : M → Shown) (server : FarServer) (job : Job) (old new : FarModel M) (p : Passage)
    → GetsTo shows server job old new p → CountsBy (is_failed p) (far_faults server old) (far_faults server new)
gets_counts shows server job old new passage.Near h = absurd h
gets_counts shows server job old new passage.Undialled h = fails_counts server old new h.1
gets_counts shows server job old new (passage.Unconnected connect) h =
    counts_on (is_failure connect.code) _ _ _ (dials_same shows server old h.middle h.dials)
    (does_counts server _ h.middle new connect h.does _ refl)
gets_counts shows server job old new (passage.Unpacked connect) h = reaches_same shows server old new connect h.0
gets_counts shows server job old new (passage.Asked connect told) h =
    counts_on (is_failure told.code) _ _ _ (reaches_same shows server old h.0 connect h.1)
    (does_counts server job h.0 new told h.3 _ refl)

near_counts : {M : Type 0} (server : FarServer) (old new : FarModel M) (p : Passage) → StaysNear old new p
    → CountsBy (is_failed p) (far_faults server old) (far_faults server new)
near_counts server old new p h =
    subst (λ q. CountsBy (is_failed q) (far_faults server old) (far_faults server new)) (sym h.0) (ap (far_faults server) h.1)

-- the count of far faults rises by one, or to 2^64 - 1, if the dial or a link failed in a request that got so far, and
-- otherwise stays
pub by_counts : {M : Type 0} (shows : M → Shown) (server : FarServer) (b : Bool) (job : Option Job) (old new : FarModel M)
    (p : Passage) → GetsBy shows server b job old new p
    → CountsBy (is_failed p) (far_faults server old) (far_faults server new)
by_counts shows server false job old new p h = near_counts server old new p h
by_counts shows server true None old new p h = near_counts server old new p h
by_counts shows server true (Some job) old new p h = gets_counts shows server job old new p h

-- ---- the count of far faults never falls

counts_hold : (b : Bool) (before now : ℕ) → before ≤ 2 ^ 64 - 1 → CountsBy b before now → before ≤ now
counts_hold true before now most h = let rose = h.0 in omega (arith, most, rose)
counts_hold false before now most h = omega (arith, h)

most_faults : {M : Type 0} (server : FarServer) (far : FarModel M) → far_faults server far ≤ 2 ^ 64 - 1
most_faults server far = omega arith

lacks_same : {M : Type 0} (shows : M → Shown) (server : FarServer) (old new : FarModel M) → Lacks shows server old new
    → far_faults server new ≡ far_faults server old
lacks_same shows server old new (inl same) = ap (far_faults server) same
lacks_same shows server old new (inr (inl h)) = dials_same shows server old new h.1
lacks_same shows server old new (inr (inr h)) = reaches_same shows server old new (Some h.0) h.1

leads_hold : {M : Type 0} (shows : M → Shown) (server : FarServer) (ws : List Window) (old new : FarModel M) (act : Act)
    → Leads shows server ws old new act → far_faults server old ≤ far_faults server new
leads_hold shows server ws old new (relays r) h =
    counts_hold (is_failed r.passage) _ _ (most_faults server old) h.counted
leads_hold shows server ws old new lacks h = let same = lacks_same shows server old new h in omega (arith, same)

-- the acts lead on, although links are replaced
pub faults_hold : {M : Type 0} (shows : M → Shown) (server : FarServer) (ws : List Window) (old new : FarModel M)
    (acts : List Act) → Lead shows server ws old acts new → far_faults server old ≤ far_faults server new
unfolding Lead
faults_hold shows server ws old new [] h = let is = ap (far_faults server) h in omega (arith, is)
faults_hold shows server ws old new (act ∷ acts) h =
    let first = leads_hold shows server ws old h.0 act h.1 in
    let rest = faults_hold shows server ws h.0 new acts h.2 in
    omega (arith, first, rest)

-- ---- acts after acts

relayed-append : (xs ys : List Act) → relayed_in (xs ++ ys) ≡ relayed_in xs ++ relayed_in ys
relayed-append [] ys = refl
relayed-append (relays r ∷ xs) ys = ap (λ rs. r ∷ rs) (relayed-append xs ys)
relayed-append (lacks ∷ xs) ys = relayed-append xs ys

lead_on : {M : Type 0} (shows : M → Shown) (server : FarServer) (ws : List Window) (a b c : FarModel M) (xs ys : List Act)
    → Lead shows server ws a xs b → Lead shows server ws b ys c → Lead shows server ws a (xs ++ ys) c
unfolding Lead
lead_on shows server ws a b c [] ys p q = subst (λ s. Lead shows server ws s ys c) p q
lead_on shows server ws a b c (x ∷ xs) ys p q = (p.0, p.1, lead_on shows server ws p.0 b c xs ys p.2 q)

-- a doer goes on by acts that lead from its far side
pub goes_on_by : {M : Type 0} (shows : M → Shown) (old new : DoerModel M) (acts : List Act)
    → new.windows ≡ old.windows → new.server ≡ old.server → new.limit ≡ old.limit
    → Lead shows old.server old.windows old.far acts new.far → new.kept ≡ old.kept ++ relayed_in acts
    → GoesOn shows old new
goes_on_by shows old new acts windows server limit lead kept = record {
  windows = windows;
  server = server;
  limit = limit;
  acts = acts;
  lead = lead;
  kept = kept;
  faults = faults_hold shows old.server old.windows old.far new.far acts lead;
}

pub goes_on_same : {M : Type 0} (shows : M → Shown) (d : DoerModel M) → GoesOn shows d d
unfolding Lead
goes_on_same shows d = goes_on_by shows d d [] refl refl refl refl (sym (append-nil d.kept))

pub goes_on_both : {M : Type 0} (shows : M → Shown) (a b c : DoerModel M) → GoesOn shows a b → GoesOn shows b c
    → GoesOn shows a c
goes_on_both {M} shows a b c p q =
    goes_on_by shows a c (p.acts ++ q.acts) (q.windows ∙ p.windows) (q.server ∙ p.server) (q.limit ∙ p.limit)
    (lead_on shows a.server a.windows a.far b.far c.far p.acts q.acts p.lead
    (subst (λ (ws : List Window). Lead shows a.server ws b.far q.acts c.far) p.windows
    (subst (λ (server : FarServer). Lead shows server b.windows b.far q.acts c.far) p.server q.lead)))
    (q.kept ∙ ap (λ rs. rs ++ relayed_in q.acts) p.kept ∙ append_assoc a.kept (relayed_in p.acts) (relayed_in q.acts)
    ∙ ap (λ rs. a.kept ++ rs) (sym (relayed-append p.acts q.acts)))
