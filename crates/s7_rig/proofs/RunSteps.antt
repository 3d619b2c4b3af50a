-- What holds of all clients and their sessions over a run.
use Rattle.std.proofs.Common.{◌≡◌, ◌≢◌, ◌⊎◌, inl, inr, ℕ, zero, suc, ◌+◌, ◌-◌, ◌*◌, ◌≤◌, Bool, true, false, List, [], ◌∷◌, ◌++◌, length, refl, ap, sym, ◌∙◌, subst, append_assoc, append-nil, arith}
use Rattle.std.specs.Prelude.{Some, unwrap_or, slice_get, slice_set, ◌==◌, if◌then◌else◌}
use Rattle.std.proofs.lemmas.Option.{slice_get_within}
use Rattle.std.proofs.lemmas.List.{length-set}
use Rattle.s7_area.specs.Memory.{Memory}
use Rattle.s7_area.specs.Registers.{IsMemory}
use Rattle.s7_header.specs.Negotiation.{most_pdu}
use Rattle.s7_dialogue.specs.declared.config.Config.{Config}
use Rattle.s7_client.specs.declared.job.Polled.{Polled}
use Rattle.s7_client.specs.declared.job.Polled.TheVariants as polled
use Rattle.s7_plant.specs.Books.{BookTold}
use Rattle.s7_plant.specs.Journals.{AreReady}
use Rattle.s7_plant.specs.State.{begins_with, state_of}
use Rattle.s7_session.specs.Books.{history_of}
use Rattle.s7_rig.specs.Plants.{IsPlant}
use Rattle.s7_rig.specs.Split.{state_at}
use Rattle.s7_rig.specs.State.{Post, State}
use Rattle.s7_rig.proofs.PlantLemmas.{plants_at, begins_plant}
use Rattle.s7_rig.specs.Turns.{StartsNext, StartsNothing, with_polled, IsClientTurn, IsSessionTurn, ClientTurn, SessionTurn, IsTurnOf}
use Rattle.s7_schedule.specs.Drawing.{seeded}
use Rattle.s7_rig.specs.Runs.{Turns, Rounds, IsRun, actors_of, most_rounds}
use Rattle.s7_rig.specs.Sent.{sent_in_turn, answered_in_turn, in_turns, in_rounds, second_or_none, in_run}
use Rattle.s7_rig.proofs.Joint.{Octets, Joint}
use Rattle.s7_rig.proofs.ClientSteps.{client_step}
use Rattle.s7_rig.proofs.SessionSteps.{session_step, other_session_step}
use Rattle.s7_rig.proofs.OwnLemmas.{AllLinks, all_links_go_on, is_same, is_other}

-- ---- places of a list

-- an element of a list with another one at a place is that one, or stood there before
get_set : (xs : List Post) (i : ℕ) (w : Post) (k : ℕ) (p : Post) → slice_get (slice_set xs i w) k ≡ Some p → ((k ≡ i) × (p ≡ w)) ⊎ ((k ≢ i) × (slice_get xs k ≡ Some p))
get_set [] i w k p e = absurd (cc)
get_set (x ∷ xs) zero w zero p e = inl (refl, ap (λ o. unwrap_or o p) (sym e))
get_set (x ∷ xs) zero w (suc k) p e = inr (λ same. absurd (omega (arith, same)), e)
get_set (x ∷ xs) (suc i) w zero p e = inr (λ same. absurd (omega (arith, same)), e)
get_set (x ∷ xs) (suc i) w (suc k) p e = up (get_set xs i w k p e)
  where
    up : ((k ≡ i) × (p ≡ w)) ⊎ ((k ≢ i) × (slice_get xs k ≡ Some p)) → ((suc k ≡ suc i) × (p ≡ w)) ⊎ ((suc k ≢ suc i) × (slice_get xs k ≡ Some p))
    up (inl h) = inl (ap suc h.0, h.1)
    up (inr h) = inr (λ same. h.0 (omega (arith, same)), h.1)

if_same : (a b : ℕ) (xs : List ℕ) → a ≡ b → (if a == b then xs else []) ≡ xs
if_same a b xs e = ap (λ t. if t then xs else []) (is_same a b e)

if_other : (a b : ℕ) (xs : List ℕ) → a ≢ b → (if a == b then xs else []) ≡ []
if_other a b xs e = ap (λ t. if t then xs else []) (is_other a b e)

-- ---- turns keep the link

polled_link : (r : Polled) (p : Post) → (with_polled r p).link ≡ p.link
polled_link (polled.Done told) p = refl
polled_link polled.Pending p = refl
polled_link polled.Idle p = refl

started_link : (p q : Post) → StartsNext p q ⊎ StartsNothing p q → q.link ≡ p.link
started_link p q (inl s) = ap (λ (x : Post). x.link) s.same
started_link p q (inr s) = ap (λ (x : Post). x.link) s.same

client_link : (p q : Post) (stirs : Bool) → IsClientTurn p q stirs → q.link ≡ p.link
client_link p q stirs t = ap (λ (x : Post). x.link) t.polls.same ∙ polled_link t.polls.result _ ∙ started_link p t.ready t.starts

session_link : (p q : Post) (b b' : BookTold) (stirs : Bool) → IsSessionTurn p q b b' stirs → q.link ≡ p.link
session_link p q b b' stirs t = ap (λ (x : Post). x.link) t.same

-- ---- all clients

module _ (opening : Memory) (limit : ℕ) (config : Config) where
  -- the octets of a client and its session that transmitted these
  pub record HasJoint (book : BookTold) (p : Post) (sent answered : List ℕ) : Type 0 where
    pub octets : Octets
    pub sent_are : octets.sent ≡ sent
    pub answered_are : octets.answered ≡ answered
    pub joint : Joint opening limit config book p octets

  pub record Holds (s : State) (sent answered : ℕ → List ℕ) : Type 0 where
    pub each : (k : ℕ) (p : Post) → slice_get s.posts k ≡ Some p → HasJoint s.book p (sent k) (answered k)
    pub links : (k : ℕ) (p : Post) → slice_get s.posts k ≡ Some p → p.link ≡ k + 1
    pub calls : AllLinks 1 (length s.posts) (history_of s.book)
    pub opened : state_of s.book.opening ≡ begins_with opening
    pub limited : s.book.journal.limit ≡ limit
    pub ready : AreReady s.book.journal.entries

  pub joint_as : (book : BookTold) (p : Post) (s s' a a' : List ℕ) → s ≡ s' → a ≡ a' → HasJoint book p s a → HasJoint book p s' a'
  joint_as book p s s' a a' e f h = record { octets = h.octets; sent_are = h.sent_are ∙ e; answered_are = h.answered_are ∙ f; joint = h.joint }

  holds_as : (s : State) (x x' y y' : ℕ → List ℕ) → ((k : ℕ) → x k ≡ x' k) → ((k : ℕ) → y k ≡ y' k) → Holds s x y → Holds s x' y'
  holds_as s x x' y y' e f h = record { each = λ k p at. joint_as s.book p (x k) (x' k) (y k) (y' k) (e k) (f k) (h.each k p at); links = h.links; calls = h.calls; opened = h.opened; limited = h.limited; ready = h.ready }

  -- ---- a turn

  module _ (kept : IsMemory opening) (least : 64 ≤ config.pdu)
      (most : config.pdu ≤ most_pdu) where
    client_holds : (i : ℕ) (s s' : State) (stirs : Bool) (x y : ℕ → List ℕ) → Holds s x y → (t : ClientTurn i s s' stirs)
        → Holds s' (λ k. x k ++ (if i == k then t.turn.polls.poll.poll.moves.written else [])) (λ k. y k ++ [])
    client_holds i s s' stirs x y h t =
        let wrote = t.turn.polls.poll.poll.moves.written in
        let posts : s'.posts ≡ slice_set s.posts i t.post' = ap (λ (z : State). z.posts) t.same in
        let book : s'.book ≡ s.book = ap (λ (z : State). z.book) t.same in
        let here : (k : ℕ) (p : Post) → k ≡ i → p ≡ t.post' → HasJoint s.book p (x k ++ (if i == k then wrote else [])) (y k ++ []) =
        λ k p same is.
        let had = h.each k t.post (ap (slice_get s.posts) same ∙ t.at) in
        let plants : (n : ℕ) → IsPlant (state_at (begins_with opening) (history_of s.book) n) =
        λ n. plants_at (begins_with opening) s.book.journal.entries n h.ready (begins_plant opening kept) in
        let step = client_step opening limit config s.book plants least most t.post t.post' stirs had.octets had.joint t.turn in
        subst (λ q. HasJoint s.book q (x k ++ (if i == k then wrote else [])) (y k ++ [])) (sym is) (record {
          octets = step.0;
          sent_are = step.1 ∙ ap (λ z. z ++ wrote) had.sent_are ∙ ap (λ z. x k ++ z) (sym (if_same i k wrote (sym same)));
          answered_are = step.2 ∙ had.answered_are ∙ sym (append-nil (y k));
          joint = step.3;
        }) in
        let there : (k : ℕ) (p : Post) → k ≢ i → slice_get s.posts k ≡ Some p → HasJoint s.book p (x k ++ (if i == k then wrote else [])) (y k ++ []) =
        λ k p other at. joint_as s.book p (x k) _ (y k) _ (sym (append-nil (x k)) ∙ ap (λ z. x k ++ z) (sym (if_other i k wrote (λ e. other (sym e))))) (sym (append-nil (y k))) (h.each k p at) in
        record {
          each = λ k p at. subst (λ b. HasJoint b p (x k ++ (if i == k then wrote else [])) (y k ++ [])) (sym book) (either k p (here k p) (there k p) (get_set s.posts i t.post' k p (sym (ap (λ z. slice_get z k) posts) ∙ at)));
          links = λ k p at. link_at k p (get_set s.posts i t.post' k p (sym (ap (λ z. slice_get z k) posts) ∙ at));
          calls = subst (λ n. AllLinks 1 n (history_of s'.book)) (sym (length-set s.posts i t.post') ∙ sym (ap length posts)) (subst (λ b. AllLinks 1 (length s.posts) (history_of b)) (sym book) h.calls);
          opened = ap (λ (b : BookTold). state_of b.opening) book ∙ h.opened;
          limited = ap (λ (b : BookTold). b.journal.limit) book ∙ h.limited;
          ready = subst (λ (b : BookTold). AreReady b.journal.entries) (sym book) h.ready;
        }
      where
        either : (k : ℕ) (p : Post) {R : Type 0} → (k ≡ i → p ≡ t.post' → R) → (k ≢ i → slice_get s.posts k ≡ Some p → R) → ((k ≡ i) × (p ≡ t.post')) ⊎ ((k ≢ i) × (slice_get s.posts k ≡ Some p)) → R
        either k p f g (inl a) = f a.0 a.1
        either k p f g (inr b) = g b.0 b.1

        link_at : (k : ℕ) (p : Post) → ((k ≡ i) × (p ≡ t.post')) ⊎ ((k ≢ i) × (slice_get s.posts k ≡ Some p)) → p.link ≡ k + 1
        link_at k p (inl a) = ap (λ (q : Post). q.link) a.1 ∙ client_link t.post t.post' stirs t.turn ∙ h.links k t.post (ap (slice_get s.posts) a.0 ∙ t.at)
        link_at k p (inr b) = h.links k p b.1

    session_holds : (i : ℕ) (s s' : State) (stirs : Bool) (x y : ℕ → List ℕ) → Holds s x y → (t : SessionTurn i s s' stirs)
        → Holds s' (λ k. x k ++ []) (λ k. y k ++ (if i == k then t.turn.takes.turn.moves.written else []))
    session_holds i s s' stirs x y h t =
        let wrote = t.turn.takes.turn.moves.written in
        let here : (k : ℕ) (p : Post) → k ≡ i → p ≡ t.post' → HasJoint s'.book p (x k ++ []) (y k ++ (if i == k then wrote else [])) =
        λ k p same is.
        let had = h.each k t.post (ap (slice_get s.posts) same ∙ t.at) in
        let step = session_step opening limit config t.post t.post' s.book s'.book stirs had.octets had.joint t.turn in
        subst (λ q. HasJoint s'.book q (x k ++ []) (y k ++ (if i == k then wrote else []))) (sym is) (record {
          octets = step.0;
          sent_are = step.1 ∙ had.sent_are ∙ sym (append-nil (x k));
          answered_are = step.2 ∙ ap (λ z. z ++ wrote) had.answered_are ∙ ap (λ z. y k ++ z) (sym (if_same i k wrote (sym same)));
          joint = step.3;
        }) in
        let there : (k : ℕ) (p : Post) → k ≢ i → slice_get s.posts k ≡ Some p → HasJoint s'.book p (x k ++ []) (y k ++ (if i == k then wrote else [])) =
        λ k p other at.
        let had = h.each k p at in
        let apart : t.post.link ≢ p.link = λ e. other (omega (arith, e, h.links i t.post t.at, h.links k p at)) in
        joint_as s'.book p (x k) (x k ++ []) (y k) (y k ++ (if i == k then wrote else [])) (sym (append-nil (x k)))
        (sym (append-nil (y k)) ∙ ap (λ z. y k ++ z) (sym (if_other i k wrote (λ e. other (sym e)))))
        (record { octets = had.octets; sent_are = had.sent_are; answered_are = had.answered_are; joint = other_session_step opening limit config p t.post t.post' s.book s'.book stirs had.octets apart had.joint t.turn }) in
        record {
          each = λ k p at. either k p (here k p) (there k p) (get_set s.posts i t.post' k p (sym (ap (λ z. slice_get z k) t.same) ∙ at));
          links = λ k p at. link_at k p (get_set s.posts i t.post' k p (sym (ap (λ z. slice_get z k) t.same) ∙ at));
          calls = subst (λ n. AllLinks 1 n (history_of s'.book)) (sym (length-set s.posts i t.post') ∙ sym (ap length t.same))
              (all_links_go_on 1 (length s.posts) t.post.link s.book s'.book
              (omega (arith, h.links i t.post t.at)) (omega (arith, h.links i t.post t.at, slice_get_within s.posts i t.post t.at)) h.calls t.turn.takes.goes_on);
          opened = ap state_of t.turn.takes.goes_on.opening ∙ h.opened;
          limited = t.turn.takes.goes_on.limit ∙ h.limited;
          ready = t.ready;
        }
      where
        either : (k : ℕ) (p : Post) {R : Type 0} → (k ≡ i → p ≡ t.post' → R) → (k ≢ i → slice_get s.posts k ≡ Some p → R) → ((k ≡ i) × (p ≡ t.post')) ⊎ ((k ≢ i) × (slice_get s.posts k ≡ Some p)) → R
        either k p f g (inl a) = f a.0 a.1
        either k p f g (inr b) = g b.0 b.1

        link_at : (k : ℕ) (p : Post) → ((k ≡ i) × (p ≡ t.post')) ⊎ ((k ≢ i) × (slice_get s.posts k ≡ Some p)) → p.link ≡ k + 1
        link_at k p (inl a) = ap (λ (q : Post). q.link) a.1 ∙ session_link t.post t.post' s.book s'.book stirs t.turn ∙ h.links k t.post (ap (slice_get s.posts) a.0 ∙ t.at)
        link_at k p (inr b) = h.links k p b.1

    turn_holds : (actor : ℕ) (s s' : State) (stirs : Bool) (x y : ℕ → List ℕ) → Holds s x y → (t : IsTurnOf actor s s' stirs)
        → Holds s' (λ k. x k ++ sent_in_turn k actor s s' stirs t) (λ k. y k ++ answered_in_turn k actor s s' stirs t)
    turn_holds actor s s' stirs x y h (inl t) = client_holds actor s s' stirs x y h t.1
    turn_holds actor s s' stirs x y h (inr t) = session_holds (actor - length s.posts) s s' stirs x y h t.1

    turns_hold : (actors : List ℕ) (s s' : State) (stirs : Bool) (x y : ℕ → List ℕ) → Holds s x y → (t : Turns actors s s' stirs)
        → Holds s' (λ k. x k ++ in_turns (sent_in_turn k) actors s s' stirs t) (λ k. y k ++ in_turns (answered_in_turn k) actors s s' stirs t)
    unfolding Turns in_turns
    turns_hold [] s s' stirs x y h t =
        subst (λ z. Holds z (λ k. x k ++ []) (λ k. y k ++ [])) (sym t.0) (holds_as s x _ y _ (λ k. sym (append-nil (x k))) (λ k. sym (append-nil (y k))) h)
    turns_hold (actor ∷ actors) s s' stirs x y h t =
        let x1 : ℕ → List ℕ = λ k. sent_in_turn k actor s t.0 t.1 t.3 in
        let y1 : ℕ → List ℕ = λ k. answered_in_turn k actor s t.0 t.1 t.3 in
        let x2 : ℕ → List ℕ = λ k. in_turns (sent_in_turn k) actors t.0 s' t.2 t.4 in
        let y2 : ℕ → List ℕ = λ k. in_turns (answered_in_turn k) actors t.0 s' t.2 t.4 in
        holds_as s' (λ k. (x k ++ x1 k) ++ x2 k) (λ k. x k ++ (x1 k ++ x2 k)) (λ k. (y k ++ y1 k) ++ y2 k) (λ k. y k ++ (y1 k ++ y2 k))
        (λ k. append_assoc (x k) (x1 k) (x2 k)) (λ k. append_assoc (y k) (y1 k) (y2 k))
        (turns_hold actors t.0 s' t.2 (λ k. x k ++ x1 k) (λ k. y k ++ y1 k) (turn_holds actor s t.0 t.1 x y h t.3) t.4)

    -- a round was the last one, or others came
    rest_holds : (more : ℕ) (m s' : State) (stirs : Bool) (x x1 y y1 : ℕ → List ℕ) → Holds m (λ k. x k ++ x1 k) (λ k. y k ++ y1 k)
        → (q : ((stirs ≡ false) × (s' ≡ m)) ⊎ ((stirs ≡ true) × Rounds more m s'))
        → ((r : Rounds more m s') → Holds s' (λ k. (x k ++ x1 k) ++ in_rounds (sent_in_turn k) more m s' r) (λ k. (y k ++ y1 k) ++ in_rounds (answered_in_turn k) more m s' r))
        → Holds s' (λ k. x k ++ (x1 k ++ second_or_none q (λ z. in_rounds (sent_in_turn k) more m s' z.1))) (λ k. y k ++ (y1 k ++ second_or_none q (λ z. in_rounds (answered_in_turn k) more m s' z.1)))
    rest_holds more m s' stirs x x1 y y1 h (inl q) later =
        subst (λ z. Holds z (λ k. x k ++ (x1 k ++ [])) (λ k. y k ++ (y1 k ++ []))) (sym q.1)
        (holds_as m (λ k. x k ++ x1 k) _ (λ k. y k ++ y1 k) _ (λ k. ap (λ z. x k ++ z) (sym (append-nil (x1 k)))) (λ k. ap (λ z. y k ++ z) (sym (append-nil (y1 k)))) h)
    rest_holds more m s' stirs x x1 y y1 h (inr q) later =
        holds_as s' _ _ _ _ (λ k. append_assoc (x k) (x1 k) (in_rounds (sent_in_turn k) more m s' q.1)) (λ k. append_assoc (y k) (y1 k) (in_rounds (answered_in_turn k) more m s' q.1)) (later q.1)

    rounds_hold : (most : ℕ) (s s' : State) (x y : ℕ → List ℕ) → Holds s x y → (r : Rounds most s s')
        → Holds s' (λ k. x k ++ in_rounds (sent_in_turn k) most s s' r) (λ k. y k ++ in_rounds (answered_in_turn k) most s s' r)
    unfolding Rounds in_rounds
    rounds_hold zero s s' x y h r =
        subst (λ z. Holds z (λ k. x k ++ []) (λ k. y k ++ [])) (sym r) (holds_as s x _ y _ (λ k. sym (append-nil (x k))) (λ k. sym (append-nil (y k))) h)
    rounds_hold (suc more) s s' x y h (inl r) =
        subst (λ z. Holds z (λ k. x k ++ []) (λ k. y k ++ [])) (sym r.1) (holds_as s x _ y _ (λ k. sym (append-nil (x k))) (λ k. sym (append-nil (y k))) h)
    rounds_hold (suc more) s s' x y h (inr r) =
        let x1 : ℕ → List ℕ = λ k. in_turns (sent_in_turn k) (actors_of s) s r.1 r.2 r.3 in
        let y1 : ℕ → List ℕ = λ k. in_turns (answered_in_turn k) (actors_of s) s r.1 r.2 r.3 in
        let round = turns_hold (actors_of s) s r.1 r.2 x y h r.3 in
        rest_holds more r.1 s' r.2 x x1 y y1 round r.4 (λ z. rounds_hold more r.1 s' (λ k. x k ++ x1 k) (λ k. y k ++ y1 k) round z)

    -- A WHOLE RUN keeps what holds.
    pub run_holds : (turns : List ℕ) (seed steps : ℕ) (s s' : State) → Holds s (λ k. []) (λ k. []) → (run : IsRun turns seed steps s s')
        → Holds s' (λ k. in_run (sent_in_turn k) turns seed steps s s' run) (λ k. in_run (answered_in_turn k) turns seed steps s s' run)
    run_holds turns seed steps s s' h run =
        let all = turns ++ seeded seed steps (2 * length s.posts) in
        rounds_hold most_rounds run.middle s' (λ k. in_turns (sent_in_turn k) all s run.middle run.stirred run.turned) (λ k. in_turns (answered_in_turn k) all s run.middle run.stirred run.turned)
        (turns_hold all s run.middle run.stirred (λ k. []) (λ k. []) h run.turned) run.rounds
