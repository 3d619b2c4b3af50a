-- The steps of a turn keep the rule of the table.
use Rattle.std.proofs.Common.{◌≡◌, ◌≢◌, ℕ, zero, suc, ◌+◌, ◌%◌, ◌^◌, ◌<◌, ◌≤◌, true, false, true≢false, List, [], ◌∷◌, ◌++◌, length, get_or, set, sym, refl, ap, ◌∙◌, subst, ⊎_elim, arith, Option, Some, None}
use Rattle.std.proofs.Math.Nat.{mod-add-mod}
use mathlib.Core.Logic.{dite}
use mathlib.Core.Option.{some, none}
use mathlib.Core.Option as maybe
use native.Mathlib.Decide.{ℕ_discrete}
use lib.ListN.{get_elem?}
use Rattle.atomic_table.specs.Table.{State, Me, step, keeps, takes, gives, stepped, rest, Allows}
use Rattle.atomic_table.proofs.Lists.{one_turn, set_again}
use Rattle.s7_turn.specs.declared.view.Entry.{Entry}
use Rattle.s7_turn.specs.declared.view.Note.{Note}
use Rattle.s7_turn.specs.declared.view.Stage.{Stage}
use Rattle.s7_turn.specs.declared.view.Stage.TheVariants.{Idle, Waits, Called, Took, Entered, Gave, Joined}
use Rattle.s7_turn.specs.declared.view.View.{View}
use Rattle.s7_turn.specs.Histories.{has, Each, NoneBy, Agrees, AddedBy}
use Rattle.s7_turn.specs.Turns.{most, total, Phase, rests, out, back, tickets_of, Turn, Crowd, Queued, Noted, Knows, IsSpent, SeatOk, Holds, Home, Kept, ticket_of, left_by, at_stage, drew, looked, advanced, took, entered, gave}
use Rattle.s7_turn.proofs.Lists.{put, put_here, put_else, total_set, total_le, each_set, or_not, has_some, Each-append, Each-weaker, agrees_here, agrees_later, none_by_fewer}

module _ {R : Type 0} where
  -- the turn with one more ticket, which a seat has
  abbrev drawn_by : Turn R → ℕ → Turn R
  drawn_by w seat = record w { drawn = w.drawn + 1; owner = put w.owner w.drawn seat }

  -- the turn with the machine elsewhere
  abbrev phased : Turn R → Phase R → Turn R
  phased w p = record w { phase = p }

  -- the turn after one more was served
  abbrev served_one : Turn R → List (Entry R) → Turn R
  served_one w h = record w { served = w.served + 1; phase = rests; past = h }

  -- an old note, once others' entries follow
  noted_later : (h h' es : List (Entry R)) (callers : List ℕ) (n : Note R) → h' ≡ h ++ es → NoneBy callers es → Noted h callers n → Noted h' callers n
  noted_later h h' es callers n is others k = record {
    agrees = subst (Agrees n.seen n.callers) (sym is) (agrees_later n.seen h es n.callers k.agrees (none_by_fewer n.callers callers es k.within others));
    within = k.within;
  }

module _ {B : Type 0} where
  abbrev machine_or : B → Option B → B
  machine_or d (Some b) = b
  machine_or d None = d

  abbrev first_or : B → List (ℕ × Option B) → B
  first_or d [] = d
  first_or d (x ∷ xs) = machine_or d x.1

module _ {R A : Type 0} where
  queued_later : (w : Turn R) (seat j : ℕ) (v : View R A) (t : ℕ) → Queued w j v t → Queued (drawn_by w seat) j v t
  queued_later w seat j v t q = record { from = q.from; below = (let b = q.below in omega arith); own = put_else w.owner w.drawn seat t (λ e. let b = q.below in omega arith) ∙ q.own; stands = q.stands }

  -- a ticket that another draws
  drawn_know : (w : Turn R) (seat j : ℕ) (v : View R A) (st : Stage R) → Knows w j v st → Knows (drawn_by w seat) j v st
  drawn_know w seat j v Idle k = tt
  drawn_know w seat j v (Waits t) k = (queued_later w seat j v t k.0, k.1)
  drawn_know w seat j v (Called t) k = (queued_later w seat j v t k.0, k.1, k.2)
  drawn_know w seat j v (Took t h) k = (queued_later w seat j v t k.0, k.1, k.2, k.3)
  drawn_know w seat j v (Entered t h) k = (queued_later w seat j v t k.0, k.1, k.2, k.3)
  drawn_know w seat j v (Gave t h) k = (queued_later w seat j v t k.0, k.1, k.2, k.3)
  drawn_know w seat j v (Joined a b) k = k

  -- the seat whose turn it is moves the machine
  not_its_turn : (w : Turn R) (id j : ℕ) (v : View R A) (t : ℕ) → w.owner w.served ≡ id → j ≢ id → Queued w j v t → t ≢ w.served
  not_its_turn w id j v t own other q e = other (sym q.own ∙ (ap w.owner e ∙ own))

  phased_queued : (w : Turn R) (p : Phase R) (j : ℕ) (v : View R A) (t : ℕ) → Queued w j v t → Queued (phased w p) j v t
  phased_queued w p j v t q = record { from = q.from; below = q.below; own = q.own; stands = q.stands }

  phased_know : (w : Turn R) (p : Phase R) (id j : ℕ) (v : View R A) (st : Stage R) → w.owner w.served ≡ id → j ≢ id → Knows w j v st → Knows (phased w p) j v st
  phased_know w p id j v Idle own other k = tt
  phased_know w p id j v (Waits t) own other k = (phased_queued w p j v t k.0, λ e. absurd (not_its_turn w id j v t own other k.0 e))
  phased_know w p id j v (Called t) own other k = absurd (not_its_turn w id j v t own other k.0 k.1)
  phased_know w p id j v (Took t h) own other k = absurd (not_its_turn w id j v t own other k.0 k.1)
  phased_know w p id j v (Entered t h) own other k = absurd (not_its_turn w id j v t own other k.0 k.1)
  phased_know w p id j v (Gave t h) own other k = absurd (not_its_turn w id j v t own other k.0 k.1)
  phased_know w p id j v (Joined a b) own other k = k

  -- the turn passes on, and leaves a history with nobody's entry whom this seat stands for
  served_know : (w : Turn R) (past es : List (Entry R)) (id j : ℕ) (v : View R A) (st : Stage R) → w.owner w.served ≡ id → j ≢ id → past ≡ w.past ++ es → NoneBy v.callers es → Knows w j v st → Knows (served_one w past) j v st
  served_know w past es id j v Idle own other is others k = tt
  served_know w past es id j v (Waits t) own other is others k = let n = not_its_turn w id j v t own other k.0 in let f = k.0.from in
      (record { from = omega arith; below = k.0.below; own = k.0.own; stands = k.0.stands }, λ e. refl)
  served_know w past es id j v (Called t) own other is others k = absurd (not_its_turn w id j v t own other k.0 k.1)
  served_know w past es id j v (Took t h) own other is others k = absurd (not_its_turn w id j v t own other k.0 k.1)
  served_know w past es id j v (Entered t h) own other is others k = absurd (not_its_turn w id j v t own other k.0 k.1)
  served_know w past es id j v (Gave t h) own other is others k = absurd (not_its_turn w id j v t own other k.0 k.1)
  served_know w past es id j v (Joined a b) own other is others k = (k.0, noted_later w.past past es v.callers a is others k.1, noted_later w.past past es v.callers b is others k.2)

  -- the machine that a view has is the one with which the hall was made
  pub origin_is : (w : Turn R) (c : Crowd) (o : A) (j : ℕ) (v : View R A) → SeatOk w c o j v → (x : A) → v.origin ≡ Some x → x ≡ o
  origin_is w c o j v ok x e = ⊎_elim (λ has_one. one_origin x o (sym e ∙ has_one)) (λ (spent : IsSpent v). absurd (no_origin x (sym spent.1 ∙ e))) ok.origin
    where
      one_origin : (x y : A) → Some x ≡ Some y → x ≡ y
      one_origin x y e = cc

      no_origin : (x : A) → None ≡ Some x → ⊥
      no_origin x e = cc

  -- a view that stands for somebody has it
  pub has_origin : (w : Turn R) (c : Crowd) (o : A) (j : ℕ) (v : View R A) (x : ℕ) → has v.callers x ≡ true → SeatOk w c o j v → v.origin ≡ Some o
  has_origin w c o j v x stands ok = ⊎_elim (λ has_one. has_one) (λ (spent : IsSpent v). absurd (true≢false (sym stands ∙ ap (λ (xs : List ℕ). has xs x) spent.0))) ok.origin

  -- the same seat at another stage, in another turn
  restaged : (w w' : Turn R) (c : Crowd) (o : A) (j : ℕ) (v : View R A) (st : Stage R) → w'.past ≡ w.past → Knows w' j (at_stage v st) st → SeatOk w c o j v → SeatOk w' c o j (at_stage v st)
  restaged w w' c o j v st same k ok = record { agrees = subst (Agrees v.seen v.callers) (sym same) ok.agrees; stands = ok.stands; gives = ok.gives; origin = ok.origin; knows = k }

  stays : (w w' : Turn R) (c : Crowd) (o : A) (j : ℕ) (v : View R A) → w'.past ≡ w.past → Knows w' j v v.stage → SeatOk w c o j v → SeatOk w' c o j v
  stays w w' c o j v same k ok = record { agrees = subst (Agrees v.seen v.callers) (sym same) ok.agrees; stands = ok.stands; gives = ok.gives; origin = ok.origin; knows = k }

-- what a seat has once its entry is noted
module _ {B R A : Type 0} (history : B → List (Entry R)) where
  pub has_entered : (slots n : ℕ) (me me' me'' : Me (Option B) (View R A)) (t : ℕ) (h : List (Entry R)) (b : B) → me' ≡ (me.0, (0, Some b) ∷ []) → me.0.stage ≡ Took t h → entered history (step slots 1 0 0 none) me' n me''
      → me'' ≡ (at_stage me.0 (Entered t (history b)), (0, Some b) ∷ [])
  has_entered slots n me me' me'' t h b e is d = d.1 ∙ (λ i. (at_stage (e i).0 (Entered ((ap (λ m. ticket_of m.0.stage) e ∙ ap ticket_of is) i) (d.2 b (ap (λ m. m.1) e) i)), (e i).1))

module _ {B R A : Type 0} (From : B → A → Type 0) (history : B → List (Entry R)) (o : A) where
  abbrev V : Type 0
  V = View R A

  abbrev St : Type 0
  St = State (Option B) V

  abbrev M : Type 0
  M = Me (Option B) V

  abbrev FromOrigin : B → Option A → Type 0
  FromOrigin b y = (x : A) × (y ≡ Some x) × From b x

  abbrev Rule : St → Type 0
  Rule = Kept From history o

  -- how many tickets are out: not more than there are callers
  bound : (s : St) (r : Rule s) → r.turn.drawn ≤ r.turn.served + most
  bound s r = let few : total (λ (v : V). tickets_of v.stage) s.views ≤ total (λ (v : V). length v.callers) s.views = total_le (λ (v : V). tickets_of v.stage) (λ (v : V). length v.callers) s.views
      (λ j v e. one v j (r.each_seat j v e) v.stage (r.each_seat j v e).knows) in
      let a = r.waiting in let b = r.seated in let c = r.few in omega arith
    where
      standing : (v : V) (j : ℕ) (t : ℕ) → Queued r.turn j v t → 1 ≤ length v.callers
      standing v j t q = let some_there = has_some v.callers v.caller q.stands in omega arith

      one : (v : V) (j : ℕ) → SeatOk r.turn r.crowd o j v → (st : Stage R) → Knows r.turn j v st → tickets_of st ≤ length v.callers
      one v j ok Idle k = omega arith
      one v j ok (Waits t) k = standing v j t k.0
      one v j ok (Called t) k = standing v j t k.0
      one v j ok (Took t h) k = standing v j t k.0
      one v j ok (Entered t h) k = standing v j t k.0
      one v j ok (Gave t h) k = standing v j t k.0
      one v j ok (Joined a b) k = omega arith

  pub draws : (slots id : ℕ) (me : M) → me.0.stage ≡ Idle → has me.0.callers me.0.caller ≡ true → Allows Rule slots id me 0 (λ n. (n + 1) % 2 ^ 64) (drew (step slots 0 1 0 none) me)
  draws slots id me idle own s r deep at fits = let v : V = me.0 in let t : ℕ = r.turn.drawn in let w : V = at_stage v (Waits t) in let turn' : Turn R = drawn_by r.turn id in
      let count = total_set (λ (u : V). tickets_of u.stage) s.views id v w at in let none_yet : tickets_of v.stage ≡ 0 = ap tickets_of idle in let was = r.waiting in (
        w,
        keeps,
        tt,
        record {
          turn = turn';
          crowd = r.crowd;
          others = r.others;
          words_are = ap (λ (ws : List ℕ). set ws 0 ((get_or ws 0 0 + 1) % 2 ^ 64)) r.words_are ∙ ap (λ (n : ℕ). n ∷ (r.turn.served % 2 ^ 64) ∷ r.others) (mod-add-mod r.turn.drawn (2 ^ 64) 1);
          home = r.home;
          empty = λ e. absurd (omega arith);
          waiting = omega arith;
          seated = (let same = total_set (λ (u : V). length u.callers) s.views id v w at in let b = r.seated in omega arith);
          few = r.few;
          numbered = r.numbered;
          each_seat = each_set (SeatOk turn' r.crowd o) s.views id w
              (restaged r.turn turn' r.crowd o id v (Waits t) refl
              (record { from = omega arith; below = omega arith; own = put_here r.turn.owner t id; stands = own }, λ e. r.empty e) (r.each_seat id v at))
              (λ j u other e. stays r.turn turn' r.crowd o j u refl (drawn_know r.turn id j u u.stage (r.each_seat j u e).knows) (r.each_seat j u e));
        },
        (t, ap (λ (ws : List ℕ). get_or ws 0 0) r.words_are, refl),
      )

  -- the view changes its stage and no count
  waiting_same : (s : St) (r : Rule s) (id : ℕ) (v : V) (st : Stage R) → get_elem? s.views id ≡ some v → tickets_of v.stage ≡ tickets_of st → total (λ (u : V). tickets_of u.stage) (set s.views id (at_stage v st)) + r.turn.served ≡ r.turn.drawn
  waiting_same s r id v st at same = let count = total_set (λ (u : V). tickets_of u.stage) s.views id v (at_stage v st) at in let was = r.waiting in omega arith

  seated_same : (s : St) (r : Rule s) (id : ℕ) (v w : V) → get_elem? s.views id ≡ some v → length v.callers ≡ length w.callers → total (λ (u : V). length u.callers) (set s.views id w) ≡ r.crowd.count
  seated_same s r id v w at alike = let same = total_set (λ (u : V). length u.callers) s.views id v w at in let b = r.seated in omega arith

  loaded : (s : St) (r : Rule s) → set s.words 1 (get_or s.words 1 0) ≡ (r.turn.drawn % 2 ^ 64) ∷ (r.turn.served % 2 ^ 64) ∷ r.others
  loaded s r = ap (λ (ws : List ℕ). set ws 1 (get_or ws 1 0)) r.words_are

  found_served : (s : St) (r : Rule s) → get_or s.words 1 0 ≡ r.turn.served % 2 ^ 64
  found_served s r = ap (λ (ws : List ℕ). get_or ws 1 0) r.words_are

  -- what a seat knows at a stage that it is known to have
  pub knows_at : (s : St) (r : Rule s) (id : ℕ) (v : V) (st : Stage R) → get_elem? s.views id ≡ some v → v.stage ≡ st → Knows r.turn id v st
  knows_at s r id v st at is = subst (Knows r.turn id v) is (r.each_seat id v at).knows

  -- the seat whose turn it is goes to another stage, and the machine with it
  turn_moves : (s : St) (r : Rule s) (id : ℕ) (v : V) (st : Stage R) (p : Phase R) (hs : List (maybe.Option (Option B))) → get_elem? s.views id ≡ some v → r.turn.owner r.turn.served ≡ id → r.turn.served < r.turn.drawn
      → tickets_of v.stage ≡ tickets_of st → Home From history o hs r.turn.past p → Knows (phased r.turn p) id (at_stage v st) st
      → Rule record { words = set s.words 1 (get_or s.words 1 0); homes = hs; views = set s.views id (at_stage v st) }
  turn_moves s r id v st p hs at own there alike home know = record {
    turn = phased r.turn p;
    crowd = r.crowd;
    others = r.others;
    words_are = loaded s r;
    home = home;
    empty = λ e. absurd (omega arith);
    waiting = waiting_same s r id v st at alike;
    seated = seated_same s r id v (at_stage v st) at refl;
    few = r.few;
    numbered = r.numbered;
    each_seat = each_set (SeatOk (phased r.turn p) r.crowd o) s.views id (at_stage v st)
        (restaged r.turn (phased r.turn p) r.crowd o id v st refl know (r.each_seat id v at))
        (λ j u other e. stays r.turn (phased r.turn p) r.crowd o j u refl (phased_know r.turn p id j u u.stage own other (r.each_seat j u e).knows) (r.each_seat j u e));
  }

  -- a load that changes nothing
  pub nothing_moves : (s : St) (r : Rule s) (id : ℕ) (v : V) (st : Stage R) → get_elem? s.views id ≡ some v → tickets_of v.stage ≡ tickets_of st → Knows r.turn id (at_stage v st) st
      → Rule record { words = set s.words 1 (get_or s.words 1 0); homes = s.homes; views = set s.views id (at_stage v st) }
  nothing_moves s r id v st at alike know = record {
    turn = r.turn;
    crowd = r.crowd;
    others = r.others;
    words_are = loaded s r;
    home = r.home;
    empty = r.empty;
    waiting = waiting_same s r id v st at alike;
    seated = seated_same s r id v (at_stage v st) at refl;
    few = r.few;
    numbered = r.numbered;
    each_seat = each_set (SeatOk r.turn r.crowd o) s.views id (at_stage v st) (restaged r.turn r.turn r.crowd o id v st refl know (r.each_seat id v at)) (λ j u _ e. r.each_seat j u e);
  }

  -- the same seat, with its stage written out
  restage : (v : V) (st : Stage R) → v.stage ≡ st → at_stage v st ≡ v
  restage v st is = λ i. record v { stage = sym is i }

  pub looks : (slots id : ℕ) (me : M) (t : ℕ) → me.0.stage ≡ Waits t → Allows Rule slots id me 1 (λ n. n) (looked (step slots 1 0 0 none) me)
  looks slots id me t is s r deep at fits = let v : V = me.0 in let k = knows_at s r id v (Waits t) at is in let q = k.0 in let tick : ticket_of v.stage ≡ t = ap ticket_of is in
      let b = bound s r in let one : tickets_of v.stage ≡ 1 = ap tickets_of is in
      dite (ℕ_discrete (r.turn.served % 2 ^ 64) (t % 2 ^ 64))
      (λ hit. let from = q.from in let below = q.below in let its : r.turn.served ≡ t = one_turn r.turn.served t (2 ^ 64) (omega arith) (omega arith) hit in (
        at_stage v (Called t),
        keeps,
        tt,
        nothing_moves s r id v (Called t) at one (record { from = q.from; below = q.below; own = q.own; stands = q.stands }, sym its, k.1 (sym its)),
        ((λ e. ap (λ (n : ℕ). (at_stage v (Called n), me.1)) (sym tick)), λ ne. absurd (ne (found_served s r ∙ (hit ∙ ap (λ (n : ℕ). n % 2 ^ 64) (sym tick))))),
      ))
      (λ miss. (
        v,
        keeps,
        tt,
        subst (λ (w : V). Rule record { words = set s.words 1 (get_or s.words 1 0); homes = s.homes; views = set s.views id w }) (restage v (Waits t) is)
            (nothing_moves s r id v (Waits t) at one (record { from = q.from; below = q.below; own = q.own; stands = q.stands }, k.1)),
        ((λ e. absurd (miss (sym (found_served s r) ∙ (e ∙ ap (λ (n : ℕ). n % 2 ^ 64) tick)))), λ _. refl),
      ))

  rewrapped : (w : Turn R) (p : Phase R) (j : ℕ) (v : V) (st : Stage R) (t : ℕ) → Queued w j v t → Queued (phased w p) j (at_stage v st) t
  rewrapped w p j v st t q = record { from = q.from; below = q.below; own = q.own; stands = q.stands }

  requeued : (w : Turn R) (j : ℕ) (v : V) (st : Stage R) (t : ℕ) → Queued w j v t → Queued w j (at_stage v st) t
  requeued w j v st t q = record { from = q.from; below = q.below; own = q.own; stands = q.stands }

  its_own : (w : Turn R) (j : ℕ) (v : V) (t : ℕ) → Queued w j v t → t ≡ w.served → (w.owner w.served ≡ j) × (w.served < w.drawn)
  its_own w j v t q e = (ap w.owner (sym e) ∙ q.own, let b = q.below in omega arith)

  -- who gives numbers knows that each entry's caller is below its next number
  pub numbered_below : (s : St) (r : Rule s) (id : ℕ) (v : V) (n : ℕ) → get_elem? s.views id ≡ some v → v.next ≡ Some n → (h : List (Entry R)) → h ≡ r.turn.past → Each (λ e. e.caller < n) h
  numbered_below s r id v n at e h is = let same : n ≡ r.crowd.count = ((r.each_seat id v at).gives n e).0 in
      subst (λ (x : ℕ × List (Entry R)). Each (λ e. e.caller < x.0) x.1) (λ i. (sym same i, sym is i)) r.numbered

  pub gets : (slots id : ℕ) (me : M) (t : ℕ) → me.0.stage ≡ Called t → Allows Rule slots id me 1 (λ n. n) (took From history (step slots 1 0 0 none) me)
  gets slots id me t is s r deep at fits = let v : V = me.0 in let k = knows_at s r id v (Called t) at is in let tick : t ≡ ticket_of v.stage = ap ticket_of (sym is) in let one : tickets_of v.stage ≡ 1 = ap tickets_of is in
      let own = its_own r.turn id v t k.0 k.1 in let there : Holds From history o s.homes r.turn.past = subst (λ (p : Phase R). Home From history o s.homes r.turn.past p) k.2 r.home in
      let b = there.0 in let ok = r.each_seat id v at in (
        at_stage v (Took t (history b)),
        takes 0 (Some b),
        ap (λ (hs : List (maybe.Option (Option B))). get_elem? hs 0) there.1,
        turn_moves s r id v (Took t (history b)) out (set s.homes 0 none) at own.0 own.1 one (ap (λ (hs : List (maybe.Option (Option B))). set hs 0 none) there.1) (rewrapped r.turn out id v (Took t (history b)) t k.0, k.1, refl, there.2),
        (b, ap (λ (n : ℕ). (at_stage v (Took n (history b)), (0, Some b) ∷ me.1)) tick, subst (Agrees v.seen v.callers) (sym there.2) ok.agrees, (λ x e. subst (From b) (sym (origin_is r.turn r.crowd o id v ok x e)) there.3), λ n e. numbered_below s r id v n at e (history b) there.2),
      )

  one_machine : (b c : B) (l : List (ℕ × Option B)) → l ≡ (0, Some b) ∷ [] → l ≡ (0, Some c) ∷ [] → b ≡ c
  one_machine b c l d e = ap (λ (m : List (ℕ × Option B)). first_or b m) (sym d ∙ e)

  -- the step that the machine has made is noted
  pub enters : (slots id : ℕ) (me : M) (t : ℕ) (h : List (Entry R)) (b : B) → me.0.stage ≡ Took t h → me.1 ≡ (0, Some b) ∷ [] → AddedBy me.0.caller h (history b)
      → Allows Rule slots id me 1 (λ n. n) (entered history (step slots 1 0 0 none) me)
  enters slots id me t h b is carries adds s r deep at fits = let v : V = me.0 in let k = knows_at s r id v (Took t h) at is in let tick : t ≡ ticket_of v.stage = ap ticket_of (sym is) in let one : tickets_of v.stage ≡ 1 = ap tickets_of is in (
    at_stage v (Entered t (history b)),
    keeps,
    tt,
    nothing_moves s r id v (Entered t (history b)) at one (requeued r.turn id v (Entered t (history b)) t k.0, k.1, k.2, (adds.0, adds.1 ∙ ap (λ (l : List (Entry R)). l ++ adds.0) k.3, adds.2, adds.3)),
    (history b, (λ i. (at_stage v (Entered (tick i) (history b)), me.1)), λ c e. ap history (one_machine b c me.1 carries e)),
  )

  -- a seat that has just put the machine back into its slot
  pub enters_as : (slots id : ℕ) (me me' : M) (t : ℕ) (h : List (Entry R)) (b : B) → me' ≡ (me.0, (0, Some b) ∷ []) → me.0.stage ≡ Took t h → AddedBy me.0.caller h (history b)
      → Allows Rule slots id me' 1 (λ n. n) (entered history (step slots 1 0 0 none) me')
  enters_as slots id me me' t h b e is adds = subst (λ (m : M). Allows Rule slots id m 1 (λ n. n) (entered history (step slots 1 0 0 none) m)) (sym e) (enters slots id (me.0, (0, Some b) ∷ []) t h b is refl adds)

  pub gives_back : (slots id : ℕ) (me : M) (t : ℕ) (b : B) → me.0.stage ≡ Entered t (history b) → me.1 ≡ (0, Some b) ∷ [] → FromOrigin b me.0.origin → Allows Rule slots id me 1 (λ n. n) (gave (step slots 1 0 0 none) me)
  gives_back slots id me t b is carries from s r deep at fits = let v : V = me.0 in let k = knows_at s r id v (Entered t (history b)) at is in let tick : t ≡ ticket_of v.stage = ap ticket_of (sym is) in let one : tickets_of v.stage ≡ 1 = ap tickets_of is in
      let own = its_own r.turn id v t k.0 k.1 in let away : s.homes ≡ none ∷ [] = subst (λ (p : Phase R). Home From history o s.homes r.turn.past p) k.2 r.home in
      let left : history b ≡ left_by v.stage = ap left_by (sym is) in let ok = r.each_seat id v at in (
        at_stage v (Gave t (history b)),
        gives,
        tt,
        subst (λ (c : List (ℕ × Option B)). Rule (stepped s 1 (get_or s.words 1 0) id c (at_stage v (Gave t (history b))) gives)) (sym carries)
            (turn_moves s r id v (Gave t (history b)) (back (history b)) (set s.homes 0 (some (Some b))) at own.0 own.1 one
            (b, ap (λ (hs : List (maybe.Option (Option B))). set hs 0 (some (Some b))) away, refl, subst (From b) (origin_is r.turn r.crowd o id v ok from.0 from.1) from.2)
            (rewrapped r.turn (back (history b)) id v (Gave t (history b)) t k.0, k.1, refl, k.3)),
        (λ i. (at_stage v (Gave (tick i) (left i)), rest (carries i))),
      )

  pub gives_back_as : (slots id : ℕ) (me me' : M) (t : ℕ) (b : B) → me' ≡ (at_stage me.0 (Entered t (history b)), (0, Some b) ∷ []) → FromOrigin b me.0.origin → Allows Rule slots id me' 1 (λ n. n) (gave (step slots 1 0 0 none) me')
  gives_back_as slots id me me' t b e from = subst (λ (m : M). Allows Rule slots id m 1 (λ n. n) (gave (step slots 1 0 0 none) m)) (sym e) (gives_back slots id (at_stage me.0 (Entered t (history b)), (0, Some b) ∷ []) t b refl refl from)

  pub advances : (slots id : ℕ) (me : M) (t : ℕ) (h : List (Entry R)) → me.0.stage ≡ Gave t h → Allows Rule slots id me 1 (λ n. (n + 1) % 2 ^ 64) (advanced (step slots 1 1 0 none) me)
  advances slots id me t h is s r deep at fits = let v : V = me.0 in let k = knows_at s r id v (Gave t h) at is in let one : tickets_of v.stage ≡ 1 = ap tickets_of is in
      let own = its_own r.turn id v t k.0 k.1 in let there : Holds From history o s.homes h = subst (λ (p : Phase R). Home From history o s.homes r.turn.past p) k.2 r.home in
      let ok = r.each_seat id v at in let adds = k.3 in let w : V = record v { seen = h; stage = Idle } in let left : left_by v.stage ≡ h = ap left_by is in
      let turn' : Turn R = served_one r.turn h in let mine = k.0.stands in
      let elsewhere : (j : ℕ) (u : V) → j ≢ id → get_elem? s.views j ≡ some u → NoneBy u.callers adds.0 = λ j u other e. Each-weaker (λ e. e.caller ≡ v.caller) (λ e. has u.callers e.caller ≡ false) adds.0
      (λ x by. ⊎_elim (λ yes. absurd (other (sym ((r.each_seat j u e).stands x.caller yes).1 ∙ (ap r.crowd.seat_of by ∙ (ok.stands v.caller mine).1)))) (λ no. no) (or_not (has u.callers x.caller))) adds.2 in
      let count = total_set (λ (u : V). tickets_of u.stage) s.views id v w at in let was = r.waiting in (
        w,
        keeps,
        tt,
        record {
          turn = turn';
          crowd = r.crowd;
          others = r.others;
          words_are = ap (λ (ws : List ℕ). set ws 1 ((get_or ws 1 0 + 1) % 2 ^ 64)) r.words_are ∙ ap (λ (n : ℕ). (r.turn.drawn % 2 ^ 64) ∷ n ∷ r.others) (mod-add-mod r.turn.served (2 ^ 64) 1);
          home = there;
          empty = λ _. refl;
          waiting = (let below = own.1 in omega arith);
          seated = seated_same s r id v w at refl;
          few = r.few;
          numbered = subst (Each (λ e. e.caller < r.crowd.count)) (sym adds.1)
              (Each-append (λ e. e.caller < r.crowd.count) r.turn.past adds.0 r.numbered
              (Each-weaker (λ e. e.caller ≡ v.caller) (λ e. e.caller < r.crowd.count) adds.0 (λ x by. let known = (ok.stands v.caller mine).0 in omega arith) adds.2));
          each_seat = each_set (SeatOk turn' r.crowd o) s.views id w
              record { agrees = agrees_here h v.callers; stands = ok.stands; gives = ok.gives; origin = ok.origin; knows = tt }
              (λ j u other e. let old = r.each_seat j u e in record {
                agrees = subst (Agrees u.seen u.callers) (sym adds.1) (agrees_later u.seen r.turn.past adds.0 u.callers old.agrees (elsewhere j u other e));
                stands = old.stands;
                gives = old.gives;
                origin = old.origin;
                knows = served_know r.turn h adds.0 id j u u.stage own.0 other adds.1 (elsewhere j u other e) old.knows;
              });
        },
        ap (λ (l : List (Entry R)). (record v { seen = l; stage = Idle }, me.1)) (sym left),
      )

  -- a word from the third on changes, and nobody's view
  pub rings : (slots id i : ℕ) (f : ℕ → ℕ) (me : M) → 2 ≤ i → Allows Rule slots id me i f (λ _ m'. m' ≡ me)
  rings slots id i f me far s r deep at fits = (me.0, keeps, tt, subst (λ (vs : List V). Rule record { words = set s.words i (f (get_or s.words i 0)); homes = s.homes; views = vs }) (sym (set_again s.views id me.0 at)) (same i far), refl)
    where
      same : (k : ℕ) → 2 ≤ k → Rule record { words = set s.words k (f (get_or s.words k 0)); homes = s.homes; views = s.views }
      same zero far' = absurd (omega arith)
      same (suc zero) far' = absurd (omega arith)
      same (suc (suc k)) far' = record {
        turn = r.turn;
        crowd = r.crowd;
        others = set r.others k (f (get_or r.others k 0));
        words_are = ap (λ (ws : List ℕ). set ws (suc (suc k)) (f (get_or ws (suc (suc k)) 0))) r.words_are;
        home = r.home;
        empty = r.empty;
        waiting = r.waiting;
        seated = r.seated;
        few = r.few;
        numbered = r.numbered;
        each_seat = r.each_seat;
      }

  pub marks : (slots id i n : ℕ) (me : M) → 2 ≤ i → Allows Rule slots id me i (λ _. n) (λ _ m'. m' ≡ me)
  marks slots id i n me far = rings slots id i (λ _. n) me far
