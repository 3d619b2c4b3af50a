-- Seats that are made, split and joined keep the rule of the table.
use Rattle.std.proofs.Common.{◌≡◌, ◌≢◌, ℕ, zero, suc, ◌+◌, ◌<◌, ◌⊎◌, Bool, true, false, true≢false, ltb, List, [], ◌∷◌, ◌++◌, length, set, sym, refl, ap, ◌∙◌, subst, ⊎_elim, inl, inr, arith, Option, Some, None, is_some, length-append, if◌then◌else◌, ltb-true, ltb-false}
use Rattle.std.specs.Option.{option_or}
use mathlib.Core.Option.{some, none}
use mathlib.Core.Option as maybe
use lib.ListN.{get_elem?}
use Rattle.atomic_table.specs.Table.{State, Me, step, keeps, Allows, Splits, Joins, opening, Final, Seen}
use Rattle.atomic_table.proofs.Lists.{set_else}
use Rattle.s7_turn.specs.declared.view.Entry.{Entry}
use Rattle.s7_turn.specs.declared.view.Note.{Note}
use Rattle.s7_turn.specs.declared.view.Stage.TheVariants.{Idle, Called, Joined}
use Rattle.s7_turn.specs.declared.view.View.{View}
use Rattle.s7_turn.specs.Histories.{has, Each, Agrees}
use Rattle.s7_turn.specs.Turns.{most, Phase, rests, tickets_of, Match, Crowd, Knows, SeatOk, Holds, Home, Kept, next_or_0, longer, at_stage, opener, gave_number, newcomer, note_of, joined, nobody, compared}
use Rattle.s7_turn.proofs.Lists.{put, put_here, put_else, moved, moved_here, moved_else, total_set, total_snoc, each_set, at_end, has-append, has-left, has-right, has-one, none_by_nobody, none_by_both, none_by_new, Each-left, Each-right, Each-weaker, calls_none, agrees_here, agrees_between, none_longer}
use Rattle.s7_turn.proofs.Turning.{origin_is, has_origin, knows_at, nothing_moves, numbered_below}

-- Some and None differ
no_number : (n : ℕ) → None ≡ Some n → ⊥
no_number n e = cc

pub number_is : (m n : ℕ) → Some m ≡ Some n → m ≡ n
number_is m n e = cc

pub same_some : (A : Type 0) (x y : A) → Some x ≡ Some y → x ≡ y
same_some A x y e = cc

pub not_some : (y : Option ℕ) → is_some y ≡ false → y ≡ None
not_some (Some n) e = absurd (true≢false e)
not_some None e = refl

-- the longer of two agreeing beginnings
longer_agrees : {R : Type 0} (xs ys h : List (Entry R)) (a b : List ℕ) → Agrees xs a h → Agrees ys b h → Agrees (longer xs ys) (a ++ b) h
longer_agrees {R} xs ys h a b p q = go (ltb (length xs) (length ys)) refl
  where
    go : (t : Bool) → ltb (length xs) (length ys) ≡ t → Agrees (if t then ys else xs) (a ++ b) h
    go true e = let l = ltb-true (length xs) (length ys) e in (q.0, q.1, none_by_both a b q.0 (none_longer xs ys h a b p q (omega arith)) q.2)
    go false e = let l = ltb-false (length xs) (length ys) e in (p.0, p.1, none_by_both a b p.0 p.2 (none_longer ys xs h b a q p (omega arith)))

module _ {R A : Type 0} where
  -- of two seats that are joined, each agrees with what both have seen
  pub first_agrees : (v u : View R A) → Match (note_of v) (note_of u) → Agrees v.seen v.callers (longer v.seen u.seen)
  first_agrees v u m = go (ltb (length v.seen) (length u.seen)) refl
    where
      go : (t : Bool) → ltb (length v.seen) (length u.seen) ≡ t → Agrees v.seen v.callers (if t then u.seen else v.seen)
      go true e = let l = ltb-true (length v.seen) (length u.seen) e in m.first (omega arith)
      go false e = agrees_here v.seen v.callers

  pub second_agrees : (v u : View R A) → Match (note_of v) (note_of u) → Agrees u.seen u.callers (longer v.seen u.seen)
  second_agrees v u m = go (ltb (length v.seen) (length u.seen)) refl
    where
      go : (t : Bool) → ltb (length v.seen) (length u.seen) ≡ t → Agrees u.seen u.callers (if t then u.seen else v.seen)
      go true e = agrees_here u.seen u.callers
      go false e = let l = ltb-false (length v.seen) (length u.seen) e in m.second l

module _ {B R A : Type 0} (From : B → A → Type 0) (history : B → List (Entry R)) (o : A) where
  abbrev V : Type 0
  V = View R A

  abbrev St : Type 0
  St = State (Option B) V

  abbrev Rule : St → Type 0
  Rule = Kept From history o

  pub starts : (others : List ℕ) (b : B) → history b ≡ [] → From b o → Rule (opening (0 ∷ 0 ∷ others) (Some b ∷ []) (opener o))
  starts others b new from = record {
    turn = record { drawn = 0; served = 0; owner = λ _. 0; phase = rests; past = [] };
    crowd = record { count = 1; seat_of = λ _. 0; giver = 0 };
    others = others;
    words_are = refl;
    home = (b, refl, new, from);
    empty = λ _. refl;
    waiting = refl;
    seated = refl;
    few = omega arith;
    numbered = tt;
    each_seat = each_set (SeatOk record { drawn = 0; served = 0; owner = λ _. 0; phase = rests; past = [] } record { count = 1; seat_of = λ _. 0; giver = 0 } o) (opener o ∷ []) 0 (opener o)
        record { agrees = ([], refl, tt); stands = λ x e. (let is = has-one 0 x e in omega arith, refl); gives = λ n e. (sym (number_is 1 n e), refl); origin = inl refl; knows = tt }
        (λ j v other e. absurd (only_one j v other e));
  }
    where
      only_one : (j : ℕ) (v : V) → j ≢ 0 → get_elem? (opener o ∷ []) j ≡ some v → ⊥
      only_one zero v other e = other refl
      only_one (suc j) v other e = cc

  pub splits : (id : ℕ) (v : V) (n : ℕ) → v.stage ≡ Idle → has v.callers v.caller ≡ true → v.next ≡ Some n → n < most → Splits Rule id v (gave_number v) (newcomer v)
  splits id v n idle stands has_next room s r at = let ok = r.each_seat id v at in let w : V = gave_number v in let u : V = newcomer v in let vs : List V = set s.views id w in let c : ℕ = r.crowd.count in
      let num : next_or_0 v.next ≡ n = ap next_or_0 has_next in let last : n ≡ c = (ok.gives n has_next).0 in let new : next_or_0 v.next ≡ c = num ∙ last in
      let crowd' : Crowd = record { count = c + 1; seat_of = put r.crowd.seat_of c (length vs); giver = id } in
      let tickets = total_set (λ (x : V). tickets_of x.stage) s.views id v w at in let tickets' = total_snoc (λ (x : V). tickets_of x.stage) vs u in let was = r.waiting in
      let heads = total_set (λ (x : V). length x.callers) s.views id v w at in let heads' = total_snoc (λ (x : V). length x.callers) vs u in let were = r.seated in
      let older : (x : ℕ) → x < c → crowd'.seat_of x ≡ r.crowd.seat_of x = λ x l. put_else r.crowd.seat_of c (length vs) x (λ e. omega arith) in record {
        turn = r.turn;
        crowd = crowd';
        others = r.others;
        words_are = r.words_are;
        home = r.home;
        empty = r.empty;
        waiting = omega arith;
        seated = omega arith;
        few = omega arith;
        numbered = Each-weaker (λ e. e.caller < c) (λ e. e.caller < c + 1) r.turn.past (λ e l. omega arith) r.numbered;
        each_seat = λ j x e. ⊎_elim
            (each_set (SeatOk r.turn crowd' o) s.views id w
            record {
              agrees = ok.agrees;
              stands = λ y h. let k = ok.stands y h in let l = k.0 in (omega arith, older y k.0 ∙ k.1);
              gives = λ m h. (let q = number_is (next_or_0 v.next + 1) m h in omega arith, refl);
              origin = ok.origin;
              knows = subst (Knows r.turn id w) (sym idle) tt;
            }
            (λ i y other at'. let old = r.each_seat i y at' in record {
              agrees = old.agrees;
              stands = λ z h. let k = old.stands z h in let l = k.0 in (omega arith, older z k.0 ∙ k.1);
              gives = λ m h. absurd (other (sym (old.gives m h).1 ∙ (ok.gives n has_next).1));
              origin = old.origin;
              knows = old.knows;
            }) j x)
            (λ (t : (j ≡ length vs) × (u ≡ x)). subst (λ (y : ℕ × V). SeatOk r.turn crowd' o y.0 y.1) (λ i. (sym t.0 i, t.1 i))
            record {
              agrees = (
                ok.agrees.0,
                ok.agrees.1,
                none_by_new (next_or_0 v.next) ok.agrees.0
                    (subst (λ (k : ℕ). Each (λ e. e.caller < k) ok.agrees.0) (sym new) (Each-right (λ e. e.caller < c) v.seen ok.agrees.0 (subst (Each (λ e. e.caller < c)) ok.agrees.1 r.numbered))),
              );
              stands = λ y h. let is : y ≡ c = has-one (next_or_0 v.next) y h ∙ new in (omega arith, ap crowd'.seat_of is ∙ put_here r.crowd.seat_of c (length vs));
              gives = λ m h. absurd (no_number m h);
              origin = inl (has_origin r.turn r.crowd o id v v.caller stands ok);
              knows = tt;
            }) (at_end vs u x j e);
      }

  -- who gives numbers, of two joined
  gives_either : (x y : Option ℕ) (m : ℕ) → option_or x y ≡ Some m → (x ≡ Some m) ⊎ (y ≡ Some m)
  gives_either (Some n) y m e = inl e
  gives_either None y m e = inr e

  one_gives : (x y : Option ℕ) → ((m n : ℕ) → x ≡ Some m → y ≡ Some n → ⊥) → is_some x ≡ true → is_some y ≡ false
  one_gives (Some m) (Some n) h e = absurd (h m n refl refl)
  one_gives (Some m) None h e = refl
  one_gives None y h e = absurd (true≢false (sym e))

  pub joins : (id : ℕ) (v : V) (other : ℕ) (u : V) → v.stage ≡ Idle → u.stage ≡ Idle → has v.callers v.caller ≡ true → Joins Rule id v other u (joined v u) nobody
  joins id v other u idle idle' stands s r at apart there = let w : V = joined v u in let vs : List V = set s.views id w in let at' : get_elem? s.views other ≡ some u = sym (set_else s.views id other w apart) ∙ there in
      let ok = r.each_seat id v at in let ok' = r.each_seat other u at' in let apart' : id ≢ other = λ e. apart (sym e) in
      let crowd' : Crowd = record { count = r.crowd.count; seat_of = λ x. moved other id (r.crowd.seat_of x); giver = moved other id r.crowd.giver } in
      let t1 = total_set (λ (x : V). tickets_of x.stage) s.views id v w at in let t2 = total_set (λ (x : V). tickets_of x.stage) vs other u nobody there in
      let z1 : tickets_of v.stage ≡ 0 = ap tickets_of idle in let z2 : tickets_of u.stage ≡ 0 = ap tickets_of idle' in let was = r.waiting in
      let h1 = total_set (λ (x : V). length x.callers) s.views id v w at in let h2 = total_set (λ (x : V). length x.callers) vs other u nobody there in let were = r.seated in let both = length-append v.callers u.callers in record {
        turn = r.turn;
        crowd = crowd';
        others = r.others;
        words_are = r.words_are;
        home = r.home;
        empty = r.empty;
        waiting = omega arith;
        seated = omega arith;
        few = r.few;
        numbered = r.numbered;
        each_seat = each_set (SeatOk r.turn crowd' o) vs other nobody
            record { agrees = (r.turn.past, refl, none_by_nobody r.turn.past); stands = λ x e. absurd (true≢false (sym e)); gives = λ n e. absurd (no_number n e); origin = inr (refl, refl); knows = tt }
            (λ j x away there'. each_set (λ i y. i ≢ other → SeatOk r.turn crowd' o i y) s.views id w
            (λ _. record {
              agrees = longer_agrees v.seen u.seen r.turn.past v.callers u.callers ok.agrees ok'.agrees;
              stands = λ y h. ⊎_elim (λ a. let k = ok.stands y a in (k.0, moved_else other id (r.crowd.seat_of y) (λ e. apart' (sym k.1 ∙ e)) ∙ k.1)) (λ b. let k = ok'.stands y b in (k.0, moved_here other id (r.crowd.seat_of y) k.1)) (has-append v.callers u.callers y h);
              gives = λ m h. ⊎_elim (λ a. let k = ok.gives m a in (k.0, moved_else other id r.crowd.giver (λ e. apart' (sym k.1 ∙ e)) ∙ k.1)) (λ b. let k = ok'.gives m b in (k.0, moved_here other id r.crowd.giver k.1)) (gives_either v.next u.next m h);
              origin = inl (has_origin r.turn r.crowd o id v v.caller stands ok);
              knows = (
                record {
                  first = agrees_between v.seen u.seen r.turn.past v.callers u.callers ok.agrees ok'.agrees;
                  second = agrees_between u.seen v.seen r.turn.past u.callers v.callers ok'.agrees ok.agrees;
                  one_gives = one_gives v.next u.next (λ m n a b. apart' (sym (ok.gives m a).1 ∙ (ok'.gives n b).1));
                },
                record { agrees = ok.agrees; within = λ x h. has-left v.callers u.callers x h },
                record { agrees = ok'.agrees; within = λ x h. has-right v.callers u.callers x h },
              );
            })
            (λ i y elsewhere at'' not_other. let old = r.each_seat i y at'' in record {
              agrees = old.agrees;
              stands = λ z h. let k = old.stands z h in (k.0, moved_else other id (r.crowd.seat_of z) (λ e. not_other (sym k.1 ∙ e)) ∙ k.1);
              gives = λ m h. let k = old.gives m h in (k.0, moved_else other id r.crowd.giver (λ e. not_other (sym k.1 ∙ e)) ∙ k.1);
              origin = old.origin;
              knows = old.knows;
            }) j x there' away);
      }

  pub compares : (slots id : ℕ) (me : Me (Option B) V) (a b : Note R) → me.0.stage ≡ Joined a b → Allows Rule slots id me 1 (λ n. n) (compared (step slots 1 0 0 none) me)
  compares slots id me a b is s r deep at fits = let v : V = me.0 in (
    at_stage v Idle,
    keeps,
    tt,
    nothing_moves From history o s r id v Idle at (ap tickets_of is) tt,
    (
      refl,
      (λ c d e. (knows_at From history o s r id v (Joined c d) at e).0),
      (λ n x e h. let ok = r.each_seat id v at in let k = (ok.stands x h).0 in let l = (ok.gives n e).0 in omega arith),
      λ n x e m. let ok = r.each_seat id v at in
          calls_none v.seen n x (Each-left (λ e. e.caller < n) v.seen ok.agrees.0 (subst (Each (λ e. e.caller < n)) ok.agrees.1 (numbered_below From history o s r id v n at e r.turn.past refl))) m,
    ),
  )

  -- the last state of a table that is closed by the seat whose turn has come
  pub ends : (id : ℕ) (v : V) (t : ℕ) (ws : List ℕ) (xs : List (Option B)) → v.stage ≡ Called t → Final (Seen Rule id v) ws xs
      → (b : B) × (get_elem? xs 0 ≡ some (Some b)) × Agrees v.seen v.callers (history b) × ((x : A) → v.origin ≡ Some x → From b x) × ((n : ℕ) → v.next ≡ Some n → Each (λ e. e.caller < n) (history b))
  ends id v t ws xs is f = let s = f.0 in let r = f.1.0 in let at = f.1.1 in let k = knows_at From history o s r id v (Called t) at is in let ok = r.each_seat id v at in
      let there : Holds From history o s.homes r.turn.past = subst (λ (p : Phase R). Home From history o s.homes r.turn.past p) k.2 r.home in (
        there.0,
        f.4 0 (Some there.0) (ap (λ (hs : List (maybe.Option (Option B))). get_elem? hs 0) there.1),
        subst (Agrees v.seen v.callers) (sym there.2) ok.agrees,
        (λ x e. subst (From there.0) (sym (origin_is r.turn r.crowd o id v ok x e)) there.3),
        λ n e. numbered_below From history o s r id v n at e (history there.0) there.2,
      )
