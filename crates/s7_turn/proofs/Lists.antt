-- Lists of entries, of callers and of views.
use Rattle.std.proofs.Common.{◌≡◌, ◌≢◌, ℕ, zero, suc, ◌+◌, ◌<◌, ◌≤◌, ◌⊎◌, Bool, true, false, true≢false, eqb, ◌||◌, Result, Ok, Err, MatchResult, List, [], ◌∷◌, ◌++◌, length, set, sym, refl, ap, ◌∙◌, subst, ⊎_elim, inl, inr, append_assoc, append-nil, eq-eqb, ne_eqb, arith, if◌then◌else◌}
use mathlib.Core.Option.{some, some-ne-none, some-injective}
use mathlib.Core.Logic.{dite}
use native.Mathlib.Decide.{ℕ_discrete}
use lib.ListN.{get_elem?}
use Rattle.atomic_table.proofs.Lists.{at_set}
use Rattle.s7_turn.specs.declared.view.Entry.{Entry}
use Rattle.s7_turn.specs.Histories.{has, Each, NoneBy, Agrees, AddedBy, places_from, calls, entry}
use Rattle.s7_turn.specs.Turns.{total}

-- a function with another value at one number
abbrev pick : {P : Type 0} → Dec P → ℕ → ℕ → ℕ
pick (yes _) a b = a
pick (no _) a b = b

pub put : (ℕ → ℕ) → ℕ → ℕ → ℕ → ℕ
put f i c j = pick (ℕ_discrete j i) c (f j)

pub put_here : (f : ℕ → ℕ) (i c : ℕ) → put f i c i ≡ c
unfolding put
put_here f i c = go (ℕ_discrete i i)
  where
    go : (d : Dec (i ≡ i)) → pick d c (f i) ≡ c
    go (yes _) = refl
    go (no n) = absurd (n refl)

pub put_else : (f : ℕ → ℕ) (i c j : ℕ) → j ≢ i → put f i c j ≡ f j
unfolding put
put_else f i c j other = go (ℕ_discrete j i)
  where
    go : (d : Dec (j ≡ i)) → pick d c (f j) ≡ f j
    go (yes e) = absurd (other e)
    go (no _) = refl

-- a number, or another in its place
pub moved : ℕ → ℕ → ℕ → ℕ
moved a b y = pick (ℕ_discrete y a) b y

pub moved_here : (a b y : ℕ) → y ≡ a → moved a b y ≡ b
unfolding moved
moved_here a b y is = go (ℕ_discrete y a)
  where
    go : (d : Dec (y ≡ a)) → pick d b y ≡ b
    go (yes _) = refl
    go (no n) = absurd (n is)

pub moved_else : (a b y : ℕ) → y ≢ a → moved a b y ≡ y
unfolding moved
moved_else a b y other = go (ℕ_discrete y a)
  where
    go : (d : Dec (y ≡ a)) → pick d b y ≡ y
    go (yes e) = absurd (other e)
    go (no _) = refl

module _ {V : Type 0} where
  pub total_set : (f : V → ℕ) (vs : List V) (i : ℕ) (v w : V) → get_elem? vs i ≡ some v → total f (set vs i w) + f v ≡ total f vs + f w
  total_set f [] i v w e = absurd (some-ne-none v (sym e))
  total_set f (x ∷ xs) zero v w e = let same : f x ≡ f v = ap f (some-injective x v e) in omega arith
  total_set f (x ∷ xs) (suc i) v w e = let more = total_set f xs i v w e in omega arith

  pub total_snoc : (f : V → ℕ) (vs : List V) (w : V) → total f (vs ++ w ∷ []) ≡ total f vs + f w
  total_snoc f [] w = omega arith
  total_snoc f (x ∷ xs) w = let more = total_snoc f xs w in omega arith

  pub total_le : (f g : V → ℕ) (vs : List V) → ((j : ℕ) (v : V) → get_elem? vs j ≡ some v → f v ≤ g v) → total f vs ≤ total g vs
  total_le f g [] h = omega arith
  total_le f g (x ∷ xs) h = let here = h 0 x refl in let more = total_le f g xs (λ j v e. h (suc j) v e) in omega arith

  -- what holds of the seat that moved, and of each other seat, holds of each seat
  pub each_set : (F : ℕ → V → Type 0) (vs : List V) (i : ℕ) (w : V) → F i w → ((j : ℕ) (v : V) → j ≢ i → get_elem? vs j ≡ some v → F j v) → (j : ℕ) (v : V) → get_elem? (set vs i w) j ≡ some v → F j v
  each_set F vs i w mine others j v e = ⊎_elim (λ (t : (j ≡ i) × (w ≡ v)). subst (λ (x : ℕ × V). F x.0 x.1) (λ k. (sym t.0 k, t.1 k)) mine)
      (λ (t : (j ≢ i) × (get_elem? vs j ≡ some v)). others j v t.0 t.1) (at_set vs i j w v e)

  -- the last of a longer list, or one of the others
  pub at_end : (vs : List V) (w v : V) (j : ℕ) → get_elem? (vs ++ w ∷ []) j ≡ some v → (get_elem? vs j ≡ some v) ⊎ ((j ≡ length vs) × (w ≡ v))
  at_end [] w v zero e = inr (refl, some-injective w v e)
  at_end [] w v (suc j) e = absurd (some-ne-none v (sym e))
  at_end (x ∷ xs) w v zero e = inl e
  at_end (x ∷ xs) w v (suc j) e = ⊎_elim (λ t. inl t) (λ t. inr (ap suc t.0, t.1)) (at_end xs w v j e)

  pub within : (vs : List V) (j : ℕ) (v : V) → get_elem? vs j ≡ some v → j < length vs
  within [] j v e = absurd (some-ne-none v (sym e))
  within (x ∷ xs) zero v e = omega arith
  within (x ∷ xs) (suc j) v e = let more = within xs j v e in omega arith

-- a Bool is one or the other
pub or_not : (b : Bool) → (b ≡ true) ⊎ (b ≡ false)
or_not true = inl refl
or_not false = inr refl

pub has_some : (xs : List ℕ) (c : ℕ) → has xs c ≡ true → 0 < length xs
has_some [] c e = absurd (true≢false (sym e))
has_some (x ∷ xs) c e = omega arith

pub has-append : (xs ys : List ℕ) (c : ℕ) → has (xs ++ ys) c ≡ true → (has xs c ≡ true) ⊎ (has ys c ≡ true)
has-append [] ys c e = inr e
has-append (x ∷ xs) ys c e = elim (eqb x c) as (λ b. (b || has (xs ++ ys) c) ≡ true → ((b || has xs c) ≡ true) ⊎ (has ys c ≡ true)) [ true ↦ λ _. inl refl | false ↦ has-append xs ys c ] e

pub has-left : (xs ys : List ℕ) (c : ℕ) → has xs c ≡ true → has (xs ++ ys) c ≡ true
has-left [] ys c e = absurd (true≢false (sym e))
has-left (x ∷ xs) ys c e = elim (eqb x c) as (λ b. (b || has xs c) ≡ true → (b || has (xs ++ ys) c) ≡ true) [ true ↦ λ _. refl | false ↦ has-left xs ys c ] e

pub has-right : (xs ys : List ℕ) (c : ℕ) → has ys c ≡ true → has (xs ++ ys) c ≡ true
has-right [] ys c e = e
has-right (x ∷ xs) ys c e = elim (eqb x c) as (λ b. (b || has (xs ++ ys) c) ≡ true) [ true ↦ refl | false ↦ has-right xs ys c e ]

pub has-neither : (xs ys : List ℕ) (c : ℕ) → has xs c ≡ false → has ys c ≡ false → has (xs ++ ys) c ≡ false
has-neither xs ys c a b = ⊎_elim (λ (t : has (xs ++ ys) c ≡ true). absurd (⊎_elim (λ x. true≢false (sym x ∙ a)) (λ y. true≢false (sym y ∙ b)) (has-append xs ys c t))) (λ n. n) (or_not (has (xs ++ ys) c))

pub has-not_one : (x c : ℕ) → c ≢ x → has (x ∷ []) c ≡ false
has-not_one x c n = ap (λ (b : Bool). b || false) (ne_eqb x c (λ e. n (sym e)))

pub has-one : (x c : ℕ) → has (x ∷ []) c ≡ true → c ≡ x
has-one x c e = dite (ℕ_discrete x c) (λ (h : x ≡ c). sym h) (λ (n : x ≢ c). absurd (true≢false (sym e ∙ ap (λ (b : Bool). b || false) (ne_eqb x c n))))

pub one-has : (x : ℕ) → has (x ∷ []) x ≡ true
one-has x = ap (λ (b : Bool). b || false) (eq-eqb x x refl)

module _ {R : Type 0} where
  pub Each-append : (P : Entry R → Type 0) (xs ys : List (Entry R)) → Each P xs → Each P ys → Each P (xs ++ ys)
  Each-append P [] ys h k = k
  Each-append P (x ∷ xs) ys h k = (h.0, Each-append P xs ys h.1 k)

  pub Each-weaker : (P Q : Entry R → Type 0) (xs : List (Entry R)) → ((e : Entry R) → P e → Q e) → Each P xs → Each Q xs
  Each-weaker P Q [] f h = tt
  Each-weaker P Q (x ∷ xs) f h = (f x h.0, Each-weaker P Q xs f h.1)

  pub agrees_here : (h : List (Entry R)) (callers : List ℕ) → Agrees h callers h
  agrees_here h callers = ([], sym (append-nil h), tt)

  -- it still agrees where others' entries follow
  pub agrees_later : (seen h es : List (Entry R)) (callers : List ℕ) → Agrees seen callers h → NoneBy callers es → Agrees seen callers (h ++ es)
  agrees_later seen h es callers a none = (a.0 ++ es, ap (λ l. l ++ es) a.1 ∙ append_assoc seen a.0 es, Each-append (λ e. has callers e.caller ≡ false) a.0 es a.2 none)

  pub Each-right : (P : Entry R → Type 0) (xs ys : List (Entry R)) → Each P (xs ++ ys) → Each P ys
  Each-right P [] ys h = h
  Each-right P (x ∷ xs) ys h = Each-right P xs ys h.1

  pub Each-left : (P : Entry R → Type 0) (xs ys : List (Entry R)) → Each P (xs ++ ys) → Each P xs
  Each-left P [] ys h = tt
  Each-left P (x ∷ xs) ys h = (h.0, Each-left P xs ys h.1)

  pub none_by_nobody : (h : List (Entry R)) → NoneBy [] h
  none_by_nobody [] = tt
  none_by_nobody (x ∷ xs) = (refl, none_by_nobody xs)

  pub none_by_both : (xs ys : List ℕ) (h : List (Entry R)) → NoneBy xs h → NoneBy ys h → NoneBy (xs ++ ys) h
  none_by_both xs ys [] a b = tt
  none_by_both xs ys (e ∷ es) a b = (has-neither xs ys e.caller a.0 b.0, none_by_both xs ys es a.1 b.1)

  -- what none of some callers made, none of fewer made
  pub none_by_fewer : (xs ys : List ℕ) (h : List (Entry R)) → ((x : ℕ) → has xs x ≡ true → has ys x ≡ true) → NoneBy ys h → NoneBy xs h
  none_by_fewer xs ys h within none = Each-weaker (λ e. has ys e.caller ≡ false) (λ e. has xs e.caller ≡ false) h
      (λ e n. ⊎_elim (λ yes. absurd (true≢false (sym (within e.caller yes) ∙ n))) (λ no. no) (or_not (has xs e.caller))) none

  -- a new number is no earlier caller's
  pub none_by_new : (n : ℕ) (h : List (Entry R)) → Each (λ e. e.caller < n) h → NoneBy (n ∷ []) h
  none_by_new n [] a = tt
  none_by_new n (e ∷ es) a = (has-not_one n e.caller (λ q. let b = a.0 in omega arith), none_by_new n es a.1)

  -- of two beginnings of one list the shorter begins the longer
  pub between : (xs ys a b : List (Entry R)) → xs ++ a ≡ ys ++ b → length xs ≤ length ys → (mid : List (Entry R)) × (ys ≡ xs ++ mid) × (a ≡ mid ++ b)
  between [] ys a b e l = (ys, refl, e)
  between (x ∷ xs) [] a b e l = absurd (omega arith)
  between (x ∷ xs) (y ∷ ys) a b e l = let same : x ≡ y = cc in let m = between xs ys a b (cc) (omega arith) in (m.0, (λ i. sym same i ∷ m.1 i), m.2)

  -- of two that agree with one history, the one that saw less agrees with what the other saw
  pub agrees_between : (seen seen' h : List (Entry R)) (callers callers' : List ℕ) → Agrees seen callers h → Agrees seen' callers' h → length seen ≤ length seen' → Agrees seen callers seen'
  agrees_between seen seen' h callers callers' a b l = let m = between seen seen' a.0 b.0 (sym a.1 ∙ b.1) l in
      (m.0, m.1, Each-left (λ e. has callers e.caller ≡ false) m.0 b.0 (subst (NoneBy callers) m.2 a.2))

  pub none_longer : (seen seen' h : List (Entry R)) (callers callers' : List ℕ) → (a : Agrees seen callers h) (b : Agrees seen' callers' h) → length seen ≤ length seen' → NoneBy callers b.0
  none_longer seen seen' h callers callers' a b l = let m = between seen seen' a.0 b.0 (sym a.1 ∙ b.1) l in
      Each-right (λ e. has callers e.caller ≡ false) m.0 b.0 (subst (NoneBy callers) m.2 a.2)

  pub places-append : (xs ys : List (Entry R)) (k c : ℕ) → places_from k c (xs ++ ys) ≡ places_from k c xs ++ places_from (k + length xs) c ys
  places-append [] ys k c = ap (λ (n : ℕ). places_from n c ys) (omega arith)
  places-append (x ∷ xs) ys k c = let more = places-append xs ys (k + 1) c in let far : k + 1 + length xs ≡ k + length (x ∷ xs) = omega arith in
      elim (eqb x.caller c) as (λ b. (if b then k ∷ places_from (k + 1) c (xs ++ ys) else places_from (k + 1) c (xs ++ ys)) ≡ (if b then k ∷ places_from (k + 1) c xs else places_from (k + 1) c xs) ++ places_from (k + length (x ∷ xs)) c ys) [
        | true ↦ ap (λ l. k ∷ l) more ∙ ap (λ (n : ℕ). (k ∷ places_from (k + 1) c xs) ++ places_from n c ys) far
        | false ↦ more ∙ ap (λ (n : ℕ). places_from (k + 1) c xs ++ places_from n c ys) far
      ]

  pub places_none : (h : List (Entry R)) (callers : List ℕ) (k c : ℕ) → has callers c ≡ true → NoneBy callers h → places_from k c h ≡ []
  places_none [] callers k c stands none = refl
  places_none (e ∷ es) callers k c stands none = let other : e.caller ≢ c = λ q. true≢false (sym stands ∙ (ap (has callers) (sym q) ∙ none.0)) in
      ap (λ (b : Bool). if b then k ∷ places_from (k + 1) c es else places_from (k + 1) c es) (ne_eqb e.caller c other) ∙ places_none es callers (k + 1) c stands none.1

  -- a caller's calls in a history that a seat which stands for it agrees with
  pub calls_same : (seen h : List (Entry R)) (callers : List ℕ) (c : ℕ) → has callers c ≡ true → Agrees seen callers h → calls c h ≡ calls c seen
  calls_same seen h callers c stands a = ap (calls c) a.1 ∙ (places-append seen a.0 0 c ∙ (ap (λ l. calls c seen ++ l) (places_none a.0 callers (0 + length seen) c stands a.2) ∙ append-nil (calls c seen)))

  -- a call adds its place to the caller's calls
  pub calls_grow : (seen h : List (Entry R)) (callers : List ℕ) (c : ℕ) (r : R) → has callers c ≡ true → Agrees seen callers h → calls c (h ++ entry c r ∷ []) ≡ calls c seen ++ length h ∷ []
  calls_grow seen h callers c r stands a = places-append h (entry c r ∷ []) 0 c
      ∙ (ap (λ l. l ++ places_from (0 + length h) c (entry c r ∷ [])) (calls_same seen h callers c stands a)
      ∙ ap (λ l. calls c seen ++ l) (ap (λ (b : Bool). if b then (0 + length h) ∷ [] else []) (eq-eqb c c refl) ∙ ap (λ (n : ℕ). n ∷ []) (omega arith)))

  -- who stands for each caller of a history has seen it whole
  pub all_seen : (seen h : List (Entry R)) (callers : List ℕ) (n : ℕ) → Agrees seen callers h → Each (λ e. e.caller < n) h → ((x : ℕ) → x < n → has callers x ≡ true) → h ≡ seen
  all_seen seen h callers n a below stands = go a.0 a.1 a.2
    where
      go : (rest : List (Entry R)) → h ≡ seen ++ rest → NoneBy callers rest → h ≡ seen
      go [] e none = e ∙ append-nil seen
      go (x ∷ xs) e none = absurd (true≢false (sym (stands x.caller (Each-right (λ e. e.caller < n) seen (x ∷ xs) (subst (Each (λ e. e.caller < n)) e below)).0) ∙ none.0))

  places_below : (h : List (Entry R)) (n k x : ℕ) → Each (λ e. e.caller < n) h → n ≤ x → places_from k x h ≡ []
  places_below [] n k x below far = refl
  places_below (e ∷ es) n k x below far = let l = below.0 in
      ap (λ (b : Bool). if b then k ∷ places_from (k + 1) x es else places_from (k + 1) x es) (ne_eqb e.caller x (λ q. omega arith)) ∙ places_below es n (k + 1) x below.1 far

  -- a number from n on has no calls where each entry's caller is below n
  pub calls_none : (h : List (Entry R)) (n x : ℕ) → Each (λ e. e.caller < n) h → n ≤ x → calls x h ≡ []
  calls_none h n x below far = places_below h n 0 x below far

  pub below_added : (h h' : List (Entry R)) (n c : ℕ) → Each (λ e. e.caller < n) h → c < n → AddedBy c h h' → Each (λ e. e.caller < n) h'
  below_added h h' n c below low a = subst (Each (λ e. e.caller < n)) (sym a.1) (Each-append (λ e. e.caller < n) h a.0 below (Each-weaker (λ e. e.caller ≡ c) (λ e. e.caller < n) a.0 (λ e by. omega arith) a.2))

-- what a step adds to the history, whether it took the request or not
module _ {M R Q : Type 0} (history : M → List (Entry R)) (limit : M → ℕ) where
  pub step_added : (m m' : M) (c : ℕ) (k : R) (Gives : Type 0) (Same : Q → Type 0) (Kept : Type 0) (r : Result ℕ Q)
      → MatchResult r (λ n. (n ≡ length (history m)) × (n < limit m) × (history m' ≡ history m ++ entry c k ∷ []) × Gives) (λ q. Same q × (length (history m) ≡ limit m) × (m' ≡ m) × Kept) → AddedBy c (history m) (history m')
  step_added m m' c k Gives Same Kept (Ok n) s = (entry c k ∷ [], s.2, (refl, tt), omega arith)
  step_added m m' c k Gives Same Kept (Err q) s = ([], ap history s.2 ∙ sym (append-nil (history m)), tt, omega arith)
