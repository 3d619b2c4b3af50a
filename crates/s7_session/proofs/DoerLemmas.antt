-- Laws of how doers go on.
use Rattle.std.proofs.Common.{◌≡◌, inl, inr, ℕ, List, [], ◌∷◌, ◌++◌, Option, None, Some, refl, ap, sym, ◌∙◌, subst, append-nil, append_assoc}
use Rattle.s7_plant.specs.declared.request.Ask.{Ask}
use Rattle.s7_plant.specs.Replies.{Said}
use Rattle.s7_session.specs.Doers.{StaysFull, GoesOn, Meets, Trail}
use Rattle.s7_session.specs.Entry.{Entry}
use Rattle.s7_session.specs.Judgement.{Asking}
use Rattle.s7_session.specs.Telegrams.{Met, verdicts_of, AnyFull, NoneEntered, FullStays, IsCaused, AreCaused}
use Rattle.s7_session.specs.Verdict.{Verdict, Entered, Full, ClockFailed, NoMemory}

-- telegrams, and then more of them
pub trail-append : {D : Type 0} (full lack : D → Ask → Type 0) (did : D → Ask → Option (ℕ × Said) → D → Type 0) (kept : D → D → Type 0) (d e f : D) (xs ys : List Met) (es fs : List Entry)
    → Trail full lack did kept d xs es e → Trail full lack did kept e ys fs f → Trail full lack did kept d (xs ++ ys) (es ++ fs) f
trail-append full lack did kept d e f [] ys es fs t u =
    subst (λ zs. Trail full lack did kept d ys (zs ++ fs) f) (sym t.0) (subst (λ x. Trail full lack did kept x ys fs f) (sym t.1) u)
trail-append full lack did kept d e f (x ∷ xs) ys es fs t u = (
  t.0,
  t.1,
  t.2 ++ fs,
  ap (λ zs. zs ++ fs) t.3 ∙ append_assoc t.1 t.2 fs,
  t.4,
  trail-append full lack did kept t.0 e f xs ys t.2 fs t.5 u,
)

-- one telegram
pub trail_one : {D : Type 0} (full lack : D → Ask → Type 0) (did : D → Ask → Option (ℕ × Said) → D → Type 0) (kept : D → D → Type 0) (d e : D) (m : Met) (es : List Entry) → Meets full lack did kept m.asking m.verdict d es e → Trail full lack did kept d (m ∷ []) es e
trail_one full lack did kept d e m es h = (e, es, [], sym (append-nil es), h, (refl, refl))

stays_same : {D : Type 0} (full : D → Ask → Type 0) (d e : D) → d ≡ e → StaysFull full d e
stays_same full d e same = λ a h. subst (λ x. full x a) same h

-- a doer that gives a telegram its verdict stays full
pub meets_stays : {D : Type 0} (full lack : D → Ask → Type 0) (did : D → Ask → Option (ℕ × Said) → D → Type 0) (kept : D → D → Type 0) (asking : Asking) (v : Verdict) (d e : D) (es : List Entry) → Meets full lack did kept asking v d es e → StaysFull full d e
meets_stays full lack did kept asking (Entered reply moment) d e es m = m.3.0
meets_stays full lack did kept asking Full d e es m = m.3.0
meets_stays full lack did kept asking ClockFailed d e es m = stays_same full d e m.1
meets_stays full lack did kept asking NoMemory d e es (inl m) = stays_same full d e m.1
meets_stays full lack did kept asking NoMemory d e es (inr m) = m.3.0

-- what a doer keeps stays so over all telegrams
meets_keeps : {D : Type 0} (full lack : D → Ask → Type 0) (did : D → Ask → Option (ℕ × Said) → D → Type 0) (kept : D → D → Type 0) (asking : Asking) (v : Verdict) (d e : D) (es : List Entry) → ((a : D) → kept a a) → Meets full lack did kept asking v d es e → kept d e
meets_keeps full lack did kept asking (Entered reply moment) d e es same m = m.3.1
meets_keeps full lack did kept asking Full d e es same m = m.3.1
meets_keeps full lack did kept asking ClockFailed d e es same m = subst (kept d) m.1 (same d)
meets_keeps full lack did kept asking NoMemory d e es same (inl m) = subst (kept d) m.1 (same d)
meets_keeps full lack did kept asking NoMemory d e es same (inr m) = m.3.1

pub trail_keeps : {D : Type 0} (full lack : D → Ask → Type 0) (did : D → Ask → Option (ℕ × Said) → D → Type 0) (kept : D → D → Type 0) (d e : D) (ms : List Met) (es : List Entry)
    → ((a : D) → kept a a) → ((a b c : D) → kept a b → kept b c → kept a c) → Trail full lack did kept d ms es e → kept d e
trail_keeps full lack did kept d e [] es same both t = subst (kept d) t.1 (same d)
trail_keeps full lack did kept d e (m ∷ ms) es same both t =
    both d t.0 e (meets_keeps full lack did kept m.asking m.verdict d t.0 t.1 same t.4)
    (trail_keeps full lack did kept t.0 e ms t.2 same both t.5)

-- ---- a trail of a doer that may go on between its telegrams too, but stays full

module _ {D : Type 0} where
  abbrev pub LooseTrail : (D → Ask → Type 0) → (D → Ask → Type 0) → (D → Ask → Option (ℕ × Said) → D → Type 0)
      → (D → D → Type 0) → D → List Met → D → Type 0
  LooseTrail full lack did kept d [] e = StaysFull full d e
  LooseTrail full lack did kept d (m ∷ ms) e =
      (before : D) × (behind : D) × (made : List Entry) × StaysFull full d before
      × Meets full lack did kept m.asking m.verdict before made behind × LooseTrail full lack did kept behind ms e

pub loose_of : {D : Type 0} (full lack : D → Ask → Type 0) (did : D → Ask → Option (ℕ × Said) → D → Type 0) (kept : D → D → Type 0) (d e : D) (ms : List Met) (es : List Entry) → Trail full lack did kept d ms es e → LooseTrail full lack did kept d ms e
loose_of full lack did kept d e [] es t = stays_same full d e t.1
loose_of full lack did kept d e (m ∷ ms) es t =
    (d, t.0, t.1, λ a h. h, t.4, loose_of full lack did kept t.0 e ms t.2 t.5)

-- a doer that came before
loose_before : {D : Type 0} (full lack : D → Ask → Type 0) (did : D → Ask → Option (ℕ × Said) → D → Type 0) (kept : D → D → Type 0) (d d' e : D) (ms : List Met) → StaysFull full d d' → LooseTrail full lack did kept d' ms e → LooseTrail full lack did kept d ms e
loose_before full lack did kept d d' e [] s t = λ a h. t a (s a h)
loose_before full lack did kept d d' e (m ∷ ms) s t = (t.0, t.1, t.2, λ a h. t.3 a (s a h), t.4, t.5)

pub loose-append : {D : Type 0} (full lack : D → Ask → Type 0) (did : D → Ask → Option (ℕ × Said) → D → Type 0) (kept : D → D → Type 0) (d e f : D) (xs ys : List Met) → LooseTrail full lack did kept d xs e → LooseTrail full lack did kept e ys f → LooseTrail full lack did kept d (xs ++ ys) f
loose-append full lack did kept d e f [] ys t u = loose_before full lack did kept d e f ys t u
loose-append full lack did kept d e f (x ∷ xs) ys t u =
    (t.0, t.1, t.2, t.3, t.4, loose-append full lack did kept t.1 e f xs ys t.5 u)

pub loose_stays : {D : Type 0} (full lack : D → Ask → Type 0) (did : D → Ask → Option (ℕ × Said) → D → Type 0) (kept : D → D → Type 0) (d e : D) (ms : List Met) → LooseTrail full lack did kept d ms e → StaysFull full d e
loose_stays full lack did kept d e [] t = t
loose_stays full lack did kept d e (m ∷ ms) t = λ a h.
    loose_stays full lack did kept t.1 e ms t.5 a
    (meets_stays full lack did kept m.asking m.verdict t.0 t.1 t.2 t.4 a (t.3 a h))

-- ---- doers that are full for everything alike

module _ {D : Type 0} where
  abbrev pub FullAlike : (D → Ask → Type 0) → Type 0
  FullAlike full = (d : D) (a b : Ask) → full d a → full d b

none_entered_by : {D : Type 0} (full lack : D → Ask → Type 0) (did : D → Ask → Option (ℕ × Said) → D → Type 0) (kept : D → D → Type 0) (asking : Asking) (v : Verdict) (vs : List Verdict) (before behind : D) (es : List Entry) → FullAlike full → (a : Ask) → full before a
    → Meets full lack did kept asking v before es behind → NoneEntered vs → NoneEntered (v ∷ vs)
none_entered_by full lack did kept asking (Entered reply moment) vs before behind es alike a h m rest = absurd (m.0 (alike before a (asking.ask moment) h))
none_entered_by full lack did kept asking Full vs before behind es alike a h m rest = rest
none_entered_by full lack did kept asking ClockFailed vs before behind es alike a h m rest = rest
none_entered_by full lack did kept asking NoMemory vs before behind es alike a h m rest = rest

-- a doer that is full enters none
pub none_entered : {D : Type 0} (full lack : D → Ask → Type 0) (did : D → Ask → Option (ℕ × Said) → D → Type 0) (kept : D → D → Type 0) (d e : D) (ms : List Met) → FullAlike full → (a : Ask) → full d a → LooseTrail full lack did kept d ms e → NoneEntered (verdicts_of ms)
none_entered full lack did kept d e [] alike a h t = tt
none_entered full lack did kept d e (m ∷ ms) alike a h t =
    let full_before = t.3 a h in
    none_entered_by full lack did kept m.asking m.verdict (verdicts_of ms) t.0 t.1 t.2 alike a full_before t.4
    (none_entered full lack did kept t.1 e ms alike a (meets_stays full lack did kept m.asking m.verdict t.0 t.1 t.2 t.4 a full_before) t.5)

full_stays_by : {D : Type 0} (full lack : D → Ask → Type 0) (did : D → Ask → Option (ℕ × Said) → D → Type 0) (kept : D → D → Type 0) (asking : Asking) (v : Verdict) (before behind e : D) (es : List Entry) (ms : List Met) → FullAlike full
    → Meets full lack did kept asking v before es behind → LooseTrail full lack did kept behind ms e → FullStays (verdicts_of ms) → FullStays (v ∷ verdicts_of ms)
full_stays_by full lack did kept asking (Entered reply moment) before behind e es ms alike m t rest = rest
full_stays_by full lack did kept asking Full before behind e es ms alike m t rest = none_entered full lack did kept behind e ms alike (asking.ask m.0) m.1 t
full_stays_by full lack did kept asking ClockFailed before behind e es ms alike m t rest = rest
full_stays_by full lack did kept asking NoMemory before behind e es ms alike m t rest = rest

-- once one met a full doer, none is entered
pub full_stays : {D : Type 0} (full lack : D → Ask → Type 0) (did : D → Ask → Option (ℕ × Said) → D → Type 0) (kept : D → D → Type 0) (d e : D) (ms : List Met) → FullAlike full → LooseTrail full lack did kept d ms e → FullStays (verdicts_of ms)
full_stays full lack did kept d e [] alike t = tt
full_stays full lack did kept d e (m ∷ ms) alike t =
    full_stays_by full lack did kept m.asking m.verdict t.0 t.1 e t.2 ms alike t.4 t.5 (full_stays full lack did kept t.1 e ms alike t.5)

full_end_by : {D : Type 0} (full lack : D → Ask → Type 0) (did : D → Ask → Option (ℕ × Said) → D → Type 0) (kept : D → D → Type 0) (asking : Asking) (v : Verdict) (before behind e : D) (es : List Entry) (ms : List Met)
    → Meets full lack did kept asking v before es behind → StaysFull full behind e → (AnyFull (verdicts_of ms) → (a : Ask) × full e a) → AnyFull (v ∷ verdicts_of ms) → (a : Ask) × full e a
full_end_by full lack did kept asking (Entered reply moment) before behind e es ms m s rest any = rest any
full_end_by full lack did kept asking Full before behind e es ms m s rest any = (asking.ask m.0, s (asking.ask m.0) m.1)
full_end_by full lack did kept asking ClockFailed before behind e es ms m s rest any = rest any
full_end_by full lack did kept asking NoMemory before behind e es ms m s rest any = rest any

-- a doer that was full is so in the end
pub full_end : {D : Type 0} (full lack : D → Ask → Type 0) (did : D → Ask → Option (ℕ × Said) → D → Type 0) (kept : D → D → Type 0) (d e : D) (ms : List Met) → LooseTrail full lack did kept d ms e → AnyFull (verdicts_of ms) → (a : Ask) × full e a
full_end full lack did kept d e [] t any = absurd any
full_end full lack did kept d e (m ∷ ms) t any =
    full_end_by full lack did kept m.asking m.verdict t.0 t.1 e t.2 ms t.4 (loose_stays full lack did kept t.1 e ms t.5) (full_end full lack did kept t.1 e ms t.5) any

-- ---- doers that never lack memory

caused : {D : Type 0} (full lack : D → Ask → Type 0) (did : D → Ask → Option (ℕ × Said) → D → Type 0) (kept : D → D → Type 0) (asking : Asking) (v : Verdict) (d e : D) (es : List Entry)
    → ((d : D) (a : Ask) → lack d a → ⊥) → Meets full lack did kept asking v d es e → IsCaused asking v
caused full lack did kept asking (Entered reply moment) d e es none m = tt
caused full lack did kept asking Full d e es none m = tt
caused full lack did kept asking ClockFailed d e es none m = m.0
caused full lack did kept asking NoMemory d e es none (inl copied) = copied.0
caused full lack did kept asking NoMemory d e es none (inr lacks) = absurd (none d (asking.ask lacks.0) lacks.1)

-- each verdict has its cause
pub are_caused : {D : Type 0} (full lack : D → Ask → Type 0) (did : D → Ask → Option (ℕ × Said) → D → Type 0) (kept : D → D → Type 0) (d e : D) (ms : List Met)
    → ((d : D) (a : Ask) → lack d a → ⊥) → LooseTrail full lack did kept d ms e → AreCaused ms
are_caused full lack did kept d e [] none t = tt
are_caused full lack did kept d e (m ∷ ms) none t =
    (caused full lack did kept m.asking m.verdict t.0 t.1 t.2 none t.4, are_caused full lack did kept t.1 e ms none t.5)

-- ---- the same doers, seen otherwise

-- what is known of doers is known of what they are seen as
pub record SeenAs {D E : Type 0} (full lack : D → Ask → Type 0) (did : D → Ask → Option (ℕ × Said) → D → Type 0) (kept : D → D → Type 0)
    (full' lack' : E → Ask → Type 0) (did' : E → Ask → Option (ℕ × Said) → E → Type 0) (kept' : E → E → Type 0) (see : D → E) : Type 0 where
  pub is_full : (d : D) (a : Ask) → full d a → full' (see d) a
  pub was_full : (d : D) (a : Ask) → full' (see d) a → full d a
  pub lacks : (d : D) (a : Ask) → lack d a → lack' (see d) a
  pub does : (d : D) (a : Ask) (answer : Option (ℕ × Said)) (e : D) → did d a answer e → did' (see d) a answer (see e)
  pub keeps : (d e : D) → kept d e → kept' (see d) (see e)

module _ {D E : Type 0} (full lack : D → Ask → Type 0) (did : D → Ask → Option (ℕ × Said) → D → Type 0) (kept : D → D → Type 0) (full' lack' : E → Ask → Type 0) (did' : E → Ask → Option (ℕ × Said) → E → Type 0) (kept' : E → E → Type 0) (see : D → E) (k : SeenAs full lack did kept full' lack' did' kept' see) where
  goes_seen : (d e : D) → GoesOn full kept d e → GoesOn full' kept' (see d) (see e)
  goes_seen d e s = (λ a h. k.is_full e a (s.0 a (k.was_full d a h)), k.keeps d e s.1)

  meets_seen : (asking : Asking) (v : Verdict) (d e : D) (es : List Entry) → Meets full lack did kept asking v d es e → Meets full' lack' did' kept' asking v (see d) es (see e)
  meets_seen asking (Entered reply moment) d e es m = (
    λ h. m.0 (k.was_full d (asking.ask moment) h),
    m.1,
    (m.2.0, m.2.1, k.does d (asking.ask moment) (Some (m.2.0, reply)) e m.2.2),
    goes_seen d e m.3,
  )
  meets_seen asking Full d e es m =
      (m.0, k.is_full e (asking.ask m.0) m.1, k.does d (asking.ask m.0) None e m.2, goes_seen d e m.3, m.4)
  meets_seen asking ClockFailed d e es m = (m.0, ap see m.1, m.2)
  meets_seen asking NoMemory d e es (inl m) = inl (m.0, ap see m.1, m.2)
  meets_seen asking NoMemory d e es (inr m) =
      inr (m.0, k.lacks d (asking.ask m.0) m.1, k.does d (asking.ask m.0) None e m.2, goes_seen d e m.3, m.4)

  pub trail_seen : (d e : D) (ms : List Met) (es : List Entry) → Trail full lack did kept d ms es e → Trail full' lack' did' kept' (see d) ms es (see e)
  trail_seen d e [] es t = (t.0, ap see t.1)
  trail_seen d e (m ∷ ms) es t =
      (see t.0, t.1, t.2, t.3, meets_seen m.asking m.verdict d t.0 t.1 t.4, trail_seen t.0 e ms t.2 t.5)
