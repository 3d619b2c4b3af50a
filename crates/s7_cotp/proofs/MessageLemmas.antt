-- Fragments read one after another.
use Rattle.std.proofs.Common.{◌≡◌, ℕ, ◌≤◌, true, false, nat_lt, ◌||◌, inl, inr, List, [], ◌∷◌, ◌++◌, length, cond, ap, subst, ◌∙◌, sym, refl, arith, append_assoc, length-append}
use Rattle.std.proofs.lemmas.Bool.{cases_Bool, false_from_ne_true}
use Rattle.std.proofs.lemmas.Bool.Decides.{nat_tests}
use Rattle.s7_cotp.specs.Messages.{Fragment, octets_of, is_over, read}

pub octets_of-append : (a b : List Fragment) → octets_of (a ++ b) ≡ octets_of a ++ octets_of b
octets_of-append [] b = refl
octets_of-append (f ∷ a) b = ap (λ x. f.user ++ x) (octets_of-append a b) ∙ sym (append_assoc f.user (octets_of a) (octets_of b))

over_by : (limit m n k l : ℕ) → m ≤ k → n ≤ l → (nat_lt 64 m || nat_lt limit n) ≡ true → (nat_lt 64 k || nat_lt limit l) ≡ true
over_by limit m n k l h g o = grind (arith, nat_tests)

-- too much stays too much
pub over_more : (limit : ℕ) (a b : List Fragment) → is_over limit a ≡ true → is_over limit (a ++ b) ≡ true
over_more limit a b o =
    over_by limit (length a) (length (octets_of a)) (length (a ++ b)) (length (octets_of (a ++ b)))
    (omega (arith, length-append a b)) (omega (arith, ap length (octets_of-append a b), length-append (octets_of a) (octets_of b))) o

pub within_front : (limit : ℕ) (a b : List Fragment) → is_over limit (a ++ b) ≡ false → is_over limit a ≡ false
within_front limit a b o = false_from_ne_true (is_over limit a) (λ h. let k : is_over limit (a ++ b) ≡ true = over_more limit a b h in cc)

within_by : (limit m n : ℕ) → (nat_lt 64 m || nat_lt limit n) ≡ false → (m ≤ 64) × (n ≤ limit)
within_by limit m n o = (grind (arith, nat_tests), grind (arith, nat_tests))

pub within : (limit : ℕ) (fs : List Fragment) → is_over limit fs ≡ false → (length fs ≤ 64) × (length (octets_of fs) ≤ limit)
within limit fs o = within_by limit (length fs) (length (octets_of fs)) o

over_at : (limit m n : ℕ) → m ≤ 64 → n ≤ limit → (nat_lt 64 m || nat_lt limit n) ≡ false
over_at limit m n h g = grind (arith, nat_tests)

pub is_within : (limit : ℕ) (fs : List Fragment) → length fs ≤ 64 → length (octets_of fs) ≤ limit → is_over limit fs ≡ false
is_within limit fs h g = over_at limit (length fs) (length (octets_of fs)) h g

pub over_none : (limit : ℕ) → is_over limit [] ≡ false
over_none limit = is_within limit [] (omega arith) (omega arith)

-- the three cases of one fragment
pub read_over : (limit : ℕ) (ms : List (List ℕ)) (begun : List Fragment) (f : Fragment) (fs : List Fragment)
    → is_over limit (begun ++ f ∷ []) ≡ true → read limit ms begun (f ∷ fs) ≡ (ms, begun ++ f ∷ fs)
read_over limit ms begun f fs o =
    ap (λ v. cond v (ms, begun ++ f ∷ fs) (cond f.last (read limit (ms ++ octets_of (begun ++ f ∷ []) ∷ []) [] fs) (read limit ms (begun ++ f ∷ []) fs))) o

pub read_last : (limit : ℕ) (ms : List (List ℕ)) (begun : List Fragment) (f : Fragment) (fs : List Fragment)
    → is_over limit (begun ++ f ∷ []) ≡ false → f.last ≡ true → read limit ms begun (f ∷ fs) ≡ read limit (ms ++ octets_of (begun ++ f ∷ []) ∷ []) [] fs
read_last limit ms begun f fs o l =
    ap (λ v. cond v (ms, begun ++ f ∷ fs) (cond f.last (read limit (ms ++ octets_of (begun ++ f ∷ []) ∷ []) [] fs) (read limit ms (begun ++ f ∷ []) fs))) o
    ∙ ap (λ v. cond v (read limit (ms ++ octets_of (begun ++ f ∷ []) ∷ []) [] fs) (read limit ms (begun ++ f ∷ []) fs)) l

pub read_begun : (limit : ℕ) (ms : List (List ℕ)) (begun : List Fragment) (f : Fragment) (fs : List Fragment)
    → is_over limit (begun ++ f ∷ []) ≡ false → f.last ≡ false → read limit ms begun (f ∷ fs) ≡ read limit ms (begun ++ f ∷ []) fs
read_begun limit ms begun f fs o l =
    ap (λ v. cond v (ms, begun ++ f ∷ fs) (cond f.last (read limit (ms ++ octets_of (begun ++ f ∷ []) ∷ []) [] fs) (read limit ms (begun ++ f ∷ []) fs))) o
    ∙ ap (λ v. cond v (read limit (ms ++ octets_of (begun ++ f ∷ []) ∷ []) [] fs) (read limit ms (begun ++ f ∷ []) fs)) l

-- a front of a list of fragments and one more
pub one_more : (begun : List Fragment) (f : Fragment) (fs : List Fragment) → begun ++ f ∷ fs ≡ (begun ++ f ∷ []) ++ fs
one_more begun f fs = sym (append_assoc begun (f ∷ []) fs)

-- more fragments are read from where those before end
pub read_more : (limit : ℕ) (ms : List (List ℕ)) (begun fs behind : List Fragment) → is_over limit begun ≡ false → is_over limit (read limit ms begun fs).1 ≡ false
    → read limit ms begun (fs ++ behind) ≡ read limit (read limit ms begun fs).0 (read limit ms begun fs).1 behind
read_more limit ms begun [] behind n o = refl
read_more limit ms begun (f ∷ fs) behind n o = elim (cases_Bool (is_over limit (begun ++ f ∷ []))) [
  | inl h ↦
      let e = subst (λ r. is_over limit r.1 ≡ false) (read_over limit ms begun f fs h) o in
      let g : is_over limit ((begun ++ f ∷ []) ++ fs) ≡ true = over_more limit (begun ++ f ∷ []) fs h in
      let k : is_over limit ((begun ++ f ∷ []) ++ fs) ≡ false = subst (λ (x : List Fragment). is_over limit x ≡ false) (one_more begun f fs) e in
      cc
  | inr h ↦ elim (cases_Bool f.last) [
    | inl l ↦
        let e = read_last limit ms begun f fs h l in
        read_last limit ms begun f (fs ++ behind) h l
        ∙ read_more limit (ms ++ octets_of (begun ++ f ∷ []) ∷ []) [] fs behind (over_none limit) (subst (λ r. is_over limit r.1 ≡ false) e o)
        ∙ sym (ap (λ r. read limit r.0 r.1 behind) e)
    | inr l ↦
        let e = read_begun limit ms begun f fs h l in
        read_begun limit ms begun f (fs ++ behind) h l
        ∙ read_more limit ms (begun ++ f ∷ []) fs behind h (subst (λ r. is_over limit r.1 ≡ false) e o)
        ∙ sym (ap (λ r. read limit r.0 r.1 behind) e)
  ]
]

-- behind too much nothing is read
pub read_behind : (limit : ℕ) (ms : List (List ℕ)) (begun fs behind : List Fragment) → is_over limit begun ≡ false → is_over limit (read limit ms begun fs).1 ≡ true
    → read limit ms begun (fs ++ behind) ≡ ((read limit ms begun fs).0, (read limit ms begun fs).1 ++ behind)
read_behind limit ms begun [] behind n o = cc
read_behind limit ms begun (f ∷ fs) behind n o = elim (cases_Bool (is_over limit (begun ++ f ∷ []))) [
  | inl h ↦
      read_over limit ms begun f (fs ++ behind) h
      ∙ ap (λ x. (ms, x)) (sym (append_assoc begun (f ∷ fs) behind))
      ∙ sym (ap (λ r. (r.0, r.1 ++ behind)) (read_over limit ms begun f fs h))
  | inr h ↦ elim (cases_Bool f.last) [
    | inl l ↦
        let e = read_last limit ms begun f fs h l in
        read_last limit ms begun f (fs ++ behind) h l
        ∙ read_behind limit (ms ++ octets_of (begun ++ f ∷ []) ∷ []) [] fs behind (over_none limit) (subst (λ r. is_over limit r.1 ≡ true) e o)
        ∙ sym (ap (λ r. (r.0, r.1 ++ behind)) e)
    | inr l ↦
        let e = read_begun limit ms begun f fs h l in
        read_begun limit ms begun f (fs ++ behind) h l
        ∙ read_behind limit ms (begun ++ f ∷ []) fs behind h (subst (λ r. is_over limit r.1 ≡ true) e o)
        ∙ sym (ap (λ r. (r.0, r.1 ++ behind)) e)
  ]
]
