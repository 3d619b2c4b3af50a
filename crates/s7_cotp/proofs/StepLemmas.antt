-- One fragment more, by definition and by what a joiner holds.
use Rattle.std.proofs.Common.{◌≡◌, ℕ, ◌+◌, Bool, true, false, nat_le, nat_lt, ◌||◌, List, [], ◌∷◌, ◌++◌, length, cond, ap, subst, ◌∙◌, sym, refl, arith, append-nil, length-append}
use Rattle.std.proofs.lemmas.Bool.Decides.{nat_tests}
use Rattle.s7_cotp.specs.Gathered.{Gathered, is_fault, is_whole}
use Rattle.s7_cotp.specs.Messages.{Fragment, octets_of, is_over, read, messages_of, rest_of, joined_with, answer_of, Step, StepSays, more, whole, too_many_fragments, too_long, GoesOn, EndsMessage, HoldsRest, open_octets, after_step, with_fragment}
use Rattle.s7_cotp.specs.declared.joining.Joined.{Joined}
use Rattle.s7_cotp.specs.declared.joining.Joined.TheVariants.{Whole, More}
use Rattle.s7_cotp.proofs.MessageLemmas.{octets_of-append, over_more, over_none, read_over, read_last, read_begun, read_more, read_behind}

-- fragments behind a rest that can go on
onward : (limit : ℕ) (fs behind : List Fragment) → is_over limit (rest_of limit fs) ≡ false
    → read limit [] [] (fs ++ behind) ≡ read limit (messages_of limit fs) (rest_of limit fs) behind
unfolding messages_of rest_of
onward limit fs behind o = read_more limit [] [] fs behind (over_none limit) o

says_on : (limit : ℕ) (fs behind : List Fragment) → read limit [] [] (fs ++ behind) ≡ (messages_of limit fs, rest_of limit fs ++ behind) → GoesOn limit fs behind
unfolding messages_of rest_of
says_on limit fs behind e = record { messages = ap (λ r. r.0) e; rest = ap (λ r. r.1) e }

says_end : (limit : ℕ) (fs : List Fragment) (f : Fragment) (m : List ℕ) → read limit [] [] (fs ++ f ∷ []) ≡ (messages_of limit fs ++ m ∷ [], []) → EndsMessage limit fs f m
unfolding messages_of rest_of
says_end limit fs f m e = record { messages = ap (λ r. r.0) e; rest = ap (λ r. r.1) e }

-- behind too much no message ends
pub adds_nothing : (limit : ℕ) (fs behind : List Fragment) → is_over limit (rest_of limit fs) ≡ true → GoesOn limit fs behind
unfolding messages_of rest_of
adds_nothing limit fs behind o =
    let e = read_behind limit [] [] fs behind (over_none limit) o in
    record { messages = ap (λ r. r.0) e; rest = ap (λ r. r.1) e }

octets_more : (fs : List Fragment) (f : Fragment) → octets_of (fs ++ f ∷ []) ≡ octets_of fs ++ f.user
octets_more fs f = octets_of-append fs (f ∷ []) ∙ ap (λ x. octets_of fs ++ x) (append-nil f.user)

over_more_by : (limit count octets user : ℕ) → (nat_lt 64 (count + 1) || nat_lt limit (octets + user)) ≡ (nat_le 64 count || nat_lt limit (octets + user))
over_more_by limit count octets user = grind (arith, nat_tests)

over_is : (limit : ℕ) (begun : List Fragment) (f : Fragment)
    → is_over limit (begun ++ f ∷ []) ≡ (nat_le 64 (length begun) || nat_lt limit (length (octets_of begun) + length f.user))
over_is limit begun f =
    ap (λ v. nat_lt 64 v || nat_lt limit (length (octets_of (begun ++ f ∷ [])))) (length-append begun (f ∷ []))
    ∙ ap (λ v. nat_lt 64 (length begun + 1) || nat_lt limit v) (ap length (octets_more begun f) ∙ length-append (octets_of begun) f.user)
    ∙ over_more_by limit (length begun) (length (octets_of begun)) (length f.user)

-- what a fragment does to a rest that can go on
stepped : (limit : ℕ) (fs : List Fragment) (f : Fragment) (many long : Bool) → is_over limit (rest_of limit fs) ≡ false → is_over limit (rest_of limit fs ++ f ∷ []) ≡ (many || long) → (last : Bool) → f.last ≡ last
    → StepSays limit fs f (cond many too_many_fragments (cond long too_long (cond last (whole (octets_of (rest_of limit fs) ++ f.user)) (more (octets_of (rest_of limit fs) ++ f.user) (length (rest_of limit fs) + 1)))))
stepped limit fs f true long o h last l = λ behind. says_on limit fs (f ∷ behind) (onward limit fs (f ∷ behind) o ∙ read_over limit (messages_of limit fs) (rest_of limit fs) f behind h)
stepped limit fs f false true o h last l = λ behind. says_on limit fs (f ∷ behind) (onward limit fs (f ∷ behind) o ∙ read_over limit (messages_of limit fs) (rest_of limit fs) f behind h)
stepped limit fs f false false o h true l =
    says_end limit fs f (octets_of (rest_of limit fs) ++ f.user) (
    onward limit fs (f ∷ []) o
    ∙ read_last limit (messages_of limit fs) (rest_of limit fs) f [] h l
    ∙ ap (λ x. (messages_of limit fs ++ x ∷ [], [])) (octets_more (rest_of limit fs) f))
stepped limit fs f false false o h false l = (
  says_on limit fs (f ∷ []) (onward limit fs (f ∷ []) o ∙ read_begun limit (messages_of limit fs) (rest_of limit fs) f [] h l),
  sym (octets_more (rest_of limit fs) f),
  sym (length-append (rest_of limit fs) (f ∷ [])),
)

pub one_step_says : (limit : ℕ) (fs : List Fragment) (f : Fragment) → is_over limit (rest_of limit fs) ≡ false
    → StepSays limit fs f (joined_with limit (octets_of (rest_of limit fs)) (length (rest_of limit fs)) f)
one_step_says limit fs f o =
    stepped limit fs f (nat_le 64 (length (rest_of limit fs))) (nat_lt limit (length (octets_of (rest_of limit fs)) + length f.user)) o (over_is limit (rest_of limit fs) f) f.last refl

fault_by : (many long last : Bool) (octets : List ℕ) (count : ℕ) → is_fault (answer_of (cond many too_many_fragments (cond long too_long (cond last (whole octets) (more octets count))))) ≡ (many || long)
fault_by true long last octets count = refl
fault_by false true last octets count = refl
fault_by false false true octets count = refl
fault_by false false false octets count = refl

-- a fragment is too much exactly where the answer is a fault
pub fault_is : (limit : ℕ) (begun : List Fragment) (f : Fragment) → is_over limit (begun ++ f ∷ []) ≡ is_fault (answer_of (joined_with limit (octets_of begun) (length begun) f))
fault_is limit begun f =
    over_is limit begun f
    ∙ sym (fault_by (nat_le 64 (length begun)) (nat_lt limit (length (octets_of begun) + length f.user)) f.last (octets_of begun ++ f.user) (length begun + 1))

-- ---- what a joiner holds

-- the step of a joiner that holds the rest of some fragments
pub record Stepped (fs : List Fragment) (j : Gathered) (f : Fragment) (step : Step) : Type 0 where
  pub says : StepSays j.limit fs f step
  pub over : is_over j.limit (rest_of j.limit fs ++ f ∷ []) ≡ is_fault (answer_of step)

pub joiner_steps : (fs : List Fragment) (j : Gathered) (f : Fragment) → HoldsRest fs j → is_fault j.state ≡ false → Stepped fs j f (joined_with j.limit (open_octets j) j.count f)
joiner_steps fs j f h n =
    let P : Step → Type 0 = Stepped fs j f in
    subst (λ (x : List ℕ). P (joined_with j.limit x j.count f)) (h.octets n)
    (subst (λ (k : ℕ). P (joined_with j.limit (octets_of (rest_of j.limit fs)) k f)) (h.count n)
    (record { says = one_step_says j.limit fs f (h.over ∙ n); over = fault_is j.limit (rest_of j.limit fs) f }))

holds_after : (fs : List Fragment) (j : Gathered) (f : Fragment) (step : Step) → Stepped fs j f step → HoldsRest (fs ++ f ∷ []) (after_step j step)
holds_after fs j f (more octets count) h = record {
  over = ap (is_over j.limit) h.says.0.rest ∙ h.over;
  octets = λ _. ap octets_of h.says.0.rest ∙ sym h.says.1;
  count = λ _. ap length h.says.0.rest ∙ sym h.says.2;
}
holds_after fs j f (whole octets) h = record {
  over = ap (is_over j.limit) h.says.rest ∙ over_none j.limit;
  octets = λ _. ap octets_of h.says.rest;
  count = λ _. ap length h.says.rest;
}
holds_after fs j f too_many_fragments h = record { over = ap (is_over j.limit) (h.says []).rest ∙ h.over; octets = λ e. cc; count = λ e. cc }
holds_after fs j f too_long h = record { over = ap (is_over j.limit) (h.says []).rest ∙ h.over; octets = λ e. cc; count = λ e. cc }

-- a joiner at fault holds a rest that is too much
holds_still : (fs : List Fragment) (j : Gathered) (f : Fragment) → HoldsRest fs j → is_fault j.state ≡ true → HoldsRest (fs ++ f ∷ []) j
holds_still fs j f h e =
    let over : is_over j.limit (rest_of j.limit (fs ++ f ∷ [])) ≡ true =
    ap (is_over j.limit) (adds_nothing j.limit fs (f ∷ []) (h.over ∙ e)).rest ∙ over_more j.limit (rest_of j.limit fs) (f ∷ []) (h.over ∙ e) in
    record { over = over ∙ sym e; octets = λ n. cc; count = λ n. cc }

add_holds : (fs : List Fragment) (j : Gathered) (f : Fragment) → HoldsRest fs j → HoldsRest (fs ++ f ∷ []) (with_fragment j f)
add_holds fs j f h =
    elim (is_fault j.state) as (λ v. is_fault j.state ≡ v → HoldsRest (fs ++ f ∷ []) (cond v j (after_step j (joined_with j.limit (open_octets j) j.count f)))) [
      | true ↦ λ e. holds_still fs j f h e
      | false ↦ λ e. holds_after fs j f (joined_with j.limit (open_octets j) j.count f) (joiner_steps fs j f h e)
    ] refl

goes_after : (fs : List Fragment) (j : Gathered) (f : Fragment) (step : Step) → StepSays j.limit fs f step → (after_step j step).state ≡ More → GoesOn j.limit fs (f ∷ [])
goes_after fs j f (more octets count) h e = h.0
goes_after fs j f (whole octets) h e = cc
goes_after fs j f too_many_fragments h e = cc
goes_after fs j f too_long h e = cc

no_more : (s : Joined) → is_fault s ≡ true → s ≡ More → ⊥
no_more s f e = let g : is_fault s ≡ false = ap is_fault e in cc

no_whole : (s : Joined) → is_fault s ≡ true → s ≡ Whole → ⊥
no_whole s f e = let g : is_fault s ≡ false = ap is_fault e in cc

add_goes_on : (fs : List Fragment) (j : Gathered) (f : Fragment) → HoldsRest fs j → (with_fragment j f).state ≡ More → GoesOn j.limit fs (f ∷ [])
add_goes_on fs j f h =
    elim (is_fault j.state) as (λ v. is_fault j.state ≡ v → (cond v j (after_step j (joined_with j.limit (open_octets j) j.count f))).state ≡ More → GoesOn j.limit fs (f ∷ [])) [
      | true ↦ λ e s. absurd (no_more j.state e s)
      | false ↦ λ e s. goes_after fs j f (joined_with j.limit (open_octets j) j.count f) (joiner_steps fs j f h e).says s
    ] refl

ends_after : (fs : List Fragment) (j : Gathered) (f : Fragment) (step : Step) → StepSays j.limit fs f step → (after_step j step).state ≡ Whole → EndsMessage j.limit fs f (after_step j step).octets
ends_after fs j f (more octets count) h e = cc
ends_after fs j f (whole octets) h e = h
ends_after fs j f too_many_fragments h e = cc
ends_after fs j f too_long h e = cc

add_ends : (fs : List Fragment) (j : Gathered) (f : Fragment) → HoldsRest fs j → (with_fragment j f).state ≡ Whole → EndsMessage j.limit fs f (with_fragment j f).octets
add_ends fs j f h =
    elim (is_fault j.state) as (λ v. is_fault j.state ≡ v → (cond v j (after_step j (joined_with j.limit (open_octets j) j.count f))).state ≡ Whole
    → EndsMessage j.limit fs f (cond v j (after_step j (joined_with j.limit (open_octets j) j.count f))).octets) [
      | true ↦ λ e s. absurd (no_whole j.state e s)
      | false ↦ λ e s. ends_after fs j f (joined_with j.limit (open_octets j) j.count f) (joiner_steps fs j f h e).says s
    ] refl

fault_after : (fs : List Fragment) (j : Gathered) (f : Fragment) (behind : List Fragment) (step : Step) → StepSays j.limit fs f step → is_fault (after_step j step).state ≡ true → GoesOn j.limit fs (f ∷ behind)
fault_after fs j f behind (more octets count) h e = cc
fault_after fs j f behind (whole octets) h e = cc
fault_after fs j f behind too_many_fragments h e = h behind
fault_after fs j f behind too_long h e = h behind

add_fault : (fs : List Fragment) (j : Gathered) (f : Fragment) (behind : List Fragment) → HoldsRest fs j → is_fault (with_fragment j f).state ≡ true → GoesOn j.limit fs (f ∷ behind)
add_fault fs j f behind h =
    elim (is_fault j.state) as (λ v. is_fault j.state ≡ v → is_fault (cond v j (after_step j (joined_with j.limit (open_octets j) j.count f))).state ≡ true → GoesOn j.limit fs (f ∷ behind)) [
      | true ↦ λ e s. adds_nothing j.limit fs (f ∷ behind) (h.over ∙ e)
      | false ↦ λ e s. fault_after fs j f behind (joined_with j.limit (open_octets j) j.count f) (joiner_steps fs j f h e).says s
    ] refl

pub none_held : (limit : ℕ) → is_over limit (rest_of limit []) ≡ false
unfolding rest_of
none_held limit = over_none limit

pub none_rest : (limit : ℕ) → rest_of limit [] ≡ []
unfolding rest_of
none_rest limit = refl

-- a joiner that no fragment came to
pub begins : (j : Gathered) → j.octets ≡ [] → j.count ≡ 0 → j.state ≡ More → HoldsRest [] j
begins j o n s = record {
  over = none_held j.limit ∙ sym (ap is_fault s);
  octets = λ _. ap octets_of (none_rest j.limit) ∙ sym (ap (λ v. cond (is_whole v) [] j.octets) s ∙ o);
  count = λ _. ap length (none_rest j.limit) ∙ sym n;
}

-- ---- the same of what a joiner holds after a call

pub new_holds : (fs : List Fragment) (j k : Gathered) (f : Fragment) → k ≡ with_fragment j f → HoldsRest fs j → HoldsRest (fs ++ f ∷ []) k
new_holds fs j k f v h = subst (λ (x : Gathered). HoldsRest (fs ++ f ∷ []) x) (sym v) (add_holds fs j f h)

pub new_goes_on : (fs : List Fragment) (j k : Gathered) (f : Fragment) (result : Joined) → k ≡ with_fragment j f → result ≡ k.state → HoldsRest fs j → result ≡ More → GoesOn j.limit fs (f ∷ [])
new_goes_on fs j k f result v a h e = add_goes_on fs j f h (sym (ap (λ x. x.state) v) ∙ sym a ∙ e)

pub new_ends : (fs : List Fragment) (j k : Gathered) (f : Fragment) (result : Joined) → k ≡ with_fragment j f → result ≡ k.state → HoldsRest fs j → result ≡ Whole → EndsMessage j.limit fs f k.octets
new_ends fs j k f result v a h e =
    subst (λ (x : Gathered). EndsMessage j.limit fs f x.octets) (sym v) (add_ends fs j f h (sym (ap (λ x. x.state) v) ∙ sym a ∙ e))

pub new_fault : (fs : List Fragment) (j k : Gathered) (f : Fragment) (behind : List Fragment) (result : Joined) → k ≡ with_fragment j f → result ≡ k.state → HoldsRest fs j → is_fault result ≡ true
    → GoesOn j.limit fs (f ∷ behind)
new_fault fs j k f behind result v a h e = add_fault fs j f behind h (ap (λ x. is_fault x.state) (sym v) ∙ ap is_fault (sym a) ∙ e)
