-- Lemmas on refusals: which of them comes first.
use Rattle.std.proofs.Common.{◌≡◌, ℕ, ◌+◌, ◌<◌, ◌≤◌, true, cond, Option, Some, None, List, [], ◌∷◌, ◌++◌, length, refl, sym, ap, ◌∙◌, arith}
use Rattle.std.proofs.lemmas.Option.{same_Some}
use Rattle.std.proofs.lemmas.Bool.{lt-ltb, le-ltb}
use Rattle.s7_dialogue.specs.declared.job.Job.{Job}
use Rattle.s7_dialogue.specs.declared.job.Job.TheVariants as job
use Rattle.s7_dialogue.specs.Answer.{Answer}
use Rattle.s7_dialogue.specs.Dialogue.{first_or, refusal_in, first_refusal}
use Rattle.s7_dialogue.specs.Stages.{is_alone}
use Rattle.s7_dialogue.specs.Asks.{earlier}
use Rattle.s7_dialogue.specs.GoesOn.{refusal_by, refusal_of, asks_groups}

abbrev Refusal : Type 0
Refusal = Answer → Option ℕ

-- a refusal is at the place where it is looked for, or later
later_by : (o : Option ℕ) (place : ℕ) (later : Option (ℕ × ℕ)) (r : ℕ × ℕ)
    → ((s : ℕ × ℕ) → later ≡ Some s → place + 1 ≤ s.0)
    → first_or o place later ≡ Some r → place ≤ r.0
later_by None place later r after is = omega (arith, after r is)
later_by (Some n) place later r after is =
    let e : (place, n) ≡ r = same_Some (place, n) r is in omega (arith, ap (λ (s : ℕ × ℕ). s.0) e)

refusal_later : (refusal : Refusal) (place : ℕ) (answers : List (Option Answer)) (r : ℕ × ℕ)
    → first_refusal refusal place answers ≡ Some r → place ≤ r.0
refusal_later refusal place [] r is = absurd (cc)
refusal_later refusal place (answer ∷ answers) r is =
    later_by (refusal_in refusal answer) place (first_refusal refusal (place + 1) answers) r
    (λ s e. refusal_later refusal (place + 1) answers s e) is

earlier_here : (later : Option (ℕ × ℕ)) (place number : ℕ) → ((r : ℕ × ℕ) → later ≡ Some r → place < r.0)
    → earlier later place number ≡ Some (place, number)
earlier_here None place number after = refl
earlier_here (Some r) place number after =
    ap (λ b. cond b (Some (place, number)) (Some r)) (lt-ltb place r.0 (after r refl))

earlier_there : (first place n number : ℕ) → first ≤ place → earlier (Some (first, n)) place number ≡ Some (first, n)
earlier_there first place n number behind =
    ap (λ b. cond b (Some (place, number)) (Some (first, n))) (le-ltb place first behind)

earlier_by : (o : Option ℕ) (first place number : ℕ) (later later' : Option (ℕ × ℕ)) → first ≤ place
    → later' ≡ earlier later place number
    → first_or o first later' ≡ earlier (first_or o first later) place number
earlier_by None first place number later later' behind is = is
earlier_by (Some n) first place number later later' behind is = sym (earlier_there first place n number behind)

-- one more answer, which refuses
pub refusal_more : (refusal : Refusal) (place number : ℕ) (front back : List (Option Answer)) (x : Answer)
    → refusal x ≡ Some number
    → first_refusal refusal place (front ++ Some x ∷ back)
    ≡ earlier (first_refusal refusal place (front ++ None ∷ back)) (place + length front) number
refusal_more refusal place number [] back x is =
    let here : place + 0 ≡ place = omega arith in
    ap (λ o. first_or o place (first_refusal refusal (place + 1) back)) is
    ∙ (sym (earlier_here (first_refusal refusal (place + 1) back) place number
    (λ r e. omega (arith, refusal_later refusal (place + 1) back r e)))
    ∙ ap (λ p. earlier (first_refusal refusal (place + 1) back) p number) (sym here))
refusal_more refusal place number (answer ∷ front) back x is =
    let on : place + 1 + length front ≡ place + length (answer ∷ front) = omega arith in
    earlier_by (refusal_in refusal answer) place (place + length (answer ∷ front)) number
    (first_refusal refusal (place + 1) (front ++ None ∷ back))
    (first_refusal refusal (place + 1) (front ++ Some x ∷ back)) (omega arith)
    (refusal_more refusal (place + 1) number front back x is
    ∙ ap (λ p. earlier (first_refusal refusal (place + 1) (front ++ None ∷ back)) p number) on)

-- or doesn't refuse
pub refusal_same : (refusal : Refusal) (place : ℕ) (front back : List (Option Answer)) (x : Answer) → refusal x ≡ None
    → first_refusal refusal place (front ++ Some x ∷ back) ≡ first_refusal refusal place (front ++ None ∷ back)
refusal_same refusal place [] back x is = ap (λ o. first_or o place (first_refusal refusal (place + 1) back)) is
refusal_same refusal place (answer ∷ front) back x is =
    ap (first_or (refusal_in refusal answer) place) (refusal_same refusal (place + 1) front back x is)

-- the refusal of an answer by what the job is
pub refusal_by_job : (done : Job) (x : Answer) → asks_groups done ≡ true
    → refusal_by (is_alone done) x ≡ refusal_of done x
refusal_by_job (job.ReadArea item) x asks = refl
refusal_by_job (job.WriteArea item octets) x asks = refl
refusal_by_job (job.ReadMany items) x asks = refl
refusal_by_job (job.WriteMany items octets) x asks = refl
refusal_by_job _ x asks = absurd (cc)
