-- Laws of jobs that ask one question at a time: the last telegram asks what comes behind the answers before it, and
-- these are all there.
use Rattle.std.proofs.Common.{◌≡◌, ◌⊎◌, inl, inr, ℕ, ◌≤◌, Some, None, List, [], ◌∷◌, ◌++◌, length, refl, sym, ap, ◌∙◌, subst, append_assoc, arith}
use Rattle.std.proofs.lemmas.List.{length-append}
use Rattle.s7_dialogue.specs.Question.{Question}
use Rattle.s7_dialogue.specs.Flight.{Row, answers_of, open_count}
use Rattle.s7_dialogue.specs.Dialogue.{Conduct}
use Rattle.s7_dialogue.specs.Course.{Origin, conduct_of, course}
use Rattle.s7_dialogue.proofs.FlightLemmas.{IsAnswered, all_answered, ComesNext, with_answer, IsFilled}
use Rattle.s7_dialogue.proofs.RowLemmas.{RowsKept, course_rows, all_parts, HasAnswer}

-- ---- general lemmas

-- no list with a last element is empty
pub some_last : {A : Type 0} (xs : List A) (x : A) → [] ≡ xs ++ x ∷ [] → ⊥
some_last xs x is = omega (arith, ap length is, length-append xs (x ∷ []))

-- the last elements of one list are the same, and so is what stands before them
pub lasts_same : {A : Type 0} (xs ys : List A) (x y : A) → xs ++ x ∷ [] ≡ ys ++ y ∷ [] → (xs ≡ ys) × (x ≡ y)
lasts_same [] [] x y is = (refl, cc)
lasts_same [] (b ∷ ys) x y is =
    let tails : [] ≡ ys ++ y ∷ [] = cc in
    absurd (some_last ys y tails)
lasts_same (a ∷ xs) [] x y is =
    let tails : [] ≡ xs ++ x ∷ [] = cc in
    absurd (some_last xs x tails)
lasts_same (a ∷ xs) (b ∷ ys) x y is =
    let tails : xs ++ x ∷ [] ≡ ys ++ y ∷ [] = cc in
    let heads : a ≡ b = cc in
    let rest = lasts_same xs ys x y tails in
    (ap (λ c. c ∷ xs) heads ∙ ap (λ zs. b ∷ zs) rest.0, rest.1)

-- the last element of a list, and those before it
abbrev pub HasLast : {A : Type 0} → List A → Type 0
HasLast {A} xs = (front : List A) × (x : A) × (xs ≡ front ++ x ∷ [])

pub last_of : {A : Type 0} (x : A) (xs : List A) → HasLast (x ∷ xs)
last_of x [] = ([], x, refl)
last_of x (y ∷ ys) = let rest = last_of y ys in (x ∷ rest.0, rest.1, ap (λ zs. x ∷ zs) rest.2)

pub last_if : {A : Type 0} (xs : List A) → (xs ≡ []) ⊎ HasLast xs
last_if [] = inl refl
last_if (x ∷ xs) = inr (last_of x xs)

-- ---- the last telegram

-- It asks what comes behind the answers before it, which are all there, and its own is what some message answers to it.
pub record IsAskedLast (conduct : Conduct) (front : List Row) (row : Row) : Type 0 where
  pub before : open_count front ≡ 0
  pub asked : conduct.question_at (answers_of front) ≡ Some row.question
  pub answered : HasAnswer row

abbrev pub AsksLast : Conduct → List Row → Type 0
AsksLast conduct rows = (front : List Row) (row : Row) → rows ≡ front ++ row ∷ [] → IsAskedLast conduct front row

last_asked : (conduct : Conduct) → conduct.width ≤ 1 → (rows : List Row) (question : Question) (number : ℕ)
    → ComesNext conduct rows question
    → AsksLast conduct (rows ++ record { question = question; number = number; answer = None } ∷ [])
last_asked conduct one rows question number next front row is =
    let new : Row = record { question = question; number = number; answer = None } in
    let same = lasts_same rows front new row is in
    let none : open_count rows ≡ 0 = omega (arith, one, next.fewer) in
    record {
      before = subst (λ rs. open_count rs ≡ 0) same.0 none;
      asked = ap (λ rs. conduct.question_at (answers_of rs)) (sym same.0)
          ∙ (next.is ∙ ap (λ (r : Row). Some r.question) same.1);
      answered = subst HasAnswer same.1 (λ answer is. absurd (cc));
    }

-- a telegram that is unanswered doesn't stand before the last one
none_behind : (conduct : Conduct) (rows : List Row) (message : List ℕ) (rows' : List Row)
    → (f : IsFilled rows message rows') → AsksLast conduct rows → (f.back ≡ []) ⊎ HasLast f.back → f.back ≡ []
none_behind conduct rows message rows' f last (inl none) = none
none_behind conduct rows message rows' f last (inr h) =
    let front : List Row = f.front ++ f.row ∷ h.0 in
    let is : rows ≡ front ++ h.1 ∷ [] =
    f.before ∙ (ap (λ back. f.front ++ f.row ∷ back) h.2 ∙ sym (append_assoc f.front (f.row ∷ h.0) (h.1 ∷ []))) in
    let each = all_answered front (last front h.1 is).before in
    let known = (all_parts IsAnswered f.front (f.row ∷ h.0) each).1.0 in
    let unanswered : f.row.answer ≡ None = f.unanswered in
    let answered : f.row.answer ≡ Some known.0 = known.1 in
    absurd (cc)

last_answered : (conduct : Conduct) (rows : List Row) (message : List ℕ) (rows' : List Row)
    → IsFilled rows message rows' → AsksLast conduct rows → AsksLast conduct rows'
last_answered conduct rows message rows' f last front row is =
    let none : f.back ≡ [] = none_behind conduct rows message rows' f last (last_if f.back) in
    let new : Row = with_answer f.row f.answer in
    let was = last f.front f.row (f.before ∙ ap (λ back. f.front ++ f.row ∷ back) none) in
    let same = lasts_same f.front front new row (ap (λ back. f.front ++ new ∷ back) (sym none) ∙ (sym f.after ∙ is)) in
    record {
      before = subst (λ rs. open_count rs ≡ 0) same.0 was.before;
      asked = ap (λ rs. conduct.question_at (answers_of rs)) (sym same.0)
          ∙ (was.asked ∙ ap (λ (r : Row). Some r.question) same.1);
      answered = subst HasAnswer same.1 (λ answer is. (message, f.answers ∙ is));
    }

last_kept : (conduct : Conduct) → conduct.width ≤ 1 → RowsKept conduct (AsksLast conduct)
last_kept conduct one = record {
  none = λ front row is. absurd (some_last front row is);
  asked = λ rows question number next last. last_asked conduct one rows question number next;
  answered = last_answered conduct;
}

-- so it is after all octets
pub course_last : (origin : Origin) → (conduct_of origin).width ≤ 1 → (b : List ℕ)
    → AsksLast (conduct_of origin) (course origin b).rows
course_last origin one b = course_rows origin (AsksLast (conduct_of origin)) (last_kept (conduct_of origin) one) b
