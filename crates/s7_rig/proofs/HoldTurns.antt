-- Jobs that ask one question at a time: each is asked behind the answers to all before it.
use Rattle.std.proofs.Common.{◌≡◌, ℕ, ◌+◌, ◌≤◌, Option, None, Some, List, [], ◌∷◌, ◌++◌, refl, ap, sym, ◌∙◌, subst, append_assoc, append-nil, arith}
use Rattle.std.specs.List.{AllByRecursion}
use Rattle.s7_dialogue.specs.Answer.{Answer}
use Rattle.s7_dialogue.specs.Flight.{Row, answers_of}
use Rattle.s7_dialogue.specs.Dialogue.{Conduct, first_or, refusal_in, first_refusal}
use Rattle.s7_dialogue.specs.Course.{Origin, conduct_of, course}
use Rattle.s7_dialogue.proofs.FlightLemmas.{IsAnswered, all_answered, with_answer}
use Rattle.s7_dialogue.proofs.RowLemmas.{RowsKept, course_rows}
use Rattle.s7_rig.proofs.Awaiting.{IsDue, AreInTurn}

not_none : (row : Row) → IsAnswered row → row.answer ≡ None → ⊥
not_none row known none = let answered = known.1 in absurd (cc)

not_nothing : (xs : List Row) (row : Row) (ys : List Row) → xs ++ row ∷ ys ≡ [] → ⊥
not_nothing [] row ys e = absurd (cc)
not_nothing (x ∷ xs) row ys e = absurd (cc)

-- one more behind answered ones
turn_asked : (c : Conduct) (before rows : List Row) (row : Row) → AllByRecursion IsAnswered rows
    → IsDue c (answers_of (before ++ rows)) row → AreInTurn c before rows → AreInTurn c before (rows ++ row ∷ [])
turn_asked c before [] row each due turn =
    (subst (λ rows. IsDue c (answers_of rows) row) (append-nil before) due, (λ none. refl), tt)
turn_asked c before (r ∷ rows) row each due turn = (
  turn.0,
  (λ none. absurd (not_none r each.0 none)),
  turn_asked c (before ++ r ∷ []) rows row each.1
      (subst (λ rows. IsDue c (answers_of rows) row) (sym (append_assoc before (r ∷ []) rows)) due) turn.2,
)

-- an answer to one of them, behind which none is
turn_filled : (c : Conduct) (before front : List Row) (row : Row) (answer : Answer) (back : List Row)
    → row.answer ≡ None → AreInTurn c before (front ++ row ∷ back)
    → AreInTurn c before (front ++ with_answer row answer ∷ back)
turn_filled c before [] row answer back unanswered turn = (
  record { is = turn.0.is; unrefused = turn.0.unrefused },
  (λ none. absurd (not_none (with_answer row answer) (answer, refl) none)),
  subst (AreInTurn c (before ++ with_answer row answer ∷ [])) (sym (turn.1 unanswered)) tt,
)
turn_filled c before (r ∷ front) row answer back unanswered turn = (
  turn.0,
  (λ none. absurd (not_nothing front row back (turn.1 none))),
  turn_filled c (before ++ r ∷ []) front row answer back unanswered turn.2,
)

turns_kept : (c : Conduct) → c.width ≤ 1 → RowsKept c (AreInTurn c [])
turns_kept c narrow = record {
  none = tt;
  asked = λ rows question number next turn.
      turn_asked c [] rows _ (all_answered rows (omega (arith, next.fewer, narrow)))
      (record { is = next.is; unrefused = next.unrefused }) turn;
  answered = λ rows message rows' f turn.
      subst (AreInTurn c []) (sym f.after)
      (turn_filled c [] f.front f.row f.answer f.back f.unanswered (subst (AreInTurn c []) f.before turn));
}

-- The telegrams of a job go out in turn, where one may be unanswered at a time.
pub course_in_turn : (origin : Origin) (b : List ℕ) → (conduct_of origin).width ≤ 1
    → AreInTurn (conduct_of origin) [] (course origin b).rows
course_in_turn origin b narrow =
    course_rows origin (AreInTurn (conduct_of origin) []) (turns_kept (conduct_of origin) narrow) b

-- One that is unanswered was asked behind the answers to those before it, and is the last.
pub turn_at : (c : Conduct) (before gone : List Row) (row : Row) (later : List Row) → row.answer ≡ None
    → AreInTurn c before (gone ++ row ∷ later)
    → IsDue c (answers_of (before ++ gone)) row × (later ≡ [])
turn_at c before [] row later unanswered turn =
    (subst (λ rows. IsDue c (answers_of rows) row) (sym (append-nil before)) turn.0, turn.1 unanswered)
turn_at c before (r ∷ gone) row later unanswered turn =
    let at = turn_at c (before ++ r ∷ []) gone row later unanswered turn.2 in
    (subst (λ rows. IsDue c (answers_of rows) row) (append_assoc before (r ∷ []) gone) at.0, at.1)

-- where none of some answers refuses, and then another doesn't, none of all does
unrefused_or : (refused : Option ℕ) (place : ℕ) (later : Option (ℕ × ℕ)) → first_or refused place later ≡ None
    → (refused ≡ None) × (later ≡ None)
unrefused_or None place later none = (refl, none)
unrefused_or (Some number) place later none = absurd (cc)

pub none_refused : (refusal : Answer → Option ℕ) (place : ℕ) (answers : List (Option Answer)) (answer : Answer)
    → first_refusal refusal place answers ≡ None → refusal answer ≡ None
    → first_refusal refusal place (answers ++ Some answer ∷ []) ≡ None
none_refused refusal place [] answer none good = ap (λ refused. first_or refused place None) good
none_refused refusal place (first ∷ answers) answer none good =
    let parts = unrefused_or (refusal_in refusal first) place (first_refusal refusal (place + 1) answers) none in
    ap (λ refused. first_or refused place (first_refusal refusal (place + 1) (answers ++ Some answer ∷ []))) parts.0
    ∙ none_refused refusal (place + 1) answers answer parts.1 good

-- and the last of them doesn't
pub last_unrefused : (refusal : Answer → Option ℕ) (place : ℕ) (answers : List (Option Answer)) (answer : Answer)
    → first_refusal refusal place (answers ++ Some answer ∷ []) ≡ None → refusal answer ≡ None
last_unrefused refusal place [] answer none = (unrefused_or (refusal answer) place None none).0
last_unrefused refusal place (first ∷ answers) answer none =
    last_unrefused refusal (place + 1) answers answer
    (unrefused_or (refusal_in refusal first) place (first_refusal refusal (place + 1) (answers ++ Some answer ∷ []))
    none).1
