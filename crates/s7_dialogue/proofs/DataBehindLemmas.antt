-- Lemmas on jobs that read or fill a whole data block: what is asked behind one more answer, and how they end with it.
use Rattle.std.proofs.Common.{◌≡◌, ℕ, zero, suc, ◌+◌, ◌-◌, ◌<◌, ◌≤◌, min, Bool, true, false, not, cond, eqb, ltb, ◌&&◌, Option, Some, None, List, [], ◌∷◌, ◌++◌, length, drop, refl, sym, ap, ◌∙◌, subst, arith, add-one}
use Rattle.std.specs.Prelude.{is_some, option_map, slice_get, if◌then◌else◌}
use Rattle.std.specs.List.{flat_map}
use Rattle.std.proofs.Math.Path.{ap₂}
use Rattle.std.proofs.lemmas.Bool.{eqb-true, eqb-false, eq-eqb, ltb-true, ltb-false}
use Rattle.std.proofs.lemmas.Grind.{flat_map-append}
use Rattle.std.proofs.lemmas.List.{append-nil, take_at}
use Rattle.s7_dialogue.specs.declared.transfers.data_block.DataBlock.{DataBlock}
use Rattle.s7_dialogue.specs.declared.transfers.data_block.Place.{Place}
use Rattle.s7_dialogue.specs.declared.grant.Leaves.TheVariants.{AsItWas}
use Rattle.s7_dialogue.specs.declared.job.Job.{Job}
use Rattle.s7_dialogue.specs.declared.questions.subject.Subject.TheVariants.{DataHead}
use Rattle.s7_dialogue.specs.declared.stages.single.Ask.{Ask}
use Rattle.s7_dialogue.specs.declared.stages.single.Ask.TheVariants as ask
use Rattle.s7_dialogue.specs.Codes.{partly_written}
use Rattle.s7_dialogue.specs.DataBlocks.{data_length}
use Rattle.s7_dialogue.specs.Question.{Question, asks_further}
use Rattle.s7_dialogue.specs.Answer.{Answer, ItemAnswer, tells, notes, brings, refuses}
use Rattle.s7_dialogue.specs.Refusals.{code_refusal, telegram_refusal, part_refusal}
use Rattle.s7_dialogue.specs.Dialogue.{octets_in, octets_brought, octets_told, of_answer, items_told, is_of_data, count_of_data, or_later, behind, next_of_data, first_refusal, good_end, number_end, by_refusal, block_octets}
use Rattle.s7_dialogue.specs.DataPlaces.{place_from, next_part, part_room, part_count, part_question, questions_for, questions_behind, data_questions, told_for, number_for, block_conduct, refused_number}
use Rattle.s7_dialogue.specs.Stages.{question_of_single, conduct_of_single}
use Rattle.s7_dialogue.specs.Singles.{TellsOfHead, TellsPart, TellsHead}
use Rattle.s7_dialogue.specs.GoesOn.{is_counted}
use Rattle.s7_dialogue.proofs.FlightLemmas.{same_some}
use Rattle.s7_dialogue.proofs.BringLemmas.{last_is, brought_append}
use Rattle.s7_dialogue.proofs.SingleBehindLemmas.{Answers, refused_behind, brought_more, Keeps, GoesBehind, EndsWith}
use Rattle.s7_dialogue.proofs.DataPartLemmas.{questions_step, questions_start}

-- ---- one more answer

count_behind : (answers : Answers) (answer : Option Answer)
    → count_of_data (answers ++ answer ∷ []) ≡ count_of_data answers + (if is_of_data answer then 1 else 0)
count_behind [] answer = swapped (if is_of_data answer then 1 else 0)
  where
    swapped : (n : ℕ) → n + 0 ≡ 0 + n
    swapped n = omega arith
count_behind (first ∷ answers) answer =
    let n : ℕ = if is_of_data first then 1 else 0 in
    let m : ℕ = if is_of_data answer then 1 else 0 in
    let rest : count_of_data (answers ++ answer ∷ []) ≡ count_of_data answers + m = count_behind answers answer in
    let shown : n + count_of_data (answers ++ answer ∷ []) ≡ n + count_of_data answers + m = omega (arith, rest) in
    shown

-- what is asked next
data_behind : (octets : List ℕ) (questions : ℕ → List Question) (answers : Answers) (answer : Option Answer)
    → next_of_data octets questions (answers ++ answer ∷ [])
    ≡ or_later (behind DataHead (octets_brought (answers ++ answer ∷ [])) answer)
    (slice_get (questions (data_length (octets_brought (answers ++ answer ∷ []))))
    (count_of_data (answers ++ answer ∷ [])))
data_behind octets questions [] answer = refl
data_behind octets questions (first ∷ answers) answer =
    ap
    (λ o. or_later (behind DataHead (octets_brought (first ∷ (answers ++ answer ∷ []))) o)
    (slice_get (questions (data_length (octets_brought (first ∷ (answers ++ answer ∷ [])))))
    (count_of_data (first ∷ (answers ++ answer ∷ [])))))
    (last_is first answers answer)

-- before the first part no octets of parts were told
none_more : (first : Option Answer) (answers : Answers) → is_of_data first ≡ false → octets_told answers ≡ []
    → octets_told (first ∷ answers) ≡ []
none_more (Some (brings octet more octets)) answers is none = none
none_more (Some _) answers is none = absurd (cc)
none_more None answers is none = absurd (cc)

none_by : (first : Option Answer) (answers : Answers) (b : Bool) → is_of_data first ≡ b
    → (if b then 1 else 0) + count_of_data answers ≡ 0 → (count_of_data answers ≡ 0 → octets_told answers ≡ [])
    → octets_told (first ∷ answers) ≡ []
none_by first answers true is none rest = absurd (omega (arith, none))
none_by first answers false is none rest = none_more first answers is (rest (omega (arith, none)))

none_told : (answers : Answers) → count_of_data answers ≡ 0 → octets_told answers ≡ []
none_told [] none = refl
none_told (first ∷ answers) none =
    none_by first answers (is_of_data first) refl none (λ rest. none_told answers rest)

-- ---- the head

-- a piece of the head, and others follow
pub head_goes : (done : Job) (block : DataBlock) (answers : Answers) (x : Answer) (so_far octets : List ℕ)
    (next : Option Ask)
    → octets_brought answers ≡ so_far → eqb (count_of_data answers) 0 ≡ true → TellsOfHead block octets next x
    → GoesBehind done (block_conduct block) 0 answers x (so_far ++ octets) next
head_goes done block answers (brings octet more piece) so_far octets next came counted told =
    let x = brings octet more piece in
    let all = brought_more answers x so_far octets came (sym told.0) in
    let none : count_of_data (answers ++ Some x ∷ []) ≡ 0 =
    omega (arith, count_behind answers (Some x), eqb-true (count_of_data answers) 0 counted) in
    record {
      unrefused = refl;
      asks =
          data_behind (block_octets 0x41 block.number) (data_questions block) answers (Some x)
          ∙ (ap
          (λ b. or_later
          (cond (b && true) (Some (asks_further DataHead octet (octets_brought (answers ++ Some x ∷ [])))) None)
          (slice_get (data_questions block (data_length (octets_brought (answers ++ Some x ∷ []))))
          (count_of_data (answers ++ Some x ∷ []))))
          told.2
          ∙ (ap (λ xs. Some (asks_further DataHead octet xs)) all
          ∙ ap (option_map (λ (a : Ask). question_of_single done a (so_far ++ octets))) (sym told.1)));
      alike = λ a is. ap (conduct_of_single done) (same_some a (ask.HeadFurther block octet) (sym is ∙ told.1));
      keeps = λ a is.
          subst (λ (b : Ask). Keeps b (answers ++ Some x ∷ []) (so_far ++ octets))
          (same_some (ask.HeadFurther block octet) a (sym told.1 ∙ is))
          (record { are = all; left = refl; counted = eq-eqb (count_of_data (answers ++ Some x ∷ [])) 0 none });
      ended = λ over unrefused. absurd (let e = told.1 in cc);
    }
head_goes done block answers _ so_far octets next came counted told = absurd told

-- ---- places

from_by : (left : ℕ) (b : Bool) (place : Place) → eqb left 0 ≡ b
    → cond b None (Some (record { from = 0; here = min 65535 left; later = left - min 65535 left })) ≡ Some place
    → (place.from ≡ 0) × (0 < place.here) × (place.here + place.later ≡ left)
from_by left true place none is = absurd (cc)
from_by left false place some is =
    let some_left : 0 < left = omega (arith, eqb-false left 0 some) in
    subst (λ (p : Place). (p.from ≡ 0) × (0 < p.here) × (p.here + p.later ≡ left)) (same_some _ place is)
    (refl, omega (arith, some_left), omega arith)

-- the first place
pub first_place : (left : ℕ) (place : Place) → place_from 0 left ≡ Some place
    → (place.from ≡ 0) × (0 < place.here) × (place.here + place.later ≡ left)
first_place left place is = from_by left (eqb left 0) place refl is

-- a place behind another one
pub record IsBehind (place : Place) (count : ℕ) (next : Place) : Type 0 where
  pub from : next.from ≡ place.from + count
  pub here : 0 < next.here
  pub left : next.here + next.later + count ≡ place.here + place.later

later_by : (place : Place) (count : ℕ) (b : Bool) (next : Place) → place.here ≤ count → count ≤ place.here
    → eqb place.later 0 ≡ b
    → cond b None
    (Some
    (record { from = place.from + count; here = min 65535 place.later; later = place.later - min 65535 place.later }))
    ≡ Some next
    → IsBehind place count next
later_by place count true next all within none is = absurd (cc)
later_by place count false next all within some is =
    let some_left : 0 < place.later = omega (arith, eqb-false place.later 0 some) in
    subst (IsBehind place count) (same_some _ next is)
    (record { from = refl; here = omega (arith, some_left); left = omega (arith, all, within) })

behind_by : (place : Place) (count : ℕ) (b : Bool) (next : Place) → count ≤ place.here → ltb count place.here ≡ b
    → cond b (Some (record { from = place.from + count; here = place.here - count; later = place.later }))
    (place_from (place.from + count) place.later)
    ≡ Some next
    → IsBehind place count next
behind_by place count true next within less is =
    let low : count < place.here = ltb-true count place.here less in
    subst (IsBehind place count) (same_some _ next is)
    (record { from = refl; here = omega (arith, low); left = omega (arith, low) })
behind_by place count false next within all is =
    later_by place count (eqb place.later 0) next (ltb-false count place.here all) within refl is

pub place_next : (block : DataBlock) (place next : Place) → next_part block place ≡ Some next
    → IsBehind place (part_count block place) next
place_next block place next is =
    behind_by place (part_count block place) (ltb (part_count block place) place.here) next (omega arith) refl is

-- ---- the first part

head_of : {A : Type 0} (xs ys : List A) (y : A) (n : ℕ) → n ≡ 0 → xs ≡ y ∷ ys → slice_get xs n ≡ Some y
head_of xs ys y n none is = ap₂ (λ zs k. slice_get zs k) is none

-- the head is whole
pub anew_goes : (done : Job) (block : DataBlock) (answers : Answers) (x : Answer) (so_far : List ℕ) (a : Ask)
    → 0 < part_room block → octets_brought answers ≡ so_far → eqb (count_of_data answers) 0 ≡ true
    → TellsHead block so_far a x
    → GoesBehind done (block_conduct block) 0 answers x [] (Some a)
anew_goes done block answers (brings octet more piece) so_far a room came counted told =
    let x = brings octet more piece in
    let others = answers ++ Some x ∷ [] in
    let all = brought_more answers x so_far piece came refl in
    let none : count_of_data others ≡ 0 =
    omega (arith, count_behind answers (Some x), eqb-true (count_of_data answers) 0 counted) in
    let size : ℕ = data_length (so_far ++ piece) in
    let place : Place = told.2.0 in
    let first = first_place size place told.2.1 in
    let starts : data_questions block (data_length (octets_brought others)) ≡ questions_behind block (Some place) =
    ap (λ xs. data_questions block (data_length xs)) all
    ∙ (questions_start block size ∙ ap (questions_behind block) told.2.1) in
    record {
      unrefused = refl;
      asks =
          data_behind (block_octets 0x41 block.number) (data_questions block) answers (Some x)
          ∙ (ap
          (λ b. or_later (cond (b && true) (Some (asks_further DataHead octet (octets_brought others))) None)
          (slice_get (data_questions block (data_length (octets_brought others))) (count_of_data others)))
          told.0
          ∙ (head_of (data_questions block (data_length (octets_brought others)))
          (questions_behind block (next_part block place)) (part_question block place) (count_of_data others) none
          (starts ∙ questions_step block place room first.1)
          ∙ ap (λ (b : Ask). Some (question_of_single done b [])) (sym told.2.2)));
      alike = λ b is. ap (conduct_of_single done) (same_some b a (sym is) ∙ told.2.2);
      keeps = λ b is.
          subst (λ (c : Ask). Keeps c others []) (sym told.2.2 ∙ same_some a b is)
          (record {
            are = told_none block.value others none;
            left = ap (λ n. drop n (data_questions block (data_length (octets_brought others)))) none ∙ starts;
            counted =
                ap (λ b. cond b (eqb (count_of_data others) 0) (not (eqb (count_of_data others) 0)))
                (eq-eqb place.from 0 first.0)
                ∙ eq-eqb (count_of_data others) 0 none;
          });
      ended = λ over unrefused. absurd (cc);
    }
  where
    told_none : (value : Option ℕ) (others : Answers) → count_of_data others ≡ 0 → told_for value others ≡ []
    told_none None others none = none_told others none
    told_none (Some value) others none = refl
anew_goes done block answers _ so_far a room came counted told = absurd told

-- ---- parts

-- The answer is one of a part, which refuses nothing, and tells these octets.
record IsOfPart (block : DataBlock) (place : Place) (answers : Answers) (x : Answer) (octets : List ℕ)
    (next : Option Ask) : Type 0 where
  unrefused : part_refusal x ≡ None
  silent : octets_in x ≡ []
  of_data : is_of_data (Some x) ≡ true
  last : (so_far : List ℕ) → behind DataHead so_far (Some x) ≡ None
  told : told_for block.value (answers ++ Some x ∷ []) ≡ told_for block.value answers ++ octets
  goes : next ≡ option_map (ask.Part block) (next_part block place)

told_behind : (answers : Answers) (x : Answer) (octets : List ℕ)
    → flat_map (λ (item : ItemAnswer). item.octets) (items_told x) ≡ octets
    → octets_told (answers ++ Some x ∷ []) ≡ octets_told answers ++ octets
told_behind answers x octets is =
    let octets_of : Option Answer → List ℕ =
    of_answer (λ answer. flat_map (λ (item : ItemAnswer). item.octets) (items_told answer)) in
    flat_map-append octets_of answers (Some x ∷ [])
    ∙ ap (λ xs. octets_told answers ++ xs)
    (append-nil (flat_map (λ (item : ItemAnswer). item.octets) (items_told x)) ∙ is)

told_read : (value : Option ℕ) (answers : Answers) (item : ItemAnswer) (octets : List ℕ) → value ≡ None
    → octets ≡ item.octets
    → told_for value (answers ++ Some (tells (item ∷ [])) ∷ []) ≡ told_for value answers ++ octets
told_read None answers item octets read is =
    told_behind answers (tells (item ∷ [])) octets (append-nil item.octets ∙ sym is)
told_read (Some value) answers item octets read is = absurd (cc)

told_written : (value : Option ℕ) (answers : Answers) (code : ℕ) (octets : List ℕ) → octets ≡ []
    → told_for value (answers ++ Some (notes (code ∷ [])) ∷ []) ≡ told_for value answers ++ octets
told_written None answers code octets is = told_behind answers (notes (code ∷ [])) octets (sym is)
told_written (Some value) answers code octets is = sym is

of_part : (block : DataBlock) (place : Place) (answers : Answers) (x : Answer) (octets : List ℕ) (next : Option Ask)
    → TellsPart block place octets next x → IsOfPart block place answers x octets next
of_part block place answers (tells (item ∷ [])) octets next told = record {
  unrefused = ap code_refusal told.1;
  silent = refl;
  of_data = refl;
  last = λ so_far. refl;
  told = told_read block.value answers item octets told.0 told.2;
  goes = told.3;
}
of_part block place answers (notes (code ∷ [])) octets next told = record {
  unrefused = ap code_refusal told.1;
  silent = refl;
  of_data = refl;
  last = λ so_far. refl;
  told = told_written block.value answers code octets told.0;
  goes = told.2;
}
of_part block place answers (tells []) octets next told = absurd told
of_part block place answers (tells (item ∷ other ∷ items)) octets next told = absurd told
of_part block place answers (notes []) octets next told = absurd told
of_part block place answers (notes (code ∷ other ∷ codes)) octets next told = absurd told
of_part block place answers _ octets next told = absurd told

-- the elements behind a place
get_behind : {A : Type 0} (n : ℕ) (xs ys : List A) (y : A) → drop n xs ≡ y ∷ ys
    → (slice_get xs (suc n) ≡ slice_get ys 0) × (drop (suc n) xs ≡ ys)
get_behind zero [] ys y is = absurd (cc)
get_behind zero (x ∷ xs) ys y is = let same : xs ≡ ys = cc in (ap (λ zs. slice_get zs 0) same, same)
get_behind (suc n) [] ys y is = absurd (cc)
get_behind (suc n) (x ∷ xs) ys y is = get_behind n xs ys y is

no_questions : (value : Option ℕ) (size : ℕ) → questions_for value [] size ≡ []
no_questions None size = refl
no_questions (Some value) size = refl

-- what is asked first from a place on
first_asked : (done : Job) (block : DataBlock) (place : Place) (all : List ℕ) (o : Option Place)
    → 0 < part_room block → next_part block place ≡ o
    → slice_get (questions_behind block o) 0
    ≡ option_map (λ (a : Ask). question_of_single done a all) (option_map (ask.Part block) o)
first_asked done block place all None room is = ap (λ qs. slice_get qs 0) (no_questions block.value 0)
first_asked done block place all (Some next) room is =
    ap (λ qs. slice_get qs 0) (questions_step block next room (place_next block place next is).here)

pub some_part : (block : DataBlock) (o : Option Place) (a : Ask) → option_map (ask.Part block) o ≡ Some a
    → (next : Place) × (o ≡ Some next) × (a ≡ ask.Part block next)
some_part block None a is = absurd (cc)
some_part block (Some next) a is = (next, refl, same_some a (ask.Part block next) (sym is))

-- what is asked behind it
pub part_told : (block : DataBlock) (place : Place) (octets : List ℕ) (next : Option Ask) (x : Answer)
    → TellsPart block place octets next x → next ≡ option_map (ask.Part block) (next_part block place)
part_told block place octets next (tells (item ∷ [])) told = told.3
part_told block place octets next (notes (code ∷ [])) told = told.2
part_told block place octets next (tells []) told = absurd told
part_told block place octets next (tells (item ∷ other ∷ items)) told = absurd told
part_told block place octets next (notes []) told = absurd told
part_told block place octets next (notes (code ∷ other ∷ codes)) told = absurd told
part_told block place octets next _ told = absurd told

-- a part was read or written
pub part_goes : (done : Job) (block : DataBlock) (place : Place) (answers : Answers) (x : Answer)
    (so_far octets : List ℕ) (next : Option Ask)
    → 0 < part_room block → 0 < place.here → Keeps (ask.Part block place) answers so_far
    → TellsPart block place octets next x
    → GoesBehind done (block_conduct block) 0 answers x (so_far ++ octets) next
part_goes done block place answers x so_far octets next room here kept told_is =
    let h = of_part block place answers x octets next told_is in
    let others = answers ++ Some x ∷ [] in
    let n : ℕ = count_of_data answers in
    let same : octets_brought others ≡ octets_brought answers =
    brought_append answers x
    ∙ (ap (λ xs. octets_brought answers ++ xs) h.silent ∙ append-nil (octets_brought answers)) in
    let counted : count_of_data others ≡ suc n =
    count_behind answers (Some x) ∙ (ap (λ b. n + (if b then 1 else 0)) h.of_data ∙ add-one n) in
    let all = data_questions block (data_length (octets_brought answers)) in
    let rest = questions_behind block (next_part block place) in
    let here_is : drop n all ≡ part_question block place ∷ rest = kept.left ∙ questions_step block place room here in
    let both = get_behind n all rest (part_question block place) here_is in
    let told : told_for block.value others ≡ so_far ++ octets =
    h.told ∙ ap (λ xs. xs ++ octets) kept.are in
    record {
      unrefused = h.unrefused;
      asks =
          data_behind (block_octets 0x41 block.number) (data_questions block) answers (Some x)
          ∙ (ap
          (λ o. or_later o
          (slice_get (data_questions block (data_length (octets_brought others))) (count_of_data others)))
          (h.last (octets_brought others))
          ∙ (ap₂ (λ xs k. slice_get (data_questions block (data_length xs)) k) same counted
          ∙ (both.0
          ∙ (first_asked done block place (so_far ++ octets) (next_part block place) room refl
          ∙ ap (option_map (λ (a : Ask). question_of_single done a (so_far ++ octets))) (sym h.goes)))));
      alike = λ a is.
          let part = some_part block (next_part block place) a (sym h.goes ∙ is) in
          ap (conduct_of_single done) part.2;
      keeps = λ a is.
          let part = some_part block (next_part block place) a (sym h.goes ∙ is) in
          let behind = place_next block place part.0 part.1 in
          let some : 0 < part_count block place = omega (arith, room, here) in
          let far : eqb part.0.from 0 ≡ false = not_none part.0.from (omega (arith, behind.from, some)) in
          subst (λ (b : Ask). Keeps b others (so_far ++ octets)) (sym part.2)
          (record {
            are = told;
            left =
                ap₂ (λ k xs. drop k (data_questions block (data_length xs))) counted same
                ∙ (both.1 ∙ ap (questions_behind block) part.1);
            counted =
                ap (λ b. cond b (eqb (count_of_data others) 0) (not (eqb (count_of_data others) 0))) far
                ∙ ap not (not_none (count_of_data others) (omega (arith, counted)));
          });
      ended = λ over none.
          ap (λ o. by_refusal (number_for block.value others) o (good_end (told_for block.value others) [])) none
          ∙ ap (λ xs. good_end xs []) told;
    }
  where
    not_none : (k : ℕ) → 0 < k → eqb k 0 ≡ false
    not_none k some = by_test (eqb k 0) refl
      where
        by_test : (b : Bool) → eqb k 0 ≡ b → b ≡ false
        by_test true is = absurd (omega (arith, some, eqb-true k 0 is))
        by_test false is = refl

-- ---- refusals

-- the number that the job ends with, by whether parts were answered before
number_as : (value : Option ℕ) (answers : Answers) (x : Answer) (first : Bool) (number : ℕ)
    → eqb (count_of_data answers) 0 ≡ first
    → number_for value (answers ++ Some x ∷ []) (length answers) number
    ≡ (if is_some value && not first then partly_written else number)
number_as None answers x first number is = refl
number_as (Some value) answers x first number is =
    ap (λ (xs : Answers). if eqb (count_of_data xs) 0 then number else partly_written)
    (take_at answers (Some x ∷ []) (length answers) refl)
    ∙ (ap (λ b. if b then number else partly_written) is ∙ swapped first number)
  where
    swapped : (b : Bool) (k : ℕ)
        → (if b then k else partly_written) ≡ (if true && not b then partly_written else k)
    swapped true k = refl
    swapped false k = refl

refused_as : (block : DataBlock) (answers : Answers) (x : Answer) (first : Bool) (refused : ℕ)
    → first_refusal part_refusal 0 answers ≡ None → part_refusal x ≡ Some refused
    → eqb (count_of_data answers) 0 ≡ first
    → EndsWith (block_conduct block) (answers ++ Some x ∷ [])
    (number_end (if is_some block.value && not first then partly_written else refused) AsItWas)
refused_as block answers x first refused none is counted =
    let others = answers ++ Some x ∷ [] in
    let refusal = refused_behind part_refusal answers x refused none is in
    record {
      last = λ unrefused. absurd (cc);
      is =
          ap (λ o. by_refusal (number_for block.value others) o (good_end (told_for block.value others) [])) refusal
          ∙ ap (λ n. number_end n AsItWas) (number_as block.value answers x first refused counted);
    }

head_refusal : (x : Answer) (number : ℕ) → telegram_refusal x ≡ Some number → part_refusal x ≡ Some number
head_refusal (refuses error) number is = is
head_refusal _ number is = absurd (cc)

plainly : (b : Bool) (n : ℕ) → (if b && not true then partly_written else n) ≡ n
plainly true n = refl
plainly false n = refl

-- the head was refused
pub head_refused : (block : DataBlock) (answers : Answers) (x : Answer) (number : ℕ)
    → first_refusal part_refusal 0 answers ≡ None → eqb (count_of_data answers) 0 ≡ true
    → telegram_refusal x ≡ Some number
    → EndsWith (block_conduct block) (answers ++ Some x ∷ []) (number_end number AsItWas)
head_refused block answers x number none counted is =
    subst (λ (n : ℕ). EndsWith (block_conduct block) (answers ++ Some x ∷ []) (number_end n AsItWas))
    (plainly (is_some block.value) number)
    (refused_as block answers x true number none (head_refusal x number is) counted)

refused_by : (block : DataBlock) (place : Place) (o : Option ℕ) (number : ℕ)
    → option_map (refused_number block place) o ≡ Some number
    → (refused : ℕ) × (o ≡ Some refused) × (refused_number block place refused ≡ number)
refused_by block place None number is = absurd (cc)
refused_by block place (Some refused) number is =
    (refused, refl, same_some (refused_number block place refused) number is)

counted_as : (b c : Bool) → cond b c (not c) ≡ true → c ≡ b
counted_as true true is = refl
counted_as true false is = absurd (cc)
counted_as false true is = absurd (cc)
counted_as false false is = refl

-- or a part
pub part_refused : (block : DataBlock) (place : Place) (answers : Answers) (x : Answer) (number : ℕ)
    → first_refusal part_refusal 0 answers ≡ None
    → is_counted (ask.Part block place) (count_of_data answers) ≡ true
    → option_map (refused_number block place) (part_refusal x) ≡ Some number
    → EndsWith (block_conduct block) (answers ++ Some x ∷ []) (number_end number AsItWas)
part_refused block place answers x number none counted is =
    let refused = refused_by block place (part_refusal x) number is in
    subst (λ (n : ℕ). EndsWith (block_conduct block) (answers ++ Some x ∷ []) (number_end n AsItWas)) refused.2
    (refused_as block answers x (eqb place.from 0) refused.0 none refused.1
    (counted_as (eqb place.from 0) (eqb (count_of_data answers) 0) counted))
