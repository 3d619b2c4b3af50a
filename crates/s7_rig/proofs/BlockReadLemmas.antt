-- What a read of a whole data block that came off has read: its head, and then its parts.
use Rattle.std.proofs.Common.{◌≡◌, ℕ, suc, ◌+◌, ◌<◌, ◌≤◌, Bool, true, false, cond, Option, None, Some, List, [], ◌∷◌}
use Rattle.std.proofs.Common.{◌++◌}
use Rattle.std.proofs.Common.{length, replicate, refl, ap, ap₂, sym, ◌∙◌, subst, arith, length-append, append_assoc}
use Rattle.std.proofs.Common.{append-nil}
use Rattle.std.specs.Prelude.{slice_get}
use Rattle.std.proofs.lemmas.List.{length-replicate, map-append}
use Rattle.s7_item.specs.declared.item.Item.{Item}
use Rattle.s7_dialogue.specs.declared.grant.Grant.{Grant}
use Rattle.s7_dialogue.specs.declared.job.Job.TheVariants as job
use Rattle.s7_dialogue.specs.declared.questions.subject.Subject.TheVariants.{DataHead}
use Rattle.s7_dialogue.specs.Question.{Question, asks, asks_further}
use Rattle.s7_dialogue.specs.Answer.{Answer, tells, brings}
use Rattle.s7_dialogue.specs.DataBlocks.{data_length, data_parts}
use Rattle.s7_dialogue.specs.Refusals.{part_refusal}
use Rattle.s7_dialogue.specs.Flight.{Row, answers_of}
use Rattle.s7_dialogue.specs.Dialogue.{End, Conduct, read_questions, alone, block_octets, octets_in, octets_brought}
use Rattle.s7_dialogue.specs.Dialogue.{octets_told, last_answer, behind, or_later, is_of_data, count_of_data}
use Rattle.s7_dialogue.specs.Dialogue.{next_of_data, getting, first_or, refusal_in, first_refusal, connected_plan}
use Rattle.s7_dialogue.specs.Dialogue.{good_end, plan_of}
use Rattle.s7_dialogue.specs.Course.{Origin, conduct_of}
use Rattle.s7_dialogue.proofs.FlightLemmas.{same_some, nothing_left}
use Rattle.s7_dialogue.proofs.EndLemmas.{first_none}
use Rattle.s7_client.proofs.FitLemmas.{one_of_all}
use Rattle.s7_client.proofs.FormLemmas.{first_positive, part_positive}
use Rattle.s7_rig.specs.Dialogues.{AreReplies, ReadsParts, ReadsBlock}
use Rattle.s7_rig.specs.Exchanges.{HasTold}
use Rattle.s7_rig.proofs.Awaiting.{AreAsked, AreInTurn}
use Rattle.s7_rig.proofs.Conversing.{Exchange, entries_of, rows_of, AreTold, Converses}
use Rattle.s7_rig.proofs.HoldPieces.{brought_more, last_more}
use Rattle.s7_rig.proofs.ListFacts.{not_both}
use Rattle.s7_rig.proofs.TelegramLemmas.{open_none}
use Rattle.s7_rig.proofs.GroupLemmas.{finished_by}
use Rattle.s7_rig.proofs.PartLemmas.{reading, ReadsOne, each_one, part_tells, parts_read, replies_behind}
use Rattle.s7_rig.proofs.BlockHeadLemmas.{length_kept, piece_read, head_read}

-- ---- small lemmas

plus_none : (n : ℕ) → n + 0 ≡ n
plus_none n = omega arith

none_plus : (n : ℕ) → n + 0 ≡ 0 + n
none_plus n = omega arith

plus_more : (k n : ℕ) → k + suc n ≡ k + 1 + n
plus_more k n = omega arith

counted_on : (a b c n : ℕ) → n ≡ b + c → a + n ≡ a + b + c
counted_on a b c n is = omega (arith, is)

-- where no answer refuses, it doesn't matter from which place on they are counted
place_free : (refusal : Answer → Option ℕ) (p q : ℕ) (answers : List (Option Answer))
    → first_refusal refusal p answers ≡ None → first_refusal refusal q answers ≡ None
place_free refusal p q [] none = refl
place_free refusal p q (a ∷ answers) none =
    let both = first_none (refusal_in refusal a) p (first_refusal refusal (p + 1) answers) none in
    ap (λ r. first_or r q (first_refusal refusal (q + 1) answers)) both.0
    ∙ place_free refusal (p + 1) (q + 1) answers both.1

-- ---- where the job stands behind answers

-- The answers brought these octets, this is the last of them, and so many are none of user data.
record StandsBehind (first : Option Answer) (answers : List (Option Answer)) (so_far : List ℕ) (last : Option Answer)
    (count : ℕ) : Type 0 where
  brought : octets_brought (first ∷ answers) ≡ so_far
  last_is : last_answer first answers ≡ last
  count_is : count_of_data (first ∷ answers) ≡ count

-- one of them is counted, unless it is user data
abbrev counts : Answer → ℕ
counts a = cond (is_of_data (Some a)) 1 0

count_more : (answers : List (Option Answer)) (a : Answer)
    → count_of_data (answers ++ Some a ∷ []) ≡ count_of_data answers + counts a
count_more [] a = none_plus (counts a)
count_more (x ∷ answers) a =
    counted_on (cond (is_of_data x) 1 0) (count_of_data answers) (counts a) (count_of_data (answers ++ Some a ∷ []))
    (count_more answers a)

first_stands : (x a : Answer) → x ≡ a → StandsBehind (Some x) [] (octets_in a) (Some a) (counts a + 0)
first_stands x a same = record {
  brought = append-nil (octets_in x) ∙ ap octets_in same;
  last_is = ap (λ (y : Answer). Some y) same;
  count_is = ap (λ (y : Answer). counts y + 0) same;
}

stands_more : {first : Option Answer} {answers : List (Option Answer)} {so_far : List ℕ} {last : Option Answer}
    {count : ℕ} (x a : Answer) → x ≡ a → StandsBehind first answers so_far last count
    → StandsBehind first (answers ++ Some x ∷ []) (so_far ++ octets_in a) (Some a) (count + counts a)
stands_more {first} {answers} {so_far} {last} {count} x a same h = record {
  brought = brought_more (first ∷ answers) x ∙ ap₂ (λ (xs ys : List ℕ). xs ++ ys) h.brought (ap octets_in same);
  last_is = last_more first answers (Some x) ∙ ap (λ (y : Answer). Some y) same;
  count_is = count_more (first ∷ answers) x
      ∙ ap₂ (λ (m n : ℕ). m + n) h.count_is (ap (λ (y : Answer). counts y) same);
}

-- what is asked behind them
next_is : {first : Option Answer} {answers : List (Option Answer)} {so_far : List ℕ} {last : Option Answer} {count : ℕ}
    (octets : List ℕ) (questions : ℕ → List Question) → StandsBehind first answers so_far last count
    → next_of_data octets questions (first ∷ answers)
    ≡ or_later (behind DataHead so_far last) (slice_get (questions (data_length so_far)) count)
next_is {first} {answers} {so_far} {last} {count} octets questions h =
    ap₂
    (λ (o : List ℕ) (l : Option Answer). or_later (behind DataHead o l) (slice_get (questions (data_length o))
    (count_of_data (first ∷ answers)))) h.brought h.last_is
    ∙ ap (λ n. or_later (behind DataHead so_far last) (slice_get (questions (data_length so_far)) n)) h.count_is

-- ---- the exchanges from there on

-- the telegram of an exchange
abbrev row_of : Exchange → Row
row_of x = record { question = x.question; number = x.number; answer = Some x.answer }

-- Behind these telegrams the job goes by exchanges: none refuses, and then nothing is left to ask.
record GoesBy (pdu : ℕ) (c : Conduct) (place : ℕ) (first : Row) (rows : List Row) (xs : List Exchange)
    : Type 0 where
  turn : AreInTurn c (first ∷ rows) (rows_of xs)
  last : (all : List Row) → all ≡ rows ++ rows_of xs → c.question_at (answers_of (first ∷ all)) ≡ None
  unrefused : first_refusal part_refusal place (answers_of (rows_of xs)) ≡ None
  told : AreTold pdu xs
  replies : AreReplies (entries_of xs)

-- the first of them doesn't refuse
good_here : {pdu : ℕ} {c : Conduct} {place : ℕ} {first : Row} {rows : List Row} {x : Exchange}
    {xs : List Exchange} → GoesBy pdu c place first rows (x ∷ xs) → part_refusal x.answer ≡ None
good_here {pdu} {c} {place} {first} {rows} {x} {xs} g =
    (first_none (part_refusal x.answer) place (first_refusal part_refusal (place + 1) (answers_of (rows_of xs)))
    g.unrefused).0

-- and the job goes on by the others
goes_on : {pdu : ℕ} {c : Conduct} {place : ℕ} {first : Row} {rows : List Row} {x : Exchange}
    {xs : List Exchange} → GoesBy pdu c place first rows (x ∷ xs)
    → GoesBy pdu c (place + 1) first (rows ++ row_of x ∷ []) xs
goes_on {pdu} {c} {place} {first} {rows} {x} {xs} g = record {
  turn = g.turn.2;
  last = λ all is. g.last all (is ∙ append_assoc rows (row_of x ∷ []) (rows_of xs));
  unrefused =
      (first_none (part_refusal x.answer) place (first_refusal part_refusal (place + 1) (answers_of (rows_of xs)))
      g.unrefused).1;
  told = g.told.1;
  replies = replies_behind x.entries (entries_of xs) g.replies;
}

stands_on : {first : Option Answer} {so_far : List ℕ} {last : Option Answer} {count : ℕ} (rows : List Row)
    (x : Exchange) (a : Answer) → x.answer ≡ a → StandsBehind first (answers_of rows) so_far last count
    → StandsBehind first (answers_of (rows ++ row_of x ∷ [])) (so_far ++ octets_in a) (Some a) (count + counts a)
stands_on {first} {so_far} {last} {count} rows x a same h =
    subst (λ answers. StandsBehind first answers (so_far ++ octets_in a) (Some a) (count + counts a))
    (sym (map-append (λ (row : Row). row.answer) rows (row_of x ∷ []))) (stands_more x.answer a same h)

-- ---- the parts

-- The exchanges ask for the parts from a place on, and for all of them.
record AsksParts (grant : Grant) (parts : List Item) (place : ℕ) (xs : List Exchange) : Type 0 where
  asked_are : AreAsked (reading grant parts).conduct place (rows_of xs)
  last : slice_get (read_questions (alone parts)) (place + length xs) ≡ None

module _ (pdu : ℕ) (grant : Grant) (number : ℕ) where
  abbrev conduct : Conduct
  conduct = getting grant.pdu (block_octets 0x41 number) number

  abbrev parts : ℕ → List Item
  parts size = data_parts number size grant.pdu false

  abbrev questions : ℕ → List Question
  questions size = read_questions (alone (parts size))

  -- where no octets of the head are left to ask for, the next part is
  next_part : {first : Option Answer} {answers : List (Option Answer)} {so_far : List ℕ} {last : Option Answer}
      {count : ℕ} → behind DataHead so_far last ≡ None → StandsBehind first answers so_far last count
      → conduct.question_at (first ∷ answers) ≡ slice_get (questions (data_length so_far)) count
  next_part {first} {answers} {so_far} {last} {count} none h =
      next_is (block_octets 0x41 number) questions h
      ∙ ap (λ o. or_later o (slice_get (questions (data_length so_far)) count)) none

  parts_asked : (so_far : List ℕ) (last : Option Answer) (count place : ℕ) (first : Row) (rows : List Row)
      (xs : List Exchange) → behind DataHead so_far last ≡ None
      → StandsBehind first.answer (answers_of rows) so_far last count → GoesBy pdu conduct place first rows xs
      → AsksParts grant (parts (data_length so_far)) count xs
  parts_asked so_far last count place first rows [] none h g = record {
    asked_are = tt;
    last = ap (λ n. slice_get (questions (data_length so_far)) n) (plus_none count)
        ∙ (sym (next_part none h) ∙ g.last rows (sym (append-nil rows)));
  }
  parts_asked so_far last count place first rows (x ∷ xs) none h g =
      let size : ℕ = data_length so_far in
      let asks_it : slice_get (questions size) count ≡ Some x.question = sym (next_part none h) ∙ g.turn.0.is in
      let one = one_of_all ReadsOne (questions size) count x.question (each_one (parts size)) asks_it in
      let told = subst (λ q. HasTold pdu x.verdicts q x.answer x.entries) one.1 g.told.0 in
      let t = part_tells one.0 x.answer x.entries (entries_of xs) told (good_here g) g.replies in
      let a : Answer = tells (t.0 ∷ []) in
      let all : List Row = rows ++ row_of x ∷ [] in
      let stands : StandsBehind first.answer (answers_of all) so_far (Some a) (count + 1) =
      subst (λ octets. StandsBehind first.answer (answers_of all) octets (Some a) (count + 1)) (append-nil so_far)
      (stands_on rows x a t.1 h) in
      let others = parts_asked so_far (Some a) (count + 1) (place + 1) first all xs refl stands (goes_on g) in
      let long = length-replicate {A = Option Answer} count None in
      record {
        asked_are = (
          record {
            answers = replicate count None;
            long = long;
            asks = ap (λ n. slice_get (questions size) n) long ∙ asks_it;
          },
          others.asked_are,
        );
        last = ap (λ n. slice_get (questions size) n) (plus_more count (length xs)) ∙ others.last;
      }

  -- ---- the octets of the head

  -- behind octets of the head others of it are asked for, while more follow, and then its parts
  pieces_read : (so_far : List ℕ) (octet : ℕ) (more : Bool) (piece : List ℕ) (place : ℕ) (first : Row)
      (rows : List Row) (xs : List Exchange) → 16 ≤ length so_far
      → StandsBehind first.answer (answers_of rows) so_far (Some (brings octet more piece)) 0
      → GoesBy pdu conduct place first rows xs
      → ReadsParts (parts (data_length so_far)) (entries_of xs) (octets_told (answers_of (rows_of xs)))
  pieces_read so_far octet false piece place first rows xs long h g =
      let all : List Item = parts (data_length so_far) in
      let a = parts_asked so_far (Some (brings octet false piece)) 0 place first rows xs refl h g in
      parts_read pdu grant all xs a.asked_are a.last
      (place_free part_refusal place 0 (answers_of (rows_of xs)) g.unrefused) g.told g.replies
  pieces_read so_far octet true piece place first rows [] long h g =
      absurd
      (not_both (conduct.question_at (answers_of (first ∷ rows))) (asks_further DataHead octet so_far)
      (g.last rows (sym (append-nil rows))) (next_is (block_octets 0x41 number) questions h))
  pieces_read so_far octet true piece place first rows (x ∷ xs) long h g =
      let q : Question = asks_further DataHead octet so_far in
      let size : ℕ = data_length so_far in
      let answers : List (Option Answer) = answers_of (rows_of xs) in
      let is : q ≡ x.question =
      same_some q x.question (sym (next_is (block_octets 0x41 number) questions h) ∙ g.turn.0.is) in
      let told = subst (λ q. HasTold pdu x.verdicts q x.answer x.entries) (sym is) g.told.0 in
      let p = piece_read octet so_far x.answer x.entries told (good_here g) in
      let others = pieces_read (so_far ++ p.piece) p.octet p.more p.piece (place + 1) first (rows ++ row_of x ∷ []) xs
      (omega (arith, length-append so_far p.piece, long))
      (stands_on rows x (brings p.octet p.more p.piece) p.is h) (goes_on g) in
      let same : ReadsParts (parts size) (entries_of xs) (octets_told answers) =
      subst (λ n. ReadsParts (parts n) (entries_of xs) (octets_told answers)) (length_kept so_far p.piece long)
      others in
      subst (λ (a : Answer). ReadsParts (parts size) (x.entries ++ entries_of xs) (octets_told (Some a ∷ answers)))
      (sym p.is)
      (subst (λ es. ReadsParts (parts size) (es ++ entries_of xs) (octets_told answers)) (sym p.none_new) same)

  -- ---- all exchanges

  exchanges_read : (xs : List Exchange) → 64 ≤ pdu → number < 65536
      → conduct.question_at (answers_of (rows_of xs)) ≡ None
      → first_refusal part_refusal 0 (answers_of (rows_of xs)) ≡ None → AreInTurn conduct [] (rows_of xs)
      → AreTold pdu xs → AreReplies (entries_of xs)
      → ReadsBlock number grant.pdu (entries_of xs) (octets_told (answers_of (rows_of xs)))
  exchanges_read [] least low last none turn told replies = absurd (cc)
  exchanges_read (x ∷ xs) least low last none turn told replies =
      let q : Question = asks DataHead (block_octets 0x41 number) in
      let answers : List (Option Answer) = answers_of (rows_of xs) in
      let is : q ≡ x.question = same_some q x.question turn.0.is in
      let both = first_none (part_refusal x.answer) 0 (first_refusal part_refusal 1 answers) none in
      let heard = subst (λ q. HasTold pdu x.verdicts q x.answer x.entries) (sym is) told.0 in
      let head = head_read number x.answer x.entries (entries_of xs) least low heard both.0 replies in
      let goes : GoesBy pdu conduct 1 (row_of x) [] xs =
      record {
        turn = turn.2;
        last = λ all e. ap (λ rows. conduct.question_at (answers_of (row_of x ∷ rows))) e ∙ last;
        unrefused = both.1;
        told = told.1;
        replies = replies_behind x.entries (entries_of xs) replies;
      } in
      let size : ℕ = data_length head.piece in
      let others = pieces_read head.piece head.octet head.more head.piece 1 (row_of x) [] xs head.long
      (first_stands x.answer (brings head.octet head.more head.piece) head.is) goes in
      let read : ReadsParts (parts size) (entries_of xs) (octets_told (Some x.answer ∷ answers)) =
      subst (λ (a : Answer). ReadsParts (parts size) (entries_of xs) (octets_told (Some a ∷ answers))) (sym head.is)
      others in
      subst (λ es. ReadsBlock number grant.pdu (es ++ entries_of xs) (octets_told (Some x.answer ∷ answers)))
      (sym head.new_is) (head.right, size, refl, head.stood, read)

  conversed_read : (end : End) (xs : List Exchange) → 64 ≤ pdu → number < 65536 → end.code ≡ 0
      → Converses pdu conduct end xs → AreReplies (entries_of xs)
      → ReadsBlock number grant.pdu (entries_of xs) end.octets
  conversed_read end xs least low good c replies =
      let rows = rows_of xs in
      let answers = answers_of rows in
      let both =
      finished_by (first_refusal part_refusal 0 answers) (good_end (octets_told answers) []) end
      (λ r e. first_positive part_refusal 0 answers r part_positive e) c.is good in
      let last = nothing_left conduct rows (omega (arith, open_none xs)) both.0 c.none_more in
      subst (λ (e : End). ReadsBlock number grant.pdu (entries_of xs) e.octets) (sym both.1)
      (exchanges_read xs least low last both.0 (c.in_turn (omega arith)) c.told replies)

-- A read of a whole data block that came off has read its head and then its parts, whatever memories replied.
pub block_read : {pdu : ℕ} (origin : Origin) (grant : Grant) (number : ℕ) (end : End) (xs : List Exchange)
    → 64 ≤ pdu → origin.granted ≡ Some grant → number < 65536 → origin.job ≡ job.DbGet number → end.code ≡ 0
    → Converses pdu (conduct_of origin) end xs → AreReplies (entries_of xs)
    → ReadsBlock number grant.pdu (entries_of xs) end.octets
block_read {pdu} origin grant number end xs least granted low job_is good c replies =
    let same : conduct_of origin ≡ getting grant.pdu (block_octets 0x41 number) number =
    ap (λ g. (plan_of origin.job origin.config g).conduct) granted
    ∙ ap (λ j. (connected_plan j grant).conduct) job_is in
    conversed_read pdu grant number end xs least low good (subst (λ k. Converses pdu k end xs) same c) replies
