-- Lemmas on answers that are noted: which refusal comes first, and what was found.
use Rattle.std.proofs.Common.{◌≡◌, ℕ, ◌+◌, ◌-◌, Bool, true, false, cond, eqb, Option, Some, None, List, [], ◌∷◌, ◌++◌, length, map, drop, refl, sym, ap, ◌∙◌, subst, arith}
use Rattle.std.specs.Prelude.{◌&&◌, replicate, IfSome, IfNone}
use Rattle.std.proofs.Math.Path.{ap₂}
use Rattle.std.specs.Bool.{MatchBool}
use Rattle.std.specs.List.{flat_map, list_all}
use Rattle.std.proofs.lemmas.List.{length-map, map-append}
use Rattle.s7_item.specs.declared.item.Item.{Item}
use Rattle.s7_item.specs.Item.{octet_count}
use Rattle.s7_wire.specs.Sent.{sent_messages}
use Rattle.s7_dialogue.specs.declared.config.Config.{Config}
use Rattle.s7_dialogue.specs.declared.grant.Grant.{Grant}
use Rattle.s7_dialogue.specs.declared.job.Job.{Job}
use Rattle.s7_dialogue.specs.declared.job.Job.TheVariants as job
use Rattle.s7_dialogue.specs.declared.answers.answer.Answer as kept
use Rattle.s7_dialogue.specs.declared.answers.answer.Answer.TheVariants as told
use Rattle.s7_dialogue.specs.declared.stages.flight.Flight.{Flight}
use Rattle.s7_dialogue.specs.declared.questions.left.Left.{Left}
use Rattle.s7_dialogue.specs.declared.stages.asking.Asking.{Asking}
use Rattle.s7_dialogue.specs.declared.stages.running.Running.{Running}
use Rattle.s7_dialogue.specs.declared.stages.running.Stage.TheVariants as stage
use Rattle.s7_dialogue.specs.Question.{Question, reads, writes}
use Rattle.s7_dialogue.specs.Answer.{Answer, ItemAnswer, tells, notes, refuses}
use Rattle.s7_dialogue.specs.Refusals.{number_of_error, number_of_code, code_refusal, telegram_refusal, part_refusal}
use Rattle.s7_dialogue.specs.DataItems.{answers_in}
use Rattle.s7_dialogue.specs.Told.{Tells}
use Rattle.s7_dialogue.specs.Flight.{Row, answers_of}
use Rattle.s7_dialogue.specs.Left.{octets_left, items_left}
use Rattle.s7_dialogue.specs.Dialogue.{first_refusal, items_told, codes_in, of_answer}
use Rattle.s7_dialogue.specs.Stages.{is_alone, message_of, unput_by, can_fly, can_ask_all, has_places, is_ready}
use Rattle.s7_dialogue.specs.Asks.{items_of, Spot, first_spot, spot_behind, questions_behind, earlier, IsSameToAsk, Refuses}
use Rattle.s7_dialogue.specs.GoesOn.{refusal_by, refusal_of, conducted, filled_up, octets_at_places, told_of_items, octets_of_row, codes_of_row, octets_so_far, codes_so_far, brings_octets, brings_codes, TellAll, FitsQuestion, Conducts}
use Rattle.s7_dialogue.specs.Taking.{question_for, TellsFor, Taken, rows_with, with_codes, with_octets, Keeps}
use Rattle.s7_dialogue.specs.Running.{Follows, unput_of}
use Rattle.s7_dialogue.proofs.FollowLemmas.{follows_at}
use Rattle.s7_dialogue.proofs.EndLemmas.{AsksItems, length-filled, filled_whole, length-told}
use Rattle.s7_dialogue.proofs.KeepLemmas.{asked_by}
use Rattle.s7_dialogue.proofs.RefusalLemmas.{refusal_by_job, refusal_more, refusal_same}
use Rattle.s7_dialogue.proofs.PlaceLemmas.{codes_pasted, from_behind, group_pasted, item_behind, no_codes, parted, place_behind}
use Rattle.s7_dialogue.proofs.KindLemmas.{MayAsk, asks_items, items_for, noted_of}

-- ---- what an answer that refuses leaves

code_bad : (code n : ℕ) (good : Bool) → cond good None (Some (number_of_code code)) ≡ Some n → good ≡ false
code_bad code n true is = absurd (cc)
code_bad code n false is = refl

one_refused : (items : List Item) (a : ItemAnswer) (number : ℕ) → code_refusal a.code ≡ Some number
    → TellAll items (a ∷ [])
    → octets_at_places items (a ∷ []) ≡ octets_at_places items []
one_refused [] a number refusing all = absurd all
one_refused (item ∷ next ∷ items) a number refusing all = absurd all.1
one_refused (item ∷ []) a number refusing all =
    let bad : eqb a.code 0xFF ≡ false = code_bad a.code number (eqb a.code 0xFF) refusing in
    let none : a.octets ≡ [] =
    subst (λ (b : Bool). MatchBool b (length a.octets ≡ octet_count item) (a.octets ≡ [])) bad all.0 in
    ap (λ xs. filled_up (octet_count item) xs ++ []) none

no_codes_in : (x : Answer) (number : ℕ) → telegram_refusal x ≡ Some number → codes_in x ≡ []
no_codes_in (refuses error) number refusing = refl
no_codes_in _ number refusing = absurd (cc)

-- no octets
refused_octets : (alone : Bool) (items : List Item) (question : Question) (x : Answer) (number : ℕ)
    → items_of question ≡ items
    → refusal_by alone x ≡ Some number → FitsQuestion question x → AsksItems question
    → octets_at_places items (items_told x) ≡ octets_at_places items []
refused_octets false items question (tells answers) number is refusing fits asks = absurd (cc)
refused_octets true items question (tells []) number is refusing fits asks = refl
refused_octets true items question (tells (a ∷ b ∷ answers)) number is refusing fits asks = absurd (cc)
refused_octets true items (writes others octets) (tells (a ∷ [])) number is refusing fits asks = absurd fits
refused_octets true items (reads others) (tells (a ∷ [])) number is refusing fits asks =
    one_refused items a number refusing (subst (λ xs. TellAll xs (a ∷ [])) is fits)
refused_octets true items _ (tells (a ∷ [])) number is refusing fits asks = absurd asks
refused_octets alone items question _ number is refusing fits asks = refl

-- and no codes, where these are kept
refused_codes : (done : Job) (x : Answer) (number : ℕ) → brings_codes done ≡ true
    → refusal_by (is_alone done) x ≡ Some number → codes_in x ≡ []
refused_codes (job.ReadMany items) x number brings refusing = no_codes_in x number refusing
refused_codes (job.WriteMany items octets) x number brings refusing = no_codes_in x number refusing
refused_codes _ x number brings refusing = absurd (cc)

same_if : (b : Bool) (xs ys : List ℕ) → (b ≡ true → xs ≡ ys) → cond b xs [] ≡ cond b ys []
same_if true xs ys same = same refl
same_if false xs ys same = refl

-- what is made of the rows stays, where it stays of the one
same_found : (f : Row → List ℕ) (front back : List Row) (row row' : Row) (rest : List ℕ) → f row ≡ f row'
    → flat_map f (front ++ row ∷ back) ++ rest ≡ flat_map f (front ++ row' ∷ back) ++ rest
same_found f front back row row' rest same =
    parted f front back row rest
    ∙ (ap (λ xs. flat_map f front ++ (xs ++ (flat_map f back ++ rest))) same ∙ sym (parted f front back row' rest))

answers_with : (front back : List Row) (row : Row) (x : Answer)
    → answers_of (rows_with front row back x) ≡ answers_of front ++ Some x ∷ answers_of back
answers_with front back row x = map-append (λ (r : Row). r.answer) front (record row { answer = Some x } ∷ back)

answers_without : (rows front back : List Row) (row : Row) → rows ≡ front ++ row ∷ back → row.answer ≡ None
    → answers_of rows ≡ answers_of front ++ None ∷ answers_of back
answers_without rows front back row is unanswered =
    ap answers_of is
    ∙ (map-append (λ (r : Row). r.answer) front (row ∷ back)
    ∙ ap (λ o. answers_of front ++ o ∷ answers_of back) unanswered)

-- what was found stays
octets_stay : (alone : Bool) (write : Bool) (items : List Item) (octets : List ℕ) (row : Row) (x : Answer)
    (number : ℕ)
    → row.question ≡ question_for write items octets → row.answer ≡ None → refusal_by alone x ≡ Some number
    → FitsQuestion (question_for write items octets) x
    → octets_of_row row ≡ octets_of_row (record row { answer = Some x })
octets_stay alone write items octets row x number is unanswered refusing fits =
    let q = question_for write items octets in
    ap (λ o. octets_of_row (record row { answer = o })) unanswered
    ∙ (ap (λ p. octets_at_places (items_of p) []) is
    ∙ (ap (λ xs. octets_at_places xs []) (items_for write items octets)
    ∙ (sym (refused_octets alone items q x number (items_for write items octets) refusing fits
    (asks_items write items octets))
    ∙ (ap (λ xs. octets_at_places xs (items_told x)) (sym (items_for write items octets))
    ∙ ap (λ p. octets_at_places (items_of p) (items_told x)) (sym is)))))

codes_stay : (done : Job) (row : Row) (x : Answer) (number : ℕ) → brings_codes done ≡ true → row.answer ≡ None
    → refusal_by (is_alone done) x ≡ Some number → codes_of_row row ≡ codes_of_row (record row { answer = Some x })
codes_stay done row x number brings unanswered refusing =
    ap (λ o. codes_of_row (record row { answer = o })) unanswered
    ∙ ap (filled_up (length (items_of row.question))) (sym (refused_codes done x number brings refusing))

place_kept : (rows : List Row) (flight : Flight) (t : kept.Answer) → (taken : Taken rows flight t)
    → flight.place ≡ 0 + length (answers_of taken.front)
place_kept rows flight t taken =
    ap (λ (f : Flight). f.place) taken.kept
    ∙ (place_behind first_spot taken.front ∙ ap (λ n. 0 + n) (sym (length-map taken.front (λ (r : Row). r.answer))))

pub notes_refusal : (config : Config) (granted : Option Grant) (rows : List Row) (done : Job) (found codes : List ℕ)
    (a b : Asking) (flight : Flight) (t : kept.Answer) (write : Bool) (items : List Item) (number : ℕ)
    → (taken : Taken rows flight t) → flight.asked ≡ asked_by write items
    → ((w : Bool) (x : Answer) → TellsFor w items t x → Some number ≡ refusal_by (is_alone done) x)
    → Refuses a flight.place number b
    → Conducts config granted (rows_with taken.front taken.row taken.back taken.answer) rows done found codes a
    → Conducts config granted (rows_with taken.front taken.row taken.back taken.answer)
    (rows_with taken.front taken.row taken.back taken.answer) done found codes b
notes_refusal config granted rows done found codes a b flight t write items number taken is refusal r h =
    let front = taken.front in
    let back = taken.back in
    let row = taken.row in
    let x = taken.answer in
    let rows' = rows_with front row back x in
    let noted = noted_of config done h.groups rows flight t a write items taken is h.asks in
    let refusing : refusal_by (is_alone done) x ≡ Some number = sym (refusal write x (noted.octets, noted.tells)) in
    let by_job : refusal_of done x ≡ Some number = sym (refusal_by_job done x noted.groups) ∙ refusing in
    record {
      groups = h.groups;
      conduct = h.conduct ∙ ap (λ w. conducted config done w h.groups) (sym r.same.width);
      whole = h.whole;
      asks = record {
        whole =
            h.asks.whole
            ∙ (ap (λ l. map (λ (r : Row). r.question) rows' ++ questions_behind config done a.from l)
            (sym r.same.left)
            ∙ ap (λ (s : Spot). map (λ (r : Row). r.question) rows' ++ questions_behind config done s.from b.left)
            (sym r.same.spot));
        again = h.asks.again;
        flights = r.flights ∙ h.asks.flights;
        spot = r.same.spot ∙ h.asks.spot;
      };
      fit = h.fit;
      unanswered = h.unanswered;
      refused =
          r.refused
          ∙ (ap (λ o. earlier o flight.place number) h.refused
          ∙ (ap (λ os. earlier (first_refusal (refusal_of done) 0 os) flight.place number)
          (answers_without rows front back row taken.before taken.unanswered)
          ∙ (ap (λ p. earlier (first_refusal (refusal_of done) 0 (answers_of front ++ None ∷ answers_of back)) p
          number) (place_kept rows flight t taken)
          ∙ (sym (refusal_more (refusal_of done) 0 number (answers_of front) (answers_of back) x by_job)
          ∙ ap (first_refusal (refusal_of done) 0) (sym (answers_with front back row x))))));
      octets = λ asks.
          h.octets asks
          ∙ (ap (λ xs. cond (brings_octets done) xs [])
          (ap (λ rs. octets_so_far rs a.left) taken.before
          ∙ (same_found octets_of_row front back row (record row { answer = Some x })
          (replicate (octets_left a.left) 0)
          (octets_stay (is_alone done) write items noted.octets row x number noted.question taken.unanswered refusing
          noted.fits)
          ∙ ap (octets_so_far rows') (sym r.same.left))));
      noted = λ asks.
          h.noted asks
          ∙ same_if (brings_codes done) (codes_so_far rows a.left) (codes_so_far rows' b.left)
          (λ brings.
          ap (λ rs. codes_so_far rs a.left) taken.before
          ∙ (same_found codes_of_row front back row (record row { answer = Some x }) (replicate (items_left a.left) 0)
          (codes_stay done row x number brings taken.unanswered refusing)
          ∙ ap (codes_so_far rows') (sym r.same.left)));
    }

-- ---- what an answer that doesn't refuse leaves

-- the octets of a telegram, and what is found behind it
octets_kept : (items : List Item) (answers : List ItemAnswer) (front back : List Row) (row row' : Row) (at : ℕ)
    (left : Left)
    → TellAll items answers → length (flat_map octets_of_row front) ≡ at
    → octets_of_row row ≡ octets_at_places items [] → octets_of_row row' ≡ octets_at_places items answers
    → with_octets at items answers (octets_so_far (front ++ row ∷ back) left) ≡ octets_so_far (front ++ row' ∷ back)
    left
octets_kept items answers front back row row' at left all long blank filled =
    let f = octets_of_row in
    let rest = flat_map f back ++ replicate (octets_left left) 0 in
    ap (with_octets at items answers) (parted f front back row (replicate (octets_left left) 0))
    ∙ (ap (λ xs. with_octets at items answers (flat_map f front ++ (xs ++ rest))) blank
    ∙ (group_pasted items answers at (flat_map f front) rest all long
    ∙ (ap (λ xs. flat_map f front ++ (xs ++ rest)) (sym filled)
    ∙ sym (parted f front back row' (replicate (octets_left left) 0)))))

codes_kept : (told_codes : List ℕ) (front back : List Row) (row row' : Row) (at : ℕ) (left : Left)
    → length (codes_of_row row) ≡ length told_codes → length (flat_map codes_of_row front) ≡ at
    → codes_of_row row' ≡ told_codes
    → with_codes at told_codes (codes_so_far (front ++ row ∷ back) left) ≡ codes_so_far (front ++ row' ∷ back) left
codes_kept told_codes front back row row' at left many long filled =
    let f = codes_of_row in
    let rest = flat_map f back ++ replicate (items_left left) 0 in
    ap (with_codes at told_codes) (parted f front back row (replicate (items_left left) 0))
    ∙ (codes_pasted told_codes (f row) (flat_map f front) rest at many long
    ∙ (ap (λ xs. flat_map f front ++ (xs ++ rest)) (sym filled)
    ∙ sym (parted f front back row' (replicate (items_left left) 0))))

-- where codes are kept
codes_kept_if : (b : Bool) (told_codes old new codes codes' : List ℕ) (at : ℕ) → codes ≡ cond b old []
    → codes' ≡ with_codes at told_codes codes
    → with_codes at told_codes old ≡ new → codes' ≡ cond b new []
codes_kept_if true told_codes old new codes codes' at was is filling =
    is ∙ (ap (with_codes at told_codes) was ∙ filling)
codes_kept_if false told_codes old new codes codes' at was is filling =
    is ∙ (ap (with_codes at told_codes) was ∙ no_codes told_codes at)

octets_kept_if : (b : Bool) (items : List Item) (answers : List ItemAnswer) (old new found found' : List ℕ) (at : ℕ)
    → b ≡ true
    → found ≡ cond b old [] → found' ≡ with_octets at items answers found → with_octets at items answers old ≡ new
    → found' ≡ cond b new []
octets_kept_if true items answers old new found found' at brings was is filling =
    is ∙ (ap (with_octets at items answers) was ∙ filling)
octets_kept_if false items answers old new found found' at brings was is filling = absurd (cc)

-- What is found then, and which codes.
record IsKept (done : Job) (front back : List Row) (row : Row) (x : Answer) (left : Left)
    (found' codes' : List ℕ) : Type 0 where
  octets : found' ≡ cond (brings_octets done) (octets_so_far (rows_with front row back x) left) []
  noted : codes' ≡ cond (brings_codes done) (codes_so_far (rows_with front row back x) left) []

-- What is known before.
record WasKept (done : Job) (front back : List Row) (row : Row) (items : List Item) (flight : Flight) (left : Left)
    (found codes : List ℕ) : Type 0 where
  octets : found ≡ cond (brings_octets done) (octets_so_far (front ++ row ∷ back) left) []
  noted : codes ≡ cond (brings_codes done) (codes_so_far (front ++ row ∷ back) left) []
  unanswered : row.answer ≡ None
  items_are : items_of row.question ≡ items
  from : length (flat_map octets_of_row front) ≡ flight.from
  item : length (flat_map codes_of_row front) ≡ flight.item

unfilled : (row : Row) (items : List Item) → row.answer ≡ None → items_of row.question ≡ items
    → octets_of_row row ≡ octets_at_places items []
unfilled row items unanswered are =
    ap (λ o. octets_at_places (items_of row.question) (told_of_items o)) unanswered
    ∙ ap (λ xs. octets_at_places xs []) are

-- codes of a write
kept_codes : (done : Job) (front back : List Row) (row : Row) (items : List Item) (flight : Flight) (left : Left)
    (found codes found' codes' told_codes : List ℕ) (x : Answer)
    → WasKept done front back row items flight left found codes → x ≡ notes told_codes
    → length told_codes ≡ length items
    → found' ≡ found → codes' ≡ with_codes flight.item told_codes codes
    → IsKept done front back row x left found' codes'
kept_codes done front back row items flight left found codes found' codes' told_codes x was is long octets coding =
    let row' = record row { answer = Some x } in
    let many : length items ≡ length (items_of row.question) = ap length (sym was.items_are) in
    record {
      octets =
          octets
          ∙ (was.octets
          ∙ ap (λ xs. cond (brings_octets done) xs [])
          (same_found octets_of_row front back row row' (replicate (octets_left left) 0)
          (unfilled row items was.unanswered was.items_are
          ∙ sym (ap (λ y. octets_at_places (items_of row.question) (items_told y)) is
          ∙ ap (λ xs. octets_at_places xs []) was.items_are))));
      noted =
          codes_kept_if (brings_codes done) told_codes (codes_so_far (front ++ row ∷ back) left)
          (codes_so_far (rows_with front row back x) left) codes codes'
          flight.item was.noted coding
          (codes_kept told_codes front back row row' flight.item left
          (length-filled (length (items_of row.question)) (of_answer codes_in row.answer) ∙ (sym many ∙ sym long))
          was.item
          (ap (λ y. filled_up (length (items_of row.question)) (codes_in y)) is
          ∙ filled_whole (length (items_of row.question)) told_codes (long ∙ many)));
    }

-- octets and codes of a read
kept_items : (done : Job) (front back : List Row) (row : Row) (items : List Item) (flight : Flight) (left : Left)
    (found codes found' codes' : List ℕ) (answers : List ItemAnswer) (x : Answer)
    → WasKept done front back row items flight left found codes → brings_octets done ≡ true → x ≡ tells answers
    → TellAll items answers
    → found' ≡ with_octets flight.from items answers found
    → codes' ≡ with_codes flight.item (map (λ (item : ItemAnswer). item.code) answers) codes
    → IsKept done front back row x left found' codes'
kept_items done front back row items flight left found codes found' codes' answers x was brings is all octets coding =
    let row' = record row { answer = Some x } in
    let told_codes = map (λ (item : ItemAnswer). item.code) answers in
    let many : length items ≡ length (items_of row.question) = ap length (sym was.items_are) in
    let long : length told_codes ≡ length items =
    length-map answers (λ (item : ItemAnswer). item.code) ∙ length-told items answers all in
    record {
      octets =
          octets_kept_if (brings_octets done) items answers (octets_so_far (front ++ row ∷ back) left)
          (octets_so_far (rows_with front row back x) left) found found'
          flight.from brings was.octets octets
          (octets_kept items answers front back row row' flight.from left all was.from
          (unfilled row items was.unanswered was.items_are)
          (ap (λ y. octets_at_places (items_of row.question) (items_told y)) is
          ∙ ap (λ xs. octets_at_places xs answers) was.items_are));
      noted =
          codes_kept_if (brings_codes done) told_codes (codes_so_far (front ++ row ∷ back) left)
          (codes_so_far (rows_with front row back x) left) codes codes'
          flight.item was.noted coding
          (codes_kept told_codes front back row row' flight.item left
          (length-filled (length (items_of row.question)) (of_answer codes_in row.answer) ∙ (sym many ∙ sym long))
          was.item
          (ap (λ y. filled_up (length (items_of row.question)) (codes_in y)) is
          ∙ filled_whole (length (items_of row.question)) told_codes (long ∙ many)));
    }

-- a refusal refuses
refusal_told : (alone : Bool) (x : Answer) (error : ℕ) → x ≡ refuses error → refusal_by alone x ≡ None → ⊥
refusal_told true x error is good =
    let e : Some (number_of_error error) ≡ None = sym (ap part_refusal is) ∙ good in cc
refusal_told false x error is good =
    let e : Some (number_of_error error) ≡ None = sym (ap telegram_refusal is) ∙ good in cc

-- by what the answer is
kept_by : (done : Job) (front back : List Row) (row : Row) (write : Bool) (items : List Item) (octets : List ℕ)
    (flight : Flight) (left : Left) (found codes found' codes' : List ℕ) (t : kept.Answer) (x : Answer)
    → WasKept done front back row items flight left found codes → MayAsk done (question_for write items octets)
    → Tells (question_for write items octets) t x → FitsQuestion (question_for write items octets) x
    → refusal_by (is_alone done) x ≡ None → Keeps items flight t found codes found' codes'
    → IsKept done front back row x left found' codes'
kept_by done front back row write items octets flight left found codes found' codes' (told.Refused error) x was may
    telling fits good keeps =
    absurd (refusal_told (is_alone done) x error telling good)
kept_by done front back row true items octets flight left found codes found' codes' (told.Granted n) x was may telling
    fits good keeps = absurd telling
kept_by done front back row false items octets flight left found codes found' codes' (told.Granted n) x was may
    telling fits good keeps = absurd telling
kept_by done front back row true items octets flight left found codes found' codes' (told.Items answers) x was may
    telling fits good keeps = absurd telling
kept_by done front back row false items octets flight left found codes found' codes' (told.Items answers) x was may
    telling fits good keeps =
    kept_items done front back row items flight left found codes found' codes' (answers_in answers.items) x was may.0
    telling.2 (subst (FitsQuestion (reads items)) telling.2 fits) keeps.0 keeps.1
kept_by done front back row false items octets flight left found codes found' codes' (told.Codes told_codes) x was may
    telling fits good keeps = absurd telling
kept_by done front back row true items octets flight left found codes found' codes' (told.Codes told_codes) x was may
    telling fits good keeps =
    kept_codes done front back row items flight left found codes found' codes' told_codes.now x was telling.0
    telling.1 keeps.0 keeps.1

pub notes_kept : (config : Config) (granted : Option Grant) (rows : List Row) (done : Job)
    (found codes found' codes' : List ℕ) (a : Asking) (flight : Flight) (t : kept.Answer) (write : Bool)
    (items : List Item)
    → (taken : Taken rows flight t) → flight.asked ≡ asked_by write items
    → ((w : Bool) (x : Answer) → TellsFor w items t x → None ≡ refusal_by (is_alone done) x)
    → Keeps items flight t found codes found' codes'
    → Conducts config granted (rows_with taken.front taken.row taken.back taken.answer) rows done found codes a
    → Conducts config granted (rows_with taken.front taken.row taken.back taken.answer)
    (rows_with taken.front taken.row taken.back taken.answer) done found' codes' a
notes_kept config granted rows done found codes found' codes' a flight t write items taken is refusal keeps h =
    let front = taken.front in
    let back = taken.back in
    let row = taken.row in
    let x = taken.answer in
    let noted = noted_of config done h.groups rows flight t a write items taken is h.asks in
    let good : refusal_by (is_alone done) x ≡ None = sym (refusal write x (noted.octets, noted.tells)) in
    let by_job : refusal_of done x ≡ None = sym (refusal_by_job done x noted.groups) ∙ good in
    let was : WasKept done front back row items flight a.left found codes = record {
      octets = h.octets noted.groups ∙ ap (λ rs. cond (brings_octets done) (octets_so_far rs a.left) []) taken.before;
      noted = h.noted noted.groups ∙ ap (λ rs. cond (brings_codes done) (codes_so_far rs a.left) []) taken.before;
      unanswered = taken.unanswered;
      items_are = ap items_of noted.question ∙ items_for write items noted.octets;
      from =
          let e : length (flat_map octets_of_row front) ≡ (spot_behind first_spot front).from =
          omega (arith, from_behind first_spot front) in
          e ∙ ap (λ (f : Flight). f.from) (sym taken.kept);
      item =
          let e : length (flat_map codes_of_row front) ≡ (spot_behind first_spot front).item =
          omega (arith, item_behind first_spot front) in
          e ∙ ap (λ (f : Flight). f.item) (sym taken.kept);
    } in
    let now =
    kept_by done front back row write items noted.octets flight a.left found codes found' codes' t x was noted.may
    noted.tells noted.fits good keeps in
    record {
      groups = h.groups;
      conduct = h.conduct;
      whole = h.whole;
      asks = h.asks;
      fit = h.fit;
      unanswered = h.unanswered;
      refused =
          h.refused
          ∙ (ap (first_refusal (refusal_of done) 0)
          (answers_without rows front back row taken.before taken.unanswered)
          ∙ (sym (refusal_same (refusal_of done) 0 (answers_of front) (answers_of back) x by_job)
          ∙ ap (first_refusal (refusal_of done) 0) (sym (answers_with front back row x))));
      octets = λ asks. now.octets;
      noted = λ asks. now.noted;
    }

-- ---- whether it refuses or not

-- What becomes of what a job keeps, by the refusal that an answer is: it is noted, or what the answer tells is kept.
pub record IsNotedBy (refusal : Option ℕ) (items : List Item) (flight : Flight) (t : kept.Answer) (a b : Asking)
    (found codes found' codes' : List ℕ) : Type 0 where
  pub refuses : IfSome refusal (λ number. Refuses a flight.place number b × (found' ≡ found) × (codes' ≡ codes))
  pub keeps : IfNone refusal ((b ≡ a) × Keeps items flight t found codes found' codes')

pub notes_by : (refusal : Option ℕ) (config : Config) (granted : Option Grant) (rows : List Row) (done : Job)
    (found codes found' codes' : List ℕ) (a b : Asking) (flight : Flight) (t : kept.Answer) (write : Bool)
    (items : List Item)
    → (taken : Taken rows flight t) → flight.asked ≡ asked_by write items
    → ((w : Bool) (is : List Item) (x : Answer) → TellsFor w is t x → refusal ≡ refusal_by (is_alone done) x)
    → IsNotedBy refusal items flight t a b found codes found' codes'
    → Conducts config granted (rows_with taken.front taken.row taken.back taken.answer) rows done found codes a
    → Conducts config granted (rows_with taken.front taken.row taken.back taken.answer)
    (rows_with taken.front taken.row taken.back taken.answer) done found' codes' b
notes_by (Some number) config granted rows done found codes found' codes' a b flight t write items taken is refusal
    noted h =
    let rows' = rows_with taken.front taken.row taken.back taken.answer in
    subst (λ (xs : List ℕ). Conducts config granted rows' rows' done xs codes' b) (sym noted.refuses.1)
    (subst (λ (xs : List ℕ). Conducts config granted rows' rows' done found xs b) (sym noted.refuses.2)
    (notes_refusal config granted rows done found codes a b flight t write items number taken is
    (λ w x telling. refusal w items x telling) noted.refuses.0 h))
notes_by None config granted rows done found codes found' codes' a b flight t write items taken is refusal noted h =
    let rows' = rows_with taken.front taken.row taken.back taken.answer in
    subst (λ (c : Asking). Conducts config granted rows' rows' done found' codes' c) (sym noted.keeps.0)
    (notes_kept config granted rows done found codes found' codes' a flight t write items taken is
    (λ w x telling. refusal w items x telling) noted.keeps.1 h)

-- what was to be asked and to be put stays
pub noted_same : (refusal : Option ℕ) (items : List Item) (flight : Flight) (t : kept.Answer) (a b : Asking)
    (found codes found' codes' : List ℕ) → IsNotedBy refusal items flight t a b found codes found' codes'
    → (b.flights.items ≡ a.flights.items) × (b.unput ≡ a.unput) × IsSameToAsk a b
noted_same (Some number) items flight t a b found codes found' codes' noted =
    (noted.refuses.0.flights, noted.refuses.0.unput, noted.refuses.0.same)
noted_same None items flight t a b found codes found' codes' noted = (
  ap (λ (c : Asking). c.flights.items) noted.keeps.0,
  ap (λ (c : Asking). c.unput) noted.keeps.0,
  subst (IsSameToAsk a) (sym noted.keeps.0) (record { left = refl; width = refl; spot = refl }),
)

pub ready_as : (job : Job) (found : ℕ) (a b : Asking) → b.flights.items ≡ a.flights.items → IsSameToAsk a b
    → is_ready job found (stage.Asking b) ≡ is_ready job found (stage.Asking a)
ready_as job found a b flights same =
    let from : b.from ≡ a.from = ap (λ (s : Spot). s.from) same.spot in
    ap₂
    (λ (fs : List Flight) (l : Left). list_all (can_fly job found) fs && (can_ask_all job found b.from l && has_places job found))
    flights same.left
    ∙ ap (λ n. list_all (can_fly job found) a.flights.items && (can_ask_all job found n a.left && has_places job found))
    from

-- ---- what a job keeps then

-- What its parts are, once the answer was noted.
pub record HasNoted (refusal : Option ℕ) (items : List Item) (flight : Flight) (t : kept.Answer) (a : Asking)
    (r r' : Running) : Type 0 where
  pub b : Asking
  pub stage : r'.stage ≡ stage.Asking b
  pub job : r'.job ≡ r.job
  pub noted : IsNotedBy refusal items flight t a b r.found.items r.codes r'.found.items r'.codes

pub noted_refusal : (refusal : Option ℕ) (number : ℕ) (items : List Item) (flight : Flight) (t : kept.Answer)
    (a b : Asking) (r r' : Running)
    → refusal ≡ Some number → Refuses a flight.place number b → r'.stage ≡ stage.Asking b → r'.job ≡ r.job
    → r'.found.items ≡ r.found.items → r'.codes ≡ r.codes → HasNoted refusal items flight t a r r'
noted_refusal refusal number items flight t a b r r' is refusing now same found codes = record {
  b = b;
  stage = now;
  job = same;
  noted =
      subst (λ (o : Option ℕ). IsNotedBy o items flight t a b r.found.items r.codes r'.found.items r'.codes) (sym is)
      (record { refuses = (refusing, found, codes); keeps = tt });
}

pub noted_kept : (refusal : Option ℕ) (items : List Item) (flight : Flight) (t : kept.Answer) (a : Asking)
    (r r' : Running) (before after codes' : List ℕ)
    → refusal ≡ None → before ≡ r.found.items → r'.found.items ≡ after → r'.codes ≡ codes'
    → Keeps items flight t before r.codes after codes' → r'.stage ≡ stage.Asking a → r'.job ≡ r.job
    → HasNoted refusal items flight t a r r'
noted_kept refusal items flight t a r r' before after codes' is was found codes keeps now same = record {
  b = a;
  stage = now;
  job = same;
  noted =
      subst (λ (o : Option ℕ). IsNotedBy o items flight t a a r.found.items r.codes r'.found.items r'.codes) (sym is)
      (record {
        refuses = tt;
        keeps = (
          refl,
          subst (λ xs. Keeps items flight t xs r.codes r'.found.items r'.codes) was
              (subst (λ xs. Keeps items flight t before r.codes xs r'.codes) (sym found)
              (subst (λ xs. Keeps items flight t before r.codes after xs) (sym codes) keeps)),
        );
      });
}

pub follows_noted : (refusal : Option ℕ) (config : Config) (granted : Option Grant) (rows : List Row) (a : Asking)
    (r r' : Running) (flight : Flight) (t : kept.Answer) (write : Bool) (items : List Item)
    → (taken : Taken rows flight t) → flight.asked ≡ asked_by write items
    → ((w : Bool) (is : List Item) (x : Answer) → TellsFor w is t x → refusal ≡ refusal_by (is_alone r.job) x)
    → HasNoted refusal items flight t a r r'
    → Conducts config granted (rows_with taken.front taken.row taken.back taken.answer) rows r.job r.found.items
    r.codes a
    → Follows r' config granted (rows_with taken.front taken.row taken.back taken.answer)
follows_noted refusal config granted rows a r r' flight t write items taken is refusing n conducts =
    let rows' = rows_with taken.front taken.row taken.back taken.answer in
    follows_at r' n.b config granted rows' n.stage
    (subst (λ (j : Job). Conducts config granted rows' rows' j r'.found.items r'.codes n.b) (sym n.job)
    (notes_by refusal config granted rows r.job r.found.items r.codes r'.found.items r'.codes a n.b flight t write
    items taken is refusing n.noted conducts))

pub unput_noted : (refusal : Option ℕ) (items : List Item) (flight : Flight) (t : kept.Answer) (a : Asking)
    (r r' : Running) (config : Config) (size : ℕ) → HasNoted refusal items flight t a r r'
    → unput_of config size r' ≡ unput_by config size r.job (stage.Asking a)
unput_noted refusal items flight t a r r' config size n =
    let same = noted_same refusal items flight t a n.b r.found.items r.codes r'.found.items r'.codes n.noted in
    ap₂ (unput_by config size) n.job n.stage
    ∙ ap₂ (λ (fs : List Flight) k. sent_messages size (map (message_of config r.job) (drop (length fs - k) fs)))
    same.0 same.1
