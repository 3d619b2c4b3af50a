-- What a read that came off has read, group by group, and of several items.
use Rattle.std.proofs.Common.{◌≡◌, ℕ, ◌+◌, ◌<◌, Bool, true, false, cond, eqb, Option, None, Some, List, [], ◌∷◌, ◌++◌}
use Rattle.std.proofs.Common.{length, map, refl, ap, sym, ◌∙◌, subst, arith, length-append, append_assoc}
use Rattle.std.specs.Prelude.{slice_get}
use Rattle.std.specs.List.{flat_map}
use Rattle.std.proofs.lemmas.Bool.{eqb-false}
use Rattle.std.proofs.lemmas.List.{length-map}
use Rattle.s7_area.specs.Memory.{Memory, read_code, read_octets}
use Rattle.s7_item.specs.declared.item.Item.{Item}
use Rattle.s7_split.specs.Groups.{groups_of}
use Rattle.s7_plant.specs.Answers as plant
use Rattle.s7_plant.specs.declared.request.Ask.{Ask}
use Rattle.s7_plant.specs.declared.request.Request.TheVariants.{Read}
use Rattle.s7_plant.specs.Requests.{asked}
use Rattle.s7_plant.specs.Replies.{Said}
use Rattle.s7_plant.specs.State.{State}
use Rattle.s7_dialogue.specs.declared.grant.Grant.{Grant}
use Rattle.s7_dialogue.specs.declared.grant.Leaves.TheVariants.{AsItWas}
use Rattle.s7_dialogue.specs.declared.job.Job.{Job}
use Rattle.s7_dialogue.specs.declared.job.Job.TheVariants as job
use Rattle.s7_dialogue.specs.Question.{Question, reads}
use Rattle.s7_dialogue.specs.Answer.{Answer, ItemAnswer, refuses, tells}
use Rattle.s7_dialogue.specs.Refusals.{telegram_refusal}
use Rattle.s7_dialogue.specs.Checks.{check_items}
use Rattle.s7_dialogue.specs.Flight.{answers_of}
use Rattle.s7_dialogue.specs.Dialogue.{End, Plan, number_end, over, read_questions, first_refusal, plain_number}
use Rattle.s7_dialogue.specs.Dialogue.{by_refusal, items_told, codes_in, octets_told, codes_told, good_end, listed}
use Rattle.s7_dialogue.specs.Dialogue.{if_good, connected_plan, plan_of}
use Rattle.s7_dialogue.specs.Course.{Origin, conduct_of}
use Rattle.s7_dialogue.proofs.FlightLemmas.{nothing_left}
use Rattle.s7_dialogue.proofs.EndLemmas.{first_none}
use Rattle.s7_client.proofs.FormLemmas.{first_positive, part_positive}
use Rattle.s7_session.specs.Verdict.{Verdict}
use Rattle.s7_rig.specs.Heard.{told_of}
use Rattle.s7_rig.specs.Dialogues.{ReadsGroups}
use Rattle.s7_rig.specs.Exchanges.{HasTold, is_refused, is_told}
use Rattle.s7_rig.proofs.Awaiting.{AreAsked}
use Rattle.s7_rig.proofs.Conversing.{Exchange, entries_of, rows_of, AreTold, Converses}
use Rattle.s7_rig.proofs.TelegramLemmas.{open_none}

-- ---- a read that came off

-- how these groups are read, where such an answer ends the job, and these codes are told
abbrev pub grouping : (Answer → Option ℕ) → (List (Option Answer) → List ℕ) → Grant → List (List Item) → Plan
grouping refusal codes grant groups =
    listed grant (read_questions groups) refusal plain_number (λ answers. good_end (octets_told answers) (codes answers))

-- what is read was checked
pub good_by : {pdu : ℕ} (check : ℕ) (plan : Plan) (end : End) (xs : List Exchange) (good : Bool)
    → eqb check 0 ≡ good → end.code ≡ 0
    → Converses pdu (cond good plan (over (number_end check AsItWas))).conduct end xs
    → Converses pdu plan.conduct end xs
good_by check plan end xs true good none c = c
good_by check plan end xs false good none c =
    absurd (eqb-false check 0 good (sym (ap (λ (e : End). e.code) c.is) ∙ none))

-- a job that came off went by its questions
pub conversed : {pdu : ℕ} (origin : Origin) (grant : Grant) (done : Job) (check : ℕ) (plan : Plan) (end : End)
    (xs : List Exchange) → origin.granted ≡ Some grant → origin.job ≡ done
    → connected_plan done grant ≡ if_good check plan → end.code ≡ 0 → Converses pdu (conduct_of origin) end xs
    → Converses pdu plan.conduct end xs
conversed {pdu} origin grant done check plan end xs granted job_is plan_is good c =
    let same : conduct_of origin ≡ (if_good check plan).conduct =
    ap (λ g. (plan_of origin.job origin.config g).conduct) granted
    ∙ (ap (λ j. (connected_plan j grant).conduct) job_is ∙ ap (λ (p : Plan). p.conduct) plan_is) in
    good_by check plan end xs (eqb check 0) refl good (subst (λ k. Converses pdu k end xs) same c)

-- an end with code 0 is that of a job of which nothing was refused
pub finished_by : (refused : Option (ℕ × ℕ)) (finished end : End) → ((r : ℕ × ℕ) → refused ≡ Some r → 0 < r.1)
    → end ≡ by_refusal plain_number refused finished → end.code ≡ 0 → (refused ≡ None) × (end ≡ finished)
finished_by (Some r) finished end positive is good =
    absurd (omega (arith, positive r refl, ap (λ (e : End). e.code) is, good))
finished_by None finished end positive is good = (refl, is)

-- No answer refused, all groups were asked for, and the octets and codes are what was told.
pub record CameOff (refusal : Answer → Option ℕ) (codes : List (Option Answer) → List ℕ) (groups : List (List Item))
    (end : End) (xs : List Exchange) : Type 0 where
  pub unrefused : first_refusal refusal 0 (answers_of (rows_of xs)) ≡ None
  pub all_asked : slice_get (read_questions groups) (0 + length xs) ≡ None
  pub is : end ≡ good_end (octets_told (answers_of (rows_of xs))) (codes (answers_of (rows_of xs)))

pub came_off : {pdu : ℕ} (refusal : Answer → Option ℕ) (codes : List (Option Answer) → List ℕ) (grant : Grant)
    (groups : List (List Item)) (end : End) (xs : List Exchange)
    → ((answer : Answer) (n : ℕ) → refusal answer ≡ Some n → 0 < n) → end.code ≡ 0
    → Converses pdu (grouping refusal codes grant groups).conduct end xs → CameOff refusal codes groups end xs
came_off refusal codes grant groups end xs positive good c =
    let rows = rows_of xs in
    let answers = answers_of rows in
    let both =
    finished_by (first_refusal refusal 0 answers) (good_end (octets_told answers) (codes answers)) end
    (λ r e. first_positive refusal 0 answers r positive e) c.is good in
    let long : length answers ≡ 0 + length xs = length-map rows _ ∙ (length-map xs _ ∙ omega arith) in
    let all = nothing_left (grouping refusal codes grant groups).conduct rows (omega (arith, open_none xs)) both.0
    c.none_more in
    record {
      unrefused = both.0;
      all_asked = ap (slice_get (read_questions groups)) (sym long) ∙ all;
      is = both.1;
    }

-- ---- the group that is asked for

at_left : (done left : List (List Item))
    → slice_get (read_questions (done ++ left)) (length done) ≡ slice_get (read_questions left) 0
at_left [] left = refl
at_left (group ∷ done) left = at_left done left

left_asked : (groups done left : List (List Item)) (k : ℕ) → groups ≡ done ++ left → k ≡ length done
    → slice_get (read_questions left) 0 ≡ slice_get (read_questions groups) k
left_asked groups done left k whole long =
    sym
    (ap (λ n. slice_get (read_questions groups) n) long
    ∙ (ap (λ xs. slice_get (read_questions xs) (length done)) whole ∙ at_left done left))

no_group : (left : List (List Item)) → slice_get (read_questions left) 0 ≡ None → left ≡ []
no_group [] none = refl
no_group (group ∷ left) none = absurd (cc)

first_group : (left : List (List Item)) (q : Question) → slice_get (read_questions left) 0 ≡ Some q
    → (group : List Item) × (rest : List (List Item)) × (left ≡ group ∷ rest) × (q ≡ reads group)
first_group [] q e = absurd (cc)
first_group (group ∷ rest) q e = (group, rest, refl, same_question (reads group) q e)
  where
    same_question : (p q : Question) → Some p ≡ Some q → q ≡ p
    same_question p q e = cc

-- ---- group by group

-- the octets that an answer tells
abbrev octets_of : Answer → List ℕ
octets_of a = flat_map (λ (item : ItemAnswer). item.octets) (items_told a)

codes_heard : (m : Memory) (right : Bool) (items : List Item)
    → codes_in (tells (map (told_of m right) items)) ≡ map (read_code m right) items
codes_heard m right [] = refl
codes_heard m right (item ∷ items) = ap (λ codes. read_code m right item ∷ codes) (codes_heard m right items)

octets_heard : (m : Memory) (right : Bool) (items : List Item)
    → octets_of (tells (map (told_of m right) items)) ≡ flat_map (read_octets m right) items
octets_heard m right [] = refl
octets_heard m right (item ∷ items) = ap (λ octets. read_octets m right item ++ octets) (octets_heard m right items)

-- a group was read where its answer tells of its items, whatever state replied
group_read : (group : List Item) (left : List (List Item)) (entries : List (Ask × Said)) (a : Answer)
    (answers : List (Option Answer)) (right : Bool) (reply : Said)
    → ((k : State) → reply ≡ plant.answer_of k (asked right (Read group))
    → a ≡ tells (map (told_of k.memory right) group))
    → ReadsGroups left entries (octets_told answers) (codes_told answers)
    → ReadsGroups (group ∷ left) ((asked right (Read group), reply) ∷ entries) (octets_told (Some a ∷ answers))
    (codes_told (Some a ∷ answers))
unfolding ReadsGroups
group_read group left entries a answers right reply told others = (
  octets_of a,
  octets_told answers,
  codes_in a,
  codes_told answers,
  right,
  refl,
  refl,
  refl,
  (λ k gives. (
    ap codes_in (told k gives) ∙ codes_heard k.memory right group,
    ap octets_of (told k gives) ∙ octets_heard k.memory right group,
  )),
  others,
)

none_read : (left : List (List Item)) → left ≡ [] → ReadsGroups left [] [] []
unfolding ReadsGroups
none_read [] none = (refl, refl)
none_read (group ∷ left) none = absurd (cc)

module _ (refusal : Answer → Option ℕ) (codes : List (Option Answer) → List ℕ)
    (refused : (error : ℕ) → refusal (refuses error) ≡ None → ⊥) where
  group_by : {pdu : ℕ} {own : List Verdict} (group : List Item) (left : List (List Item)) (new entries : List (Ask × Said))
      (a : Answer) (answers : List (Option Answer)) → HasTold pdu own (reads group) a new → refusal a ≡ None
      → ReadsGroups left entries (octets_told answers) (codes_told answers)
      → ReadsGroups (group ∷ left) (new ++ entries) (octets_told (Some a ∷ answers)) (codes_told (Some a ∷ answers))
  group_by group left new entries a answers (is_refused error undone entered is) none others =
      absurd (refused error (ap refusal (sym is) ∙ none))
  group_by group left new entries a answers (is_told (right, reply, is, told)) none others =
      subst
      (λ xs. ReadsGroups (group ∷ left) (xs ++ entries) (octets_told (Some a ∷ answers)) (codes_told (Some a ∷ answers)))
      (sym is) (group_read group left entries a answers right reply told others)

  -- the exchanges from a group on read the groups that are left
  pub groups_read : (pdu : ℕ) (grant : Grant) (groups done left : List (List Item)) (xs : List Exchange)
      → groups ≡ done ++ left
      → AreAsked (grouping refusal codes grant groups).conduct (length done) (rows_of xs)
      → slice_get (read_questions groups) (length done + length xs) ≡ None
      → first_refusal refusal (length done) (answers_of (rows_of xs)) ≡ None → AreTold pdu xs
      → ReadsGroups left (entries_of xs) (octets_told (answers_of (rows_of xs))) (codes_told (answers_of (rows_of xs)))
  groups_read pdu grant groups done left [] whole all last none told =
      none_read left (no_group left (left_asked groups done left (length done + 0) whole (omega arith) ∙ last))
  groups_read pdu grant groups done left (x ∷ xs) whole all last none told =
      let first =
      first_group left x.question (left_asked groups done left (length all.0.answers) whole all.0.long ∙ all.0.asks) in
      let group = first.0 in
      let rest = first.1 in
      let answers = answers_of (rows_of xs) in
      let long : length done + 1 ≡ length (done ++ group ∷ []) = omega (arith, length-append done (group ∷ [])) in
      let unrefused =
      first_none (refusal x.answer) (length done) (first_refusal refusal (length done + 1) answers)
      none in
      subst
      (λ ys. ReadsGroups ys (x.entries ++ entries_of xs) (octets_told (Some x.answer ∷ answers))
      (codes_told (Some x.answer ∷ answers))) (sym first.2)
      (group_by group rest x.entries (entries_of xs) x.answer answers
      (subst (λ q. HasTold pdu x.verdicts q x.answer x.entries) first.3 told.0)
      unrefused.0
      (groups_read pdu grant groups (done ++ group ∷ []) rest xs
      (whole ∙ (ap (λ ys. done ++ ys) first.2 ∙ sym (append_assoc done (group ∷ []) rest)))
      (subst (λ n. AreAsked (grouping refusal codes grant groups).conduct n (rows_of xs)) long all.1)
      (ap (slice_get (read_questions groups)) (omega (arith, long)) ∙ last)
      (subst (λ n. first_refusal refusal n answers ≡ None) long unrefused.1) told.1))

-- ---- several items

-- the number of a refusal isn't 0
telegram_positive : (answer : Answer) (n : ℕ) → telegram_refusal answer ≡ Some n → 0 < n
telegram_positive (refuses error) n is = part_positive (refuses error) n is
telegram_positive _ n is = absurd (cc)

refused : (error : ℕ) → telegram_refusal (refuses error) ≡ None → ⊥
refused error e = cc

-- A read of several items that came off has read their groups, whatever memories replied.
pub items_read : {pdu : ℕ} (origin : Origin) (grant : Grant) (items : List Item) (end : End) (xs : List Exchange)
    → origin.granted ≡ Some grant → origin.job ≡ job.ReadMany items → end.code ≡ 0
    → Converses pdu (conduct_of origin) end xs
    → ReadsGroups (groups_of grant.pdu false items) (entries_of xs) end.octets end.codes
items_read {pdu} origin grant items end xs granted job_is good c =
    let groups = groups_of grant.pdu false items in
    let plan = grouping telegram_refusal codes_told grant groups in
    let read = conversed origin grant (job.ReadMany items) (check_items items true grant.pdu false) plan end xs granted
    job_is refl good c in
    let off = came_off telegram_refusal codes_told grant groups end xs telegram_positive good read in
    subst (λ (e : End). ReadsGroups groups (entries_of xs) e.octets e.codes) (sym off.is)
    (groups_read telegram_refusal codes_told refused pdu grant groups [] groups xs refl read.asked off.all_asked
    off.unrefused read.told)
