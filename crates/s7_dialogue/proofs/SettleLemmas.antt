-- Lemmas on jobs of which no telegram is unanswered: they end as their conduct says.
use Rattle.std.proofs.Common.{◌≡◌, ◌⊎◌, inl, inr, ◌==◌, ℕ, ◌+◌, ◌≤◌, Bool, true, false, cond, Option, Some, None, List, [], ◌∷◌, ◌++◌, length, map, take, drop, refl, sym, ap, ◌∙◌, subst, arith}
use Rattle.std.specs.Prelude.{replicate, slice_get}
use Rattle.std.specs.List.{flat_map, AllByRecursion}
use Rattle.std.proofs.lemmas.List.{append-nil, length-map, nil_from_length}
use Rattle.s7_item.specs.declared.item.Item.{Item}
use Rattle.s7_dialogue.specs.declared.config.Config.{Config}
use Rattle.s7_dialogue.specs.declared.grant.Grant.{Grant}
use Rattle.s7_dialogue.specs.declared.grant.Leaves.TheVariants.{AsItWas}
use Rattle.s7_dialogue.specs.declared.job.Job.{Job}
use Rattle.s7_dialogue.specs.declared.job.Job.TheVariants as job
use Rattle.s7_dialogue.specs.declared.questions.left.Left.{Left}
use Rattle.s7_dialogue.specs.declared.questions.left.Left.TheVariants as left
use Rattle.s7_dialogue.specs.declared.stages.asking.Asking.{Asking}
use Rattle.s7_dialogue.specs.declared.stages.asking.Refused.{Refused}
use Rattle.s7_dialogue.specs.declared.stages.running.Stage.{Stage}
use Rattle.s7_dialogue.specs.declared.stages.running.Stage.TheVariants as stage
use Rattle.s7_dialogue.specs.declared.stages.running.Running.{Running}
use Rattle.s7_dialogue.specs.Question.{Question, reads, writes}
use Rattle.s7_dialogue.specs.Answer.{Answer}
use Rattle.s7_dialogue.specs.Refusals.{telegram_refusal, part_refusal}
use Rattle.s7_dialogue.specs.Codes.{no_fault}
use Rattle.s7_dialogue.specs.Flight.{Row, answers_of, open_count}
use Rattle.s7_dialogue.specs.Checks.{octet_count_of, check_moment, check_password, check_image}
use Rattle.s7_dialogue.specs.Left.{joined, groups_in, groups_left, questions_left, octets_left, items_left}
use Rattle.s7_dialogue.specs.Dialogue.{End, Conduct, Plan, over, is_connect, read_questions, write_questions, first_or, first_refusal, by_refusal, octets_told, codes_told, good_end, number_end, plan_of}
use Rattle.s7_dialogue.specs.Asks.{first_spot, refused_at}
use Rattle.s7_dialogue.specs.GoesOn.{questions_of, refusal_of, number_of, finished, ended_by, ended_of, conducted, octets_of_row, codes_of_row, octets_so_far, codes_so_far, asks_groups, Conducts, IsDone}
use Rattle.s7_dialogue.specs.Running.{Follows}
use Rattle.s7_dialogue.specs.Taking.{without_gaps, closed}
use Rattle.s7_dialogue.proofs.FlightLemmas.{all_answered, all_open}
use Rattle.s7_dialogue.proofs.AskLemmas.{none_behind, unrefused_at}
use Rattle.s7_dialogue.proofs.SpotLemmas.{flights_open}
use Rattle.s7_dialogue.proofs.FollowLemmas.{conducts_at}
use Rattle.s7_dialogue.proofs.EndLemmas.{AsksItems, heads_same, all_good, codes_found, many_closed, parts_found}

-- ---- nothing is left

groups_none : (l : Left) → questions_left l ≡ 0 → groups_left l ≡ []
groups_none left.Nothing none = refl
groups_none left.Negotiation none = refl
groups_none (left.Reads grouped) none = nil_from_length (groups_in grouped) none
groups_none (left.Writes grouped) none = nil_from_length (groups_in grouped) none

found_whole : (rows : List Row) (l : Left) → questions_left l ≡ 0 → octets_so_far rows l ≡ flat_map octets_of_row rows
found_whole rows l none =
    let no : octets_left l ≡ 0 = omega (arith, ap (λ gs. octet_count_of (joined gs)) (groups_none l none)) in
    ap (λ n. flat_map octets_of_row rows ++ replicate n 0) no ∙ append-nil (flat_map octets_of_row rows)

codes_whole : (rows : List Row) (l : Left) → questions_left l ≡ 0 → codes_so_far rows l ≡ flat_map codes_of_row rows
codes_whole rows l none =
    let no : items_left l ≡ 0 = omega (arith, ap (λ gs. length (joined gs)) (groups_none l none)) in
    ap (λ n. flat_map codes_of_row rows ++ replicate n 0) no ∙ append-nil (flat_map codes_of_row rows)

-- all questions went out
all_out : (config : Config) (granted : Option Grant) (rows : List Row) (job : Job) (found codes : List ℕ) (a : Asking)
    → (h : Conducts config granted rows rows job found codes a) → questions_left a.left ≡ 0
    → map (λ (row : Row). row.question) rows ≡ questions_of config job h.groups
all_out config granted rows job found codes a h none =
    sym (h.asks.whole
    ∙ (ap (λ qs. map (λ (row : Row). row.question) rows ++ qs) (none_behind config job a.from a.left none)
    ∙ append-nil (map (λ (row : Row). row.question) rows)))

none_open : (config : Config) (granted : Option Grant) (rows : List Row) (job : Job) (found codes : List ℕ)
    (a : Asking)
    → Conducts config granted rows rows job found codes a → a.flights.items ≡ [] → open_count rows ≡ 0
none_open config granted rows job found codes a h none =
    sym (flights_open first_spot rows) ∙ (ap length (sym h.asks.flights) ∙ ap length none)

asks_reads : (rows : List Row) (groups : List (List Item))
    → map (λ (row : Row). row.question) rows ≡ read_questions groups
    → AllByRecursion (λ (row : Row). AsksItems row.question) rows
asks_reads [] groups is = tt
asks_reads (row ∷ rows) [] is = absurd (omega (arith, ap length is))
asks_reads (row ∷ rows) (group ∷ groups) is =
    let both =
    heads_same row.question (reads group) (map (λ (row : Row). row.question) rows) (read_questions groups) is in
    (subst AsksItems (sym both.0) tt, asks_reads rows groups both.1)

asks_writes : (rows : List Row) (groups : List (List Item)) (octets : List ℕ)
    → map (λ (row : Row). row.question) rows ≡ write_questions groups octets
    → AllByRecursion (λ (row : Row). AsksItems row.question) rows
asks_writes [] groups octets is = tt
asks_writes (row ∷ rows) [] octets is = absurd (omega (arith, ap length is))
asks_writes (row ∷ rows) (group ∷ groups) octets is =
    let n = octet_count_of group in
    let both =
    heads_same row.question (writes group (take n octets)) (map (λ (row : Row). row.question) rows)
    (write_questions groups (drop n octets)) is in
    (subst AsksItems (sym both.0) tt, asks_writes rows groups (drop n octets) both.1)

-- ---- the end of a read or write that no answer refuses

good_same : (os ps cs ds : List ℕ) → os ≡ ps → cs ≡ ds → good_end os cs ≡ good_end ps ds
good_same os ps cs ds octets codes = ap (λ xs. good_end xs cs) octets ∙ ap (good_end ps) codes

finishes : (config : Config) (granted : Option Grant) (rows : List Row) (job : Job) (found codes : List ℕ)
    (a : Asking)
    → asks_groups job ≡ true → Conducts config granted rows rows job found codes a → a.flights.items ≡ []
    → questions_left a.left ≡ 0 → first_refusal (refusal_of job) 0 (answers_of rows) ≡ None
    → finished job (answers_of rows) ≡ good_end (closed job codes found) codes
finishes config granted rows (job.ReadArea item) found codes a asks h none left unrefused =
    let good =
    all_good part_refusal 0 rows
    (all_answered rows (none_open config granted rows (job.ReadArea item) found codes a h none)) h.fit unrefused in
    good_same (octets_told (answers_of rows)) found [] codes
    (sym (h.octets refl
    ∙ (found_whole rows a.left left
    ∙ parts_found rows h.groups (all_out config granted rows (job.ReadArea item) found codes a h left) h.whole good)))
    (sym (h.noted refl))
finishes config granted rows (job.WriteArea item octets) found codes a asks h none left unrefused =
    good_same [] found [] codes (sym (h.octets refl)) (sym (h.noted refl))
finishes config granted rows (job.ReadMany items) found codes a asks h none left unrefused =
    let good =
    all_good telegram_refusal 0 rows
    (all_answered rows (none_open config granted rows (job.ReadMany items) found codes a h none)) h.fit unrefused in
    let out = all_out config granted rows (job.ReadMany items) found codes a h left in
    let octets : found ≡ flat_map octets_of_row rows = h.octets refl ∙ found_whole rows a.left left in
    let noted : codes ≡ flat_map codes_of_row rows = h.noted refl ∙ codes_whole rows a.left left in
    good_same (octets_told (answers_of rows)) (without_gaps items codes found) (codes_told (answers_of rows)) codes
    (sym (ap (λ xs. without_gaps xs codes found) (sym h.whole)
    ∙ (ap (λ cs. without_gaps (joined h.groups) cs found) noted
    ∙ (ap (without_gaps (joined h.groups) (flat_map codes_of_row rows)) octets
    ∙ many_closed rows h.groups out good))))
    (sym (noted ∙ codes_found rows (asks_reads rows h.groups out) good))
finishes config granted rows (job.WriteMany items octets) found codes a asks h none left unrefused =
    let good =
    all_good telegram_refusal 0 rows
    (all_answered rows (none_open config granted rows (job.WriteMany items octets) found codes a h none)) h.fit
    unrefused in
    let out = all_out config granted rows (job.WriteMany items octets) found codes a h left in
    good_same [] found (codes_told (answers_of rows)) codes (sym (h.octets refl))
    (sym (h.noted refl
    ∙ (codes_whole rows a.left left ∙ codes_found rows (asks_writes rows h.groups octets out) good)))
finishes config granted rows _ found codes a asks h none left unrefused = absurd (cc)

-- ---- jobs that ask for no groups don't end so

never_refused : (refusal : Answer → Option ℕ) (place : ℕ) (answers : List (Option Answer))
    → ((answer : Answer) → refusal answer ≡ None)
    → first_refusal refusal place answers ≡ None
never_refused refusal place [] never = refl
never_refused refusal place (None ∷ answers) never = never_refused refusal (place + 1) answers never
never_refused refusal place (Some answer ∷ answers) never =
    ap (λ o. first_or o place (first_refusal refusal (place + 1) answers)) (never answer)
    ∙ never_refused refusal (place + 1) answers never

-- nothing may be asked, or there is a first question
abbrev RestsOrAsks : Conduct → Type 0
RestsOrAsks c = (c.width ≡ 0) ⊎ ((question : Question) × (c.question_at [] ≡ Some question))

rests_if : (b : Bool) (plan : Plan) (end : End) → RestsOrAsks plan.conduct
    → RestsOrAsks (cond b plan (over end)).conduct
rests_if true plan end asks = asks
rests_if false plan end asks = inl refl

-- a job that asks neither for groups nor for a negotiation
rests_or_asks : (config : Config) (granted : Option Grant) (done : Job) → asks_groups done ≡ false
    → is_connect done ≡ false → RestsOrAsks (plan_of done config granted).conduct
rests_or_asks config granted job.Connect groups connects = absurd (cc)
rests_or_asks config granted (job.ReadArea item) groups connects = absurd (cc)
rests_or_asks config granted (job.WriteArea item octets) groups connects = absurd (cc)
rests_or_asks config granted (job.ReadMany items) groups connects = absurd (cc)
rests_or_asks config granted (job.WriteMany items octets) groups connects = absurd (cc)
rests_or_asks config None _ groups connects = inl refl
rests_or_asks config (Some g) (job.ClockSet moment) groups connects =
    rests_if (check_moment moment == no_fault) _ _ (inr (_, refl))
rests_or_asks config (Some g) (job.PasswordSet text) groups connects =
    rests_if (check_password text == no_fault) _ _ (inr (_, refl))
rests_or_asks config (Some g) (job.Download image) groups connects =
    rests_if (check_image image == no_fault) _ _ (inr (_, refl))
rests_or_asks config (Some g) job.Disconnect groups connects = inl refl
rests_or_asks config (Some g) _ groups connects = inr (_, refl)

no_questions : (config : Config) (done : Job) (groups : List (List Item)) → asks_groups done ≡ false
    → is_connect done ≡ false → questions_of config done groups ≡ []
no_questions config job.Connect groups none connects = absurd (cc)
no_questions config (job.ReadArea item) groups none connects = absurd (cc)
no_questions config (job.WriteArea item octets) groups none connects = absurd (cc)
no_questions config (job.ReadMany items) groups none connects = absurd (cc)
no_questions config (job.WriteMany items octets) groups none connects = absurd (cc)
no_questions config _ groups none connects = refl

-- a list that is empty would do neither
none_first : (c d : Conduct) → c ≡ d → 1 ≤ d.width → d.question_at [] ≡ None → RestsOrAsks c → ⊥
none_first c d is some none (inl idle) = omega (arith, some, ap (λ (c : Conduct). c.width) is, idle)
none_first c d is some none (inr asks) =
    let e : Some asks.0 ≡ None = sym asks.1 ∙ (ap (λ (c : Conduct). c.question_at []) is ∙ none) in cc

-- it has no list of questions
unlisted : (config : Config) (granted : Option Grant) (done : Job) (width : ℕ) (groups : List (List Item))
    → 1 ≤ width → asks_groups done ≡ false → is_connect done ≡ false
    → (plan_of done config granted).conduct ≡ conducted config done width groups → ⊥
unlisted config granted done width groups some none connects is =
    none_first (plan_of done config granted).conduct (conducted config done width groups) is some
    (ap (λ qs. slice_get qs 0) (no_questions config done groups none connects))
    (rests_or_asks config granted done none connects)

-- the one question of a negotiation is out as long as nothing else is left
negotiation_out : (config : Config) (granted : Option Grant) (rows : List Row) (found codes : List ℕ) (a : Asking)
    → Conducts config granted rows rows job.Connect found codes a → a.flights.items ≡ [] → questions_left a.left ≡ 0
    → ⊥
negotiation_out config granted rows found codes a h none left =
    let qs = map (λ (row : Row). row.question) rows in
    let out = all_out config granted rows job.Connect found codes a h left in
    omega (
      arith,
      ap length out,
      length-map rows (λ (row : Row). row.question),
      all_open rows (h.unanswered refl),
      none_open config granted rows job.Connect found codes a h none,
    )

-- ---- the end

ends_groups : (config : Config) (job : Job) (answers : List (Option Answer)) → asks_groups job ≡ true
    → ended_of config job answers ≡ ended_by job answers
ends_groups config (job.ReadArea item) answers asks = refl
ends_groups config (job.WriteArea item octets) answers asks = refl
ends_groups config (job.ReadMany items) answers asks = refl
ends_groups config (job.WriteMany items octets) answers asks = refl
ends_groups config _ answers asks = absurd (cc)

-- a job of which nothing is out and which was refused, or has nothing left to ask, asks for groups
asks_if_done : (config : Config) (granted : Option Grant) (rows : List Row) (job : Job) (found codes : List ℕ)
    (a : Asking)
    → Conducts config granted rows rows job found codes a → a.flights.items ≡ []
    → (a.refused ≡ None → questions_left a.left ≡ 0)
    → asks_groups job ≡ true
asks_if_done config granted rows job.Connect found codes a h none left =
    absurd (negotiation_out config granted rows found codes a h none
    (left (unrefused_at a.refused
    (h.refused ∙ never_refused (refusal_of job.Connect) 0 (answers_of rows) (λ answer. refl)))))
asks_if_done config granted rows (job.ReadArea item) found codes a h none left = refl
asks_if_done config granted rows (job.WriteArea item octets) found codes a h none left = refl
asks_if_done config granted rows (job.ReadMany items) found codes a h none left = refl
asks_if_done config granted rows (job.WriteMany items octets) found codes a h none left = refl
asks_if_done config granted rows done found codes a h none left =
    absurd (unlisted config granted done a.width h.groups a.least_width refl refl h.conduct)

-- the first refusal ends it
pub ends_refused : (config : Config) (granted : Option Grant) (rows : List Row) (job : Job) (found codes : List ℕ)
    (a : Asking) (refused : Refused)
    → Conducts config granted rows rows job found codes a → a.flights.items ≡ [] → a.refused ≡ Some refused
    → number_end (number_of job refused.place refused.number) AsItWas ≡ (plan_of job config granted).conduct.ended
    (answers_of rows)
ends_refused config granted rows job found codes a refused h none is =
    let asks = asks_if_done config granted rows job found codes a h none
    (λ unrefused. absurd (let e : Some refused ≡ None = sym is ∙ unrefused in cc)) in
    sym (ap (λ (c : Conduct). c.ended (answers_of rows)) h.conduct
    ∙ (ends_groups config job (answers_of rows) asks
    ∙ ap (λ o. by_refusal (number_of job) o (finished job (answers_of rows))) (sym h.refused ∙ ap refused_at is)))

-- or all that was found
pub ends_found : (config : Config) (granted : Option Grant) (rows : List Row) (job : Job) (found codes : List ℕ)
    (a : Asking)
    → Conducts config granted rows rows job found codes a → a.flights.items ≡ [] → a.refused ≡ None
    → questions_left a.left ≡ 0
    → good_end (closed job codes found) codes ≡ (plan_of job config granted).conduct.ended (answers_of rows)
ends_found config granted rows job found codes a h none is left =
    let asks = asks_if_done config granted rows job found codes a h none (λ unrefused. left) in
    let unrefused : first_refusal (refusal_of job) 0 (answers_of rows) ≡ None = sym h.refused ∙ ap refused_at is in
    sym (ap (λ (c : Conduct). c.ended (answers_of rows)) h.conduct
    ∙ (ends_groups config job (answers_of rows) asks
    ∙ (ap (λ o. by_refusal (number_of job) o (finished job (answers_of rows))) unrefused
    ∙ finishes config granted rows job found codes a asks h none left unrefused)))

-- the same of a job by its stage
pub settles_refused : (r : Running) (config : Config) (granted : Option Grant) (rows : List Row) (st : Stage)
    (refused : Option Refused) (first : Refused)
    → r.stage ≡ st → refused ≡ Some first → IsDone st refused → Follows r config granted rows
    → number_end (number_of r.job first.place first.number) AsItWas ≡ (plan_of r.job config granted).conduct.ended
    (answers_of rows)
settles_refused r config granted rows stage.Opening refused first is some done follows = absurd done
settles_refused r config granted rows (stage.Asking a) refused first is some done follows =
    ends_refused config granted rows r.job r.found.items r.codes a first
    (conducts_at r a config granted rows is follows) done.0 (done.1 ∙ some)
settles_refused r config granted rows (stage.Single single) refused first is some done follows = absurd done
settles_refused r config granted rows stage.Leaving refused first is some done follows = absurd done
settles_refused r config granted rows (stage.Over code leaves) refused first is some done follows = absurd done

pub settles_found : (r : Running) (config : Config) (granted : Option Grant) (rows : List Row) (st : Stage)
    (refused : Option Refused)
    → r.stage ≡ st → refused ≡ None → IsDone st refused → Follows r config granted rows
    → good_end (closed r.job r.codes r.found.items) r.codes ≡ (plan_of r.job config granted).conduct.ended
    (answers_of rows)
settles_found r config granted rows stage.Opening refused is none done follows = absurd done
settles_found r config granted rows (stage.Asking a) refused is none done follows =
    ends_found config granted rows r.job r.found.items r.codes a (conducts_at r a config granted rows is follows)
    done.0 (done.1 ∙ none) (done.2 none)
settles_found r config granted rows (stage.Single single) refused is none done follows = absurd done
settles_found r config granted rows stage.Leaving refused is none done follows = absurd done
settles_found r config granted rows (stage.Over code leaves) refused is none done follows = absurd done

pub not_some : {A : Type 0} (o : Option A) → ((x : A) → o ≡ Some x → ⊥) → o ≡ None
not_some None none = refl
not_some (Some x) none = absurd (none x refl)
