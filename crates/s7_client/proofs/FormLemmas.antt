-- Laws of the form of ends: at the end all telegrams have answers that fit them.
use Rattle.std.proofs.Common.{◌≡◌, ◌≢◌, ◌⊎◌, inl, inr, ℕ, suc, ◌+◌, ◌<◌, ◌≤◌, Bool, true, false, not, cond, eqb, leb, Option, Some, None, List, [], ◌∷◌, ◌++◌, map, length, take, drop, slice_index, refl, sym, ap, ◌∙◌, subst, arith}
use Rattle.std.specs.Prelude.{◌%◌, ◌&&◌, ◌||◌, max, slice_get, option_map}
use Rattle.std.specs.List.{AllByRecursion, flat_map}
use Rattle.std.specs.Option.{ForSome}
use Rattle.std.proofs.lemmas.Bool.{and_parts, eqb-true, eqb-false, leb-true, ltb-false}
use Rattle.std.proofs.lemmas.List.{length-append, length-drop, length-take-le}
use Rattle.s7_item.specs.declared.item.Item.{Item}
use Rattle.s7_item.specs.Item.{octet_count}
use Rattle.s7_item.specs.Word.{transport_of}
use Rattle.s7_item.specs.DataItem.{stated_length, padding_of}
use Rattle.s7_header.specs.Octets.{number_at}
use Rattle.s7_split.specs.Parts.{parts_of, CanBeSplit}
use Rattle.s7_split.specs.Groups.{groups_of}
use Rattle.s7_block.specs.declared.block.BlockName.{BlockName}
use Rattle.s7_clock.specs.declared.control.Control.{Control}
use Rattle.s7_clock.specs.declared.control.Control.TheVariants as control
use Rattle.s7_dialogue.specs.declared.config.Config.{Config}
use Rattle.s7_dialogue.specs.declared.grant.Grant.{Grant}
use Rattle.s7_dialogue.specs.declared.grant.Leaves.{Leaves}
use Rattle.s7_dialogue.specs.declared.grant.Leaves.TheVariants.{AsItWas, Connected, Disconnected, Closed}
use Rattle.s7_dialogue.specs.declared.job.Job.{Job}
use Rattle.s7_dialogue.specs.declared.job.Job.TheVariants as job
use Rattle.s7_dialogue.specs.declared.questions.subject.Subject.{Subject}
use Rattle.s7_dialogue.specs.declared.questions.subject.Subject.TheVariants.{StatusList, RunState, BlockCounts, BlocksOfKind, BlockHead, Clock, ClockSetting, Password, PasswordClearing}
use Rattle.s7_dialogue.specs.UserData.{is_whole, lead_of}
use Rattle.s7_dialogue.specs.Codes.{refused_otherwise}
use Rattle.s7_block.specs.Slices.{image_room}
use Rattle.s7_dialogue.specs.Question.{Question}
use Rattle.s7_dialogue.specs.Answer.{Answer, ItemAnswer, grants, tells, notes, stands, refuses, begins_read, begins_refused, item_first, item_answers}
use Rattle.s7_dialogue.specs.Refusals.{number_of_error, number_of_code, number_of_status, code_refusal, telegram_refusal, part_refusal, control_refusal, download_refusal}
use Rattle.s7_dialogue.specs.Checks.{octet_count_of, check_item, check_items, check_moment, check_password, check_image}
use Rattle.s7_dialogue.specs.Stages.{joined}
use Rattle.s7_dialogue.specs.Flight.{Row, answers_of}
use Rattle.s7_dialogue.specs.Dialogue.{End, Conduct, Plan, departed_end, number_end, fault_end, over, taken_grant, by_grant, negotiated_by, negotiated, read_questions, write_questions, first_or, refusal_in, first_refusal, plain_number, write_number, by_refusal, octets_told, codes_told, octets_brought, count_of_data, fill_number, good_end, alone, listed, controlling, asking_about, uploading, downloading, getting, filling, if_good, connected_plan, unconnected_plan, plan_of}
use Rattle.s7_dialogue.specs.Course.{Origin, for_departure, for_nothing, conduct_of, course}
use Rattle.s7_client.specs.Form.{count_read, octets_read, FormOf, HasForm, IsWhole}
use Rattle.s7_dialogue.proofs.CheckLemmas.{item_checked, items_checked, can_split}
use Rattle.s7_dialogue.proofs.GroupLemmas.{joined_alone, parts_together, groups_right}
use Rattle.s7_dialogue.proofs.FlightLemmas.{same_some, IsAnswered, all_answered, IsEnded}
use Rattle.s7_dialogue.proofs.RowLemmas.{IsListed, HasAnswer, RowsFit, rows_fit}
use Rattle.s7_client.proofs.PlanLemmas.{IsFaulted, course_over, course_leaves, plan_leaves}
use Rattle.s7_dialogue.proofs.EndLemmas.{first_none}
use Rattle.s7_dialogue.proofs.BringLastLemmas.{AsksLast, course_last}
use Rattle.s7_dialogue.proofs.BringLemmas.{Fits, answer_fits, whole_brought}

-- ---- answers that fit

-- all answers are there, and fit the first of the questions
abbrev FitAll : List (Option Answer) → List Question → Type 0
FitAll [] questions = Unit {0}
FitAll (answer ∷ answers) [] = ⊥
FitAll (None ∷ answers) (question ∷ questions) = ⊥
FitAll (Some answer ∷ answers) (question ∷ questions) = Fits question answer × FitAll answers questions

abbrev IsEnough : Option Grant → Type 0
IsEnough granted = ForSome granted (λ (grant : Grant). 64 ≤ grant.pdu)

abbrev Formed : Option Grant → Job → End → Type 0
Formed granted done end = HasForm done end × (IsEnough granted → IsWhole done end)

-- ---- ends without octets and codes

whole_bare : (done : Job) (end : End) → end.code ≢ 0 → IsWhole done end
whole_bare (job.ReadArea item) end bad = λ good. absurd (bad good)
whole_bare _ end bad = tt

bare_form : (granted : Option Grant) (done : Job) (code : ℕ) (leaves : Leaves) → code ≢ 0
    → Formed granted done (record { code = code; octets = []; codes = []; leaves = leaves })
bare_form granted done code leaves bad = (
  ((λ good. absurd (bad good)), (λ bad. (refl, refl))),
  λ enough. whole_bare done (record { code = code; octets = []; codes = []; leaves = leaves }) bad,
)

-- ---- numbers of refusals aren't 0

some_if : (b : Bool) (x y : ℕ) → 0 < x → 0 < y → 0 < cond b x y
some_if true x y p q = p
some_if false x y p q = q

some_error : (error : ℕ) → 0 < number_of_error error
some_error error =
    some_if (eqb error 0x8500) _ _ (omega arith) (some_if (eqb error 0xD209) _ _ (omega arith)
    (some_if (eqb error 0xDC01) _ _ (omega arith) (some_if (eqb error 0x8104) _ _ (omega arith)
    (some_if (eqb error 0xD241) _ _ (omega arith) (some_if (eqb error 0xD602) _ _ (omega arith)
    (some_if (eqb error 0xD604 || eqb error 0xD605) _ _ (omega arith) (omega arith)))))))

some_code : (code : ℕ) → 0 < number_of_code code
some_code code =
    some_if (eqb code 0x05) _ _ (omega arith) (some_if (eqb code 0x06) _ _ (omega arith)
    (some_if (eqb code 0x07) _ _ (omega arith) (some_if (eqb code 0x0A) _ _ (omega arith) (omega arith))))

telegram_positive : (answer : Answer) (n : ℕ) → telegram_refusal answer ≡ Some n → 0 < n
telegram_positive (refuses error) n is = subst (λ m. 0 < m) (same_some (number_of_error error) n is) (some_error error)
telegram_positive _ n is = absurd (cc)

code_by : (b : Bool) (m n : ℕ) → 0 < m → cond b None (Some m) ≡ Some n → 0 < n
code_by true m n some is = absurd (cc)
code_by false m n some is = subst (λ k. 0 < k) (same_some m n is) some

code_positive : (code n : ℕ) → code_refusal code ≡ Some n → 0 < n
code_positive code n is = code_by (eqb code 0xFF) (number_of_code code) n (some_code code) is

pub part_positive : (answer : Answer) (n : ℕ) → part_refusal answer ≡ Some n → 0 < n
part_positive (refuses error) n is = subst (λ m. 0 < m) (same_some (number_of_error error) n is) (some_error error)
part_positive (tells []) n is = absurd (cc)
part_positive (tells (item ∷ [])) n is = code_positive item.code n is
part_positive (tells (item ∷ next ∷ items)) n is = absurd (cc)
part_positive (notes []) n is = absurd (cc)
part_positive (notes (code ∷ [])) n is = code_positive code n is
part_positive (notes (code ∷ next ∷ codes)) n is = absurd (cc)
part_positive _ n is = absurd (cc)

status_positive : (control : Control) (status : ℕ) → 0 < number_of_status control status
status_positive control.Start status = some_if (eqb status 2) _ _ (omega arith) (omega arith)
status_positive control.ColdStart status = some_if (eqb status 2) _ _ (omega arith) (omega arith)
status_positive control.Stop status = some_if (eqb status 7) _ _ (omega arith) (omega arith)
status_positive _ status = omega arith

control_positive : (control : Control) (answer : Answer) (n : ℕ) → control_refusal control answer ≡ Some n → 0 < n
control_positive control (refuses error) n is =
    subst (λ m. 0 < m) (same_some (number_of_error error) n is) (some_error error)
control_positive control (stands status) n is =
    code_by (eqb status 0) (number_of_status control status) n (status_positive control status) is
control_positive control _ n is = absurd (cc)

download_positive : (answer : Answer) (n : ℕ) → download_refusal answer ≡ Some n → 0 < n
download_positive (refuses error) n is = subst (λ m. 0 < m) (same_some (number_of_error error) n is) (some_error error)
download_positive (stands status) n is = code_by (eqb status 0) refused_otherwise n (omega arith) is
download_positive _ n is = absurd (cc)

first_or_positive : (o : Option ℕ) (k : ℕ) (later : Option (ℕ × ℕ)) (r : ℕ × ℕ)
    → ((n : ℕ) → o ≡ Some n → 0 < n) → ((s : ℕ × ℕ) → later ≡ Some s → 0 < s.1) → first_or o k later ≡ Some r → 0 < r.1
first_or_positive None k later r here there is = there r is
first_or_positive (Some n) k later r here there is =
    subst (λ (s : ℕ × ℕ). 0 < s.1) (same_some (k, n) r is) (here n refl)

in_positive : (refusal : Answer → Option ℕ) (answer : Option Answer) (n : ℕ)
    → ((a : Answer) (m : ℕ) → refusal a ≡ Some m → 0 < m) → refusal_in refusal answer ≡ Some n → 0 < n
in_positive refusal None n positive is = absurd (cc)
in_positive refusal (Some answer) n positive is = positive answer n is

pub first_positive : (refusal : Answer → Option ℕ) (k : ℕ) (answers : List (Option Answer)) (r : ℕ × ℕ)
    → ((answer : Answer) (n : ℕ) → refusal answer ≡ Some n → 0 < n) → first_refusal refusal k answers ≡ Some r → 0 < r.1
first_positive refusal k [] r positive is = absurd (cc)
first_positive refusal k (answer ∷ answers) r positive is =
    first_or_positive (refusal_in refusal answer) k (first_refusal refusal (k + 1) answers) r
    (λ n e. in_positive refusal answer n positive e)
    (λ s e. first_positive refusal (k + 1) answers s positive e) is

write_positive : (place number : ℕ) → 0 < number → 0 < write_number place number
write_positive place number some = some_if (eqb place 0) number _ some (omega arith)

-- ---- the answers for items

-- as many as the items, and the octets are those of the items that were read
abbrev FormItems : List Item → List ItemAnswer → Type 0
FormItems items answers =
    (length (map (λ (item : ItemAnswer). item.code) answers) ≡ length items)
    × (length (flat_map (λ (item : ItemAnswer). item.octets) answers)
    ≡ octets_read items (map (λ (item : ItemAnswer). item.code) answers))

form_none : (b : Bool) (answers : List ItemAnswer) → cond b (Some []) None ≡ Some answers → FormItems [] answers
unfolding octets_read
form_none true answers is = subst (FormItems []) (same_some [] answers is) (refl, refl)
form_none false answers is = absurd (cc)

form_first : (item : Item) (items : List Item) (answer : ItemAnswer) (told : Option (List ItemAnswer))
    (answers : List ItemAnswer)
    → length answer.octets ≡ count_read item answer.code
    → ((others : List ItemAnswer) → told ≡ Some others → FormItems items others)
    → option_map (item_first answer) told ≡ Some answers → FormItems (item ∷ items) answers
unfolding octets_read
form_first item items answer None answers long form is = absurd (cc)
form_first item items answer (Some others) answers long form is =
    let f : FormItems items others = form others refl in
    subst (FormItems (item ∷ items)) (same_some (answer ∷ others) answers is) (
      ap suc f.0,
      length-append answer.octets (flat_map (λ (a : ItemAnswer). a.octets) others)
          ∙ (ap (λ n. n + length (flat_map (λ (a : ItemAnswer). a.octets) others)) long
          ∙ ap (λ n. count_read item answer.code + n) f.1),
    )

form_by : (read refused : Bool) (item : Item) (items : List Item) (one other : ItemAnswer)
    (told untold : Option (List ItemAnswer)) (answers : List ItemAnswer)
    → (read ≡ true → length one.octets ≡ count_read item one.code)
    → (refused ≡ true → length other.octets ≡ count_read item other.code)
    → ((others : List ItemAnswer) → told ≡ Some others → FormItems items others)
    → ((others : List ItemAnswer) → untold ≡ Some others → FormItems items others)
    → cond read (option_map (item_first one) told) (cond refused (option_map (item_first other) untold) None)
    ≡ Some answers
    → FormItems (item ∷ items) answers
form_by true refused item items one other told untold answers long none f g is =
    form_first item items one told answers (long refl) f is
form_by false true item items one other told untold answers long none f g is =
    form_first item items other untold answers (none refl) g is
form_by false false item items one other told untold answers long none f g is = absurd (cc)

front_long : (n pad : ℕ) (body : List ℕ) → 4 + n + pad ≤ length body → length (take n (drop 4 body)) ≡ n
front_long n pad body enough = length-take-le n (drop 4 body) (omega (arith, enough, length-drop 4 body))

read_long : (item : Item) (last : Bool) (body : List ℕ) → begins_read item last body ≡ true
    → length (take (octet_count item) (drop 4 body)) ≡ octet_count item
read_long item last body is =
    let pad : ℕ = padding_of (octet_count item) last in
    let known : Bool = eqb (slice_index body 0) 0xFF && eqb (slice_index body 1) (transport_of item.word) in
    let stated : Bool = eqb (number_at body 2) (stated_length (transport_of item.word) (octet_count item)) in
    let there : Bool = leb (4 + octet_count item + pad) (length body) in
    let outer = and_parts known (stated && there) is in
    let inner = and_parts stated there outer.1 in
    front_long (octet_count item) pad body (leb-true (4 + octet_count item + pad) (length body) inner.1)

refused_none : (b : Bool) (n : ℕ) → not b ≡ true → 0 ≡ cond b n 0
refused_none true n is = absurd (cc)
refused_none false n is = refl

refused_long : (item : Item) (body : List ℕ) → begins_refused body ≡ true → 0 ≡ count_read item (slice_index body 0)
refused_long item body is =
    let outer = and_parts (not (eqb (slice_index body 0) 0xFF) && eqb (slice_index body 1) 0)
    (eqb (number_at body 2) 0 && leb 4 (length body)) is in
    let inner = and_parts (not (eqb (slice_index body 0) 0xFF)) (eqb (slice_index body 1) 0) outer.0 in
    refused_none (eqb (slice_index body 0) 0xFF) (octet_count item) inner.0

form_items : (items : List Item) (body : List ℕ) (answers : List ItemAnswer) → item_answers items body ≡ Some answers
    → FormItems items answers
form_items [] body answers is = form_none (eqb (length body) 0) answers is
form_items (item ∷ items) body answers is =
    let last : Bool = eqb (length items) 0 in
    let later : List ℕ = drop (4 + octet_count item + padding_of (octet_count item) last) body in
    form_by (begins_read item last body) (begins_refused body) item items
    (record { code = 0xFF; octets = take (octet_count item) (drop 4 body) })
    (record { code = slice_index body 0; octets = [] })
    (item_answers items later) (item_answers items (drop 4 body)) answers
    (λ read. read_long item last body read)
    (λ refused. refused_long item body refused)
    (λ others e. form_items items later others e)
    (λ others e. form_items items (drop 4 body) others e)
    is

-- ---- the answers of all questions

read_append : (xs ys : List Item) (cs ds : List ℕ) → length cs ≡ length xs
    → octets_read (xs ++ ys) (cs ++ ds) ≡ octets_read xs cs + octets_read ys ds
unfolding octets_read
read_append [] ys [] ds long = omega arith
read_append [] ys (c ∷ cs) ds long = absurd (omega (arith, long))
read_append (x ∷ xs) ys [] ds long = absurd (omega (arith, long))
read_append (x ∷ xs) ys (c ∷ cs) ds long =
    let rest : octets_read (xs ++ ys) (cs ++ ds) ≡ octets_read xs cs + octets_read ys ds =
    read_append xs ys cs ds (omega (arith, long)) in
    omega (arith, rest)

together : (a b c d : ℕ) (m n : ℕ) → m ≡ a + b → a ≡ c → b ≡ d → n ≡ c + d → m ≡ n
together a b c d m n p q r s = omega (arith, p, q, r, s)

-- groups of items that were all read
many_read : (groups : List (List Item)) (answers : List (Option Answer)) (k : ℕ)
    → FitAll answers (read_questions groups)
    → slice_get (read_questions groups) (length answers) ≡ None → first_refusal telegram_refusal k answers ≡ None
    → (length (codes_told answers) ≡ length (joined groups))
    × (length (octets_told answers) ≡ octets_read (joined groups) (codes_told answers))
unfolding octets_read
many_read [] [] k fit all none = (refl, refl)
many_read [] (answer ∷ answers) k fit all none = absurd fit
many_read (group ∷ groups) [] k fit all none = absurd (cc)
many_read (group ∷ groups) (None ∷ answers) k fit all none = absurd fit
many_read (group ∷ groups) (Some (tells items) ∷ answers) k fit all none =
    let one : FormItems group items = form_items group fit.0.0 items fit.0.1 in
    let rest = many_read groups answers (k + 1) fit.1 all none in
    let codes : List ℕ = map (λ (item : ItemAnswer). item.code) items in
    let octets : List ℕ = flat_map (λ (item : ItemAnswer). item.octets) items in (
      together (length codes) (length (codes_told answers)) (length group) (length (joined groups)) _ _
          (length-append codes (codes_told answers)) one.0 rest.0 (length-append group (joined groups)),
      together (length octets) (length (octets_told answers)) (octets_read group codes)
          (octets_read (joined groups) (codes_told answers)) _ _ (length-append octets (octets_told answers)) one.1
          rest.1 (read_append group (joined groups) codes (codes_told answers) one.0),
    )
many_read (group ∷ groups) (Some (refuses error) ∷ answers) k fit all none = absurd (cc)
many_read (group ∷ groups) (Some _ ∷ answers) k fit all none = absurd fit.0

-- groups of items that were all written
many_written : (groups : List (List Item)) (octets : List ℕ) (answers : List (Option Answer)) (k : ℕ)
    → FitAll answers (write_questions groups octets)
    → slice_get (write_questions groups octets) (length answers) ≡ None
    → first_refusal telegram_refusal k answers ≡ None
    → length (codes_told answers) ≡ length (joined groups)
many_written [] octets [] k fit all none = refl
many_written [] octets (answer ∷ answers) k fit all none = absurd fit
many_written (group ∷ groups) octets [] k fit all none = absurd (cc)
many_written (group ∷ groups) octets (None ∷ answers) k fit all none = absurd fit
many_written (group ∷ groups) octets (Some (notes codes) ∷ answers) k fit all none =
    together (length codes) (length (codes_told answers)) (length group) (length (joined groups)) _ _
    (length-append codes (codes_told answers)) fit.0
    (many_written groups (drop (octet_count_of group) octets) answers (k + 1) fit.1 all none)
    (length-append group (joined groups))
many_written (group ∷ groups) octets (Some (refuses error) ∷ answers) k fit all none = absurd (cc)
many_written (group ∷ groups) octets (Some _ ∷ answers) k fit all none = absurd fit.0

-- parts of an item that were all read
read_by : (b : Bool) (m n : ℕ) → cond b None (Some m) ≡ None → cond b n 0 ≡ n
read_by true m n none = refl
read_by false m n none = absurd (cc)

part_long : (part : Item) (answer : ItemAnswer) → FormItems (part ∷ []) (answer ∷ []) → code_refusal answer.code ≡ None
    → length (flat_map (λ (item : ItemAnswer). item.octets) (answer ∷ [])) ≡ octet_count part
unfolding octets_read
part_long part answer form none =
    let n : ℕ = octet_count part in
    let m : ℕ = count_read part answer.code in
    let same : m ≡ n = read_by (eqb answer.code 0xFF) (number_of_code answer.code) n none in
    let plain : m + 0 ≡ m = omega arith in
    form.1 ∙ (plain ∙ same)

parts_read : (parts : List Item) (answers : List (Option Answer)) (k : ℕ)
    → FitAll answers (read_questions (alone parts))
    → slice_get (read_questions (alone parts)) (length answers) ≡ None → first_refusal part_refusal k answers ≡ None
    → length (octets_told answers) ≡ octet_count_of parts
parts_read [] [] k fit all none = refl
parts_read [] (answer ∷ answers) k fit all none = absurd fit
parts_read (part ∷ parts) [] k fit all none = absurd (cc)
parts_read (part ∷ parts) (None ∷ answers) k fit all none = absurd fit
parts_read (part ∷ parts) (Some (tells []) ∷ answers) k fit all none =
    absurd (omega (arith, (form_items (part ∷ []) fit.0.0 [] fit.0.1).0))
parts_read (part ∷ parts) (Some (tells (item ∷ [])) ∷ answers) k fit all none =
    let both = first_none (code_refusal item.code) k (first_refusal part_refusal (k + 1) answers) none in
    let octets : List ℕ = flat_map (λ (a : ItemAnswer). a.octets) (item ∷ []) in
    together (length octets) (length (octets_told answers)) (octet_count part) (octet_count_of parts) _ _
    (length-append octets (octets_told answers))
    (part_long part item (form_items (part ∷ []) fit.0.0 (item ∷ []) fit.0.1) both.0)
    (parts_read parts answers (k + 1) fit.1 all both.1) refl
parts_read (part ∷ parts) (Some (tells (item ∷ next ∷ items)) ∷ answers) k fit all none =
    absurd (omega (arith, (form_items (part ∷ []) fit.0.0 (item ∷ next ∷ items) fit.0.1).0))
parts_read (part ∷ parts) (Some (refuses error) ∷ answers) k fit all none = absurd (cc)
parts_read (part ∷ parts) (Some _ ∷ answers) k fit all none = absurd fit.0

-- ---- answers fit their questions

-- the telegrams have answers that fit the questions
fit_first : (row : Row) (rows : List Row) (question : Question) (questions : List Question) (answer : Answer)
    → row.answer ≡ Some answer → Fits question answer → FitAll (answers_of rows) questions
    → FitAll (answers_of (row ∷ rows)) (question ∷ questions)
fit_first row rows question questions answer is fits all =
    subst (λ (o : Option Answer). FitAll (o ∷ answers_of rows) (question ∷ questions)) (sym is) (fits, all)

same_first : (x y : Question) (xs ys : List Question) → x ∷ xs ≡ y ∷ ys → (x ≡ y) × (xs ≡ ys)
same_first x y xs ys e = (cc, cc)

fit_all : (questions : List Question) (rows : List Row)
    → map (λ (row : Row). row.question) rows ≡ take (length rows) questions → AllByRecursion HasAnswer rows
    → AllByRecursion IsAnswered rows → FitAll (answers_of rows) questions
fit_all questions [] asked has answered = tt
fit_all [] (row ∷ rows) asked has answered = absurd (cc)
fit_all (question ∷ questions) (row ∷ rows) asked has answered =
    let same = same_first row.question question _ _ asked in
    let told = has.0 answered.0.0 answered.0.1 in
    fit_first row rows question questions answered.0.0 answered.0.1
    (subst (λ (q : Question). Fits q answered.0.0) same.0
    (answer_fits row.question row.number told.0 answered.0.0 told.1))
    (fit_all questions rows same.1 has.1 answered.1)

fit_ended : (conduct : Conduct) (questions : List Question) (rows : List Row) (end : End) (carried : List ℕ)
    → IsEnded conduct rows end carried → RowsFit questions rows → FitAll (answers_of rows) questions
fit_ended conduct questions rows end carried ended fit =
    fit_all questions rows fit.asked fit.answered (all_answered rows ended.answered)

-- What is known of the telegrams of every job: their questions are those of a list, where they come in its order, and
-- the last one asks what comes behind the answers before it, where one is asked at a time.
record AreAsked (conduct : Conduct) (rows : List Row) : Type 0 where
  listed : (questions : List Question) → IsListed conduct questions → RowsFit questions rows
  last : conduct.width ≤ 1 → AsksLast conduct rows

-- ---- ends of plans

refused_formed : (granted : Option Grant) (done : Job) (number : ℕ → ℕ → ℕ) (refused : Option (ℕ × ℕ)) (finished : End)
    → ((r : ℕ × ℕ) → refused ≡ Some r → 0 < number r.0 r.1) → (refused ≡ None → Formed granted done finished)
    → Formed granted done (by_refusal number refused finished)
refused_formed granted done number None finished positive last = last refl
refused_formed granted done number (Some r) finished positive last =
    bare_form granted done (number r.0 r.1) AsItWas (λ e. absurd (omega (arith, e, positive r refl)))

-- the questions of a list
listed_formed : (done : Job) (granted : Grant) (questions : List Question) (refusal : Answer → Option ℕ)
    (number : ℕ → ℕ → ℕ) (finished : List (Option Answer) → End) (rows : List Row) (end : End) (carried : List ℕ)
    → ((r : ℕ × ℕ) → first_refusal refusal 0 (answers_of rows) ≡ Some r → 0 < number r.0 r.1)
    → (FitAll (answers_of rows) questions → first_refusal refusal 0 (answers_of rows) ≡ None
    → slice_get questions (length (answers_of rows)) ≡ None
    → Formed (Some granted) done (finished (answers_of rows)))
    → AreAsked (listed granted questions refusal number finished).conduct rows
    → IsEnded (listed granted questions refusal number finished).conduct rows end carried
    → Formed (Some granted) done end
listed_formed done granted questions refusal number finished rows end carried positive last asked ended =
    let conduct = (listed granted questions refusal number finished).conduct in
    let fit : RowsFit questions rows = asked.listed questions (λ answers. refl) in
    let some : 0 < max 1 granted.jobs = omega arith in
    subst (Formed (Some granted) done) (sym ended.is)
    (refused_formed (Some granted) done number (first_refusal refusal 0 (answers_of rows)) (finished (answers_of rows))
    positive (λ none. last (fit_ended conduct questions rows end carried ended fit) none (ended.last some none)))

good_by : (done : Job) (granted : Option Grant) (check : ℕ) (plan : Plan) (rows : List Row) (end : End)
    (carried : List ℕ) (b : Bool) → eqb check 0 ≡ b
    → (check ≡ 0 → AreAsked plan.conduct rows → IsEnded plan.conduct rows end carried → Formed granted done end)
    → AreAsked (cond b plan (over (number_end check AsItWas))).conduct rows
    → IsEnded (cond b plan (over (number_end check AsItWas))).conduct rows end carried
    → Formed granted done end
good_by done granted check plan rows end carried true is formed asked ended =
    formed (eqb-true check 0 is) asked ended
good_by done granted check plan rows end carried false is formed asked ended =
    subst (Formed granted done) (sym ended.is) (bare_form granted done check AsItWas (eqb-false check 0 is))

-- a job is asked once it was checked
good_formed : (done : Job) (granted : Option Grant) (check : ℕ) (plan : Plan) (rows : List Row) (end : End)
    (carried : List ℕ)
    → (check ≡ 0 → AreAsked plan.conduct rows → IsEnded plan.conduct rows end carried → Formed granted done end)
    → AreAsked (if_good check plan).conduct rows → IsEnded (if_good check plan).conduct rows end carried
    → Formed granted done end
good_formed done granted check plan rows end carried formed asked ended =
    good_by done granted check plan rows end carried (eqb check 0) refl formed asked ended

-- ---- on a connected client

-- an end that gives what was found
found_formed : (granted : Option Grant) (done : Job) (found codes : List ℕ) → FormOf done found codes
    → IsWhole done (good_end found codes) → Formed granted done (good_end found codes)
found_formed granted done found codes form is_all = (((λ e. form), (λ bad. absurd (bad refl))), (λ enough. is_all))

-- an end that gives nothing
nothing_formed : (granted : Option Grant) (done : Job) (leaves : Leaves) → FormOf done [] []
    → IsWhole done (number_end 0 leaves)
    → Formed granted done (number_end 0 leaves)
nothing_formed granted done leaves form is_whole = (((λ e. form), (λ bad. absurd (bad refl))), (λ enough. is_whole))

parts_formed : (item : Item) (granted : Grant) (answers : List (Option Answer)) → check_item item true ≡ 0
    → FitAll answers (read_questions (alone (parts_of item granted.pdu false)))
    → first_refusal part_refusal 0 answers ≡ None
    → slice_get (read_questions (alone (parts_of item granted.pdu false))) (length answers) ≡ None
    → Formed (Some granted) (job.ReadArea item) (good_end (octets_told answers) [])
parts_formed item granted answers good fit none all =
    let parts : List Item = parts_of item granted.pdu false in
    let told = item_checked item true good in
    let split : CanBeSplit item = can_split item told.0 told.1 in (
      ((λ e. refl), (λ bad. absurd (bad refl))),
      (λ enough e. parts_read parts answers 0 fit all none
          ∙ (ap octet_count_of (sym (joined_alone parts))
          ∙ parts_together item granted.pdu false split (enough granted refl))),
    )

items_formed : (items : List Item) (granted : Grant) (answers : List (Option Answer))
    → check_items items true granted.pdu false ≡ 0 → FitAll answers (read_questions (groups_of granted.pdu false items))
    → first_refusal telegram_refusal 0 answers ≡ None
    → slice_get (read_questions (groups_of granted.pdu false items)) (length answers) ≡ None
    → Formed (Some granted) (job.ReadMany items) (good_end (octets_told answers) (codes_told answers))
items_formed items granted answers good fit none all =
    let groups : List (List Item) = groups_of granted.pdu false items in
    let told = items_checked items true granted.pdu false good in
    let right : joined groups ≡ items = (groups_right granted.pdu false items told.4).whole in
    let read = many_read groups answers 0 fit all none in
    let long : length (codes_told answers) ≡ length items = read.0 ∙ ap length right in (
      (
        (λ e. (
          omega (arith, long, ltb-false 20 (length items) told.0),
          long,
          read.1 ∙ ap (λ xs. octets_read xs (codes_told answers)) right,
        )),
        (λ bad. absurd (bad refl)),
      ),
      (λ enough. tt),
    )

written_formed : (items : List Item) (octets : List ℕ) (granted : Grant) (answers : List (Option Answer))
    → check_items items (eqb (length octets) (octet_count_of items)) granted.pdu true ≡ 0
    → FitAll answers (write_questions (groups_of granted.pdu true items) octets)
    → first_refusal telegram_refusal 0 answers ≡ None
    → slice_get (write_questions (groups_of granted.pdu true items) octets) (length answers) ≡ None
    → Formed (Some granted) (job.WriteMany items octets) (good_end [] (codes_told answers))
written_formed items octets granted answers good fit none all =
    let groups : List (List Item) = groups_of granted.pdu true items in
    let told = items_checked items (eqb (length octets) (octet_count_of items)) granted.pdu true good in
    let right : joined groups ≡ items = (groups_right granted.pdu true items told.4).whole in
    let long : length (codes_told answers) ≡ length items =
    many_written groups octets answers 0 fit all none ∙ ap length right in (
      (
        (λ e. (omega (arith, long, ltb-false 20 (length items) told.0), long, refl)),
        (λ bad. absurd (bad refl)),
      ),
      (λ enough. tt),
    )

-- a job that ends with nothing where no answer refuses
nothing_given : (done : Job) (granted : Grant) (conduct : Conduct) (refusal : Answer → Option ℕ) (rows : List Row)
    (end : End) (carried : List ℕ)
    → ((answer : Answer) (n : ℕ) → refusal answer ≡ Some n → 0 < n)
    → ((answers : List (Option Answer)) → conduct.ended answers
    ≡ by_refusal plain_number (first_refusal refusal 0 answers) (good_end [] []))
    → FormOf done [] [] → IsWhole done (good_end [] []) → IsEnded conduct rows end carried
    → Formed (Some granted) done end
nothing_given done granted conduct refusal rows end carried positive ends form is_all ended =
    subst (Formed (Some granted) done) (sym (ended.is ∙ ends (answers_of rows)))
    (refused_formed (Some granted) done plain_number (first_refusal refusal 0 (answers_of rows)) (good_end [] [])
    (λ r e. first_positive refusal 0 (answers_of rows) r positive e)
    (λ none. found_formed (Some granted) done [] [] form is_all))

-- the call of a control
control_formed : (done : Job) (granted : Grant) (control : Control) (rows : List Row) (end : End) (carried : List ℕ)
    → FormOf done [] [] → IsWhole done (good_end [] [])
    → IsEnded (controlling control) rows end carried → Formed (Some granted) done end
control_formed done granted control rows end carried form is_all ended =
    nothing_given done granted (controlling control) (control_refusal control) rows end carried
    (control_positive control) (λ answers. refl) form is_all ended

-- a download
download_formed : (image : List ℕ) (granted : Grant) (room : ℕ) (rows : List Row) (end : End) (carried : List ℕ)
    → IsEnded (downloading image room) rows end carried → Formed (Some granted) (job.Download image) end
download_formed image granted room rows end carried ended =
    nothing_given (job.Download image) granted (downloading image room) download_refusal rows end carried
    download_positive (λ answers. refl) (refl, refl) tt ended

-- an upload gives what the answers brought
upload_formed : (done : Job) (granted : Grant) (name : BlockName) (rows : List Row) (end : End) (carried : List ℕ)
    → ((found : List ℕ) → FormOf done found []) → ((found : List ℕ) → IsWhole done (good_end found []))
    → IsEnded (uploading name) rows end carried → Formed (Some granted) done end
upload_formed done granted name rows end carried form is_all ended =
    let found : List ℕ = octets_brought (answers_of rows) in
    let refused = first_refusal telegram_refusal 0 (answers_of rows) in
    subst (Formed (Some granted) done) (sym ended.is)
    (refused_formed (Some granted) done plain_number refused (good_end found [])
    (λ r e. first_positive telegram_refusal 0 (answers_of rows) r telegram_positive e)
    (λ none. found_formed (Some granted) done found [] (form found) (is_all found)))

-- a data block that is read gives what the answers told, and one that is filled nothing
get_formed : (done : Job) (granted : Grant) (octets : List ℕ) (number : ℕ) (rows : List Row) (end : End)
    (carried : List ℕ)
    → ((found : List ℕ) → FormOf done found []) → ((found : List ℕ) → IsWhole done (good_end found []))
    → IsEnded (getting granted.pdu octets number) rows end carried → Formed (Some granted) done end
get_formed done granted octets number rows end carried form is_all ended =
    let found : List ℕ = octets_told (answers_of rows) in
    let refused = first_refusal part_refusal 0 (answers_of rows) in
    subst (Formed (Some granted) done) (sym ended.is)
    (refused_formed (Some granted) done plain_number refused (good_end found [])
    (λ r e. first_positive part_refusal 0 (answers_of rows) r part_positive e)
    (λ none. found_formed (Some granted) done found [] (form found) (is_all found)))

fill_positive : (answers : List (Option Answer)) (place number : ℕ) → 0 < number → 0 < fill_number answers place number
fill_positive answers place number some =
    some_if (eqb (count_of_data (take place answers)) 0) number _ some (omega arith)

fill_formed : (done : Job) (granted : Grant) (octets : List ℕ) (number value : ℕ) (rows : List Row) (end : End)
    (carried : List ℕ) → FormOf done [] [] → IsWhole done (good_end [] [])
    → IsEnded (filling granted.pdu octets number value) rows end carried → Formed (Some granted) done end
fill_formed done granted octets number value rows end carried form is_all ended =
    let answers = answers_of rows in
    let refused = first_refusal part_refusal 0 answers in
    subst (Formed (Some granted) done) (sym ended.is)
    (refused_formed (Some granted) done (fill_number answers) refused (good_end [] [])
    (λ r e. fill_positive answers r.0 r.1 (first_positive part_refusal 0 answers r part_positive e))
    (λ none. found_formed (Some granted) done [] [] form is_all))

-- user data gives what the answers brought, which is whole
about_formed : (done : Job) (granted : Grant) (subject : Subject) (octets : List ℕ) (rows : List Row) (end : End)
    (carried : List ℕ)
    → ((found : List ℕ) → is_whole subject found ≡ true → FormOf done (drop (lead_of subject) found) [])
    → ((found : List ℕ) → IsWhole done (good_end (drop (lead_of subject) found) []))
    → AreAsked (asking_about subject octets) rows → IsEnded (asking_about subject octets) rows end carried
    → Formed (Some granted) done end
about_formed done granted subject octets rows end carried form is_all asked ended =
    let found : List ℕ = octets_brought (answers_of rows) in
    let refused = first_refusal telegram_refusal 0 (answers_of rows) in
    subst (Formed (Some granted) done) (sym ended.is)
    (refused_formed (Some granted) done plain_number refused (good_end (drop (lead_of subject) found) [])
    (λ r e. first_positive telegram_refusal 0 (answers_of rows) r telegram_positive e)
    (λ none. found_formed (Some granted) done (drop (lead_of subject) found) []
    (form found
    (whole_brought subject octets rows (asked.last (omega arith)) (all_answered rows ended.answered) none
    (ended.last (omega arith) none)))
    (is_all found)))

no_octets : (xs : List ℕ) → eqb (length xs) 0 ≡ true → xs ≡ []
no_octets [] is = refl
no_octets (x ∷ xs) is = absurd (omega (arith, eqb-true (length (x ∷ xs)) 0 is))

connected_formed : (done : Job) (granted : Grant) (rows : List Row) (end : End) (carried : List ℕ)
    → AreAsked (connected_plan done granted).conduct rows
    → IsEnded (connected_plan done granted).conduct rows end carried → Formed (Some granted) done end
connected_formed job.Connect granted rows end carried asked ended =
    subst (Formed (Some granted) job.Connect) (sym ended.is)
    (nothing_formed (Some granted) job.Connect AsItWas (refl, refl) tt)
connected_formed (job.ReadArea item) granted rows end carried asked ended =
    good_formed (job.ReadArea item) (Some granted) (check_item item true) _ rows end carried
    (λ good asked ended. listed_formed (job.ReadArea item) granted _ part_refusal plain_number _ rows end carried
    (λ r e. first_positive part_refusal 0 (answers_of rows) r part_positive e)
    (parts_formed item granted (answers_of rows) good) asked ended) asked ended
connected_formed (job.WriteArea item octets) granted rows end carried asked ended =
    good_formed (job.WriteArea item octets) (Some granted)
    (check_item item (eqb (length octets) (octet_count item))) _ rows end carried
    (λ good asked ended. listed_formed (job.WriteArea item octets) granted _ part_refusal write_number _ rows end
    carried (λ r e. write_positive r.0 r.1 (first_positive part_refusal 0 (answers_of rows) r part_positive e))
    (λ fit none all. nothing_formed (Some granted) (job.WriteArea item octets) AsItWas (refl, refl) tt) asked ended)
    asked ended
connected_formed (job.ReadMany items) granted rows end carried asked ended =
    good_formed (job.ReadMany items) (Some granted) (check_items items true granted.pdu false) _ rows end carried
    (λ good asked ended. listed_formed (job.ReadMany items) granted _ telegram_refusal plain_number _ rows end carried
    (λ r e. first_positive telegram_refusal 0 (answers_of rows) r telegram_positive e)
    (items_formed items granted (answers_of rows) good) asked ended) asked ended
connected_formed (job.WriteMany items octets) granted rows end carried asked ended =
    good_formed (job.WriteMany items octets) (Some granted)
    (check_items items (eqb (length octets) (octet_count_of items)) granted.pdu true) _ rows end carried
    (λ good asked ended. listed_formed (job.WriteMany items octets) granted _ telegram_refusal plain_number _ rows end
    carried (λ r e. first_positive telegram_refusal 0 (answers_of rows) r telegram_positive e)
    (written_formed items octets granted (answers_of rows) good) asked ended) asked ended
connected_formed job.List granted rows end carried asked ended =
    about_formed job.List granted BlockCounts _ rows end carried
    (λ found is. (eqb-true (length found) 28 is, refl)) (λ found. tt) asked ended
connected_formed (job.ListOf kind) granted rows end carried asked ended =
    about_formed (job.ListOf kind) granted BlocksOfKind _ rows end carried
    (λ found is. (eqb-true (length found % 4) 0 is, refl)) (λ found. tt) asked ended
connected_formed (job.Info kind number) granted rows end carried asked ended =
    about_formed (job.Info kind number) granted BlockHead _ rows end carried
    (λ found is. (omega (arith, length-drop 4 found, eqb-true (length found) 40 is), refl)) (λ found. tt) asked ended
connected_formed (job.Upload kind number) granted rows end carried asked ended =
    upload_formed (job.Upload kind number) granted _ rows end carried (λ found. refl) (λ found. tt) ended
connected_formed (job.Download image) granted rows end carried asked ended =
    good_formed (job.Download image) (Some granted) (check_image image) _ rows end carried
    (λ good asked ended. download_formed image granted (image_room granted.pdu) rows end carried ended) asked ended
connected_formed (job.Delete kind number) granted rows end carried asked ended =
    control_formed (job.Delete kind number) granted (control.Delete kind number) rows end carried (refl, refl) tt ended
connected_formed (job.DbGet number) granted rows end carried asked ended =
    get_formed (job.DbGet number) granted _ number rows end carried (λ found. refl) (λ found. tt) ended
connected_formed (job.DbFill number value) granted rows end carried asked ended =
    fill_formed (job.DbFill number value) granted _ number value rows end carried (refl, refl) tt ended
connected_formed (job.Szl id index) granted rows end carried asked ended =
    about_formed (job.Szl id index) granted StatusList _ rows end carried (λ found is. (is, refl)) (λ found. tt) asked
    ended
connected_formed job.ClockRead granted rows end carried asked ended =
    about_formed job.ClockRead granted Clock _ rows end carried (λ found is. (is, refl)) (λ found. tt) asked ended
connected_formed (job.ClockSet moment) granted rows end carried asked ended =
    good_formed (job.ClockSet moment) (Some granted) (check_moment moment) _ rows end carried
    (λ good asked ended. about_formed (job.ClockSet moment) granted ClockSetting _ rows end carried
    (λ found is. (no_octets found is, refl)) (λ found. tt) asked ended) asked ended
connected_formed job.Start granted rows end carried asked ended =
    control_formed job.Start granted control.Start rows end carried (refl, refl) tt ended
connected_formed job.ColdStart granted rows end carried asked ended =
    control_formed job.ColdStart granted control.ColdStart rows end carried (refl, refl) tt ended
connected_formed job.Stop granted rows end carried asked ended =
    control_formed job.Stop granted control.Stop rows end carried (refl, refl) tt ended
connected_formed job.Compress granted rows end carried asked ended =
    control_formed job.Compress granted control.Compress rows end carried (refl, refl) tt ended
connected_formed job.CopyRam granted rows end carried asked ended =
    control_formed job.CopyRam granted control.CopyRam rows end carried (refl, refl) tt ended
connected_formed job.Status granted rows end carried asked ended =
    about_formed job.Status granted RunState _ rows end carried (λ found is. (is, refl)) (λ found. tt) asked ended
connected_formed (job.PasswordSet text) granted rows end carried asked ended =
    good_formed (job.PasswordSet text) (Some granted) (check_password text) _ rows end carried
    (λ good asked ended. about_formed (job.PasswordSet text) granted Password _ rows end carried
    (λ found is. (no_octets found is, refl)) (λ found. tt) asked ended) asked ended
connected_formed job.PasswordClear granted rows end carried asked ended =
    about_formed job.PasswordClear granted PasswordClearing _ rows end carried (λ found is. (no_octets found is, refl))
    (λ found. tt) asked ended
connected_formed job.Disconnect granted rows end carried asked ended =
    subst (Formed (Some granted) job.Disconnect) (sym ended.is)
    (nothing_formed (Some granted) job.Disconnect Disconnected (refl, refl) tt)

-- ---- on a client that isn't connected

grant_formed : (granted : Option Grant) (taken : Option Grant) → Formed granted job.Connect (by_grant taken)
grant_formed granted None = bare_form granted job.Connect _ Closed (λ e. absurd (omega (arith, e)))
grant_formed granted (Some grant) = nothing_formed granted job.Connect (Connected grant) (refl, refl) tt

answer_formed : (granted : Option Grant) (config : Config) (answer : Answer)
    → Formed granted job.Connect (negotiated_by config answer)
answer_formed granted config (grants n) = grant_formed granted (taken_grant config n)
answer_formed granted config _ = grant_formed granted None

negotiated_formed : (granted : Option Grant) (config : Config) (answers : List (Option Answer))
    → Formed granted job.Connect (negotiated config answers)
negotiated_formed granted config [] = grant_formed granted None
negotiated_formed granted config (None ∷ answers) = grant_formed granted None
negotiated_formed granted config (Some answer ∷ answers) = answer_formed granted config answer

not_connected : (done : Job) → Formed None done (number_end 0x00010000 Disconnected)
not_connected done = bare_form None done 0x00010000 Disconnected (λ e. absurd (omega (arith, e)))

unconnected_formed : (done : Job) (config : Config) (answers : List (Option Answer))
    → Formed None done ((unconnected_plan done config).conduct.ended answers)
unconnected_formed job.Connect config answers = negotiated_formed None config answers
unconnected_formed done config answers = not_connected done

-- ---- each end

plan_formed : (done : Job) (config : Config) (granted : Option Grant) (rows : List Row) (end : End) (carried : List ℕ)
    → AreAsked (plan_of done config granted).conduct rows
    → IsEnded (plan_of done config granted).conduct rows end carried → Formed granted done end
plan_formed done config None rows end carried asked ended =
    subst (Formed None done) (sym ended.is) (unconnected_formed done config (answers_of rows))
plan_formed done config (Some granted) rows end carried asked ended =
    connected_formed done granted rows end carried asked ended

over_formed : (origin : Origin) (rows : List Row) (end : End) (carried : List ℕ) → AreAsked (conduct_of origin) rows
    → IsEnded (conduct_of origin) rows end carried ⊎ IsFaulted end → Formed origin.granted origin.job end
over_formed origin rows end carried asked (inl ended) =
    plan_formed origin.job origin.config origin.granted rows end carried asked ended
over_formed origin rows end carried asked (inr fault) =
    subst (Formed origin.granted origin.job) (sym fault.2)
    (bare_form origin.granted origin.job fault.0 Closed fault.1)

course_asked : (origin : Origin) (b : List ℕ) → AreAsked (conduct_of origin) (course origin b).rows
course_asked origin b = record {
  listed = λ questions listed. rows_fit origin questions listed b;
  last = λ one. course_last origin one b;
}

ends_formed : (origin : Origin) (b : List ℕ) (end : End) (carried : List ℕ)
    → (course origin b).awaits ≡ for_nothing end carried → Formed origin.granted origin.job end
ends_formed origin b end carried is =
    over_formed origin (course origin b).rows end carried (course_asked origin b) (course_over origin b end carried is)

pub octets_have_form : (origin : Origin) (b : List ℕ) (end : End) (carried : List ℕ)
    → (course origin b).awaits ≡ for_nothing end carried → HasForm origin.job end
octets_have_form origin b end carried is = (ends_formed origin b end carried is).0

-- where a PDU of at least 64 was granted, one item is read whole
pub octets_are_whole : (origin : Origin) (b : List ℕ) (end : End) (carried : List ℕ)
    → ForSome origin.granted (λ (grant : Grant). 64 ≤ grant.pdu) → (course origin b).awaits ≡ for_nothing end carried
    → IsWhole origin.job end
octets_are_whole origin b end carried enough is = (ends_formed origin b end carried is).1 enough

-- ---- once a disconnect request was transmitted

departed_formed : (done : Job) (end : End) → (done ≡ job.Disconnect) × (departed_end ≡ end)
    → (done ≡ job.Disconnect) × HasForm done end
departed_formed done end h =
    let formed = (nothing_formed None job.Disconnect Disconnected (refl, refl) tt).0 in
    (h.0, subst (HasForm done) h.1 (subst (λ j. HasForm j departed_end) (sym h.0) formed))

-- only a disconnect transmits a disconnect request, and its end has its form
pub departure_has_form : (origin : Origin) (b : List ℕ) → (course origin b).awaits ≡ for_departure
    → (origin.job ≡ job.Disconnect) × HasForm origin.job ((conduct_of origin).ended [])
departure_has_form origin b is =
    departed_formed origin.job ((conduct_of origin).ended [])
    (plan_leaves origin.job origin.config origin.granted (course_leaves origin b is).0)

pub fault_has_form : (done : Job) (code : ℕ) → code ≢ 0 → HasForm done (fault_end code)
fault_has_form done code bad = (bare_form None done code Closed bad).0
