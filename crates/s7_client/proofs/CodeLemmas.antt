-- Octets end jobs with other codes than those of a link.
use Rattle.std.proofs.Common.{◌≡◌, ℕ, ◌+◌, Bool, true, false, cond, eqb, leb, ltb, Option, Some, None, List, [], ◌∷◌, length, take, refl, subst}
use Rattle.std.specs.Prelude.{◌&&◌, ◌||◌, not, Result, Ok, Err}
use Rattle.std.specs.List.{list_all}
use Rattle.s7_item.specs.declared.item.Item.{Item}
use Rattle.s7_item.specs.Item.{octet_count}
use Rattle.s7_split.specs.Groups.{packed_of}
use Rattle.s7_split.specs.declared.packing.PackFault.{PackFault}
use Rattle.s7_wire.specs.Bounds.{size_of_code}
use Rattle.s7_block.specs.Heads.{head_agrees}
use Rattle.s7_clock.specs.Moment.{first_moment, last_moment}
use Rattle.s7_clock.specs.declared.control.Control.{Control}
use Rattle.s7_clock.specs.declared.control.Control.TheVariants as control
use Rattle.s7_dialogue.specs.declared.config.Config.{Config}
use Rattle.s7_dialogue.specs.declared.grant.Grant.{Grant}
use Rattle.s7_dialogue.specs.declared.job.Job.{Job}
use Rattle.s7_dialogue.specs.declared.job.Job.TheVariants as job
use Rattle.s7_dialogue.specs.Downloads.{name_in}
use Rattle.s7_dialogue.specs.Answer.{Answer, grants, notes, refuses, stands, tells}
use Rattle.s7_dialogue.specs.Checks.{check_image, check_item, check_items, check_moment, check_password, is_known, is_placed, octet_count_of, pack_check}
use Rattle.s7_dialogue.specs.Refusals.{code_refusal, control_refusal, download_refusal, number_of_code, number_of_error, number_of_status, part_refusal, telegram_refusal}
use Rattle.s7_dialogue.specs.Dialogue.{End, First, Plan, by_grant, by_refusal, connect_request, connected_plan, count_of_data, disconnect_request, fill_number, first_or, first_refusal, negotiated, negotiated_by, nothing, over, plain_number, plan_of, refusal_in, taken_grant, unconnected_plan, write_number}
use Rattle.s7_dialogue.specs.Course.{Awaits, Course, Origin, asked_on, asking, begun, blank, by_first, conduct_of, course, for_answers, for_confirm, for_departure, for_nothing}
use Rattle.s7_dialogue.specs.Flight.{answers_of, open_count}
use Rattle.s7_client.specs.Causes.{is_of_link}
use Rattle.s7_client.proofs.HeldLemmas.{IsHeld, course_held}

abbrev IsOther : ℕ → Type 0
IsOther code = is_of_link code ≡ false

either : (b : Bool) (x y : ℕ) → IsOther x → IsOther y → IsOther (cond b x y)
either true x y p q = p
either false x y p q = q

-- ---- refusals

error_other : (error : ℕ) → IsOther (number_of_error error)
error_other error =
    either (eqb error 0x8500) _ _ refl (either (eqb error 0xD209) _ _ refl (either (eqb error 0xDC01) _ _ refl
    (either (eqb error 0x8104) _ _ refl (either (eqb error 0xD241) _ _ refl (either (eqb error 0xD602) _ _ refl
    (either (eqb error 0xD604 || eqb error 0xD605) _ _ refl refl))))))

code_other : (code : ℕ) → IsOther (number_of_code code)
code_other code =
    either (eqb code 0x05) _ _ refl (either (eqb code 0x06) _ _ refl (either (eqb code 0x07) _ _ refl
    (either (eqb code 0x0A) _ _ refl refl)))

status_other : (control : Control) (status : ℕ) → IsOther (number_of_status control status)
status_other control.Start status = either (eqb status 2) _ _ refl refl
status_other control.ColdStart status = either (eqb status 2) _ _ refl refl
status_other control.Stop status = either (eqb status 7) _ _ refl refl
status_other _ status = refl

-- a refusal, if there is one, has such a number
abbrev IsOtherIn : Option ℕ → Type 0
IsOtherIn None = Unit {0}
IsOtherIn (Some n) = IsOther n

unless : (b : Bool) (n : ℕ) → IsOther n → IsOtherIn (cond b None (Some n))
unless true n is = tt
unless false n is = is

telegram_other : (answer : Answer) → IsOtherIn (telegram_refusal answer)
telegram_other (refuses error) = error_other error
telegram_other _ = tt

item_other : (code : ℕ) → IsOtherIn (code_refusal code)
item_other code = unless (eqb code 0xFF) (number_of_code code) (code_other code)

part_other : (answer : Answer) → IsOtherIn (part_refusal answer)
part_other (refuses error) = error_other error
part_other (tells []) = tt
part_other (tells (item ∷ [])) = item_other item.code
part_other (tells (item ∷ next ∷ items)) = tt
part_other (notes []) = tt
part_other (notes (code ∷ [])) = item_other code
part_other (notes (code ∷ next ∷ codes)) = tt
part_other _ = tt

control_other : (control : Control) (answer : Answer) → IsOtherIn (control_refusal control answer)
control_other control (refuses error) = error_other error
control_other control (stands status) =
    unless (eqb status 0) (number_of_status control status) (status_other control status)
control_other control _ = tt

download_other : (answer : Answer) → IsOtherIn (download_refusal answer)
download_other (refuses error) = error_other error
download_other (stands status) = unless (eqb status 0) _ refl
download_other _ = tt

-- the first refusal, if there is one, has such a number
abbrev IsOtherAt : Option (ℕ × ℕ) → Type 0
IsOtherAt None = Unit {0}
IsOtherAt (Some r) = IsOther r.1

first_by : (o : Option ℕ) (place : ℕ) (later : Option (ℕ × ℕ)) → IsOtherIn o → IsOtherAt later
    → IsOtherAt (first_or o place later)
first_by None place later is rest = rest
first_by (Some n) place later is rest = is

in_other : (refusal : Answer → Option ℕ) → ((a : Answer) → IsOtherIn (refusal a)) → (answer : Option Answer)
    → IsOtherIn (refusal_in refusal answer)
in_other refusal each None = tt
in_other refusal each (Some answer) = each answer

first_other : (refusal : Answer → Option ℕ) → ((a : Answer) → IsOtherIn (refusal a)) → (place : ℕ)
    → (answers : List (Option Answer)) → IsOtherAt (first_refusal refusal place answers)
first_other refusal each place [] = tt
first_other refusal each place (answer ∷ answers) =
    first_by (refusal_in refusal answer) place (first_refusal refusal (place + 1) answers)
    (in_other refusal each answer) (first_other refusal each (place + 1) answers)

-- an end by the first refusal, or by what was found
refused_other : (number : ℕ → ℕ → ℕ) → ((place n : ℕ) → IsOther n → IsOther (number place n))
    → (refused : Option (ℕ × ℕ)) (finished : End) → IsOtherAt refused → IsOther finished.code
    → IsOther (by_refusal number refused finished).code
refused_other number each None finished is rest = rest
refused_other number each (Some r) finished is rest = each r.0 r.1 is

write_other : (place n : ℕ) → IsOther n → IsOther (write_number place n)
write_other place n is = either (eqb place 0) n _ is refl

fill_other : (answers : List (Option Answer)) (place n : ℕ) → IsOther n → IsOther (fill_number answers place n)
fill_other answers place n is = either (eqb (count_of_data (take place answers)) 0) n _ is refl

-- ---- checks

pack_other : (packed : Result Unit PackFault) → IsOther (pack_check packed)
pack_other (Ok p) = refl
pack_other (Err fault) = refl

one_other : (item : Item) (enough : Bool) → IsOther (check_item item enough)
one_other item enough =
    either (not (is_known item)) _ _ refl (either (not (is_placed item && enough)) _ _ refl refl)

all_other : (items : List Item) (enough : Bool) (pdu : ℕ) (write : Bool) → IsOther (check_items items enough pdu write)
all_other items enough pdu write =
    either (ltb 20 (length items)) _ _ refl (either (not (list_all is_known items)) _ _ refl
    (either (not (list_all is_placed items && enough)) _ _ refl (pack_other (packed_of pdu write items))))

-- ---- plans

-- each end of a plan has another code
abbrev EndsOther : Plan → Type 0
EndsOther plan = (answers : List (Option Answer)) → IsOther (plan.conduct.ended answers).code

checked_by : (b : Bool) (plan : Plan) (end : End) → EndsOther plan → IsOther end.code → EndsOther (cond b plan (over end))
checked_by true plan end each is = each
checked_by false plan end each is = λ answers. is

plain_other : (refusal : Answer → Option ℕ) → ((a : Answer) → IsOtherIn (refusal a)) → (finished : End)
    → (answers : List (Option Answer)) → IsOther finished.code
    → IsOther (by_refusal plain_number (first_refusal refusal 0 answers) finished).code
plain_other refusal each finished answers is =
    refused_other plain_number (λ place n other. other) (first_refusal refusal 0 answers) finished
    (first_other refusal each 0 answers) is

connected_other : (done : Job) (granted : Grant) → EndsOther (connected_plan done granted)
connected_other job.Connect granted = λ answers. refl
connected_other (job.ReadArea item) granted =
    checked_by (eqb (check_item item true) 0) _ _ (λ answers. plain_other part_refusal part_other _ answers refl)
    (one_other item true)
connected_other (job.WriteArea item octets) granted =
    let enough : Bool = eqb (length octets) (octet_count item) in
    checked_by (eqb (check_item item enough) 0) _ _
    (λ answers. refused_other write_number write_other (first_refusal part_refusal 0 answers) _
    (first_other part_refusal part_other 0 answers) refl)
    (one_other item enough)
connected_other (job.ReadMany items) granted =
    checked_by (eqb (check_items items true granted.pdu false) 0) _ _
    (λ answers. plain_other telegram_refusal telegram_other _ answers refl) (all_other items true granted.pdu false)
connected_other (job.WriteMany items octets) granted =
    let enough : Bool = eqb (length octets) (octet_count_of items) in
    checked_by (eqb (check_items items enough granted.pdu true) 0) _ _
    (λ answers. plain_other telegram_refusal telegram_other _ answers refl) (all_other items enough granted.pdu true)
connected_other job.List granted = λ answers. plain_other telegram_refusal telegram_other _ answers refl
connected_other (job.ListOf kind) granted = λ answers. plain_other telegram_refusal telegram_other _ answers refl
connected_other (job.Info kind number) granted = λ answers. plain_other telegram_refusal telegram_other _ answers refl
connected_other (job.Upload kind number) granted = λ answers. plain_other telegram_refusal telegram_other _ answers refl
connected_other (job.Download image) granted =
    checked_by (eqb (check_image image) 0) _ _
    (λ answers. plain_other download_refusal download_other _ answers refl)
    (either (head_agrees image (name_in image).kind (name_in image).number) _ _ refl refl)
connected_other (job.Delete kind number) granted =
    λ answers. plain_other (control_refusal (control.Delete kind number)) (control_other (control.Delete kind number)) _
    answers refl
connected_other (job.DbGet number) granted = λ answers. plain_other part_refusal part_other _ answers refl
connected_other (job.DbFill number value) granted =
    λ answers. refused_other (fill_number answers) (fill_other answers) (first_refusal part_refusal 0 answers) _
    (first_other part_refusal part_other 0 answers) refl
connected_other (job.Szl id index) granted = λ answers. plain_other telegram_refusal telegram_other _ answers refl
connected_other job.ClockRead granted = λ answers. plain_other telegram_refusal telegram_other _ answers refl
connected_other (job.ClockSet moment) granted =
    checked_by (eqb (check_moment moment) 0) _ _
    (λ answers. plain_other telegram_refusal telegram_other _ answers refl)
    (either (leb first_moment moment && leb moment last_moment) _ _ refl refl)
connected_other job.Start granted =
    λ answers. plain_other (control_refusal control.Start) (control_other control.Start) _ answers refl
connected_other job.ColdStart granted =
    λ answers. plain_other (control_refusal control.ColdStart) (control_other control.ColdStart) _ answers refl
connected_other job.Stop granted =
    λ answers. plain_other (control_refusal control.Stop) (control_other control.Stop) _ answers refl
connected_other job.Compress granted =
    λ answers. plain_other (control_refusal control.Compress) (control_other control.Compress) _ answers refl
connected_other job.CopyRam granted =
    λ answers. plain_other (control_refusal control.CopyRam) (control_other control.CopyRam) _ answers refl
connected_other job.Status granted = λ answers. plain_other telegram_refusal telegram_other _ answers refl
connected_other (job.PasswordSet text) granted =
    checked_by (eqb (check_password text) 0) _ _
    (λ answers. plain_other telegram_refusal telegram_other _ answers refl)
    (either (ltb 0 (length text) && leb (length text) 8) _ _ refl refl)
connected_other job.PasswordClear granted = λ answers. plain_other telegram_refusal telegram_other _ answers refl
connected_other job.Disconnect granted = λ answers. refl

grant_other : (taken : Option Grant) → IsOther (by_grant taken).code
grant_other None = refl
grant_other (Some granted) = refl

answer_other : (config : Config) (answer : Answer) → IsOther (negotiated_by config answer).code
answer_other config (grants n) = grant_other (taken_grant config n)
answer_other config _ = refl

negotiated_other : (config : Config) (answers : List (Option Answer)) → IsOther (negotiated config answers).code
negotiated_other config [] = refl
negotiated_other config (None ∷ answers) = refl
negotiated_other config (Some answer ∷ answers) = answer_other config answer

unconnected_other : (done : Job) (config : Config) → EndsOther (unconnected_plan done config)
unconnected_other job.Connect config answers = negotiated_other config answers
unconnected_other done config answers = refl

plan_other : (done : Job) (config : Config) (granted : Option Grant) → EndsOther (plan_of done config granted)
plan_other done config None = unconnected_other done config
plan_other done config (Some granted) = connected_other done granted

-- ---- courses

abbrev EndsOtherwise : Awaits → Type 0
EndsOtherwise for_confirm = Unit {0}
EndsOtherwise for_answers = Unit {0}
EndsOtherwise for_departure = Unit {0}
EndsOtherwise (for_nothing end carried) = IsOther end.code

settled_other : (b : Bool) (end : End) → IsOther end.code → EndsOtherwise (cond b (for_nothing end []) for_answers)
settled_other true end is = is
settled_other false end is = tt

asking_other : (origin : Origin) (c : Course) → EndsOtherwise (asking (conduct_of origin) c).awaits
asking_other origin c =
    let conduct = conduct_of origin in
    let rows = (asked_on conduct.width conduct c).rows in
    settled_other (eqb (open_count rows) 0) (conduct.ended (answers_of rows))
    (plan_other origin.job origin.config origin.granted (answers_of rows))

begun_by : (origin : Origin) (first : First)
    → EndsOtherwise (by_first origin.config (conduct_of origin) (blank origin) first).awaits
begun_by origin nothing = asking_other origin (blank origin)
begun_by origin connect_request = tt
begun_by origin disconnect_request = tt

begun_other : (origin : Origin) → EndsOtherwise (begun origin).awaits
unfolding begun
begun_other origin = begun_by origin (plan_of origin.job origin.config origin.granted).first

held_other : (origin : Origin) → IsHeld (conduct_of origin) (λ (c : Course). EndsOtherwise c.awaits)
held_other origin = record {
  faulted = λ c code carried is p. is.otherwise;
  joined = λ c unfinished p. p;
  confirmed = λ c code p. asking_other origin (record c { size = size_of_code code });
  answered = λ c message rows is p. asking_other origin (record c { rows = rows });
}

course_other : (origin : Origin) (b : List ℕ) → EndsOtherwise (course origin b).awaits
course_other origin b =
    course_held origin (λ (c : Course). EndsOtherwise c.awaits) (held_other origin) (begun_other origin) b

pub octets_other : (origin : Origin) (b : List ℕ) (end : End) (carried : List ℕ)
    → (course origin b).awaits ≡ for_nothing end carried → is_of_link end.code ≡ false
octets_other origin b end carried is = subst EndsOtherwise is (course_other origin b)

pub departure_other : (origin : Origin) (b : List ℕ) → (course origin b).awaits ≡ for_departure
    → is_of_link ((conduct_of origin).ended []).code ≡ false
departure_other origin b is = plan_other origin.job origin.config origin.granted []
