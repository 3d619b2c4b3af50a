-- Lemmas on what jobs ask: negotiations, reads and writes.
use Rattle.std.proofs.Common.{◌≡◌, ℕ, Bool, true, false, Some, List, [], ◌∷◌, ◌++◌, map, drop, refl, sym, ap, ◌∙◌, subst, append_assoc}
use Rattle.std.specs.List.{AllByRecursion}
use Rattle.std.proofs.lemmas.List.{map-append}
use Rattle.s7_item.specs.declared.item.Item.{Item}
use Rattle.s7_dialogue.specs.declared.config.Config.{Config}
use Rattle.s7_dialogue.specs.declared.job.Job.{Job}
use Rattle.s7_dialogue.specs.declared.job.Job.TheVariants as job
use Rattle.s7_dialogue.specs.declared.answers.answer.Asked.TheVariants as asked
use Rattle.s7_dialogue.specs.declared.answers.answer.Answer as kept
use Rattle.s7_dialogue.specs.declared.stages.flight.Flight.{Flight}
use Rattle.s7_dialogue.specs.declared.stages.asking.Asking.{Asking}
use Rattle.s7_dialogue.specs.Question.{Question, negotiates, reads, writes}
use Rattle.s7_dialogue.specs.Answer.{Answer}
use Rattle.s7_dialogue.specs.Told.{Tells}
use Rattle.s7_dialogue.specs.Flight.{Row}
use Rattle.s7_dialogue.specs.Checks.{octet_count_of}
use Rattle.s7_dialogue.specs.Dialogue.{read_questions, write_questions}
use Rattle.s7_dialogue.specs.Asks.{asked_of, items_of, questions_behind, Asks}
use Rattle.s7_dialogue.specs.GoesOn.{questions_of, brings_octets, asks_groups, FitsQuestion}
use Rattle.s7_dialogue.specs.Taking.{question_for, Taken, rows_with}
use Rattle.s7_dialogue.proofs.EndLemmas.{AsksItems}
use Rattle.s7_dialogue.proofs.KeepLemmas.{asked_by}
use Rattle.s7_dialogue.proofs.TakenLemmas.{tells_fit}

-- ---- which jobs ask what

-- a job that asks so
abbrev pub MayAsk : Job → Question → Type 0
MayAsk done (negotiates n) = done ≡ job.Connect
MayAsk done (reads items) = (brings_octets done ≡ true) × (asks_groups done ≡ true)
MayAsk done (writes items octets) = asks_groups done ≡ true
MayAsk done _ = ⊥

all_read : (done : Job) (groups : List (List Item)) → brings_octets done ≡ true → asks_groups done ≡ true
    → AllByRecursion (MayAsk done) (read_questions groups)
all_read done [] brings asks = tt
all_read done (group ∷ groups) brings asks = ((brings, asks), all_read done groups brings asks)

all_written : (done : Job) (groups : List (List Item)) (octets : List ℕ) → asks_groups done ≡ true
    → AllByRecursion (MayAsk done) (write_questions groups octets)
all_written done [] octets asks = tt
all_written done (group ∷ groups) octets asks =
    (asks, all_written done groups (drop (octet_count_of group) octets) asks)

all_asked : (config : Config) (done : Job) (groups : List (List Item))
    → AllByRecursion (MayAsk done) (questions_of config done groups)
all_asked config job.Connect groups = (refl, tt)
all_asked config (job.ReadArea item) groups = all_read (job.ReadArea item) groups refl refl
all_asked config (job.WriteArea item octets) groups = all_written (job.WriteArea item octets) groups octets refl
all_asked config (job.ReadMany items) groups = all_read (job.ReadMany items) groups refl refl
all_asked config (job.WriteMany items octets) groups = all_written (job.WriteMany items octets) groups octets refl
all_asked config _ groups = tt

one_of : {A : Type 0} (P : A → Type 0) (xs ys zs : List A) (y : A) → zs ≡ xs ++ y ∷ ys → AllByRecursion P zs → P y
one_of P [] ys zs y is each = (subst (AllByRecursion P) is each).0
one_of P (x ∷ xs) ys zs y is each = one_of P xs ys (xs ++ y ∷ ys) y refl (subst (AllByRecursion P) is each).1

-- the question of a telegram is one of its job
pub may_ask_with : (config : Config) (done : Job) (groups : List (List Item)) (front back : List Row) (row : Row)
    (x : Answer) (a : Asking)
    → Asks config done (questions_of config done groups) (rows_with front row back x) a → MayAsk done row.question
may_ask_with config done groups front back row x a asks =
    let f = λ (r : Row). r.question in
    let later = questions_behind config done a.from a.left in
    one_of (MayAsk done) (map f front) (map f back ++ later) (questions_of config done groups) row.question
    (asks.whole
    ∙ (ap (λ qs. qs ++ later) (map-append f front (record row { answer = Some x } ∷ back))
    ∙ append_assoc (map f front) (row.question ∷ map f back) later))
    (all_asked config done groups)

-- ---- the question of a telegram, by what is kept of it

reads_same : (xs ys : List Item) → asked.Read xs ≡ asked.Read ys → xs ≡ ys
reads_same xs ys is = cc

writes_same : (xs ys : List Item) → asked.Write xs ≡ asked.Write ys → xs ≡ ys
writes_same xs ys is = cc

pub question_by : (question : Question) (write : Bool) (items : List Item) → asked_of question ≡ asked_by write items
    → (octets : List ℕ) × (question ≡ question_for write items octets)
question_by (reads others) true items is = absurd (cc)
question_by (reads others) false items is = ([], ap reads (reads_same others items is))
question_by (writes others octets) true items is = (octets, ap (λ xs. writes xs octets) (writes_same others items is))
question_by (writes others octets) false items is = absurd (cc)
question_by _ true items is = absurd (cc)
question_by _ false items is = absurd (cc)

pub items_for : (write : Bool) (items : List Item) (octets : List ℕ)
    → items_of (question_for write items octets) ≡ items
items_for true items octets = refl
items_for false items octets = refl

pub asks_items : (write : Bool) (items : List Item) (octets : List ℕ) → AsksItems (question_for write items octets)
asks_items true items octets = tt
asks_items false items octets = tt

groups_for : (done : Job) (write : Bool) (items : List Item) (octets : List ℕ)
    → MayAsk done (question_for write items octets)
    → asks_groups done ≡ true
groups_for done true items octets may = may
groups_for done false items octets may = may.1

-- What is known of a telegram for items that was answered.
pub record IsNoted (done : Job) (write : Bool) (items : List Item) (row : Row) (t : kept.Answer) (x : Answer) : Type 0
  where
    pub octets : List ℕ
    pub question : row.question ≡ question_for write items octets
    pub tells : Tells (question_for write items octets) t x
    pub groups : asks_groups done ≡ true
    pub may : MayAsk done (question_for write items octets)
    pub fits : FitsQuestion (question_for write items octets) x

pub noted_of : (config : Config) (done : Job) (groups : List (List Item)) (rows : List Row) (flight : Flight)
    (t : kept.Answer) (a : Asking) (write : Bool) (items : List Item)
    → (taken : Taken rows flight t) → flight.asked ≡ asked_by write items
    → Asks config done (questions_of config done groups) (rows_with taken.front taken.row taken.back taken.answer) a
    → IsNoted done write items taken.row t taken.answer
noted_of config done groups rows flight t a write items taken is asks =
    let row = taken.row in
    let q = question_by row.question write items (ap (λ (f : Flight). f.asked) (sym taken.kept) ∙ is) in
    let may : MayAsk done (question_for write items q.0) =
    subst (MayAsk done) q.1 (may_ask_with config done groups taken.front taken.back row taken.answer a asks) in
    let telling : Tells (question_for write items q.0) t taken.answer =
    subst (λ (p : Question). Tells p t taken.answer) q.1 taken.tells in
    record {
      octets = q.0;
      question = q.1;
      tells = telling;
      groups = groups_for done write items q.0 may;
      may = may;
      fits = tells_fit (question_for write items q.0) t taken.answer telling;
    }
