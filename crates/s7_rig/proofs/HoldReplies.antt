-- Replies of a plant to user data, to controls and to the start of an upload that refuse nothing.
use Rattle.std.proofs.Common.{◌≡◌, inl, inr, ℕ, ◌&&◌, Bool, true, false, not, cond, eqb, Option, None, Some, List, []}
use Rattle.std.proofs.Common.{refl, ap, sym, ◌∙◌}
use Rattle.std.specs.Prelude.{IsSome, is_some, option_map}
use Rattle.std.proofs.lemmas.Bool.{eq-eqb}
use Rattle.s7_header.specs.Octets.{number_at}
use Rattle.s7_header.proofs.OctetLemmas.{two_of_number}
use Rattle.s7_clock.specs.declared.control.Control.{Control}
use Rattle.s7_clock.specs.declared.control.Control.TheVariants as control
use Rattle.s7_szl.specs.Images.{image_with}
use Rattle.s7_szl.specs.Tables.{Table, directory, identification, components, communication, protection, mode, table_of}
use Rattle.s7_area.specs.declared.guard.Guard.{Guard}
use Rattle.s7_area.specs.Memory.{Memory}
use Rattle.s7_plant.specs.Answers.{answer, guarded, listed, controlled, service_function}
use Rattle.s7_plant.specs.declared.request.Request.{Request}
use Rattle.s7_plant.specs.declared.request.Request.TheVariants as plain
use Rattle.s7_plant.specs.Replies.{Said, said}
use Rattle.s7_plant.specs.State.{State}
use Rattle.s7_dialogue.specs.declared.questions.subject.Subject.{Subject}
use Rattle.s7_dialogue.specs.declared.questions.subject.Subject.TheVariants.{StatusList, RunState, BlockCounts, Clock, ClockSetting}
use Rattle.s7_dialogue.specs.Answer.{brings, uploads, refuses}
use Rattle.s7_dialogue.specs.Refusals.{control_refusal, telegram_refusal}
use Rattle.s7_dialogue.specs.Dialogue.{list_octets}
use Rattle.s7_dialogue.proofs.FlightLemmas.{same_some}
use Rattle.s7_rig.specs.Complete.{IsAllowed}
use Rattle.s7_rig.specs.Exchanges.{AsksFor, control_heard, user_heard, upload_heard, request_of}
use Rattle.s7_rig.proofs.ShapeLemmas.{SameShape}

-- ---- status lists

-- the list that is told, where the last of them is this one
abbrev told_table : Bool → Bool → Bool → Bool → Bool → Bool → Table → Option Table
told_table a b c d e f last =
    cond a (Some directory) (cond b (Some identification) (cond c (Some components)
    (cond d (Some communication) (cond e (Some protection) (cond f (Some last) None)))))

told_either : (a b c d e f : Bool) (one other : Table) → IsSome (told_table a b c d e f one)
    → IsSome (told_table a b c d e f other)
told_either true b c d e f one other there = refl
told_either false true c d e f one other there = refl
told_either false false true d e f one other there = refl
told_either false false false true e f one other there = refl
told_either false false false false true f one other there = refl
told_either false false false false false true one other there = refl
told_either false false false false false false one other there = absurd (cc)

-- a list that there is while the controller runs is there while it doesn't
table_stays : (id index : ℕ) (running : Bool) → IsSome (table_of id index true) → IsSome (table_of id index running)
unfolding table_of
table_stays id index true there = there
table_stays id index false there =
    told_either (eqb id 0 && eqb index 0) (eqb id 0x11 && eqb index 0) (eqb id 0x1C && eqb index 0)
    (eqb id 0x131 && eqb index 1) (eqb id 0x232 && eqb index 4) (eqb id 0x424 && eqb index 0) (mode true)
    (mode false) there

listed_good : (id index : ℕ) (table : Option Table) → IsSome table
    → (listed (option_map (image_with id index) table)).error ≡ 0
listed_good id index None there = absurd (cc)
listed_good id index (Some table) there = refl

-- the reply to a list that there is has no error
pub list_good : (id index : ℕ) (s : State) (right : Bool) → IsSome (table_of id index true)
    → (answer s right (plain.Szl id index)).error ≡ 0
list_good id index s right there =
    listed_good id index (table_of id index s.running) (table_stays id index s.running there)

-- the request of a list is for the id and the index that its octets name
pub list_asked : (id index : ℕ)
    → plain.Szl (number_at (list_octets id index) 0) (number_at (list_octets id index) 2) ≡ plain.Szl id index
list_asked id index =
    ap (λ n. plain.Szl n (number_at (list_octets id index) 2)) (two_of_number id)
    ∙ ap (plain.Szl id) (two_of_number index)

-- the list that tells whether the controller runs is there
pub mode_there : IsSome (table_of 0x0424 0 true)
unfolding table_of
mode_there = refl

-- ---- where no guard is, or a right

unguarded : (right : Bool) (guard : Option Guard) → guard ≡ None → (not right && is_some guard) ≡ false
unguarded true guard none = refl
unguarded false guard none = ap is_some none

-- nothing is barred
abbrev IsUnbarred : Memory → Bool → Type 0
IsUnbarred n right = (not right && is_some n.guard) ≡ false

-- what is allowed with one right is so with another that is there where that one is
unbarred : (n : Memory) (right other : Bool) → IsAllowed n right → (right ≡ true → other ≡ true) → IsUnbarred n other
unbarred n right other (inl none) has = unguarded other n.guard none
unbarred n right other (inr is) has = ap (λ r. not r && is_some n.guard) (has is)

allowed : (s : State) (right : Bool) (n : Memory) (reply : Said) → SameShape s.memory n → IsUnbarred n right
    → guarded s right reply ≡ reply
allowed s right n reply same free =
    ap (λ b. cond b (said 0xD241 [] []) reply) (ap (λ g. not right && is_some g) same.guard ∙ free)

set_good : (s : State) (right : Bool) (n : Memory) (moment value : ℕ) → SameShape s.memory n → IsUnbarred n right
    → (answer s right (plain.ClockSet moment value)).error ≡ 0
set_good s right n moment value same free =
    ap (λ (reply : Said). reply.error) (allowed s right n (said 0 [] []) same free)

-- ---- what is heard of a good reply

brought_by : (b more : Bool) (octet error : ℕ) (octets : List ℕ) → b ≡ true
    → telegram_refusal (cond b (brings octet more octets) (refuses error)) ≡ None
brought_by true more octet error octets good = refl
brought_by false more octet error octets good = absurd (cc)

-- user data isn't refused
pub user_good : (pdu octet : ℕ) (reply : Said) → reply.error ≡ 0 → telegram_refusal (user_heard pdu octet reply) ≡ None
user_good pdu octet reply good =
    brought_by (eqb reply.error 0) _ octet reply.error _ (eq-eqb reply.error 0 good)

started_by : (b : Bool) (id size error : ℕ) → b ≡ true
    → telegram_refusal (cond b (uploads id size) (refuses error)) ≡ None
started_by true id size error good = refl
started_by false id size error good = absurd (cc)

-- the start of an upload isn't refused
pub start_good : (id : ℕ) (reply : Said) → reply.error ≡ 0 → telegram_refusal (upload_heard id reply) ≡ None
start_good id reply good = started_by (eqb reply.error 0) id _ reply.error (eq-eqb reply.error 0 good)

-- a control that was done isn't refused
pub control_good : (c : Control) (function : ℕ) (reply : Said) → reply ≡ controlled function 0
    → control_refusal c (control_heard reply) ≡ None
control_good c function reply done = ap (λ r. control_refusal c (control_heard r)) done

-- ---- what a job asks for

-- Whatever this asks for, with a right where there is one, a state of the memory's shape replies without an error.
abbrev pub IsGood : Memory → Bool → Subject → List ℕ → Type 0
IsGood n right subject octets =
    (moment : ℕ) (own : Bool) (request : Request) (s : State) → AsksFor subject octets moment request
    → SameShape s.memory n → (right ≡ true → own ≡ true) → (answer s own request).error ≡ 0

good_as : (s : State) (right : Bool) (asked request : Request) → asked ≡ request → (answer s right request).error ≡ 0
    → (answer s right asked).error ≡ 0
good_as s right asked request is good = ap (λ r. (answer s right r).error) is ∙ good

pub lists_good : (n : Memory) (right : Bool) (id index : ℕ) → IsSome (table_of id index true)
    → IsGood n right StatusList (list_octets id index)
lists_good n right id index there = λ moment own request s asked same has.
    good_as s own request (plain.Szl id index) (asked ∙ list_asked id index) (list_good id index s own there)

pub mode_good : (n : Memory) (right : Bool) → IsGood n right RunState (list_octets 0x0424 0)
mode_good n right = λ moment own request s asked same has.
    good_as s own request (plain.Szl 0x0424 0) (asked ∙ list_asked 0x0424 0) (list_good 0x0424 0 s own mode_there)

pub counts_good : (n : Memory) (right : Bool) → IsGood n right BlockCounts []
counts_good n right = λ moment own request s asked same has. good_as s own request plain.ListAll asked refl

pub clock_good : (n : Memory) (right : Bool) → IsGood n right Clock []
clock_good n right = λ moment own request s asked same has. good_as s own request (plain.ClockRead moment) asked refl

pub setting_good : (n : Memory) (right : Bool) (octets : List ℕ) → IsAllowed n right
    → IsGood n right ClockSetting octets
setting_good n right octets can = λ moment own request s asked same has.
    good_as s own request (plain.ClockSet moment asked.0) asked.2
    (set_good s own n moment asked.0 same (unbarred n right own can has))

-- Whatever the control asks for, with a right where there is one, a state of the memory's shape replies that it was
-- done.
abbrev pub IsDoneAs : Memory → Bool → Control → ℕ → Type 0
IsDoneAs n right c function =
    (own : Bool) (request : Request) (s : State) → request_of c ≡ Some request → SameShape s.memory n
    → (right ≡ true → own ≡ true) → answer s own request ≡ controlled function 0

done_as : (s : State) (right : Bool) (n : Memory) (request asked : Request) → Some asked ≡ Some request
    → answer s right asked ≡ guarded s right (controlled service_function 0) → SameShape s.memory n
    → IsUnbarred n right → answer s right request ≡ controlled service_function 0
done_as s right n request asked is guards same free =
    ap (answer s right) (sym (same_some asked request is))
    ∙ (guards ∙ allowed s right n (controlled service_function 0) same free)

pub compress_done : (n : Memory) (right : Bool) → IsAllowed n right
    → IsDoneAs n right control.Compress service_function
compress_done n right can = λ own request s is same has.
    done_as s own n request plain.Compress is refl same (unbarred n right own can has)

pub copy_done : (n : Memory) (right : Bool) → IsAllowed n right → IsDoneAs n right control.CopyRam service_function
copy_done n right can = λ own request s is same has.
    done_as s own n request plain.CopyRam is refl same (unbarred n right own can has)
