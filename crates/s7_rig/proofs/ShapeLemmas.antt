-- What is asked of a plant leaves which items stand in its areas, and how they are guarded.
use Rattle.std.proofs.Common.{◌≡◌, ℕ, ◌&&◌, Bool, true, false, cond, eqb, not, List, [], ◌∷◌, length, take, get_or}
use Rattle.std.proofs.Common.{refl, sym, ap, ◌∙◌}
use Rattle.std.specs.Prelude.{replicate}
use Rattle.std.specs.List.{AllByRecursion}
use Rattle.std.proofs.Math.Seq.{take-length}
use Rattle.std.proofs.lemmas.Bool.{eq-eqb}
use Rattle.std.proofs.lemmas.List.{length-replicate}
use Rattle.s7_item.specs.declared.item.Item.{Item}
use Rattle.s7_item.specs.declared.places.DataPlace.{DataPlace}
use Rattle.s7_item.specs.Item.{octet_count}
use Rattle.s7_item.specs.DataItem.{octets_at}
use Rattle.s7_area.specs.Guards.{is_read_barred, is_write_barred}
use Rattle.s7_area.specs.Memory.{Memory, place_code, put_code, read_code, write_code, written}
use Rattle.s7_turn.specs.declared.view.Entry.{Entry as Call}
use Rattle.s7_turn.specs.Histories.{replay}
use Rattle.s7_plant.specs.declared.request.Ask.{Ask}
use Rattle.s7_plant.specs.declared.request.Request.{Request}
use Rattle.s7_plant.specs.declared.request.Request.TheVariants.{Read, Write, Szl, ClockRead, ClockSet}
use Rattle.s7_plant.specs.declared.request.Request.TheVariants.{Start, Stop, Compress, CopyRam, ListAll, ListOf, Info}
use Rattle.s7_plant.specs.declared.request.Request.TheVariants.{StartUpload, Insert, Delete}
use Rattle.s7_plant.specs.Answers.{answer_of, write_all, is_barred, changed, after, takes_block}
use Rattle.s7_plant.specs.Journals.{after_call}
use Rattle.s7_plant.specs.Replies.{Said}
use Rattle.s7_plant.specs.State.{State}
use Rattle.s7_plant.proofs.CodeLemmas.{codes_in_turn}
use Rattle.s7_session.specs.Books.{History}
use Rattle.s7_rig.specs.Split.{state_at}

-- ---- memories of the same shape

-- two memories have the same guard, and every item has the same place in both, or the same code for having none
pub record SameShape (m n : Memory) : Type 0 where
  pub guard : m.guard ≡ n.guard
  pub places : (item : Item) → place_code m item ≡ place_code n item

-- each reply is the one that a state gives to what was asked, whose memory has the shape of this one
abbrev pub AreShaped : Memory → List (Ask × Said) → Type 0
AreShaped m entries =
    AllByRecursion (λ (e : Ask × Said). (s : State) × SameShape s.memory m × (e.1 ≡ answer_of s e.0)) entries

-- and where there is a right, it was asked with one
abbrev pub AreAllowed : Memory → Bool → List (Ask × Said) → Type 0
AreAllowed m right entries =
    AllByRecursion (λ (e : Ask × Said). (s : State) × SameShape s.memory m × (e.1 ≡ answer_of s e.0)
    × (right ≡ true → e.0.right ≡ true)) entries

itself : (m : Memory) → SameShape m m
itself m = record { guard = refl; places = λ item. refl }

then_same : (l m n : Memory) → SameShape l m → SameShape m n → SameShape l n
then_same l m n one two =
    record { guard = one.guard ∙ two.guard; places = λ item. one.places item ∙ two.places item }

-- a read has the same code in both
pub read_code_same : (m n : Memory) (right : Bool) (item : Item) → SameShape m n
    → read_code m right item ≡ read_code n right item
unfolding read_code
read_code_same m n right item same =
    ap (λ g. cond (is_read_barred g right) 3 (place_code m item)) same.guard
    ∙ ap (cond (is_read_barred n.guard right) 3) (same.places item)

-- and so has a write of any octets
pub write_code_same : (m n : Memory) (right : Bool) (item : Item) (octets : List ℕ) → SameShape m n
    → write_code m right item octets ≡ write_code n right item octets
unfolding write_code
write_code_same m n right item octets same =
    let put : ℕ → ℕ = λ code. cond (eqb code 255 && not (eqb (length octets) (octet_count item))) 7 code in
    ap (λ g. cond (is_write_barred g right) 3 (put_code m item octets)) same.guard
    ∙ ap (λ code. cond (is_write_barred n.guard right) 3 (put code)) (same.places item)

-- ---- codes of places

counted : (b counts : Bool) (code : ℕ) → counts ≡ true → cond (b && not counts) 7 code ≡ code
counted true true code is = refl
counted true false code is = absurd (cc)
counted false counts code is = refl

allowed : (barred : Bool) (code : ℕ) → barred ≡ false → cond barred 3 code ≡ code
allowed true code is = absurd (cc)
allowed false code is = refl

-- the code of a write that nothing bars, of as many octets as the item has, is that of its place
pub write_code_placed : (m : Memory) (right : Bool) (item : Item) (octets : List ℕ)
    → is_write_barred m.guard right ≡ false → length octets ≡ octet_count item
    → write_code m right item octets ≡ place_code m item
unfolding write_code
write_code_placed m right item octets free whole =
    allowed (is_write_barred m.guard right) (put_code m item octets) free
    ∙ counted (eqb (place_code m item) 255) (eqb (length octets) (octet_count item)) (place_code m item)
    (eq-eqb (length octets) (octet_count item) whole)

-- the code of a read that nothing bars is that of its place
pub read_code_placed : (m : Memory) (right : Bool) (item : Item) → is_read_barred m.guard right ≡ false
    → read_code m right item ≡ place_code m item
unfolding read_code
read_code_placed m right item free = allowed (is_read_barred m.guard right) (place_code m item) free

-- ---- what one write leaves

kept_guard : (b : Bool) (m n : Memory) → n.guard ≡ m.guard → (cond b n m).guard ≡ m.guard
kept_guard true m n same = same
kept_guard false m n same = refl

guard_written : (m : Memory) (right : Bool) (item : Item) (octets : List ℕ)
    → (written m right item octets).guard ≡ m.guard
unfolding written
guard_written m right item octets = kept_guard _ m _ refl

-- as many octets as the item has, in some data, and their place there
abbrev zeros : Item → List ℕ
zeros item = replicate (octet_count item) 0

abbrev read_place : Item → DataPlace
read_place item = record { transport = 0; from = 0; len = length (zeros item) }

abbrev whole_of : Item → List ℕ
whole_of item = octets_at (zeros item) (read_place item)

length-whole : (item : Item) → length (whole_of item) ≡ octet_count item
length-whole item = ap length (take-length (zeros item)) ∙ length-replicate (octet_count item) 0

write_again : (m : Memory) (item other : Item) (octets : List ℕ)
    → write_code (written m true item octets) true other (whole_of other) ≡ write_code m true other (whole_of other)
write_again m item other octets =
    ap (λ codes. get_or codes 0 0)
    (codes_in_turn m true item octets (other ∷ []) (read_place other ∷ []) (zeros other))

place_with_right : (m : Memory) (item other : Item) (octets : List ℕ)
    → place_code (written m true item octets) other ≡ place_code m other
place_with_right m item other octets =
    sym (write_code_placed (written m true item octets) true other (whole_of other) refl (length-whole other))
    ∙ (write_again m item other octets
    ∙ write_code_placed m true other (whole_of other) refl (length-whole other))

-- without a right it is the same write, or none
place_by : (barred : Bool) (m next : Memory) (code : ℕ) (other : Item)
    → place_code (cond (eqb code 255) next m) other ≡ place_code m other
    → place_code (cond (eqb (cond barred 3 code) 255) next m) other ≡ place_code m other
place_by true m next code other same = refl
place_by false m next code other same = same

place_written : (m : Memory) (right : Bool) (item : Item) (octets : List ℕ) (other : Item)
    → place_code (written m right item octets) other ≡ place_code m other
unfolding written write_code
place_written m right item octets other =
    place_by (is_write_barred m.guard right) m _ (put_code m item octets) other (place_with_right m item other octets)

pub written_same : (m : Memory) (right : Bool) (item : Item) (octets : List ℕ)
    → SameShape (written m right item octets) m
written_same m right item octets =
    record { guard = guard_written m right item octets; places = place_written m right item octets }

-- ---- what requests leave

pub write_all_same : (m : Memory) (right : Bool) (items : List Item) (places : List DataPlace) (octets : List ℕ)
    → SameShape (write_all m right items places octets) m
write_all_same m right [] places octets = itself m
write_all_same m right (item ∷ items) [] octets = itself m
write_all_same m right (item ∷ items) (place ∷ places) octets =
    let own = octets_at octets place in
    let next = written m right item own in
    then_same _ next m (write_all_same next right items places octets) (written_same m right item own)

kept_memory : (barred : Bool) (s next : State) → SameShape next.memory s.memory
    → SameShape (cond barred s next).memory s.memory
kept_memory true s next same = itself s.memory
kept_memory false s next same = same

inserted_memory : (taken : Bool) (s next : State) → SameShape next.memory s.memory
    → SameShape (cond taken next s).memory s.memory
inserted_memory true s next same = same
inserted_memory false s next same = itself s.memory

pub changed_same : (s : State) (right : Bool) (request : Request)
    → SameShape (changed s right request).memory s.memory
changed_same s right (Read items) = itself s.memory
changed_same s right (Write items places octets) = write_all_same s.memory right items places octets
changed_same s right (Szl id index) = itself s.memory
changed_same s right (ClockRead moment) = itself s.memory
changed_same s right (ClockSet moment value) = kept_memory (is_barred s right) s _ (itself s.memory)
changed_same s right (Start cold) = kept_memory (is_barred s right) s _ (itself s.memory)
changed_same s right Stop = kept_memory (is_barred s right) s _ (itself s.memory)
changed_same s right Compress = itself s.memory
changed_same s right CopyRam = itself s.memory
changed_same s right ListAll = itself s.memory
changed_same s right (ListOf kind) = itself s.memory
changed_same s right (Info kind number) = itself s.memory
changed_same s right (StartUpload kind number) = itself s.memory
changed_same s right (Insert kind number image spare) =
    kept_memory (is_barred s right) s _ (inserted_memory (takes_block s kind number) s _ (itself s.memory))
changed_same s right (Delete kind number) = kept_memory (is_barred s right) s _ (itself s.memory)

-- whatever is asked, with a right or without
pub after_same : (s : State) (ask : Ask) → SameShape (after s ask).memory s.memory
after_same s ask = changed_same s ask.right ask.request

pub replayed_same : (s : State) (calls : List (Call Ask)) → SameShape (replay after_call s calls).memory s.memory
replayed_same s [] = itself s.memory
replayed_same s (call ∷ calls) =
    let next = after_call s call in
    then_same _ next.memory s.memory (replayed_same next calls) (after_same s call.request)

-- ---- at a place in a history

pub state_same : (opening : State) (history : History) (number : ℕ)
    → SameShape (state_at opening history number).memory opening.memory
state_same opening history number = replayed_same opening (take number history)

-- a read has at each place the code that it has in the beginning
pub read_code_at : (opening : State) (history : History) (number : ℕ) (right : Bool) (item : Item)
    → read_code (state_at opening history number).memory right item ≡ read_code opening.memory right item
read_code_at opening history number right item =
    read_code_same (state_at opening history number).memory opening.memory right item
    (state_same opening history number)

-- and so has a write
pub write_code_at :
    (opening : State) (history : History) (number : ℕ) (right : Bool) (item : Item) (octets : List ℕ)
    → write_code (state_at opening history number).memory right item octets
    ≡ write_code opening.memory right item octets
write_code_at opening history number right item octets =
    write_code_same (state_at opening history number).memory opening.memory right item octets
    (state_same opening history number)
