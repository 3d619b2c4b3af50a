-- The rule of the table, and what each step shows. Word 0 counts the tickets that were drawn, and word 1 those that
-- were served, both modulo 2 ^ 64. The slot holds the machine. The other words are for seats that sleep, and the rule
-- doesn't restrict them.
use Rattle.std.specs.Prelude.{◌≡◌, ◌≢◌, ℕ, ◌+◌, ◌%◌, ◌^◌, ◌<◌, ◌≤◌, ◌⊎◌, true, false, ltb, if◌then◌else◌, List, [], ◌∷◌, ◌++◌, length, Option, Some, None, is_some}
use Rattle.std.specs.Option.{option_or}
use mathlib.Core.Option.{some, none}
use mathlib.Core.Option as maybe
use lib.ListN.{get_elem?}
use Rattle.atomic_table.specs.Table.{State, Me, Step}
use Rattle.atomic_table.specs.Seated.{TableId}
use Rattle.s7_turn.specs.declared.view.Entry.{Entry}
use Rattle.s7_turn.specs.declared.view.Note.{Note}
use Rattle.s7_turn.specs.declared.view.Stage.{Stage}
use Rattle.s7_turn.specs.declared.view.Stage.TheVariants.{Idle, Waits, Called, Took, Entered, Gave, Joined}
use Rattle.s7_turn.specs.declared.view.View.{View}
use Rattle.s7_turn.specs.Histories.{has, Each, Agrees, AddedBy, calls}

-- the greatest number of callers
abbrev pub most : ℕ
most = 1048576

-- 36 words and one slot
abbrev pub IsSized : TableId → Type 0
IsSized z = (z.words ≡ 36) × (z.slots ≡ 1)

-- the sum of f over a list
abbrev pub total : {V : Type 0} → (V → ℕ) → List V → ℕ
total f [] = 0
total f (v ∷ vs) = f v + total f vs

-- the place of the machine: at rest in the slot, out with the seat whose turn it is, or back with a longer history
pub data Phase (R : Type 0) : Type 0 where
  rests : Phase R
  out : Phase R
  back : List (Entry R) → Phase R

module _ {R : Type 0} where
  -- 1 for a seat with a ticket
  abbrev pub tickets_of : Stage R → ℕ
  tickets_of Idle = 0
  tickets_of (Waits t) = 1
  tickets_of (Called t) = 1
  tickets_of (Took t h) = 1
  tickets_of (Entered t h) = 1
  tickets_of (Gave t h) = 1
  tickets_of (Joined a b) = 0

  -- of two seats, the one that has seen less of the history agrees with what the other has seen, and at most one hands
  -- out numbers
  pub record Match (a b : Note R) : Type 0 where
    pub first : length a.seen ≤ length b.seen → Agrees a.seen a.callers b.seen
    pub second : length b.seen ≤ length a.seen → Agrees b.seen b.callers a.seen
    pub one_gives : a.gives ≡ true → b.gives ≡ false

  -- what a joined seat recorded of one of its two seats still agrees with the past, since it represents that seat's
  -- callers
  pub record Noted (past : List (Entry R)) (callers : List ℕ) (n : Note R) : Type 0 where
    pub agrees : Agrees n.seen n.callers past
    pub within : (x : ℕ) → has n.callers x ≡ true → has callers x ≡ true

-- the numbers of the rule: tickets drawn and served, the seat of each ticket, the place of the machine, and the past
-- history
pub record Turn (R : Type 0) : Type 0 where
  pub drawn : ℕ
  pub served : ℕ
  pub owner : ℕ → ℕ
  pub phase : Phase R
  pub past : List (Entry R)

-- the callers: their number, the seat that represents each, and the seat that hands out numbers
pub record Crowd : Type 0 where
  pub count : ℕ
  pub seat_of : ℕ → ℕ
  pub giver : ℕ

module _ {R A : Type 0} where
  -- a seat with a ticket: the ticket is its own, and it represents its caller
  pub record Queued (w : Turn R) (seat : ℕ) (v : View R A) (t : ℕ) : Type 0 where
    pub from : w.served ≤ t
    pub below : t < w.drawn
    pub own : w.owner t ≡ seat
    pub stands : has v.callers v.caller ≡ true

  abbrev pub Knows : Turn R → ℕ → View R A → Stage R → Type 0
  Knows w seat v Idle = Unit {0}
  Knows w seat v (Waits t) = Queued w seat v t × (t ≡ w.served → w.phase ≡ rests)
  Knows w seat v (Called t) = Queued w seat v t × (t ≡ w.served) × (w.phase ≡ rests)
  Knows w seat v (Took t h) = Queued w seat v t × (t ≡ w.served) × (w.phase ≡ out) × (h ≡ w.past)
  Knows w seat v (Entered t h) = Queued w seat v t × (t ≡ w.served) × (w.phase ≡ out) × AddedBy v.caller w.past h
  Knows w seat v (Gave t h) = Queued w seat v t × (t ≡ w.served) × (w.phase ≡ back h) × AddedBy v.caller w.past h
  Knows w seat v (Joined a b) = Match a b × Noted w.past v.callers a × Noted w.past v.callers b

  -- what is left of a seat that was joined to another
  abbrev pub IsSpent : View R A → Type 0
  IsSpent v = (v.callers ≡ []) × (v.origin ≡ None)

  pub record SeatOk (w : Turn R) (c : Crowd) (o : A) (seat : ℕ) (v : View R A) : Type 0 where
    pub agrees : Agrees v.seen v.callers w.past
    pub stands : (x : ℕ) → has v.callers x ≡ true → (x < c.count) × (c.seat_of x ≡ seat)
    pub gives : (n : ℕ) → v.next ≡ Some n → (n ≡ c.count) × (c.giver ≡ seat)
    pub origin : (v.origin ≡ Some o) ⊎ IsSpent v
    pub knows : Knows w seat v v.stage

module _ {B R A : Type 0} (From : B → A → Type 0) (history : B → List (Entry R)) where
  -- the machine is in the slot, with this history
  abbrev pub Holds : A → List (maybe.Option (Option B)) → List (Entry R) → Type 0
  Holds o hs h = (b : B) × (hs ≡ some (Some b) ∷ []) × (history b ≡ h) × From b o

  abbrev pub Home : A → List (maybe.Option (Option B)) → List (Entry R) → Phase R → Type 0
  Home o hs past rests = Holds o hs past
  Home o hs past out = hs ≡ none ∷ []
  Home o hs past (back h) = Holds o hs h

  pub record Kept (o : A) (s : State (Option B) (View R A)) : Type 0 where
    pub turn : Turn R
    pub crowd : Crowd
    pub others : List ℕ
    pub words_are : s.words ≡ (turn.drawn % 2 ^ 64) ∷ (turn.served % 2 ^ 64) ∷ others
    pub home : Home o s.homes turn.past turn.phase
    pub empty : turn.drawn ≡ turn.served → turn.phase ≡ rests
    pub waiting : total (λ v. tickets_of v.stage) s.views + turn.served ≡ turn.drawn
    pub seated : total (λ v. length v.callers) s.views ≡ crowd.count
    pub few : crowd.count ≤ most
    pub numbered : Each (λ e. e.caller < crowd.count) turn.past
    pub each_seat : (j : ℕ) (v : View R A) → get_elem? s.views j ≡ some v → SeatOk turn crowd o j v

abbrev pub next_or_0 : Option ℕ → ℕ
next_or_0 (Some n) = n
next_or_0 None = 0

module _ {R : Type 0} where
  abbrev pub longer : List (Entry R) → List (Entry R) → List (Entry R)
  longer xs ys = if ltb (length xs) (length ys) then ys else xs

  abbrev pub ticket_of : Stage R → ℕ
  ticket_of Idle = 0
  ticket_of (Waits t) = t
  ticket_of (Called t) = t
  ticket_of (Took t h) = t
  ticket_of (Entered t h) = t
  ticket_of (Gave t h) = t
  ticket_of (Joined a b) = 0

  abbrev pub left_by : Stage R → List (Entry R)
  left_by (Entered t h) = h
  left_by (Gave t h) = h
  left_by _ = []

module _ {R A : Type 0} where
  abbrev pub at_stage : View R A → Stage R → View R A
  at_stage v st = record v { stage = st }

  -- the view of the first seat
  abbrev pub opener : A → View R A
  opener o = record { caller = 0; callers = 0 ∷ []; seen = []; next = Some 1; origin = Some o; stage = Idle }

  abbrev pub gave_number : View R A → View R A
  gave_number v = record v { next = Some (next_or_0 v.next + 1) }

  abbrev pub newcomer : View R A → View R A
  newcomer v = record { caller = next_or_0 v.next; callers = next_or_0 v.next ∷ []; seen = v.seen; next = None; origin = v.origin; stage = Idle }

  abbrev pub note_of : View R A → Note R
  note_of v = record { seen = v.seen; callers = v.callers; gives = is_some v.next }

  -- two seats joined
  abbrev pub joined : View R A → View R A → View R A
  joined v w = record { caller = v.caller; callers = v.callers ++ w.callers; seen = longer v.seen w.seen; next = option_or v.next w.next; origin = v.origin; stage = Joined (note_of v) (note_of w) }

  abbrev pub nobody : View R A
  nobody = record { caller = 0; callers = []; seen = []; next = None; origin = None; stage = Idle }

abbrev Sat : Type 0 → Type 0 → Type 0 → Type 0
Sat B R A = Me (Option B) (View R A)

module _ {B R A : Type 0} where
  abbrev pub drew : Step (Option B) → Sat B R A → ℕ → Sat B R A → Type 0
  drew st m found m' = (t : ℕ) × (found ≡ t % 2 ^ 64) × (m' ≡ (at_stage m.0 (Waits t), m.1))

  abbrev pub looked : Step (Option B) → Sat B R A → ℕ → Sat B R A → Type 0
  looked st m found m' = let t = ticket_of m.0.stage in (found ≡ t % 2 ^ 64 → m' ≡ (at_stage m.0 (Called t), m.1))
      × (found ≢ t % 2 ^ 64 → m' ≡ m)

  abbrev pub advanced : Step (Option B) → Sat B R A → ℕ → Sat B R A → Type 0
  advanced st m found m' = m' ≡ (record m.0 { seen = left_by m.0.stage; stage = Idle }, m.1)

  -- the machine is put back
  abbrev pub gave : Step (Option B) → Sat B R A → ℕ → Sat B R A → Type 0
  gave st m found m' = m' ≡ (at_stage m.0 (Gave (ticket_of m.0.stage) (left_by m.0.stage)), [])

  -- a word for seats that sleep shows nothing
  abbrev pub rang : Step (Option B) → Sat B R A → ℕ → Sat B R A → Type 0
  rang st m found m' = m' ≡ m

  abbrev pub compared : Step (Option B) → Sat B R A → ℕ → Sat B R A → Type 0
  compared st m found m' = (m' ≡ (at_stage m.0 Idle, m.1)) × ((a b : Note R) → m.0.stage ≡ Joined a b → Match a b)
      × ((n x : ℕ) → m.0.next ≡ Some n → has m.0.callers x ≡ true → x < n)
      × ((n x : ℕ) → m.0.next ≡ Some n → n ≤ x → calls x m.0.seen ≡ [])

module _ {B R A : Type 0} (From : B → A → Type 0) (history : B → List (Entry R)) where
  -- the machine is taken; its history agrees with what the seat has seen
  abbrev pub took : Step (Option B) → Sat B R A → ℕ → Sat B R A → Type 0
  took st m found m' = (b : B) × (m' ≡ (at_stage m.0 (Took (ticket_of m.0.stage) (history b)), (0, Some b) ∷ m.1))
      × Agrees m.0.seen m.0.callers (history b) × ((x : A) → m.0.origin ≡ Some x → From b x)
      × ((n : ℕ) → m.0.next ≡ Some n → Each (λ e. e.caller < n) (history b))

module _ {B R A : Type 0} (history : B → List (Entry R)) where
  -- the entry is recorded, while the machine is still out
  abbrev pub entered : Step (Option B) → Sat B R A → ℕ → Sat B R A → Type 0
  entered st m found m' = (h : List (Entry R)) × (m' ≡ (at_stage m.0 (Entered (ticket_of m.0.stage) h), m.1))
      × ((b : B) → m.1 ≡ (0, Some b) ∷ [] → h ≡ history b)
