-- Lemmas on what can be asked.
use Rattle.std.proofs.Common.{◌≡◌, ℕ, ◌+◌, ◌≤◌, Bool, true, false, leb, List, [], ◌∷◌, length, refl, sym, ap, ◌∙◌, arith, Option, Some, None, ◌++◌}
use Rattle.std.specs.Prelude.{◌&&◌, IfSome, IfNone}
use Rattle.std.specs.List.{list_all}
use Rattle.std.proofs.lemmas.Bool.{and_parts, and_from, le-leb, leb-true}
use Rattle.std.proofs.lemmas.List.{length-append}
use Rattle.std.proofs.lemmas.List.Folds.{list_all-append}
use Rattle.s7_item.specs.declared.item.Item.{Item}
use Rattle.s7_dialogue.specs.declared.job.Job.{Job}
use Rattle.s7_dialogue.specs.declared.answers.answer.Asked.{Asked}
use Rattle.s7_dialogue.specs.declared.stages.flight.Flight.{Flight}
use Rattle.s7_dialogue.specs.declared.questions.left.Left.{Left}
use Rattle.s7_dialogue.specs.declared.questions.left.Left.TheVariants as left
use Rattle.s7_dialogue.specs.declared.stages.asking.Asking.{Asking}
use Rattle.s7_dialogue.specs.declared.stages.running.Stage.TheVariants as stage
use Rattle.s7_dialogue.specs.Checks.{octet_count_of}
use Rattle.s7_dialogue.specs.Left.{joined, groups_in, questions_left, items_asked, TakesNext}
use Rattle.s7_dialogue.specs.Stages.{octets_of, is_alone, is_sendable, can_ask, can_ask_all, can_fly, has_places, is_ready}
use Rattle.s7_dialogue.specs.Asks.{Spot, AsksNext, TakesFirst}
use Rattle.s7_dialogue.proofs.GoingLemmas.{IsLess, takes_less}
use Rattle.s7_dialogue.proofs.GroupLemmas.{octet_count_append}
use Rattle.s7_dialogue.specs.declared.answers.answer.Answer as kept
use Rattle.s7_dialogue.specs.declared.stages.running.Stage.TheVariants as stage
use Rattle.s7_dialogue.specs.declared.stages.running.Running.{Running}

pub split_ask : (each within places : Bool) → (each && (within && places)) ≡ true
    → (each ≡ true) × (within ≡ true) × (places ≡ true)
split_ask true true true is = (refl, refl, refl)
split_ask false within places is = absurd (cc)
split_ask true false places is = absurd (cc)
split_ask true true false is = absurd (cc)

-- the first of what can be asked and the others
first_asked : (alone write : Bool) (from room : ℕ) (gs hs : List (List Item)) (items : List Item) → gs ≡ items ∷ hs
    → (list_all (is_sendable alone write) gs && leb (from + octet_count_of (joined gs)) room) ≡ true
    → ((is_sendable alone write items && leb (from + octet_count_of items) room) ≡ true)
    × ((list_all (is_sendable alone write) hs && leb (from + octet_count_of items + octet_count_of (joined hs)) room)
    ≡ true)
first_asked alone write from room gs hs items is can =
    let all = and_parts (list_all (is_sendable alone write) gs) (leb (from + octet_count_of (joined gs)) room) can in
    let each = and_parts (is_sendable alone write items) (list_all (is_sendable alone write) hs)
    (ap (list_all (is_sendable alone write)) (sym is) ∙ all.0) in
    let sum : octet_count_of (joined gs) ≡ octet_count_of items + octet_count_of (joined hs) =
    ap (λ xs. octet_count_of (joined xs)) is ∙ octet_count_append items (joined hs) in
    let within : from + octet_count_of (joined gs) ≤ room =
    leb-true (from + octet_count_of (joined gs)) room all.1 in (
      and_from (is_sendable alone write items) (leb (from + octet_count_of items) room) each.0
          (le-leb (from + octet_count_of items) room (omega (arith, within, sum))),
      and_from (list_all (is_sendable alone write) hs)
          (leb (from + octet_count_of items + octet_count_of (joined hs)) room) each.1
          (le-leb (from + octet_count_of items + octet_count_of (joined hs)) room (omega (arith, within, sum))),
    )

pub can_next : (job : Job) (found from : ℕ) (before after : Left) (told : Asked) → TakesNext before told after
    → can_ask_all job found from before ≡ true
    → (can_ask job found from told ≡ true)
    × (can_ask_all job found (from + octet_count_of (items_asked told)) after ≡ true)
can_next job found from left.Nothing after told takes can = absurd takes
can_next job found from left.Negotiation after told takes can = (
  ap (can_ask job found from) takes.0,
  ap (can_ask_all job found (from + octet_count_of (items_asked told)))
      takes.1,
)
can_next job found from (left.Reads grouped) after told takes can =
    let both =
    first_asked (is_alone job) false from found (groups_in grouped) (groups_in takes.1) takes.0 takes.4 can in (
      ap (can_ask job found from) takes.2 ∙ both.0,
      ap (can_ask_all job found (from + octet_count_of (items_asked told))) takes.3
          ∙ (ap (λ t. can_ask_all job found (from + octet_count_of (items_asked t)) (left.Reads takes.1)) takes.2
          ∙ both.1),
    )
can_next job found from (left.Writes grouped) after told takes can =
    let both =
    first_asked (is_alone job) true from (length (octets_of job)) (groups_in grouped) (groups_in takes.1) takes.0
    takes.4 can in (
      ap (can_ask job found from) takes.2 ∙ both.0,
      ap (can_ask_all job found (from + octet_count_of (items_asked told))) takes.3
          ∙ (ap (λ t. can_ask_all job found (from + octet_count_of (items_asked t)) (left.Writes takes.1)) takes.2
          ∙ both.1),
    )

-- what is asked and left can be asked after one more question too
pub ready_next : (job : Job) (found : ℕ) (a b : Asking) (number : ℕ) → a.item ≤ 262140 → AsksNext a number b
    → is_ready job found (stage.Asking a) ≡ true → is_ready job found (stage.Asking b) ≡ true
ready_next job found a b number most step ready =
    let parts =
    split_ask (list_all (can_fly job found) a.flights.items) (can_ask_all job found a.from a.left)
    (has_places job found) ready in
    let both = can_next job found a.from a.left b.left step.told step.next parts.1 in
    let f : Flight = record { asked = step.told; sequence = number; place = a.place; from = a.from; item = a.item } in
    let flies : can_fly job found f ≡ true =
    and_from (leb a.item 262140) (can_ask job found a.from step.told) (le-leb a.item 262140 most) both.0 in
    let each : list_all (can_fly job found) b.flights.items ≡ true =
    ap (list_all (can_fly job found)) step.pushes.flights
    ∙ (list_all-append (can_fly job found) a.flights.items (f ∷ [])
    ∙ and_from (list_all (can_fly job found) a.flights.items) (can_fly job found f && true) parts.0
    (and_from (can_fly job found f) true flies refl)) in
    let from : b.from ≡ a.from + octet_count_of (items_asked step.told) =
    ap (λ (s : Spot). s.from) step.pushes.spot in
    and_from (list_all (can_fly job found) b.flights.items)
    (can_ask_all job found b.from b.left && has_places job found) each
    (and_from (can_ask_all job found b.from b.left) (has_places job found)
    (ap (λ n. can_ask_all job found n b.left) from ∙ both.1) parts.2)

pub next_as_many : (a b : Asking) (number : ℕ) → AsksNext a number b
    → length b.flights.items + questions_left b.left ≡ length a.flights.items + questions_left a.left
next_as_many a b number step =
    let less : IsLess a.left b.left step.told = takes_less a.left b.left step.told step.next in
    let f : Flight = record { asked = step.told; sequence = number; place = a.place; from = a.from; item = a.item } in
    omega (arith, less.questions, ap length step.pushes.flights, length-append a.flights.items (f ∷ []))

-- ---- what can be asked stays so

apart : (p : Flight → Bool) (front back : List Flight) (flight : Flight) → list_all p (front ++ flight ∷ back) ≡ true
    → (p flight ≡ true) × (list_all p (front ++ back) ≡ true)
apart p front back flight all =
    let first =
    and_parts (list_all p front) (p flight && list_all p back)
    (sym (list_all-append p front (flight ∷ back)) ∙ all) in
    let second = and_parts (p flight) (list_all p back) first.1 in
    (second.0, list_all-append p front back ∙ and_from (list_all p front) (list_all p back) first.0 second.1)

taken_parts : (message : List ℕ) (job : Job) (found : ℕ) (a a' : Asking) (flight : Flight) (t : kept.Answer)
    → TakesFirst message a a' flight t → is_ready job found (stage.Asking a) ≡ true
    → (can_fly job found flight ≡ true) × (is_ready job found (stage.Asking a') ≡ true)
taken_parts message job found a a' flight t takes ready =
    let parts =
    split_ask (list_all (can_fly job found) a.flights.items) (can_ask_all job found a.from a.left)
    (has_places job found) ready in
    let both =
    apart (can_fly job found) takes.front takes.back flight
    (ap (list_all (can_fly job found)) (sym takes.out) ∙ parts.0) in
    let from : a'.from ≡ a.from = ap (λ (s : Spot). s.from) takes.same.spot in (
      both.0,
      and_from (list_all (can_fly job found) a'.flights.items)
          (can_ask_all job found a'.from a'.left && has_places job found)
          (ap (list_all (can_fly job found)) takes.rest ∙ both.1)
          (and_from (can_ask_all job found a'.from a'.left) (has_places job found)
          (ap (λ n. can_ask_all job found n a'.left) from
          ∙ (ap (can_ask_all job found a.from) takes.same.left ∙ parts.1)) parts.2),
    )

pub taken_flies : (message : List ℕ) (r : Running) (a a' : Asking) (flight : Flight) (t : kept.Answer)
    → r.stage ≡ stage.Asking a
    → TakesFirst message a a' flight t → can_fly r.job (length r.found.items) flight ≡ true
taken_flies message r a a' flight t is takes =
    (taken_parts message r.job (length r.found.items) a a' flight t takes
    (ap (is_ready r.job (length r.found.items)) (sym is) ∙ r.ready)).0

-- whether a telegram was taken or not
pub answered_ready : (message : List ℕ) (r : Running) (a a' : Asking) (result : Option (Flight × kept.Answer))
    → r.stage ≡ stage.Asking a
    → IfSome result (λ taken. TakesFirst message a a' taken.0 taken.1) → IfNone result (a' ≡ a)
    → is_ready r.job (length r.found.items) (stage.Asking a') ≡ true
answered_ready message r a a' None is some none =
    ap (λ b. is_ready r.job (length r.found.items) (stage.Asking b)) none
    ∙ (ap (is_ready r.job (length r.found.items)) (sym is) ∙ r.ready)
answered_ready message r a a' (Some taken) is some none =
    (taken_parts message r.job (length r.found.items) a a' taken.0 taken.1 some
    (ap (is_ready r.job (length r.found.items)) (sym is) ∙ r.ready)).1
