-- Lemmas on how jobs begin.
use Rattle.std.proofs.Common.{◌≡◌, ℕ, zero, suc, ◌+◌, ◌-◌, ◌*◌, ◌<◌, ◌≤◌, Bool, true, false, cond, eqb, leb, Option, Some, Ok, Err, List, [], ◌∷◌, ◌++◌, take, length, refl, sym, ap, ◌∙◌, subst, arith}
use Rattle.std.specs.Prelude.{◌&&◌, replicate, unwrap_or, Result}
use Rattle.std.specs.Result.{is_ok, is_err}
use Rattle.std.specs.List.{list_all, AllByRecursion}
use Rattle.std.proofs.lemmas.Bool.{eqb-true, ltb-false, and_from, le-leb}
use Rattle.std.proofs.lemmas.List.{length-append}
use Rattle.s7_item.specs.declared.item.Item.{Item}
use Rattle.s7_item.specs.Item.{octet_count}
use Rattle.s7_item.specs.Word.{size_of}
use Rattle.s7_split.specs.Fits.{size}
use Rattle.s7_split.specs.Parts.{parts_of, CanBeSplit, IsAlike, AreParts}
use Rattle.s7_split.specs.Groups.{groups_of, packed_of, IsGroup, AreGroups}
use Rattle.s7_split.proofs.PartLaws.{parts_exact}
use Rattle.s7_split.proofs.PartLemmas.{size_some}
use Rattle.s7_dialogue.specs.declared.config.Config.{Config}
use Rattle.s7_dialogue.specs.declared.grant.Grant.{Grant}
use Rattle.s7_dialogue.specs.declared.job.Job.{Job}
use Rattle.s7_dialogue.specs.declared.job.Job.TheVariants as job
use Rattle.s7_dialogue.specs.declared.questions.left.Grouped.{Grouped}
use Rattle.s7_dialogue.specs.declared.questions.left.Left.{Left}
use Rattle.s7_dialogue.specs.declared.questions.left.Left.TheVariants as left
use Rattle.s7_dialogue.specs.declared.stages.asking.Asking.{Asking}
use Rattle.s7_dialogue.specs.declared.stages.running.Running.{Running}
use Rattle.s7_dialogue.specs.declared.stages.running.Stage.{Stage}
use Rattle.s7_dialogue.specs.declared.stages.running.Stage.TheVariants as stage
use Rattle.s7_dialogue.specs.Checks.{octet_count_of, check_item, check_items}
use Rattle.s7_dialogue.specs.Left.{joined, groups_in, groups_left, AreFew}
use Rattle.s7_dialogue.specs.Dialogue.{Plan, nothing, plan_of, alone, if_good, width_of, read_questions, write_questions}
use Rattle.s7_dialogue.specs.Stages.{octets_of, is_alone, is_sendable, can_fly, can_ask_all, has_places, is_ready, IsGrant}
use Rattle.s7_dialogue.specs.Asks.{Spot, questions_behind, refused_at, IsNew}
use Rattle.s7_dialogue.specs.GoesOn.{questions_of, conducted, AreAlone, AreGroupsOf, brings_octets, brings_codes, Conducts, ConductsAt}
use Rattle.s7_dialogue.specs.Running.{BeginsAt, Begins}
use Rattle.s7_dialogue.specs.Starting.{AsksFirst, BeginsWith, Starts}
use Rattle.s7_dialogue.proofs.CheckLemmas.{product_some, item_checked, items_checked, can_split}
use Rattle.s7_dialogue.proofs.GroupLemmas.{joined_alone, parts_together, parts_sendable, groups_right, groups_sendable}

-- ---- what is left is little

-- reads or writes of these groups
abbrev pub left_by : Bool → Grouped → Left
left_by write grouped = cond write (left.Writes grouped) (left.Reads grouped)

few_by : (write : Bool) (grouped : Grouped) (gs : List (List Item)) → groups_in grouped ≡ gs → length gs ≤ 262140
    → octet_count_of (joined gs) ≤ 5242800 → length (joined gs) ≤ 262140 → AreFew (left_by write grouped)
few_by true grouped gs is questions octets items =
    record {
      questions = omega (arith, ap length is, questions);
      octets = omega (arith, ap (λ xs. octet_count_of (joined xs)) is, octets);
      items = omega (arith, ap (λ xs. length (joined xs)) is, items);
    }
few_by false grouped gs is questions octets items =
    record {
      questions = omega (arith, ap length is, questions);
      octets = omega (arith, ap (λ xs. octet_count_of (joined xs)) is, octets);
      items = omega (arith, ap (λ xs. length (joined xs)) is, items);
    }

-- each part has an octet at least
parts_few : (item : Item) (parts : List Item) → 0 < size item → AllByRecursion (IsAlike item) parts
    → length parts ≤ octet_count_of parts
parts_few item [] some alike = omega arith
parts_few item (part ∷ parts) some alike =
    let same : octet_count part ≡ part.count * size item =
    ap (λ w. part.count * unwrap_or (size_of w) 0) alike.0.word in
    omega (arith, same, product_some part.count (size item) alike.0.some some, parts_few item parts some alike.1)

length-alone : (items : List Item) → length (alone items) ≡ length items
length-alone [] = refl
length-alone (item ∷ items) = omega (arith, length-alone items)

pub area_few : (item : Item) (pdu : ℕ) (write : Bool) (grouped : Grouped)
    → groups_in grouped ≡ alone (parts_of item pdu write)
    → CanBeSplit item → 64 ≤ pdu → octet_count item ≤ 262140 → AreFew (left_by write grouped)
area_few item pdu write grouped is split least most =
    let parts = parts_of item pdu write in
    let right : AreParts item pdu write parts = (parts_exact item pdu write parts split least).0 refl in
    let octets : octet_count_of (joined (alone parts)) ≡ octet_count item =
    parts_together item pdu write split least in
    let same : joined (alone parts) ≡ parts = joined_alone parts in
    let few : length parts ≤ octet_count_of parts =
    parts_few item parts (size_some item.word split.known).0 right.alike in
    let many : length parts ≤ 262140 = omega (arith, few, octets, ap octet_count_of same, most) in
    few_by write grouped (alone parts) is (omega (arith, length-alone parts, many)) (omega (arith, octets, most))
    (omega (arith, ap length same, many))

-- no more groups than items
groups_few : (pdu : ℕ) (write : Bool) (groups : List (List Item)) → AllByRecursion (IsGroup pdu write) groups
    → length groups ≤ length (joined groups)
groups_few pdu write [] each = omega arith
groups_few pdu write (group ∷ groups) each =
    omega (arith, each.0.some, groups_few pdu write groups each.1, length-append group (joined groups))

pub many_few : (items : List Item) (pdu : ℕ) (write : Bool) (grouped : Grouped)
    → groups_in grouped ≡ groups_of pdu write items
    → packed_of pdu write items ≡ Ok tt → length items ≤ 20 → octet_count_of items ≤ 5242800
    → AreFew (left_by write grouped)
many_few items pdu write grouped is packed few most =
    let gs = groups_of pdu write items in
    let right : AreGroups pdu write items gs = groups_right pdu write items packed in
    let whole : joined gs ≡ items = right.whole in
    let less : length gs ≤ length (joined gs) = groups_few pdu write gs right.each in
    few_by write grouped gs is (omega (arith, less, ap length whole, few))
    (omega (arith, ap octet_count_of whole, most))
    (omega (arith, ap length whole, few))

-- ---- jobs that ask

brought : (b : Bool) (n m k : ℕ) → n ≡ cond b m 0 → m ≡ k → replicate {A = ℕ} n 0 ≡ cond b (replicate k 0) []
brought true n m k is same = ap (λ i. replicate i 0) (is ∙ same)
brought false n m k is same = ap (λ i. replicate i 0) is

-- what the questions of groups are, before the first went out
left_first : (config : Config) (done : Job) (write : Bool) (grouped : Grouped) (gs : List (List Item))
    → groups_in grouped ≡ gs
    → questions_behind config done 0 (left_by write grouped) ≡ cond write (write_questions gs (octets_of done))
    (read_questions gs)
left_first config done true grouped gs is = ap (λ xs. write_questions xs (octets_of done)) is
left_first config done false grouped gs is = ap read_questions is

left_groups : (write : Bool) (grouped : Grouped) (gs : List (List Item)) → groups_in grouped ≡ gs
    → groups_left (left_by write grouped) ≡ gs
left_groups true grouped gs is = is
left_groups false grouped gs is = is

-- the most questions that may be unanswered are the granted jobs
width_is : (granted : Grant) → IsGrant granted → width_of granted ≡ granted.jobs
width_is granted g = omega (arith, g.some)

asks_ready : (done : Job) (room : ℕ) (write : Bool) (grouped : Grouped) (gs : List (List Item))
    → groups_in grouped ≡ gs
    → list_all (is_sendable (is_alone done) write) gs ≡ true
    → octet_count_of (joined gs) ≤ cond write (length (octets_of done)) room
    → can_ask_all done room 0 (left_by write grouped) ≡ true
asks_ready done room true grouped gs is each within =
    and_from (list_all (is_sendable (is_alone done) true) (groups_in grouped))
    (leb (0 + octet_count_of (joined (groups_in grouped))) (length (octets_of done)))
    (ap (list_all (is_sendable (is_alone done) true)) is ∙ each)
    (le-leb (0 + octet_count_of (joined (groups_in grouped))) (length (octets_of done))
    (omega (arith, within, ap (λ xs. octet_count_of (joined xs)) is)))
asks_ready done room false grouped gs is each within =
    and_from (list_all (is_sendable (is_alone done) false) (groups_in grouped))
    (leb (0 + octet_count_of (joined (groups_in grouped))) room)
    (ap (list_all (is_sendable (is_alone done) false)) is ∙ each)
    (le-leb (0 + octet_count_of (joined (groups_in grouped))) room
    (omega (arith, within, ap (λ xs. octet_count_of (joined xs)) is)))

-- A read or write of groups: its plan, what can be sent, and what it brings.
pub record CanStart (done : Job) (granted : Grant) (write : Bool) (gs : List (List Item)) (octets codes : ℕ)
    : Type 0 where
  pub plan : (config : Config) → plan_of done config (Some granted)
      ≡ record { first = nothing; conduct = conducted config done (width_of granted) gs }
  pub groups : AreGroupsOf done gs
  pub questions : (config : Config)
      → questions_of config done gs ≡ cond write (write_questions gs (octets_of done)) (read_questions gs)
  pub each : list_all (is_sendable (is_alone done) write) gs ≡ true
  pub within : octet_count_of (joined gs) ≤ cond write (length (octets_of done)) octets
  pub places : has_places done octets ≡ true
  pub octets_brought : octets ≡ cond (brings_octets done) (octet_count_of (joined gs)) 0
  pub codes_brought : codes ≡ cond (brings_codes done) (length (joined gs)) 0
  pub few : codes ≤ 20

starts_conducts : (done : Job) (granted : Grant) (write : Bool) (grouped : Grouped) (gs : List (List Item))
    (octets codes : ℕ) (a : Asking) (config : Config)
    → groups_in grouped ≡ gs → CanStart done granted write gs octets codes → IsGrant granted
    → IsNew a granted.jobs (left_by write grouped)
    → Conducts config (Some granted) [] [] done (replicate octets 0) (replicate codes 0) a
starts_conducts done granted write grouped gs octets codes a config is can g new =
    let left : groups_left a.left ≡ gs = ap groups_left new.left ∙ left_groups write grouped gs is in
    record {
      groups = gs;
      conduct =
          ap (λ (p : Plan). p.conduct) (can.plan config)
          ∙ ap (λ w. conducted config done w gs) (width_is granted g ∙ sym new.width);
      whole = can.groups;
      asks = record {
        whole =
            can.questions config
            ∙ (sym (left_first config done write grouped gs is)
            ∙ (ap (questions_behind config done 0) (sym new.left)
            ∙ ap (λ (s : Spot). questions_behind config done s.from a.left) (sym new.spot)));
        again = tt;
        flights = new.flights;
        spot = new.spot;
      };
      fit = tt;
      unanswered = λ other. tt;
      refused = ap refused_at new.refused;
      octets = λ asks.
          brought (brings_octets done) octets (octet_count_of (joined gs))
          (octet_count_of (joined (groups_left a.left))) can.octets_brought
          (ap (λ xs. octet_count_of (joined xs)) (sym left));
      noted = λ asks.
          brought (brings_codes done) codes (length (joined gs)) (length (joined (groups_left a.left)))
          can.codes_brought
          (ap (λ xs. length (joined xs)) (sym left));
    }

starts_ready : (done : Job) (granted : Grant) (write : Bool) (grouped : Grouped) (gs : List (List Item))
    (octets codes : ℕ) (a : Asking)
    → groups_in grouped ≡ gs → CanStart done granted write gs octets codes
    → IsNew a granted.jobs (left_by write grouped)
    → is_ready done octets (stage.Asking a) ≡ true
starts_ready done granted write grouped gs octets codes a is can new =
    and_from (list_all (can_fly done octets) a.flights.items)
    (can_ask_all done octets a.from a.left && has_places done octets)
    (ap (list_all (can_fly done octets)) new.flights)
    (and_from (can_ask_all done octets a.from a.left) (has_places done octets)
    (ap (λ l. can_ask_all done octets a.from l) new.left
    ∙ (ap (λ (s : Spot). can_ask_all done octets s.from (left_by write grouped)) new.spot
    ∙ asks_ready done octets write grouped gs is can.each can.within))
    can.places)

pub starts_asking : (done : Job) (granted : Grant) (write : Bool) (grouped : Grouped) (gs : List (List Item))
    (octets codes : ℕ) (st : Stage)
    → groups_in grouped ≡ gs → CanStart done granted write gs octets codes → IsGrant granted
    → AsksFirst st granted.jobs (left_by write grouped) → Starts done (Some granted) st octets codes
starts_asking done granted write grouped gs octets codes stage.Opening is can g first = absurd first
starts_asking done granted write grouped gs octets codes (stage.Single s) is can g first = absurd first
starts_asking done granted write grouped gs octets codes stage.Leaving is can g first = absurd first
starts_asking done granted write grouped gs octets codes (stage.Over code leaves) is can g first = absurd first
starts_asking done granted write grouped gs octets codes (stage.Asking a) is can g first =
    record {
      ready = starts_ready done granted write grouped gs octets codes a is can first;
      begins = λ config. (
        ap (λ (p : Plan). p.first) (can.plan config),
        first.unput,
        starts_conducts done granted write grouped gs octets codes a config is can g first,
      );
      few = can.few;
    }

-- ---- each job

each_alone : (items : List Item) → AreAlone (alone items)
each_alone [] = tt
each_alone (item ∷ items) = (refl, each_alone items)

pub read_area_can : (item : Item) (granted : Grant) (octets codes : ℕ) → IsGrant granted → check_item item true ≡ 0
    → octets ≡ octet_count item → codes ≡ 0
    → CanStart (job.ReadArea item) granted false (alone (parts_of item granted.pdu false)) octets codes
read_area_can item granted octets codes g good is none =
    let gs = alone (parts_of item granted.pdu false) in
    let told = item_checked item true good in
    let split : CanBeSplit item = can_split item told.0 told.1 in
    let together : octet_count_of (joined gs) ≡ octet_count item =
    parts_together item granted.pdu false split g.least in
    record {
      plan =
          λ config. ap
          (λ c. if_good c
          (record { first = nothing; conduct = conducted config (job.ReadArea item) (width_of granted) gs })) good;
      groups = each_alone (parts_of item granted.pdu false);
      questions = λ config. refl;
      each = parts_sendable item granted.pdu false told.0 split g.least g.most;
      within = omega (arith, together, is);
      places = refl;
      octets_brought = is ∙ sym together;
      codes_brought = none;
      few = omega (arith, none);
    }

pub write_area_can : (item : Item) (octets : List ℕ) (granted : Grant) (n codes : ℕ) → IsGrant granted
    → check_item item (eqb (length octets) (octet_count item)) ≡ 0 → n ≡ 0 → codes ≡ 0
    → CanStart (job.WriteArea item octets) granted true (alone (parts_of item granted.pdu true)) n codes
write_area_can item octets granted n codes g good blank none =
    let gs = alone (parts_of item granted.pdu true) in
    let told = item_checked item (eqb (length octets) (octet_count item)) good in
    let split : CanBeSplit item = can_split item told.0 told.1 in
    let together : octet_count_of (joined gs) ≡ octet_count item =
    parts_together item granted.pdu true split g.least in
    record {
      plan =
          λ config. ap
          (λ c. if_good c
          (record { first = nothing; conduct = conducted config (job.WriteArea item octets) (width_of granted) gs }))
          good;
      groups = tt;
      questions = λ config. refl;
      each = parts_sendable item granted.pdu true told.0 split g.least g.most;
      within = omega (arith, together, eqb-true (length octets) (octet_count item) told.2);
      places = refl;
      octets_brought = blank;
      codes_brought = none;
      few = omega (arith, none);
    }

pub read_many_can : (items : List Item) (granted : Grant) (octets codes : ℕ) → IsGrant granted
    → check_items items true granted.pdu false ≡ 0 → octets ≡ octet_count_of items → codes ≡ length items
    → CanStart (job.ReadMany items) granted false (groups_of granted.pdu false items) octets codes
read_many_can items granted octets codes g good is long =
    let gs = groups_of granted.pdu false items in
    let told = items_checked items true granted.pdu false good in
    let whole : joined gs ≡ items = (groups_right granted.pdu false items told.4).whole in
    record {
      plan =
          λ config. ap
          (λ c. if_good c
          (record { first = nothing; conduct = conducted config (job.ReadMany items) (width_of granted) gs })) good;
      groups = whole;
      questions = λ config. refl;
      each = groups_sendable granted.pdu false items g.most told.1 told.2 told.4;
      within = omega (arith, ap octet_count_of whole, is);
      places = le-leb (octet_count_of items) octets (omega (arith, is));
      octets_brought = is ∙ ap octet_count_of (sym whole);
      codes_brought = long ∙ ap length (sym whole);
      few = omega (arith, long, ltb-false 20 (length items) told.0);
    }

pub write_many_can : (items : List Item) (octets : List ℕ) (granted : Grant) (n codes : ℕ) → IsGrant granted
    → check_items items (eqb (length octets) (octet_count_of items)) granted.pdu true ≡ 0 → n ≡ 0
    → codes ≡ length items
    → CanStart (job.WriteMany items octets) granted true (groups_of granted.pdu true items) n codes
write_many_can items octets granted n codes g good blank long =
    let gs = groups_of granted.pdu true items in
    let told = items_checked items (eqb (length octets) (octet_count_of items)) granted.pdu true good in
    let whole : joined gs ≡ items = (groups_right granted.pdu true items told.4).whole in
    record {
      plan =
          λ config. ap
          (λ c. if_good c
          (record { first = nothing; conduct = conducted config (job.WriteMany items octets) (width_of granted) gs }))
          good;
      groups = tt;
      questions = λ config. refl;
      each = groups_sendable granted.pdu true items g.most told.1 told.2 told.4;
      within = omega (arith, ap octet_count_of whole, eqb-true (length octets) (octet_count_of items) told.3);
      places = refl;
      octets_brought = blank;
      codes_brought = long ∙ ap length (sym whole);
      few = omega (arith, long, ltb-false 20 (length items) told.0);
    }

-- ---- jobs that were started

begun_at : (r : Running) (config : Config) (granted : Option Grant) (st : Stage) → r.stage ≡ st
    → BeginsWith r.job config granted r.found.items r.codes st → BeginsAt r config granted st
begun_at r config granted stage.Opening is begins = begins
begun_at r config granted (stage.Asking a) is begins = (
  begins.0,
  begins.1,
  record { goes_on = subst (λ st. ConductsAt config granted [] [] r.job r.found.items r.codes st) (sym is) begins.2 },
)
begun_at r config granted (stage.Single s) is begins = (
  begins.0,
  begins.1,
  record { goes_on = subst (λ st. ConductsAt config granted [] [] r.job r.found.items r.codes st) (sym is) begins.2 },
)
begun_at r config granted stage.Leaving is begins = begins
begun_at r config granted (stage.Over code leaves) is begins = begins

pub begun : (r : Running) (granted : Option Grant) (octets codes : ℕ) → Starts r.job granted r.stage octets codes
    → r.found.items ≡ replicate octets 0 → r.codes ≡ replicate codes 0 → (config : Config) → Begins r config granted
begun r granted octets codes starts found noted config =
    begun_at r config granted r.stage refl
    (subst (λ (xs : List ℕ). BeginsWith r.job config granted xs r.codes r.stage) (sym found)
    (subst (λ (xs : List ℕ). BeginsWith r.job config granted (replicate octets 0) xs r.stage) (sym noted)
    (starts.begins config)))

take_none : (n : ℕ) → take {A = ℕ} n [] ≡ []
take_none zero = refl
take_none (suc n) = refl

minus_none : (n k : ℕ) → k ≡ 0 → n - k ≡ n
minus_none n k none = omega (arith, none)

-- a vector of 00 alone
pub filled_new : {E : Type 0} (result : Result Unit E) (n len : ℕ) (old new : List ℕ) → is_err result ≡ false
    → new ≡ cond (is_ok result) (take n old ++ replicate (n - len) 0) old → old ≡ [] → len ≡ 0 → new ≡ replicate n 0
filled_new (Ok u) n len old new good is none blank =
    is ∙ (ap (λ (xs : List ℕ). take n xs ++ replicate (n - len) 0) none
    ∙ (ap (λ xs. xs ++ replicate (n - len) 0) (take_none n) ∙ ap (λ k. replicate k 0) (minus_none n len blank)))
filled_new (Err e) n len old new good is none blank = absurd (cc)
