-- Lemmas on telegrams that are put: what can be asked has a message that can be sent.
use Rattle.std.proofs.Common.{◌≡◌, ℕ, zero, suc, ◌+◌, ◌-◌, ◌*◌, ◌<◌, ◌≤◌, Bool, true, false, leb, ltb, eqb, not, List, [], ◌∷◌, ◌++◌, length, map, take, drop, refl, sym, ap, ◌∙◌, arith}
use Rattle.std.specs.Prelude.{◌&&◌, ◌||◌, slice_index_or}
use Rattle.std.specs.List.{list_all}
use Rattle.std.proofs.lemmas.Bool.{and_parts, leb-true, ltb-true, eqb-true}
use Rattle.std.proofs.lemmas.List.{length-append, length-drop, length-take-le, drop_all, drop_more}
use Rattle.s7_header.specs.Negotiation.{most_pdu}
use Rattle.s7_wire.specs.Sent.{sent_message, sent_messages}
use Rattle.s7_wire.proofs.SendLemmas.{length-sent}
use Rattle.s7_item.specs.declared.item.Item.{Item}
use Rattle.s7_item.specs.Params.{items_params}
use Rattle.s7_item.specs.DataItem.{data_octets}
use Rattle.s7_item.specs.Sizes.{request_size}
use Rattle.s7_item.proofs.SizeLaws.{reads_sized, writes_sized}
use Rattle.s7_dialogue.specs.declared.config.Config.{Config}
use Rattle.s7_dialogue.specs.declared.job.Job.{Job}
use Rattle.s7_dialogue.specs.declared.answers.answer.Asked.{Asked}
use Rattle.s7_dialogue.specs.declared.answers.answer.Asked.TheVariants as asked
use Rattle.s7_dialogue.specs.declared.stages.flight.Flight.{Flight}
use Rattle.s7_dialogue.specs.declared.stages.asking.Asking.{Asking}
use Rattle.s7_dialogue.specs.declared.stages.running.Running.{Running}
use Rattle.s7_dialogue.specs.declared.stages.running.Stage.{Stage}
use Rattle.s7_dialogue.specs.declared.stages.running.Stage.TheVariants as stage
use Rattle.s7_dialogue.specs.Question.{written, job_octets, question_octets}
use Rattle.s7_dialogue.specs.Checks.{is_known, octet_count_of}
use Rattle.s7_dialogue.specs.Stages.{octets_of, is_alone, question_of, message_of, unput_by, is_addressed, is_sendable, can_ask, can_ask_all, can_fly, has_places, is_ready}
use Rattle.s7_dialogue.proofs.MessageLemmas.{written_sent}
use Rattle.s7_dialogue.proofs.ReadyLemmas.{split_ask}
use Rattle.s7_dialogue.proofs.SingleLemmas.{single_few}

-- ---- items that can be sent

-- what is known of them
pub record IsSent (alone write : Bool) (items : List Item) : Type 0 where
  pub some : 0 < length items
  pub one : alone ≡ true → length items ≡ 1
  pub addressed : list_all is_addressed items ≡ true
  pub known : list_all is_known items ≡ true
  pub short : request_size items write ≤ most_pdu

only_one : (alone one : Bool) → (not alone || one) ≡ true → alone ≡ true → one ≡ true
only_one true one h is = h
only_one false one h is = absurd (cc)

pub is_sent : (alone write : Bool) (items : List Item) → is_sendable alone write items ≡ true
    → IsSent alone write items
is_sent alone write items can =
    let outer = and_parts (ltb 0 (length items) && (not alone || eqb (length items) 1))
    (list_all is_addressed items && (list_all is_known items && leb (request_size items write) most_pdu)) can in
    let shape = and_parts (ltb 0 (length items)) (not alone || eqb (length items) 1) outer.0 in
    let rest =
    and_parts (list_all is_addressed items)
    (list_all is_known items && leb (request_size items write) most_pdu) outer.1 in
    let last = and_parts (list_all is_known items) (leb (request_size items write) most_pdu) rest.1 in
    record {
      some = ltb-true 0 (length items) shape.0;
      one = λ single. eqb-true (length items) 1 (only_one alone (eqb (length items) 1) shape.1 single);
      addressed = rest.0;
      known = last.0;
      short = leb-true (request_size items write) most_pdu last.1;
    }

-- each address fits its field
pub addressed : (items : List Item) → list_all is_addressed items ≡ true → (k : ℕ) (d : Item) → k < length items
    → (slice_index_or items k d).address < 16777216
addressed [] all k d less = absurd (omega arith)
addressed (item ∷ items) all zero d less =
    ltb-true item.address 16777216 (and_parts (is_addressed item) (list_all is_addressed items) all).0
addressed (item ∷ items) all (suc k) d less =
    addressed items (and_parts (is_addressed item) (list_all is_addressed items) all).1 k d (omega arith)

-- a read and a write that can be asked
pub read_sent : (job : Job) (found from : ℕ) (items : List Item) → can_ask job found from (asked.Read items) ≡ true
    → IsSent (is_alone job) false items × (from + octet_count_of items ≤ found)
read_sent job found from items can =
    let both = and_parts (is_sendable (is_alone job) false items) (leb (from + octet_count_of items) found) can in
    (is_sent (is_alone job) false items both.0, leb-true (from + octet_count_of items) found both.1)

pub write_sent : (job : Job) (found from : ℕ) (items : List Item) → can_ask job found from (asked.Write items) ≡ true
    → IsSent (is_alone job) true items × (from + octet_count_of items ≤ length (octets_of job))
write_sent job found from items can =
    let both =
    and_parts (is_sendable (is_alone job) true items) (leb (from + octet_count_of items) (length (octets_of job)))
    can in
    (is_sent (is_alone job) true items both.0, leb-true (from + octet_count_of items) (length (octets_of job)) both.1)

-- ---- their messages

job_long : (sequence : ℕ) (params body : List ℕ)
    → length (job_octets sequence params body) ≡ 10 + length params + length body
job_long sequence params body = omega (arith, length-append params body)

piece_long : (octets : List ℕ) (from n : ℕ) → from + n ≤ length octets → length (take n (drop from octets)) ≡ n
piece_long octets from n within = length-take-le n (drop from octets) (omega (arith, within, length-drop from octets))

-- a message has a header, and is no longer than any message may be
abbrev pub IsShort : List ℕ → Type 0
IsShort message = (10 ≤ length message) × (length message ≤ most_pdu)

pub question_short : (config : Config) (job : Job) (found from sequence : ℕ) (told : Asked)
    → can_ask job found from told ≡ true
    → IsShort (question_octets sequence (question_of config job from told))
question_short config job found from sequence asked.Negotiation can = (omega arith, omega arith)
question_short config job found from sequence (asked.Read items) can =
    let sent = (read_sent job found from items can).0 in
    let long = job_long sequence (items_params 0x04 items) [] in
    (omega (arith, long), omega (arith, long, reads_sized 0x04 items, sent.short))
question_short config job found from sequence (asked.Write items) can =
    let sent = write_sent job found from items can in
    let octets = take (octet_count_of items) (drop from (octets_of job)) in
    let all : length octets ≡ octet_count_of items = piece_long (octets_of job) from (octet_count_of items) sent.1 in
    let long = job_long sequence (items_params 0x05 items) (data_octets (written items octets)) in (
      omega (arith, long),
      omega
          (arith, long, writes_sized 0x05 items (written items octets) (written_sent items octets all), sent.0.short),
    )

pub flight_short : (config : Config) (job : Job) (found : ℕ) (flight : Flight) → can_fly job found flight ≡ true
    → IsShort (message_of config job flight)
flight_short config job found flight can =
    question_short config job found flight.from flight.sequence flight.asked
    (and_parts (leb flight.item 262140) (can_ask job found flight.from flight.asked) can).1

-- ---- telegrams that aren't put yet

all_dropped : {A : Type 0} (p : A → Bool) (n : ℕ) (xs : List A) → list_all p xs ≡ true → list_all p (drop n xs) ≡ true
all_dropped p zero xs all = all
all_dropped p (suc n) [] all = refl
all_dropped p (suc n) (x ∷ xs) all = all_dropped p n xs (and_parts (p x) (list_all p xs) all).1

flights_short : (config : Config) (size : ℕ) (job : Job) (found : ℕ) (flights : List Flight) → 128 ≤ size
    → list_all (can_fly job found) flights ≡ true
    → length (sent_messages size (map (message_of config job) flights)) ≤ 2032 * length flights
flights_short config size job found [] least can = omega arith
flights_short config size job found (flight ∷ flights) least can =
    let both = and_parts (can_fly job found flight) (list_all (can_fly job found) flights) can in
    let message = message_of config job flight in
    let short : IsShort message = flight_short config job found flight both.0 in
    let sent : length (sent_message size message) ≤ 2032 = length-sent message size (omega (arith, short.1)) least in
    omega (
      arith,
      length-append (sent_message size message) (sent_messages size (map (message_of config job) flights)),
      sent,
      flights_short config size job found flights least both.1,
    )

-- eight at most
pub few_unput : (config : Config) (size : ℕ) (job : Job) (found : ℕ) (st : Stage) → 128 ≤ size
    → is_ready job found st ≡ true
    → length (unput_by config size job st) ≤ 16256
few_unput config size job found stage.Opening least ready = omega arith
few_unput config size job found (stage.Asking a) least ready =
    let parts =
    split_ask (list_all (can_fly job found) a.flights.items) (can_ask_all job found a.from a.left)
    (has_places job found) ready in
    let n = length a.flights.items - a.unput in
    let waiting = drop n a.flights.items in
    let short =
    flights_short config size job found waiting least (all_dropped (can_fly job found) n a.flights.items parts.0) in
    omega (arith, short, length-drop n a.flights.items, a.few, a.most_width)
few_unput config size job found (stage.Single s) least ready = single_few config size job found s least ready
few_unput config size job found stage.Leaving least ready = omega arith
few_unput config size job found (stage.Over code leaves) least ready = omega arith

-- none
pub none_unput : (config : Config) (size : ℕ) (job : Job) (a : Asking) → a.unput ≡ 0
    → unput_by config size job (stage.Asking a) ≡ []
none_unput config size job a none =
    ap (λ fs. sent_messages size (map (message_of config job) fs))
    (drop_all (length a.flights.items - a.unput) a.flights.items (omega (arith, none)))

-- the next of them
pub unput_first : (config : Config) (size : ℕ) (job : Job) (flights : List Flight) (n : ℕ) (flight : Flight) → 0 < n
    → n ≤ length flights
    → flight ≡ slice_index_or flights (length flights - n) flight
    → sent_messages size (map (message_of config job) (drop (length flights - n) flights))
    ≡ sent_message size (message_of config job flight)
    ++ sent_messages size (map (message_of config job) (drop (length flights - (n - 1)) flights))
unput_first config size job flights n flight some most is =
    let k = length flights - n in
    let next : k + 1 ≡ length flights - (n - 1) = omega arith in
    ap (λ fs. sent_messages size (map (message_of config job) fs)) (drop_more flights k flight (omega arith))
    ∙ (ap (λ f. sent_message size (message_of config job f) ++ sent_messages size
    (map (message_of config job) (drop (k + 1) flights))) (sym is)
    ∙ ap (λ i. sent_message size (message_of config job flight) ++ sent_messages size
    (map (message_of config job) (drop i flights))) next)

all_at : {A : Type 0} (p : A → Bool) (xs : List A) (k : ℕ) (x : A) → list_all p xs ≡ true → k < length xs
    → x ≡ slice_index_or xs k x → p x ≡ true
all_at p [] k x all less is = absurd (omega arith)
all_at p (y ∷ xs) zero x all less is = ap p is ∙ (and_parts (p y) (list_all p xs) all).0
all_at p (y ∷ xs) (suc k) x all less is = all_at p xs k x (and_parts (p y) (list_all p xs) all).1 (omega arith) is

-- a telegram that is out can be asked
pub flies_at : (job : Job) (found : ℕ) (a : Asking) (k : ℕ) (flight : Flight)
    → is_ready job found (stage.Asking a) ≡ true
    → k < length a.flights.items → flight ≡ slice_index_or a.flights.items k flight → can_fly job found flight ≡ true
flies_at job found a k flight ready less is =
    let parts =
    split_ask (list_all (can_fly job found) a.flights.items) (can_ask_all job found a.from a.left)
    (has_places job found) ready in
    all_at (can_fly job found) a.flights.items k flight parts.0 less is

-- the first of the telegrams of a job that aren't put yet
pub record IsWaiting (r : Running) (a : Asking) (flight : Flight) : Type 0 where
  pub flies : can_fly r.job (length r.found.items) flight ≡ true
  pub first : flight ≡ slice_index_or a.flights.items (length a.flights.items - a.unput) flight
  pub some : 0 < a.unput

pub is_waiting : (r : Running) (a : Asking) (flights : List Flight) (n : ℕ) (flight : Flight)
    → r.stage ≡ stage.Asking a
    → flights ≡ a.flights.items → n ≡ length a.flights.items → (a.unput ≡ 0 → ⊥)
    → flight ≡ slice_index_or flights (n - a.unput) flight → IsWaiting r a flight
is_waiting r a flights n flight is same long some at =
    let found = length r.found.items in
    let any : 0 < a.unput = omega (arith, some) in
    let first : flight ≡ slice_index_or a.flights.items (length a.flights.items - a.unput) flight =
    at ∙ (ap (λ fs. slice_index_or fs (n - a.unput) flight) same
    ∙ ap (λ i. slice_index_or a.flights.items (i - a.unput) flight) long) in
    record {
      flies =
          flies_at r.job found a (length a.flights.items - a.unput) flight
          (ap (is_ready r.job found) (sym is) ∙ r.ready)
          (omega (arith, any, a.put)) first;
      first = first;
      some = any;
    }

-- what is left to put once its message was written
pub put_one : (r : Running) (a : Asking) (flight : Flight) (config : Config) (size : ℕ) (message : List ℕ)
    → r.stage ≡ stage.Asking a
    → IsWaiting r a flight → message ≡ message_of config r.job flight
    → unput_by config size r.job r.stage
    ≡ sent_message size message
    ++ sent_messages size
    (map (message_of config r.job) (drop (length a.flights.items - (a.unput - 1)) a.flights.items))
put_one r a flight config size message is waits written =
    ap (unput_by config size r.job) is
    ∙ (unput_first config size r.job a.flights.items a.unput flight waits.some a.put waits.first
    ∙ ap (λ m. sent_message size m ++ sent_messages size
    (map (message_of config r.job) (drop (length a.flights.items - (a.unput - 1)) a.flights.items)))
    (sym written))
