-- What a reader finds in a packet, and what that packet makes of a course.
use Rattle.std.proofs.Common.{◌≡◌, ℕ, ◌+◌, ◌<◌, ◌≤◌, Bool, true, false, cond, nat_lt, List, [], ◌∷◌, ◌++◌, length, refl, ap, sym, ◌∙◌, subst, append-nil, arith, length-append}
use Rattle.std.specs.Prelude.{Option, None, Some, Result, Ok, Err, IsSome, nat_le}
use Rattle.std.proofs.lemmas.Bool.Decides.{nat_tests}
use Rattle.std.proofs.lemmas.List.{append_cancel_left}
use Rattle.s7_cotp.specs.Told.{Told, ConnectionTold, connect, confirm, fragment, disconnect, reject}
use Rattle.s7_cotp.specs.Reading.{tpdu_of}
use Rattle.s7_cotp.specs.Messages.{Fragment, Step, more, whole, too_many_fragments, too_long, joined_with}
use Rattle.s7_cotp.specs.declared.tpdu.CotpFault.{CotpFault}
use Rattle.s7_wire.specs.Bounds.{message_limit, size_of_code}
use Rattle.s7_wire.specs.declared.found.Opening.TheVariants.{Confirm}
use Rattle.s7_wire.specs.declared.found.Found.{Found}
use Rattle.s7_wire.specs.declared.found.Found.TheVariants as finding
use Rattle.s7_wire.specs.declared.found.ReadFault.{ReadFault}
use Rattle.s7_wire.specs.declared.found.ReadFault.TheVariants.{BadTpdu, Unexpected, TooManyFragments, TooLong}
use Rattle.s7_wire.specs.Reading.{Unfinished, nothing_unfinished, Event, opened, message, Ending, disconnected, faulted, Progress, with_fault, opening_of, with_opening, with_joining, connected, with_told, with_tpdu, with_body}
use Rattle.s7_wire.specs.Reads.{events_by, ending_by}
use Rattle.s7_wire.proofs.ReadingLemmas.{body_at}
use Rattle.s7_dialogue.specs.Dialogue.{Conduct}
use Rattle.s7_dialogue.specs.Course.{Origin, Course, Awaits, for_confirm, for_answers, conduct_of, size_where, read_before, with_events, with_ending, with_reading, unless_over, with_packet}
use Rattle.s7_dialogue.proofs.PacketLemmas.{packet_read}

-- ---- what is found, by what was read

-- what was read of one packet more is what was found
pub record Tells (p q : Progress) (found : Found) (octets : List ℕ) : Type 0 where
  pub events : q.events ≡ p.events ++ events_by found octets p.at
  pub ending : q.ending ≡ ending_by found p.at

-- these are the further events
events_told : (p q : Progress) (found : Found) (octets : List ℕ) (further : List Event) → Tells p q found octets
    → q.events ≡ p.events ++ further → further ≡ events_by found octets p.at
events_told p q found octets further t e =
    append_cancel_left p.events further (events_by found octets p.at) (sym e ∙ t.events)

more_by : (found : Found) (octets : List ℕ) (at : ℕ) → [] ≡ events_by found octets at → None ≡ ending_by found at
    → found ≡ finding.More
more_by finding.More octets at e n = refl
more_by (finding.Opened c) octets at e n = absurd (cc)
more_by finding.Message octets at e n = absurd (cc)
more_by finding.Disconnected octets at e n = absurd (cc)
more_by (finding.Fault fault) octets at e n = absurd (cc)

pub tells_more : (p q : Progress) (found : Found) (octets : List ℕ) → Tells p q found octets → q.events ≡ p.events
    → q.ending ≡ None → found ≡ finding.More
tells_more p q found octets t same none =
    more_by found octets p.at (events_told p q found octets [] t (same ∙ sym (append-nil p.events)))
    (sym none ∙ t.ending)

abbrev fault_in : ReadFault → Option Ending → ReadFault
fault_in default None = default
fault_in default (Some disconnected) = default
fault_in default (Some (faulted fault at)) = fault

fault_by : (fault : ReadFault) (found : Found) (at : ℕ) → Some (faulted fault at) ≡ ending_by found at
    → found ≡ finding.Fault fault
fault_by fault finding.More at e = absurd (cc)
fault_by fault (finding.Opened c) at e = absurd (cc)
fault_by fault finding.Message at e = absurd (cc)
fault_by fault finding.Disconnected at e = absurd (cc)
fault_by fault (finding.Fault other) at e = ap finding.Fault (sym (ap (fault_in fault) e))

pub tells_fault : (p q : Progress) (found : Found) (octets : List ℕ) (fault : ReadFault) → Tells p q found octets
    → q.ending ≡ Some (faulted fault p.at) → found ≡ finding.Fault fault
tells_fault p q found octets fault t e = fault_by fault found p.at (sym e ∙ t.ending)

-- ---- fragments

-- what a step makes of the count and the octets of a message
abbrev Bounds : Step → ℕ → Type 0
Bounds (more octets n) count = (n ≡ count + 1) × (n ≤ 64)
Bounds (whole octets) count = length octets ≤ 8192
Bounds too_many_fragments count = Unit {0}
Bounds too_long count = Unit {0}

bounds_if : (a b c : Bool) (octets : List ℕ) (count : ℕ) → (a ≡ false → count < 64)
    → (b ≡ false → length octets ≤ 8192)
    → Bounds (cond a too_many_fragments (cond b too_long (cond c (whole octets) (more octets (count + 1))))) count
bounds_if true b c octets count h k = tt
bounds_if false true c octets count h k = tt
bounds_if false false true octets count h k = k refl
bounds_if false false false octets count h k = (refl, omega (arith, h refl))

below_64 : (count : ℕ) → nat_le 64 count ≡ false → count < 64
below_64 count e = grind (arith, nat_tests)

within : (n m : ℕ) → nat_lt message_limit (n + m) ≡ false → n + m ≤ 8192
within n m e = grind (arith, nat_tests)

joined_bounds : (octets : List ℕ) (count : ℕ) (f : Fragment) → Bounds (joined_with message_limit octets count f) count
joined_bounds octets count f =
    bounds_if (nat_le 64 count) (nat_lt message_limit (length octets + length f.user)) f.last (octets ++ f.user) count
    (below_64 count)
    (λ e. omega (arith, within (length octets) (length f.user) e, length-append octets f.user))

-- ---- what is read of a packet

-- what was read then, by the further events and the ending
abbrev pub Brings : List Event → Option Ending → Progress → Progress → Type 0
Brings [] None p q =
    (q.size ≡ p.size) × IsSome p.size × (q.unfinished.count ≡ p.unfinished.count + 1) × (q.unfinished.count ≤ 64)
Brings [] (Some end) p q = q.size ≡ p.size
Brings (opened c ∷ events) end p q =
    (q.size ≡ Some (size_of_code c.size_code)) × (p.size ≡ None) × (q.unfinished ≡ p.unfinished)
Brings (message octets at ∷ events) end p q =
    (q.size ≡ p.size) × IsSome p.size × (length octets ≤ 8192) × (q.unfinished ≡ nothing_unfinished)

-- What a packet makes of what was read before it, and what a course makes of that packet: they differ in places alone.
record ReadsAlike (p q next : Progress) : Type 0 where
  further : List Event
  end : Option Ending
  events : q.events ≡ p.events ++ further
  ending : q.ending ≡ end
  brings : Brings further end p q
  course : (c : Conduct) (course : Course) → with_reading c course next
      ≡ with_ending (with_events c (record course { unfinished = q.unfinished }) further) end

-- the same message that isn't whole, with no packet before it
abbrev alone : Progress → Option ℕ → Progress
alone p size = record { at = 0; size = size; unfinished = p.unfinished; events = []; ending = None }

alike_fault : (p : Progress) (size : Option ℕ) (fault : ReadFault)
    → ReadsAlike p (with_fault p fault) (with_fault (alone p size) fault)
alike_fault p size fault = record {
  further = [];
  end = Some (faulted fault p.at);
  events = sym (append-nil p.events);
  ending = refl;
  brings = refl;
  course = λ c course. refl;
}

alike_joining : (s : Step) (p : Progress) (body : List ℕ) (size : Option ℕ) → IsSome p.size → p.ending ≡ None
    → Bounds s p.unfinished.count → ReadsAlike p (with_joining p body s) (with_joining (alone p size) body s)
alike_joining (more joined count) p body size some none bounds = record {
  further = [];
  end = None;
  events = sym (append-nil p.events);
  ending = none;
  brings = (refl, some, bounds.0, bounds.1);
  course = λ c course. refl;
}
alike_joining (whole joined) p body size some none bounds = record {
  further = message joined p.at ∷ [];
  end = None;
  events = refl;
  ending = none;
  brings = (refl, some, bounds, refl);
  course = λ c course. refl;
}
alike_joining too_many_fragments p body size some none bounds = alike_fault p size TooManyFragments
alike_joining too_long p body size some none bounds = alike_fault p size TooLong

alike_connected : (told : Told) (p : Progress) (body : List ℕ) (size : Option ℕ) → IsSome p.size → p.ending ≡ None
    → ReadsAlike p (connected p body told) (connected (alone p size) body told)
alike_connected (fragment last user) p body size some none =
    let f : Fragment = record { last = last; user = user } in
    alike_joining (joined_with message_limit p.unfinished.octets p.unfinished.count f) p body size some none
    (joined_bounds p.unfinished.octets p.unfinished.count f)
alike_connected (disconnect reason) p body size some none = record {
  further = [];
  end = Some disconnected;
  events = sym (append-nil p.events);
  ending = refl;
  brings = refl;
  course = λ c course. refl;
}
alike_connected (connect told) p body size some none = alike_fault p size Unexpected
alike_connected (confirm told) p body size some none = alike_fault p size Unexpected
alike_connected (reject cause) p body size some none = alike_fault p size Unexpected

alike_opening : (o : Option ConnectionTold) (p : Progress) (body : List ℕ) (size : Option ℕ) → p.size ≡ None
    → p.ending ≡ None → ReadsAlike p (with_opening p body o) (with_opening (alone p size) body o)
alike_opening None p body size unsized none = alike_fault p size Unexpected
alike_opening (Some c) p body size unsized none = record {
  further = opened c ∷ [];
  end = None;
  events = refl;
  ending = none;
  brings = (refl, unsized, refl);
  course = λ c course. refl;
}

-- another TPDU size, where there is one
abbrev sized_as : Option ℕ → ℕ → Option ℕ
sized_as None n = None
sized_as (Some size) n = Some n

alike_told : (o : Option ℕ) (told : Told) (p : Progress) (body : List ℕ) (n : ℕ) → p.size ≡ o → p.ending ≡ None
    → ReadsAlike p (with_told Confirm p body o told)
    (with_told Confirm (alone p (sized_as o n)) body (sized_as o n) told)
alike_told None told p body n sized none = alike_opening (opening_of Confirm told) p body None sized none
alike_told (Some size) told p body n sized none =
    alike_connected told p body (Some n) (subst IsSome (sym sized) refl) none

alike_tpdu : (tpdu : Result Told CotpFault) (p : Progress) (body : List ℕ) (n : ℕ) → p.ending ≡ None
    → ReadsAlike p (with_tpdu Confirm p body tpdu) (with_tpdu Confirm (alone p (sized_as p.size n)) body tpdu)
alike_tpdu (Err fault) p body n none = alike_fault p (sized_as p.size n) BadTpdu
alike_tpdu (Ok told) p body n none = alike_told p.size told p body n refl none

alike_body : (p : Progress) (body : List ℕ) (n : ℕ) → p.ending ≡ None
    → ReadsAlike p (with_body Confirm p body) (with_tpdu Confirm (alone p (sized_as p.size n)) body (tpdu_of body))
alike_body p body n none =
    subst (λ (q : Progress). ReadsAlike p q (with_tpdu Confirm (alone p (sized_as p.size n)) body (tpdu_of body)))
    (sym (body_at Confirm p body none)) (alike_tpdu (tpdu_of body) p body n none)

-- ---- what it makes of a course

-- the course after what was found, with this of a message that isn't whole
abbrev pub after_found : Conduct → Course → Found → List ℕ → Unfinished → Course
after_found c course found octets u =
    with_ending (with_events c (record course { unfinished = u }) (events_by found octets 0)) (ending_by found 0)

-- the place makes no difference
found_anywhere : (c : Conduct) (course : Course) (found : Found) (octets : List ℕ) (at : ℕ)
    → with_ending (with_events c course (events_by found octets at)) (ending_by found at)
    ≡ with_ending (with_events c course (events_by found octets 0)) (ending_by found 0)
found_anywhere c course finding.More octets at = refl
found_anywhere c course (finding.Opened k) octets at = refl
found_anywhere c course finding.Message octets at = refl
found_anywhere c course finding.Disconnected octets at = refl
found_anywhere c course (finding.Fault fault) octets at = refl

-- before the opening the confirm is awaited, and behind it answers are
abbrev pub AreAlike : Option ℕ → Awaits → Type 0
AreAlike None awaits = awaits ≡ for_confirm
AreAlike (Some size) awaits = awaits ≡ for_answers

-- the course is where the reading is
pub record IsLike (course : Course) (size : Option ℕ) (u : Unfinished) : Type 0 where
  pub unfinished : u ≡ course.unfinished
  pub awaits : AreAlike size course.awaits

-- octets are awaited there
pub unless_alike : (o : Option ℕ) (next c : Course) (awaits : Awaits) → AreAlike o awaits
    → unless_over next c awaits ≡ next
unless_alike None next c awaits h = ap (unless_over next c) h
unless_alike (Some size) next c awaits h = ap (unless_over next c) h

sized_alike : (o : Option ℕ) (awaits : Awaits) (n : ℕ) → AreAlike o awaits → size_where awaits n ≡ sized_as o n
sized_alike None awaits n h = ap (λ a. size_where a n) h
sized_alike (Some size) awaits n h = ap (λ a. size_where a n) h

alone_alike : (p : Progress) (course : Course) → IsLike course p.size p.unfinished
    → read_before course ≡ alone p (sized_as p.size course.size)
alone_alike p course like =
    ap (λ size. record { at = 0; size = size; unfinished = course.unfinished; events = []; ending = None })
    (sized_alike p.size course.awaits course.size like.awaits)
    ∙ ap (λ u. record {
      at = 0;
      size = sized_as p.size course.size;
      unfinished = u;
      events = [];
      ending = None;
    }) (sym like.unfinished)

-- what was read of a packet, and what that makes of a course
pub record Makes (p q : Progress) (body octets : List ℕ) (found : Found) : Type 0 where
  pub brings : Brings (events_by found octets p.at) (ending_by found p.at) p q
  pub course : (origin : Origin) (course : Course) → IsLike course p.size p.unfinished
      → with_packet origin course body ≡ after_found (conduct_of origin) course found octets q.unfinished

-- WHAT A PACKET MAKES of a course, by what the reader finds in it
pub makes_packet : (p : Progress) (body octets : List ℕ) (found : Found) → p.ending ≡ None
    → Tells p (with_body Confirm p body) found octets → Makes p (with_body Confirm p body) body octets found
makes_packet p body octets found none t =
    let q = with_body Confirm p body in
    let events : (n : ℕ) → (alike_body p body n none).further ≡ events_by found octets p.at = λ n.
    let k = alike_body p body n none in events_told p q found octets k.further t k.events in
    let ending : (n : ℕ) → (alike_body p body n none).end ≡ ending_by found p.at = λ n.
    sym (alike_body p body n none).ending ∙ t.ending in
    record {
      brings = subst (λ end. Brings (events_by found octets p.at) end p q) (ending 0)
          (subst (λ xs. Brings xs (alike_body p body 0 none).end p q) (events 0) (alike_body p body 0 none).brings);
      course = λ origin course like.
          let c = conduct_of origin in
          let n = course.size in
          let k = alike_body p body n none in
          let here : Course = record course { unfinished = q.unfinished } in
          packet_read origin course body
          ∙ (unless_alike p.size (with_reading c course (with_tpdu Confirm (read_before course) body (tpdu_of body)))
          course course.awaits like.awaits
          ∙ (ap (λ (r : Progress). with_reading c course (with_tpdu Confirm r body (tpdu_of body)))
          (alone_alike p course like)
          ∙ (k.course c course
          ∙ (ap (λ xs. with_ending (with_events c here xs) k.end) (events n)
          ∙ (ap (with_ending (with_events c here (events_by found octets p.at))) (ending n)
          ∙ found_anywhere c here found octets p.at)))));
    }
