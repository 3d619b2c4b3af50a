-- A message comes after the connect request, so its link has a TPDU size.
use Rattle.std.proofs.Common.{◌≡◌, ℕ, Bool, true, false, cond, List, [], ◌∷◌, ◌++◌, Ok, Err, refl, ap, sym, ◌∙◌, subst}
use Rattle.std.specs.Prelude.{Option, None, Some, Result}
use Rattle.s7_tpkt.specs.Packets.{packets_of}
use Rattle.s7_tpkt.specs.declared.state.FedState.{FedState}
use Rattle.s7_tpkt.specs.declared.state.FedState.TheVariants as fed
use Rattle.s7_cotp.specs.Told.{Told, ConnectionTold, connect, confirm, fragment, disconnect, reject}
use Rattle.s7_cotp.specs.Reading.{tpdu_of}
use Rattle.s7_cotp.specs.Messages.{Step, more, whole, too_many_fragments, too_long, joined_with}
use Rattle.s7_cotp.specs.declared.tpdu.CotpFault.{CotpFault}
use Rattle.s7_wire.specs.Bounds.{message_limit, size_of_code}
use Rattle.s7_wire.specs.declared.found.Opening.TheVariants.{Request}
use Rattle.s7_wire.specs.Reading.{Event, opened, message, Ending, Progress, limits, opening_of, with_opening, with_joining, connected}
use Rattle.s7_wire.specs.Reading.{with_told, with_tpdu, unless_ended, with_body, with_bodies, with_state, state_behind, reading}
use Rattle.s7_wire.specs.Reading as wire
use Rattle.s7_session.specs.declared.outcome.Outcome.TheVariants.{NotS7}
use Rattle.s7_session.specs.Events.{Standing, lives, stops, unjudged, closes, Made, made, is_s7, by_judgement, asks, by_clock}
use Rattle.s7_session.specs.Judgement.{Judgement, Asking, refuse, own, ask, judge, sequence_of}
use Rattle.s7_session.specs.LinkState.{LinkState}
use Rattle.s7_session.specs.Owed.{Past, start, with_made, if_lives, next, run}
use Rattle.s7_session.specs.Verdict.{Verdict, Entered, Full, ClockFailed, NoMemory}

-- ---- the first event opens

-- the TPDU size and the events that were read: none before the opening, which is the first
abbrev OpensFirst : Option ℕ → List Event → Type 0
OpensFirst None events = events ≡ []
OpensFirst (Some size) events = (c : ConnectionTold) × (rest : List Event) × (events ≡ opened c ∷ rest)

-- what is read so far begins with the opening
abbrev IsOpened : Progress → Type 0
IsOpened p = OpensFirst p.size p.events

none_some : (n : ℕ) → None ≡ Some n → ⊥
none_some n is = cc (is)

more_first : (size : Option ℕ) (s : ℕ) (events further : List Event) → size ≡ Some s → OpensFirst size events → OpensFirst size (events ++ further)
more_first None s events further is first = absurd (none_some s is)
more_first (Some size) s events further is first = (first.0, first.1 ++ further, ap (λ (es : List Event). es ++ further) first.2)

opening_first : (p : Progress) (body : List ℕ) (o : Option ConnectionTold) → p.size ≡ None → IsOpened p → IsOpened (with_opening p body o)
opening_first p body None none is = is
opening_first p body (Some c) none is =
    (c, [], ap (λ (es : List Event). es ++ opened c ∷ []) (subst (λ (s : Option ℕ). OpensFirst s p.events) none is))

joining_first : (p : Progress) (body : List ℕ) (size : ℕ) (s : Step) → p.size ≡ Some size → IsOpened p → IsOpened (with_joining p body s)
joining_first p body size (more octets count) sized is = is
joining_first p body size (whole octets) sized is = more_first p.size size p.events (message octets p.at ∷ []) sized is
joining_first p body size too_many_fragments sized is = is
joining_first p body size too_long sized is = is

connected_first : (p : Progress) (body : List ℕ) (size : ℕ) (t : Told) → p.size ≡ Some size → IsOpened p → IsOpened (connected p body t)
connected_first p body size (fragment last user) sized is =
    joining_first p body size (joined_with message_limit p.unfinished.octets p.unfinished.count (record { last = last; user = user })) sized is
connected_first p body size (disconnect reason) sized is = is
connected_first p body size (connect c) sized is = is
connected_first p body size (confirm c) sized is = is
connected_first p body size (reject cause) sized is = is

told_first : (p : Progress) (body : List ℕ) (size : Option ℕ) (t : Told) → p.size ≡ size → IsOpened p → IsOpened (with_told Request p body size t)
told_first p body None t none is = opening_first p body (opening_of Request t) none is
told_first p body (Some size) t sized is = connected_first p body size t sized is

tpdu_first : (p : Progress) (body : List ℕ) (t : Result Told CotpFault) → IsOpened p → IsOpened (with_tpdu Request p body t)
tpdu_first p body (Err fault) is = is
tpdu_first p body (Ok t) is = told_first p body p.size t refl is

unless_first : (o : Option Ending) (q p : Progress) → IsOpened q → IsOpened p → IsOpened (unless_ended o q p)
unless_first None q p later is = later
unless_first (Some ending) q p later is = is

body_first : (p : Progress) (body : List ℕ) → IsOpened p → IsOpened (with_body Request p body)
unfolding with_body
body_first p body is = unless_first p.ending (with_tpdu Request p body (tpdu_of body)) p (tpdu_first p body (tpdu_of body) is) is

bodies_first : (p : Progress) (bodies : List (List ℕ)) → IsOpened p → IsOpened (with_bodies Request p bodies)
bodies_first p [] is = is
bodies_first p (body ∷ bodies) is = bodies_first (with_body Request p body) bodies (body_first p body is)

state_first : (p : Progress) (s : FedState) → IsOpened p → IsOpened (with_state p s)
state_first p fed.BadVersion is = is
state_first p fed.BadLength is = is
state_first p fed.TooLong is = is
state_first p fed.More is = is
state_first p fed.Whole is = is

reading_first : (b : List ℕ) → IsOpened (reading Request b)
unfolding reading
reading_first b =
    let p = with_bodies Request wire.start (packets_of (limits Request) b) in
    let is = bodies_first wire.start (packets_of (limits Request) b) refl in
    unless_first p.ending (with_state p (state_behind Request b)) p (state_first p (state_behind Request b) is) is

-- ---- so an event opened before a message

same_event : (x y : Event) (xs ys : List Event) → x ∷ xs ≡ y ∷ ys → x ≡ y
same_event x y xs ys is = cc (is)

no_event : (earlier : List Event) (e : Event) (later : List Event) → [] ≡ earlier ++ e ∷ later → ⊥
no_event [] e later is = cc (is)
no_event (x ∷ earlier) e later is = cc (is)

opened_none : (c : ConnectionTold) (m : List ℕ) (at : ℕ) → opened c ≡ message m at → ⊥
opened_none c m at is = cc (is)

opened_before : (size : Option ℕ) (events earlier : List Event) (m : List ℕ) (at : ℕ) (later : List Event) → OpensFirst size events
    → events ≡ earlier ++ message m at ∷ later → (c : ConnectionTold) × (rest : List Event) × (earlier ≡ opened c ∷ rest)
opened_before None events earlier m at later first are = absurd (no_event earlier (message m at) later (sym first ∙ are))
opened_before (Some size) events [] m at later first are =
    absurd (opened_none first.0 m at (same_event (opened first.0) (message m at) first.1 later (sym first.2 ∙ are)))
opened_before (Some size) events (e ∷ earlier) m at later first are =
    (first.0, earlier, ap (λ (x : Event). x ∷ earlier) (sym (same_event (opened first.0) e first.1 _ (sym first.2 ∙ are))))

-- ---- a size stays

-- there is a TPDU size
abbrev pub IsSized : Option ℕ → Type 0
IsSized size = (n : ℕ) × (size ≡ Some n)

clock_sized : (timed : Bool) (size : ℕ) (link : LinkState) (sequence : ℕ) (asking : Asking) (js : List Verdict)
    → IsSized (by_clock timed size link sequence asking js).size
clock_sized true size link sequence asking js = (size, refl)
clock_sized false size link sequence asking js = (size, refl)

asks_sized : (size : ℕ) (link : LinkState) (sequence : ℕ) (asking : Asking) (js : List Verdict) → IsSized (asks size link sequence asking js).size
asks_sized size link sequence asking [] = (size, refl)
asks_sized size link sequence asking (Entered reply moment ∷ js) = (size, refl)
asks_sized size link sequence asking (Full ∷ js) = (size, refl)
asks_sized size link sequence asking (ClockFailed ∷ js) = clock_sized asking.is_timed size link sequence asking js
asks_sized size link sequence asking (NoMemory ∷ js) = (size, refl)

judgement_sized : (size : ℕ) (link : LinkState) (sequence : ℕ) (js : List Verdict) (j : Judgement) → IsSized (by_judgement size link sequence js j).size
judgement_sized size link sequence js (refuse refusal) = (size, refl)
judgement_sized size link sequence js (own messages later) = (size, refl)
judgement_sized size link sequence js (ask asking) = asks_sized size link sequence asking js

-- what a message leads to that isn't S7
abbrev pub no_s7 : ℕ → LinkState → ℕ → List Verdict → Made
no_s7 size link at verdicts = record {
  size = Some size;
  link = link;
  out = [];
  mets = [];
  verdicts = verdicts;
  standing = closes (NotS7 at);
}

kind_sized : (b : Bool) (m other : Made) → IsSized m.size → IsSized other.size → IsSized (cond b m other).size
kind_sized true m other is other_is = is
kind_sized false m other is other_is = other_is

made_sized : (size : ℕ) (link : LinkState) (e : Event) (js : List Verdict) → IsSized (made (Some size) link e js).size
unfolding made
made_sized size link (opened c) js = (size_of_code c.size_code, refl)
made_sized size link (message m at) js =
    kind_sized (is_s7 m) (by_judgement size link (sequence_of m) js (judge link m)) (no_s7 size link at js)
    (judgement_sized size link (sequence_of m) js (judge link m)) (size, refl)

if_sized : (s : Standing) (q p : Past) → IsSized q.size → IsSized p.size → IsSized (if_lives s q p).size
if_sized lives q p later is = later
if_sized stops q p later is = is
if_sized unjudged q p later is = is
if_sized (closes end) q p later is = is

next_sized : (p : Past) (e : Event) → IsSized p.size → IsSized (next p e).size
next_sized p e is =
    if_sized p.standing (with_made p (made p.size p.link e p.verdicts)) p
    (subst (λ (s : Option ℕ). IsSized (made s p.link e p.verdicts).size) (sym is.1) (made_sized is.0 p.link e p.verdicts)) is

run_sized : (p : Past) (events : List Event) → IsSized p.size → IsSized (run p events).size
run_sized p [] is = is
run_sized p (e ∷ events) is = run_sized (next p e) events (next_sized p e is)

opened_sized : (first : LinkState) (js : List Verdict) (c : ConnectionTold) (rest : List Event) → IsSized (run (start first js) (opened c ∷ rest)).size
unfolding made
opened_sized first js c rest = run_sized (next (start first js) (opened c)) rest (size_of_code c.size_code, refl)

-- the link of a message has a TPDU size when the message comes
pub messages_follow_openings : (first : LinkState) (b : List ℕ) (js : List Verdict) (earlier later : List Event) (m : List ℕ) (at : ℕ)
    → (reading Request b).events ≡ earlier ++ message m at ∷ later → IsSized (run (start first js) earlier).size
messages_follow_openings first b js earlier later m at are =
    let is = opened_before (reading Request b).size (reading Request b).events earlier m at later (reading_first b) are in
    subst (λ (es : List Event). IsSized (run (start first js) es).size) (sym is.2) (opened_sized first js is.0 is.1)
