-- What is read of a packet that opens a link, of octets behind it, and of any front of them.
use Rattle.std.proofs.Common.{◌≡◌, inl, inr, ℕ, ◌+◌, ◌<◌, ◌≤◌, List, [], ◌∷◌, ◌++◌, length}
use Rattle.std.proofs.Common.{refl, ap, sym, ◌∙◌, subst, Ok, append_assoc, append-nil}
use Rattle.std.specs.Prelude.{Option, None, Some, Result, Err}
use Rattle.s7_tpkt.specs.Packets.{packet_of, packets_of, rest_of, state_of}
use Rattle.s7_tpkt.specs.declared.state.FedState.TheVariants.{More}
use Rattle.s7_tpkt.proofs.WriteLemmas.{one_written}
use Rattle.s7_cotp.specs.Messages.{Step, more, whole, too_many_fragments, too_long, joined_with}
use Rattle.s7_cotp.specs.Reading.{tpdu_of}
use Rattle.s7_cotp.specs.Told.{Told, ConnectionTold, connect, confirm, fragment, disconnect, reject}
use Rattle.s7_cotp.specs.declared.tpdu.CotpFault.{CotpFault}
use Rattle.s7_wire.specs.Bounds.{message_limit, size_of_code}
use Rattle.s7_wire.specs.declared.found.Opening.{Opening}
use Rattle.s7_wire.specs.Reading.{Event, opened, message, Ending, Progress, start, nothing_unfinished}
use Rattle.s7_wire.specs.Reading.{after_packet, limits, with_opening, with_joining, connected, with_told}
use Rattle.s7_wire.specs.Reading.{with_tpdu, unless_ended, with_body, with_bodies, with_state, with_rest}
use Rattle.s7_wire.specs.Reading.{state_behind, reading, Opens}
use Rattle.s7_wire.specs.Sent.{sent_messages}
use Rattle.s7_wire.proofs.GrowthLemmas.{reads_on}
use Rattle.s7_wire.proofs.ReadingLemmas.{reading_is, rest_more, body_at}
use Rattle.s7_wire.proofs.ReadingLemmas.{body_keeps}
use Rattle.s7_tpkt.specs.declared.state.FedState.{FedState}
use Rattle.s7_tpkt.specs.declared.state.FedState.TheVariants as fed
use Rattle.s7_partner.proofs.NewLemmas.{reading_none}
use Rattle.s7_partner.proofs.PairParts.{parts, front_more}
use Rattle.s7_partner.proofs.PairFronts.{still_read, Settled, AreMessages, AreShort, reads_front}

-- ---- the packet that opens

-- a body that opens the link as this connection, with TPDUs of 1,024 octets
pub record IsFirst (opening : Opening) (body : List ℕ) (c : ConnectionTold) : Type 0 where
  pub least : 3 ≤ length body
  pub most : length body + 4 ≤ 8199
  pub opens : Opens opening body c
  pub size : size_of_code c.size_code ≡ 1024

abbrev opening_read : List ℕ → ConnectionTold → Progress
opening_read body c = record {
  at = after_packet 0 body;
  size = Some (size_of_code c.size_code);
  unfinished = nothing_unfinished;
  events = opened c ∷ [];
  ending = None;
}

read_opened : (opening : Opening) (body : List ℕ) (c : ConnectionTold) → IsFirst opening body c
    → reading opening (packet_of body) ≡ opening_read body c
read_opened opening body c h =
    let f : List (List ℕ) → List ℕ → Progress = λ ps rest. with_rest (with_bodies opening start ps)
    (state_of (limits opening ps) rest) in
    let packets = one_written (limits opening) body h.least h.most in
    reading_is opening (packet_of body)
    ∙ (ap (λ ps. f ps (rest_of (limits opening) (packet_of body))) packets.0
    ∙ (ap (f (body ∷ [])) packets.1
    ∙ (rest_more (with_body opening start body)
    ∙ (body_at opening start body refl
    ∙ (ap (with_tpdu opening start body) h.opens.spelled
    ∙ ap (with_opening start body) h.opens.opens)))))

opening_settled : (opening : Opening) (body : List ℕ) (c : ConnectionTold) → IsFirst opening body c
    → Settled opening (packet_of body)
opening_settled opening body c h =
    let read = read_opened opening body c h in
    record {
      rest = (one_written (limits opening) body h.least h.most).1;
      unended = ap (λ (p : Progress). p.ending) read;
      unfinished = ap (λ (p : Progress). p.unfinished) read;
      size = ap (λ (p : Progress). p.size) read ∙ ap Some h.size;
    }

clear_at_first : (opening : Opening) → rest_of (limits opening) [] ≡ []
unfolding rest_of
clear_at_first opening = refl

limit_at_first : (opening : Opening) → limits opening (packets_of (limits opening) []) ≡ 8199
unfolding packets_of
limit_at_first opening = refl

-- before all octets of the opening packet came, nothing is read
opening_front : (opening : Opening) (body u v : List ℕ) (c : ConnectionTold) → IsFirst opening body c
    → u ++ v ≡ packet_of body → 0 < length v → (reading opening u).events ≡ []
opening_front opening body u v c h is some =
    let none = ap (λ (p : Progress). p.ending) (reading_none opening) in
    let more = front_more 8199 body u v h.least h.most is some in
    ap (λ (p : Progress). p.events)
    (still_read opening [] u 8199 (clear_at_first opening) none (limit_at_first opening) more ∙ reading_none opening)

-- What is read of a front of an opening packet with octets behind it: nothing, or all of it and then what is read of
-- those octets.
pub data FirstRead (opening : Opening) (b body behind : List ℕ) (c : ConnectionTold) : Type 0 where
  nothing : (reading opening b).events ≡ [] → FirstRead opening b body behind c
  all : (u v : List ℕ) → b ≡ packet_of body ++ u → behind ≡ u ++ v → FirstRead opening b body behind c

pub first_read : (opening : Opening) (b rest body behind : List ℕ) (c : ConnectionTold) → IsFirst opening body c
    → packet_of body ++ behind ≡ b ++ rest → FirstRead opening b body behind c
first_read opening b rest body behind c h e =
    elim (parts (packet_of body) behind b rest e) as (λ _. FirstRead opening b body behind c) [
      | inl k ↦ nothing (opening_front opening body b k.0 c h k.1 k.2)
      | inr k ↦ all k.0 rest k.1 k.2
    ]

-- the events behind an opening packet, whatever the octets are
pub data OnlyMessages : List Event → Type 0 where
  no_more : OnlyMessages []
  one_more : (m : List ℕ) (at : ℕ) {es : List Event} → OnlyMessages es → OnlyMessages (message m at ∷ es)

record Adds (p q : Progress) : Type 0 where
  further : List Event
  events : q.events ≡ p.events ++ further
  only : OnlyMessages further

adds_none : (p q : Progress) → q.events ≡ p.events → Adds p q
adds_none p q e = record { further = []; events = e ∙ sym (append-nil p.events); only = no_more }

only_both : {xs ys : List Event} → OnlyMessages xs → OnlyMessages ys → OnlyMessages (xs ++ ys)
only_both no_more k = k
only_both (one_more m at h) k = one_more m at (only_both h k)

adds_both : (p q r : Progress) → Adds p q → Adds q r → Adds p r
adds_both p q r g h = record {
  further = g.further ++ h.further;
  events = h.events ∙ (ap (λ x. x ++ h.further) g.events ∙ append_assoc p.events g.further h.further);
  only = only_both g.only h.only;
}

joining_adds : (p : Progress) (body : List ℕ) (s : Step) → Adds p (with_joining p body s)
joining_adds p body (more octets count) = adds_none p _ refl
joining_adds p body (whole octets) =
    record { further = message octets p.at ∷ []; events = refl; only = one_more octets p.at no_more }
joining_adds p body too_many_fragments = adds_none p _ refl
joining_adds p body too_long = adds_none p _ refl

connected_adds : (p : Progress) (body : List ℕ) (t : Told) → Adds p (connected p body t)
connected_adds p body (fragment last user) =
    joining_adds p body
    (joined_with message_limit p.unfinished.octets p.unfinished.count (record { last = last; user = user }))
connected_adds p body (disconnect reason) = adds_none p _ refl
connected_adds p body (connect c) = adds_none p _ refl
connected_adds p body (confirm c) = adds_none p _ refl
connected_adds p body (reject cause) = adds_none p _ refl

tpdu_adds : (opening : Opening) (p : Progress) (body : List ℕ) (n : ℕ) (t : Result Told CotpFault) → p.size ≡ Some n
    → Adds p (with_tpdu opening p body t)
tpdu_adds opening p body n (Err fault) sized = adds_none p _ refl
tpdu_adds opening p body n (Ok t) sized =
    subst (λ o. Adds p (with_told opening p body o t)) (sym sized) (connected_adds p body t)

unless_adds : (o : Option Ending) (next p : Progress) → Adds p next → Adds p (unless_ended o next p)
unless_adds None next p h = h
unless_adds (Some ending) next p h = adds_none p p refl

body_adds : (opening : Opening) (p : Progress) (body : List ℕ) (n : ℕ) → p.size ≡ Some n
    → Adds p (with_body opening p body)
unfolding with_body
body_adds opening p body n sized = unless_adds p.ending _ p (tpdu_adds opening p body n (tpdu_of body) sized)

bodies_add : (opening : Opening) (p : Progress) (bodies : List (List ℕ)) (n : ℕ) → p.size ≡ Some n
    → Adds p (with_bodies opening p bodies)
bodies_add opening p [] n sized = adds_none p p refl
bodies_add opening p (body ∷ bodies) n sized =
    adds_both p (with_body opening p body) (with_bodies opening (with_body opening p body) bodies)
    (body_adds opening p body n sized)
    (bodies_add opening (with_body opening p body) bodies n (body_keeps opening p body n sized))

state_adds : (p : Progress) (s : FedState) → Adds p (with_state p s)
state_adds p fed.BadVersion = adds_none p _ refl
state_adds p fed.BadLength = adds_none p _ refl
state_adds p fed.TooLong = adds_none p _ refl
state_adds p fed.More = adds_none p _ refl
state_adds p fed.Whole = adds_none p _ refl

reading_adds : (opening : Opening) (b rest : List ℕ) (n : ℕ) → (reading opening b).size ≡ Some n
    → Adds (reading opening b) (reading opening (b ++ rest))
reading_adds opening b rest n sized =
    let on = reads_on opening b rest in
    let p = reading opening b in
    let q = with_bodies opening p on.further in
    let s = state_behind opening (b ++ rest) in
    subst (λ (x : Progress). Adds p x) (sym on.reading)
    (adds_both p q (with_rest q s) (bodies_add opening p on.further n sized)
    (unless_adds q.ending (with_state q s) q (state_adds q s)))

-- behind the packet that opens come messages only
pub record OpenedRead (opening : Opening) (b : List ℕ) (c : ConnectionTold) : Type 0 where
  pub further : List Event
  pub events : (reading opening b).events ≡ opened c ∷ further
  pub only : OnlyMessages further

pub opened_read : (opening : Opening) (body u : List ℕ) (c : ConnectionTold) → IsFirst opening body c
    → OpenedRead opening (packet_of body ++ u) c
opened_read opening body u c h =
    let read = read_opened opening body c h in
    let adds = reading_adds opening (packet_of body) u (size_of_code c.size_code)
    (ap (λ (p : Progress). p.size) read) in
    record {
      further = adds.further;
      events = adds.events ∙ ap (λ (p : Progress). p.events ++ adds.further) read;
      only = adds.only;
    }

-- and of messages behind it a front of them
pub record MessagesRead (opening : Opening) (b : List ℕ) (c : ConnectionTold) (ms : List (List ℕ)) : Type 0 where
  pub further : List Event
  pub front : List (List ℕ)
  pub behind : List (List ℕ)
  pub events : (reading opening b).events ≡ opened c ∷ further
  pub are : AreMessages further front
  pub all : ms ≡ front ++ behind

pub messages_read : (opening : Opening) (body u v : List ℕ) (c : ConnectionTold) (ms : List (List ℕ))
    → IsFirst opening body c → AreShort ms → sent_messages 1024 ms ≡ u ++ v
    → MessagesRead opening (packet_of body ++ u) c ms
messages_read opening body u v c ms h short e =
    let read = read_opened opening body c h in
    let r = reads_front opening (packet_of body) u v ms (opening_settled opening body c h) short (sym e) in
    record {
      further = r.events;
      front = r.front;
      behind = r.behind;
      events = r.read ∙ ap (λ (p : Progress). p.events ++ r.events) read;
      are = r.are;
      all = r.all;
    }
