-- The place of a fault, by the packets before it.
use Rattle.std.proofs.Common.{◌≡◌, ℕ, ◌+◌, List, [], ◌∷◌, ◌++◌, length, refl, ap, sym, ◌∙◌, append_assoc, append-nil, Ok, Err, subst, arith, length-append, length-drop}
use Rattle.std.specs.Prelude.{Option, None, Some, Result}
use Rattle.s7_tpkt.specs.Packets.{packets_of, rest_of, Packed}
use Rattle.s7_tpkt.specs.declared.state.FedState.{FedState}
use Rattle.s7_tpkt.specs.declared.state.FedState.TheVariants as fed
use Rattle.s7_tpkt.proofs.PacketLemmas.{one_reading_reads, packet_length}
use Rattle.s7_cotp.specs.Told.{Told, ConnectionTold, connect, confirm, fragment, disconnect, reject}
use Rattle.s7_cotp.specs.Reading.{tpdu_of}
use Rattle.s7_cotp.specs.Messages.{Step, more, whole, too_many_fragments, too_long, joined_with}
use Rattle.s7_cotp.specs.declared.tpdu.CotpFault.{CotpFault}
use Rattle.s7_wire.specs.Bounds.{message_limit}
use Rattle.s7_wire.specs.declared.found.Opening.{Opening}
use Rattle.s7_wire.specs.declared.found.ReadFault.{ReadFault}
use Rattle.s7_wire.specs.Reading.{Ending, faulted, Progress, start, limits, opening_of, with_opening, with_joining, connected, with_told, with_tpdu, with_body, with_bodies, with_state, state_behind, reading, octets_in, IsFaultAfter, IsFaultPlace}
use Rattle.s7_wire.proofs.ReadingLemmas.{reading_is, body_at, bodies_before, bodies_ended, rest_at, rest_ended}

-- ---- packets that don't end the link

joining_sound : (p : Progress) (body : List ℕ) (s : Step) → (with_joining p body s).ending ≡ None → (with_joining p body s).at ≡ p.at + (4 + length body)
joining_sound p body (more octets count) h = omega arith
joining_sound p body (whole octets) h = omega arith
joining_sound p body too_many_fragments h = cc
joining_sound p body too_long h = cc

connected_sound : (p : Progress) (body : List ℕ) (t : Told) → (connected p body t).ending ≡ None → (connected p body t).at ≡ p.at + (4 + length body)
connected_sound p body (fragment last user) h =
    joining_sound p body (joined_with message_limit p.unfinished.octets p.unfinished.count (record { last = last; user = user })) h
connected_sound p body (disconnect reason) h = cc
connected_sound p body (connect c) h = cc
connected_sound p body (confirm c) h = cc
connected_sound p body (reject cause) h = cc

opening_sound : (p : Progress) (body : List ℕ) (o : Option ConnectionTold) → (with_opening p body o).ending ≡ None → (with_opening p body o).at ≡ p.at + (4 + length body)
opening_sound p body None h = cc
opening_sound p body (Some c) h = omega arith

told_sound : (opening : Opening) (p : Progress) (body : List ℕ) (size : Option ℕ) (t : Told) → (with_told opening p body size t).ending ≡ None
    → (with_told opening p body size t).at ≡ p.at + (4 + length body)
told_sound opening p body None t h = opening_sound p body (opening_of opening t) h
told_sound opening p body (Some size) t h = connected_sound p body t h

tpdu_sound : (opening : Opening) (p : Progress) (body : List ℕ) (t : Result Told CotpFault) → (with_tpdu opening p body t).ending ≡ None
    → (with_tpdu opening p body t).at ≡ p.at + (4 + length body)
tpdu_sound opening p body (Err fault) h = cc
tpdu_sound opening p body (Ok t) h = told_sound opening p body p.size t h

body_sound : (opening : Opening) (p : Progress) (body : List ℕ) → p.ending ≡ None → (with_body opening p body).ending ≡ None
    → (with_body opening p body).at ≡ p.at + (4 + length body)
body_sound opening p body none h =
    let e = body_at opening p body none in
    ap (λ q. q.at) e ∙ tpdu_sound opening p body (tpdu_of body) (ap (λ q. q.ending) (sym e) ∙ h)

bodies_sound : (opening : Opening) (p : Progress) (bodies : List (List ℕ)) → p.ending ≡ None → (with_bodies opening p bodies).ending ≡ None
    → (with_bodies opening p bodies).at ≡ p.at + octets_in bodies
bodies_sound opening p [] none h = omega arith
bodies_sound opening p (body ∷ bodies) none h =
    let q = with_body opening p body in
    let sound = bodies_before opening q bodies h in
    omega (arith, body_sound opening p body none sound, bodies_sound opening q bodies sound h)

-- ---- a packet at fault

joining_fault : (p : Progress) (body : List ℕ) (s : Step) (fault : ReadFault) (at : ℕ) → p.ending ≡ None → (with_joining p body s).ending ≡ Some (faulted fault at) → at ≡ p.at
joining_fault p body (more octets count) fault at none h = cc
joining_fault p body (whole octets) fault at none h = cc
joining_fault p body too_many_fragments fault at none h = cc
joining_fault p body too_long fault at none h = cc

connected_fault : (p : Progress) (body : List ℕ) (t : Told) (fault : ReadFault) (at : ℕ) → p.ending ≡ None → (connected p body t).ending ≡ Some (faulted fault at) → at ≡ p.at
connected_fault p body (fragment last user) fault at none h =
    joining_fault p body (joined_with message_limit p.unfinished.octets p.unfinished.count (record { last = last; user = user })) fault at none h
connected_fault p body (disconnect reason) fault at none h = cc
connected_fault p body (connect c) fault at none h = cc
connected_fault p body (confirm c) fault at none h = cc
connected_fault p body (reject cause) fault at none h = cc

opening_fault : (p : Progress) (body : List ℕ) (o : Option ConnectionTold) (fault : ReadFault) (at : ℕ) → p.ending ≡ None → (with_opening p body o).ending ≡ Some (faulted fault at) → at ≡ p.at
opening_fault p body None fault at none h = cc
opening_fault p body (Some c) fault at none h = cc

told_fault : (opening : Opening) (p : Progress) (body : List ℕ) (size : Option ℕ) (t : Told) (fault : ReadFault) (at : ℕ) → p.ending ≡ None
    → (with_told opening p body size t).ending ≡ Some (faulted fault at) → at ≡ p.at
told_fault opening p body None t fault at none h = opening_fault p body (opening_of opening t) fault at none h
told_fault opening p body (Some size) t fault at none h = connected_fault p body t fault at none h

tpdu_fault : (opening : Opening) (p : Progress) (body : List ℕ) (t : Result Told CotpFault) (fault : ReadFault) (at : ℕ) → p.ending ≡ None
    → (with_tpdu opening p body t).ending ≡ Some (faulted fault at) → at ≡ p.at
tpdu_fault opening p body (Err bad) fault at none h = cc
tpdu_fault opening p body (Ok t) fault at none h = told_fault opening p body p.size t fault at none h

body_fault : (opening : Opening) (p : Progress) (body : List ℕ) (fault : ReadFault) (at : ℕ) → p.ending ≡ None
    → (with_body opening p body).ending ≡ Some (faulted fault at) → at ≡ p.at
body_fault opening p body fault at none h =
    tpdu_fault opening p body (tpdu_of body) fault at none (ap (λ q. q.ending) (sym (body_at opening p body none)) ∙ h)

-- the first packet at fault among these
record FindsFault (opening : Opening) (p : Progress) (bodies : List (List ℕ)) (fault : ReadFault) (at : ℕ) : Type 0 where
  pub before : List (List ℕ)
  pub body : List ℕ
  pub further : List (List ℕ)
  pub split : bodies ≡ before ++ body ∷ further
  pub sound : (with_bodies opening p before).ending ≡ None
  pub ends : (with_body opening (with_bodies opening p before) body).ending ≡ Some (faulted fault at)

finds_here : (opening : Opening) (p : Progress) (body : List ℕ) (bodies : List (List ℕ)) (fault : ReadFault) (at : ℕ) (ending : Ending) → p.ending ≡ None
    → (with_body opening p body).ending ≡ Some ending → (with_bodies opening (with_body opening p body) bodies).ending ≡ Some (faulted fault at)
    → FindsFault opening p (body ∷ bodies) fault at
finds_here opening p body bodies fault at ending none e h = record {
  before = [];
  body = body;
  further = bodies;
  split = refl;
  sound = none;
  ends = ap (λ q. q.ending) (sym (bodies_ended opening (with_body opening p body) bodies ending e)) ∙ h;
}

finds_on : (opening : Opening) (p : Progress) (body : List ℕ) (bodies : List (List ℕ)) (fault : ReadFault) (at : ℕ)
    → FindsFault opening (with_body opening p body) bodies fault at → FindsFault opening p (body ∷ bodies) fault at
finds_on opening p body bodies fault at f = record {
  before = body ∷ f.before;
  body = f.body;
  further = f.further;
  split = ap (λ x. body ∷ x) f.split;
  sound = f.sound;
  ends = f.ends;
}

finds_by : (opening : Opening) (p : Progress) (body : List ℕ) (bodies : List (List ℕ)) (fault : ReadFault) (at : ℕ) (o : Option Ending) → p.ending ≡ None
    → (with_body opening p body).ending ≡ o
    → ((with_body opening p body).ending ≡ None → FindsFault opening (with_body opening p body) bodies fault at)
    → (with_bodies opening (with_body opening p body) bodies).ending ≡ Some (faulted fault at)
    → FindsFault opening p (body ∷ bodies) fault at
finds_by opening p body bodies fault at None none e go h = finds_on opening p body bodies fault at (go e)
finds_by opening p body bodies fault at (Some ending) none e go h = finds_here opening p body bodies fault at ending none e h

finds_fault : (opening : Opening) (p : Progress) (bodies : List (List ℕ)) (fault : ReadFault) (at : ℕ) → p.ending ≡ None
    → (with_bodies opening p bodies).ending ≡ Some (faulted fault at) → FindsFault opening p bodies fault at
finds_fault opening p [] fault at none h = cc
finds_fault opening p (body ∷ bodies) fault at none h =
    finds_by opening p body bodies fault at (with_body opening p body).ending none refl
    (λ calm. finds_fault opening (with_body opening p body) bodies fault at calm h) h

-- ---- the octets of the packets before

record SplitsAt (ls : List (List ℕ) → ℕ) (earlier : List (List ℕ)) (b : List ℕ) (xs : List (List ℕ)) : Type 0 where
  pub octets : List ℕ
  pub later : List ℕ
  pub cut : b ≡ octets ++ later
  pub packed : Packed ls earlier octets xs []
  pub size : length octets ≡ octets_in xs

splits_at : (ls : List (List ℕ) → ℕ) (earlier : List (List ℕ)) (b : List ℕ) (xs ys : List (List ℕ)) (rest : List ℕ) → Packed ls earlier b (xs ++ ys) rest → SplitsAt ls earlier b xs
splits_at ls earlier b [] ys rest h = record { octets = []; later = b; cut = refl; packed = refl; size = refl }
splits_at ls earlier b (x ∷ xs) ys rest h =
    let q = h.0 in
    let least = (packet_length (ls earlier) q h.2).0 in
    let s = splits_at ls (earlier ++ x ∷ []) h.1 xs ys rest h.5 in
    record {
      octets = q ++ s.octets;
      later = s.later;
      cut = h.4 ∙ (ap (λ more. q ++ more) s.cut ∙ sym (append_assoc q s.octets s.later));
      packed = (q, s.octets, h.2, h.3, refl, s.packed);
      size = omega (arith, length-append q s.octets, s.size, ap length h.3, length-drop 4 q, least);
    }

-- ---- the place

places : (opening : Opening) (b : List ℕ) (fault : ReadFault) (at : ℕ) (before further : List (List ℕ)) → packets_of (limits opening) b ≡ before ++ further
    → (with_bodies opening start before).ending ≡ None
    → IsFaultAfter opening before further (rest_of (limits opening) b) (faulted fault at) → at ≡ (with_bodies opening start before).at
    → IsFaultPlace opening b fault at
places opening b fault at before further split sound next e =
    let read = subst (λ (ps : List (List ℕ)). Packed (limits opening) [] b ps (rest_of (limits opening) b)) split (one_reading_reads (limits opening) b).0 in
    let s = splits_at (limits opening) [] b before further (rest_of (limits opening) b) read in
    let sum : at ≡ octets_in before = omega (arith, e, bodies_sound opening start before refl sound) in
    record {
      before = before;
      further = further;
      packets = split;
      sound = sound;
      next = next;
      sum = sum;
      octets = s.octets;
      later = s.later;
      cut = s.cut;
      packed = s.packed;
      place = omega (arith, sum, s.size);
    }

state_fault : (p : Progress) (s : FedState) (fault : ReadFault) (at : ℕ) → p.ending ≡ None → (with_state p s).ending ≡ Some (faulted fault at) → at ≡ p.at
state_fault p fed.BadVersion fault at none h = cc
state_fault p fed.BadLength fault at none h = cc
state_fault p fed.TooLong fault at none h = cc
state_fault p fed.More fault at none h = cc
state_fault p fed.Whole fault at none h = cc

place_by : (opening : Opening) (b : List ℕ) (fault : ReadFault) (at : ℕ) (o : Option Ending) → (with_bodies opening start (packets_of (limits opening) b)).ending ≡ o
    → (reading opening b).ending ≡ Some (faulted fault at) → IsFaultPlace opening b fault at
place_by opening b fault at None e h =
    let ps = packets_of (limits opening) b in
    let p = with_bodies opening start ps in
    let shown = ap (λ q. q.ending) (sym (reading_is opening b ∙ rest_at p (state_behind opening b) e)) ∙ h in
    places opening b fault at ps [] (sym (append-nil ps)) e shown (state_fault p (state_behind opening b) fault at e shown)
place_by opening b fault at (Some ending) e h =
    let ps = packets_of (limits opening) b in
    let p = with_bodies opening start ps in
    let f = finds_fault opening start ps fault at refl (ap (λ q. q.ending) (sym (reading_is opening b ∙ rest_ended p (state_behind opening b) ending e)) ∙ h) in
    places opening b fault at f.before (f.body ∷ f.further) f.split f.sound f.ends
    (body_fault opening (with_bodies opening start f.before) f.body fault at f.sound f.ends)

pub fault_place : (opening : Opening) (b : List ℕ) (fault : ReadFault) (at : ℕ) → (reading opening b).ending ≡ Some (faulted fault at) → IsFaultPlace opening b fault at
fault_place opening b fault at h = place_by opening b fault at (with_bodies opening start (packets_of (limits opening) b)).ending refl h
