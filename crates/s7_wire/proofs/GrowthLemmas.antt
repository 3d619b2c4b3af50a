-- Octets behind others are read from where those end.
use Rattle.std.proofs.Common.{◌≡◌, ℕ, ◌+◌, ◌≤◌, List, [], ◌∷◌, ◌++◌, length, true, refl, ap, sym, ◌∙◌, subst, append-nil, append_assoc, Ok, Err, arith, length-append, length-drop}
use Rattle.std.specs.Prelude.{Option, None, Some, Result}
use Rattle.s7_tpkt.specs.Packets.{packets_of, rest_of, state_of, is_fault, Packed}
use Rattle.s7_tpkt.specs.declared.state.FedState.{FedState}
use Rattle.s7_tpkt.specs.declared.state.FedState.TheVariants as fed
use Rattle.s7_tpkt.proofs.PacketLemmas.{goes_further, fault_goes_on, fault_stays, one_reading_reads, packet_length}
use Rattle.s7_cotp.specs.Told.{Told, ConnectionTold, connect, confirm, fragment, disconnect, reject}
use Rattle.s7_cotp.specs.Reading.{tpdu_of}
use Rattle.s7_cotp.specs.Messages.{Step, more, whole, too_many_fragments, too_long, joined_with}
use Rattle.s7_cotp.specs.declared.tpdu.CotpFault.{CotpFault}
use Rattle.s7_wire.specs.Bounds.{message_limit}
use Rattle.s7_wire.specs.declared.found.Opening.{Opening}
use Rattle.s7_wire.specs.Reading.{opened, message, Ending, Progress, start, limits, opening_of, with_opening, with_joining, connected, with_told, with_tpdu, unless_ended, with_body, with_bodies, with_state, with_rest, state_behind, reading, ReadsOn, GrowsTo, octets_in}
use Rattle.s7_wire.proofs.ReadingLemmas.{reading_is, bodies_are, bodies_ended, with_bodies-append, rest_at, rest_ended}

-- ---- behind an ending nothing is read

-- octets that end a reading where packets don't are at fault
shows_fault_by : (p : Progress) (s : FedState) (ending : Ending) → p.ending ≡ None → (with_state p s).ending ≡ Some ending → is_fault s ≡ true
shows_fault_by p fed.BadVersion ending none h = refl
shows_fault_by p fed.BadLength ending none h = refl
shows_fault_by p fed.TooLong ending none h = refl
shows_fault_by p fed.More ending none h = let x : None ≡ Some ending = sym none ∙ h in cc
shows_fault_by p fed.Whole ending none h = let x : None ≡ Some ending = sym none ∙ h in cc

-- what is read of more octets, by their further packets
read_on : (opening : Opening) (b rest : List ℕ) → reading opening (b ++ rest)
    ≡ with_rest (with_bodies opening (with_bodies opening start (packets_of (limits opening) b)) (goes_further (limits opening) b rest).tail) (state_behind opening (b ++ rest))
read_on opening b rest =
    let g = goes_further (limits opening) b rest in
    reading_is opening (b ++ rest)
    ∙ ap (λ p. with_rest p (state_behind opening (b ++ rest)))
    (ap (with_bodies opening start) g.packets ∙ with_bodies-append opening start (packets_of (limits opening) b) g.tail)

ended_by : (opening : Opening) (b rest : List ℕ) (ending : Ending) (o : Option Ending) → (with_bodies opening start (packets_of (limits opening) b)).ending ≡ o → (reading opening b).ending ≡ Some ending
    → reading opening (b ++ rest) ≡ reading opening b
ended_by opening b rest ending (Some earlier) e h =
    let p = with_bodies opening start (packets_of (limits opening) b) in
    let further = (goes_further (limits opening) b rest).tail in
    read_on opening b rest
    ∙ (ap (λ q. with_rest q (state_behind opening (b ++ rest))) (bodies_ended opening p further earlier e)
    ∙ (rest_ended p (state_behind opening (b ++ rest)) earlier e
    ∙ sym (reading_is opening b ∙ rest_ended p (state_behind opening b) earlier e)))
ended_by opening b rest ending None e h =
    let p = with_bodies opening start (packets_of (limits opening) b) in
    let s = state_behind opening b in
    let f : List (List ℕ) → List ℕ → Progress = λ ps octets. with_rest (with_bodies opening start ps) (state_of (limits opening ps) octets) in
    let fault = shows_fault_by p s ending e (ap (λ q. q.ending) (sym (reading_is opening b ∙ rest_at p s e)) ∙ h) in
    let g = fault_goes_on (limits opening) b rest fault in
    reading_is opening (b ++ rest)
    ∙ (ap (λ ps. f ps (rest_of (limits opening) (b ++ rest))) g.packets
    ∙ (ap (f (packets_of (limits opening) b)) g.rest
    ∙ (ap (with_rest p) (fault_stays (limits opening (packets_of (limits opening) b)) (rest_of (limits opening) b) rest fault)
    ∙ sym (reading_is opening b))))

pub reading_ended : (opening : Opening) (b rest : List ℕ) (ending : Ending) → (reading opening b).ending ≡ Some ending → reading opening (b ++ rest) ≡ reading opening b
reading_ended opening b rest ending h = ended_by opening b rest ending (with_bodies opening start (packets_of (limits opening) b)).ending refl h

reads_on_by : (opening : Opening) (b rest : List ℕ) (o : Option Ending) → (reading opening b).ending ≡ o
    → reading opening (b ++ rest) ≡ with_rest (with_bodies opening (reading opening b) (goes_further (limits opening) b rest).tail) (state_behind opening (b ++ rest))
reads_on_by opening b rest None h =
    read_on opening b rest
    ∙ ap (λ p. with_rest (with_bodies opening p (goes_further (limits opening) b rest).tail) (state_behind opening (b ++ rest))) (sym (bodies_are opening b h))
reads_on_by opening b rest (Some ending) h =
    let p = reading opening b in
    let further = (goes_further (limits opening) b rest).tail in
    let s = state_behind opening (b ++ rest) in
    reading_ended opening b rest ending h
    ∙ sym (ap (λ q. with_rest q s) (bodies_ended opening p further ending h) ∙ rest_ended p s ending h)

pub reads_on : (opening : Opening) (b rest : List ℕ) → ReadsOn opening b rest
reads_on opening b rest = record {
  further = (goes_further (limits opening) b rest).tail;
  packets = (goes_further (limits opening) b rest).packets;
  reading = reads_on_by opening b rest (reading opening b).ending refl;
}

-- ---- events stay

same_events : (p p' : Progress) → p'.events ≡ p.events → GrowsTo p p'
same_events p p' e = record { further = []; events = e ∙ sym (append-nil p.events) }

opening_grows : (p : Progress) (body : List ℕ) (o : Option ConnectionTold) → GrowsTo p (with_opening p body o)
opening_grows p body None = same_events p _ refl
opening_grows p body (Some c) = record { further = opened c ∷ []; events = refl }

joining_grows : (p : Progress) (body : List ℕ) (s : Step) → GrowsTo p (with_joining p body s)
joining_grows p body (more octets count) = same_events p _ refl
joining_grows p body (whole octets) = record { further = message octets p.at ∷ []; events = refl }
joining_grows p body too_many_fragments = same_events p _ refl
joining_grows p body too_long = same_events p _ refl

connected_grows : (p : Progress) (body : List ℕ) (t : Told) → GrowsTo p (connected p body t)
connected_grows p body (fragment last user) = joining_grows p body (joined_with message_limit p.unfinished.octets p.unfinished.count (record { last = last; user = user }))
connected_grows p body (disconnect reason) = same_events p _ refl
connected_grows p body (connect c) = same_events p _ refl
connected_grows p body (confirm c) = same_events p _ refl
connected_grows p body (reject cause) = same_events p _ refl

told_grows : (opening : Opening) (p : Progress) (body : List ℕ) (size : Option ℕ) (t : Told) → GrowsTo p (with_told opening p body size t)
told_grows opening p body None t = opening_grows p body (opening_of opening t)
told_grows opening p body (Some size) t = connected_grows p body t

tpdu_grows : (opening : Opening) (p : Progress) (body : List ℕ) (t : Result Told CotpFault) → GrowsTo p (with_tpdu opening p body t)
tpdu_grows opening p body (Err fault) = same_events p _ refl
tpdu_grows opening p body (Ok t) = told_grows opening p body p.size t

unless_grows : (o : Option Ending) (next p : Progress) → GrowsTo p next → GrowsTo p (unless_ended o next p)
unless_grows None next p h = h
unless_grows (Some ending) next p h = same_events p p refl

body_grows : (opening : Opening) (p : Progress) (body : List ℕ) → GrowsTo p (with_body opening p body)
unfolding with_body
body_grows opening p body = unless_grows p.ending _ p (tpdu_grows opening p body (tpdu_of body))

grows_both : (p q r : Progress) → GrowsTo p q → GrowsTo q r → GrowsTo p r
grows_both p q r g h = record {
  further = g.further ++ h.further;
  events = h.events ∙ (ap (λ x. x ++ h.further) g.events ∙ append_assoc p.events g.further h.further);
}

pub bodies_grow : (opening : Opening) (p : Progress) (bodies : List (List ℕ)) → GrowsTo p (with_bodies opening p bodies)
bodies_grow opening p [] = same_events p p refl
bodies_grow opening p (body ∷ bodies) =
    grows_both p (with_body opening p body) (with_bodies opening (with_body opening p body) bodies) (body_grows opening p body) (bodies_grow opening (with_body opening p body) bodies)

state_grows : (p : Progress) (s : FedState) → GrowsTo p (with_state p s)
state_grows p fed.BadVersion = same_events p _ refl
state_grows p fed.BadLength = same_events p _ refl
state_grows p fed.TooLong = same_events p _ refl
state_grows p fed.More = same_events p _ refl
state_grows p fed.Whole = same_events p _ refl

pub reading_grows : (opening : Opening) (b rest : List ℕ) → GrowsTo (reading opening b) (reading opening (b ++ rest))
reading_grows opening b rest =
    let on = reads_on opening b rest in
    let p = reading opening b in
    let q = with_bodies opening p on.further in
    let s = state_behind opening (b ++ rest) in
    subst (λ (x : Progress). GrowsTo p x) (sym on.reading) (grows_both p q (with_rest q s) (bodies_grow opening p on.further) (unless_grows q.ending (with_state q s) q (state_grows q s)))

-- ---- places

joining_place : (p : Progress) (body : List ℕ) (s : Step) → (with_joining p body s).at ≤ p.at + 4 + length body
joining_place p body (more octets count) = omega arith
joining_place p body (whole octets) = omega arith
joining_place p body too_many_fragments = omega arith
joining_place p body too_long = omega arith

connected_place : (p : Progress) (body : List ℕ) (t : Told) → (connected p body t).at ≤ p.at + 4 + length body
connected_place p body (fragment last user) = joining_place p body (joined_with message_limit p.unfinished.octets p.unfinished.count (record { last = last; user = user }))
connected_place p body (disconnect reason) = omega arith
connected_place p body (connect c) = omega arith
connected_place p body (confirm c) = omega arith
connected_place p body (reject cause) = omega arith

opening_place : (p : Progress) (body : List ℕ) (o : Option ConnectionTold) → (with_opening p body o).at ≤ p.at + 4 + length body
opening_place p body None = omega arith
opening_place p body (Some c) = omega arith

told_place : (opening : Opening) (p : Progress) (body : List ℕ) (size : Option ℕ) (t : Told) → (with_told opening p body size t).at ≤ p.at + 4 + length body
told_place opening p body None t = opening_place p body (opening_of opening t)
told_place opening p body (Some size) t = connected_place p body t

tpdu_place : (opening : Opening) (p : Progress) (body : List ℕ) (t : Result Told CotpFault) → (with_tpdu opening p body t).at ≤ p.at + 4 + length body
tpdu_place opening p body (Err fault) = omega arith
tpdu_place opening p body (Ok t) = told_place opening p body p.size t

unless_place : (o : Option Ending) (next p : Progress) (n : ℕ) → next.at ≤ p.at + n → (unless_ended o next p).at ≤ p.at + n
unless_place None next p n h = h
unless_place (Some ending) next p n h = omega arith

body_place : (opening : Opening) (p : Progress) (body : List ℕ) → (with_body opening p body).at ≤ p.at + (4 + length body)
unfolding with_body
body_place opening p body = unless_place p.ending _ p (4 + length body) (omega (arith, tpdu_place opening p body (tpdu_of body)))

bodies_place : (opening : Opening) (p : Progress) (bodies : List (List ℕ)) → (with_bodies opening p bodies).at ≤ p.at + octets_in bodies
bodies_place opening p [] = omega arith
bodies_place opening p (body ∷ bodies) = omega (arith, body_place opening p body, bodies_place opening (with_body opening p body) bodies)

packed_within : (ls : List (List ℕ) → ℕ) (before : List (List ℕ)) (b : List ℕ) (ps : List (List ℕ)) (rest : List ℕ) → Packed ls before b ps rest → octets_in ps ≤ length b
packed_within ls before b [] rest h = omega arith
packed_within ls before b (p ∷ ps) rest h =
    let q = h.0 in
    let behind = h.1 in
    let least = (packet_length (ls before) q h.2).0 in
    omega (arith, least, ap length h.3, length-drop 4 q, ap length h.4, length-append q behind, packed_within ls (before ++ p ∷ []) behind ps rest h.5)

state_place : (p : Progress) (s : FedState) → (with_state p s).at ≡ p.at
state_place p fed.BadVersion = refl
state_place p fed.BadLength = refl
state_place p fed.TooLong = refl
state_place p fed.More = refl
state_place p fed.Whole = refl

rest_place : (o : Option Ending) (next p : Progress) → next.at ≡ p.at → (unless_ended o next p).at ≡ p.at
rest_place None next p h = h
rest_place (Some ending) next p h = refl

pub place_within : (opening : Opening) (b : List ℕ) → (reading opening b).at ≤ length b
place_within opening b =
    let ps = packets_of (limits opening) b in
    let p = with_bodies opening start ps in
    let at : (reading opening b).at ≡ p.at = ap (λ q. q.at) (reading_is opening b) ∙ rest_place p.ending (with_state p (state_behind opening b)) p (state_place p (state_behind opening b)) in
    let within = packed_within (limits opening) [] b ps (rest_of (limits opening) b) (one_reading_reads (limits opening) b).0 in
    omega (arith, at, bodies_place opening start ps, within)
