-- The events of a reading in their order: the opening, which tells the TPDU size, and then messages.
use Rattle.std.proofs.Common.{◌≡◌, ℕ, false, List, [], ◌∷◌, ◌++◌, refl, ap, sym, ◌∙◌, subst, append-nil}
use Rattle.std.specs.Prelude.{Option, None, Some, Result, Ok, Err, is_none}
use Rattle.s7_tpkt.specs.Packets.{packets_of}
use Rattle.s7_tpkt.specs.declared.state.FedState.{FedState}
use Rattle.s7_tpkt.specs.declared.state.FedState.TheVariants as fed
use Rattle.s7_cotp.specs.Told.{Told, ConnectionTold, connection_of, connect, confirm, fragment, disconnect, reject}
use Rattle.s7_cotp.specs.Reading.{tpdu_of}
use Rattle.s7_cotp.specs.Messages.{Step, more, whole, too_many_fragments, too_long, joined_with}
use Rattle.s7_cotp.specs.declared.tpdu.Connection.{Connection}
use Rattle.s7_cotp.specs.declared.tpdu.CotpFault.{CotpFault}
use Rattle.s7_wire.specs.Bounds.{message_limit, size_of_code}
use Rattle.s7_wire.specs.Reading.{Event, opened, message, Ending, Progress, start, limits, opening_of, with_opening}
use Rattle.s7_wire.specs.Reading.{with_joining, connected, with_told, with_tpdu, unless_ended, with_body, with_bodies}
use Rattle.s7_wire.specs.Reading.{with_state, state_behind, reading}
use Rattle.s7_wire.specs.Reads.{HasRead, HasFound, events_by, opens_by, size_at, message_at}
use Rattle.s7_wire.specs.declared.found.Opening.{Opening}
use Rattle.s7_wire.specs.declared.found.Found.{Found}
use Rattle.s7_wire.specs.declared.found.Found.TheVariants as finding
use Rattle.s7_wire.specs.declared.reader.Reader.{Reader}
use Rattle.s7_wire.proofs.ReadingLemmas.{reading_is}
use Rattle.s7_partner.specs.Octet.{size_found}

-- the TPDU size that events tell
abbrev size_in : List Event → Option ℕ
size_in [] = None
size_in (opened c ∷ events) = Some (size_of_code c.size_code)
size_in (message octets at ∷ events) = None

abbrev AreMessages : List Event → Type 0
AreMessages [] = Unit {0}
AreMessages (opened c ∷ events) = ⊥
AreMessages (message octets at ∷ events) = AreMessages events

abbrev AreInOrder : List Event → Type 0
AreInOrder [] = Unit {0}
AreInOrder (opened c ∷ events) = AreMessages events
AreInOrder (message octets at ∷ events) = ⊥

record HasOrder (p : Progress) : Type 0 where
  pub size : p.size ≡ size_in p.events
  pub order : AreInOrder p.events

messages_more : (events : List Event) (octets : List ℕ) (at : ℕ) → AreMessages events
    → AreMessages (events ++ message octets at ∷ [])
messages_more [] octets at h = tt
messages_more (opened c ∷ events) octets at h = h
messages_more (message x y ∷ events) octets at h = messages_more events octets at h

none_open : (events : List Event) → size_in events ≡ None → AreInOrder events → events ≡ []
none_open [] e h = refl
none_open (opened c ∷ events) e h = cc
none_open (message octets at ∷ events) e h = absurd h

with_message_more : (events : List Event) (octets : List ℕ) (at n : ℕ) → size_in events ≡ Some n → AreInOrder events
    → (size_in events ≡ size_in (events ++ message octets at ∷ [])) × AreInOrder (events ++ message octets at ∷ [])
with_message_more [] octets at n e h = cc
with_message_more (opened c ∷ events) octets at n e h = (refl, messages_more events octets at h)
with_message_more (message x y ∷ events) octets at n e h = absurd h

opening_order : (p : Progress) (body : List ℕ) (o : Option ConnectionTold) → p.size ≡ None → HasOrder p
    → HasOrder (with_opening p body o)
opening_order p body None none h = record { size = h.size; order = h.order }
opening_order p body (Some c) none h =
    let empty = none_open p.events (sym h.size ∙ none) h.order in
    record {
      size = ap (λ (e : List Event). size_in (e ++ opened c ∷ [])) (sym empty);
      order = subst (λ (e : List Event). AreInOrder (e ++ opened c ∷ [])) (sym empty) tt;
    }

joining_order : (p : Progress) (body : List ℕ) (n : ℕ) (s : Step) → p.size ≡ Some n → HasOrder p
    → HasOrder (with_joining p body s)
joining_order p body n (more octets count) size h = record { size = h.size; order = h.order }
joining_order p body n (whole octets) size h =
    let m = with_message_more p.events octets p.at n (sym h.size ∙ size) h.order in
    record { size = h.size ∙ m.0; order = m.1 }
joining_order p body n too_many_fragments size h = record { size = h.size; order = h.order }
joining_order p body n too_long size h = record { size = h.size; order = h.order }

connected_order : (p : Progress) (body : List ℕ) (n : ℕ) (t : Told) → p.size ≡ Some n → HasOrder p
    → HasOrder (connected p body t)
connected_order p body n (fragment last user) size h =
    joining_order p body n
    (joined_with message_limit p.unfinished.octets p.unfinished.count (record { last = last; user = user })) size h
connected_order p body n (disconnect reason) size h = record { size = h.size; order = h.order }
connected_order p body n (connect c) size h = record { size = h.size; order = h.order }
connected_order p body n (confirm c) size h = record { size = h.size; order = h.order }
connected_order p body n (reject cause) size h = record { size = h.size; order = h.order }

told_order : (opening : Opening) (p : Progress) (body : List ℕ) (o : Option ℕ) (t : Told) → p.size ≡ o → HasOrder p
    → HasOrder (with_told opening p body o t)
told_order opening p body None t e h = opening_order p body (opening_of opening t) e h
told_order opening p body (Some n) t e h = connected_order p body n t e h

tpdu_order : (opening : Opening) (p : Progress) (body : List ℕ) (t : Result Told CotpFault) → HasOrder p
    → HasOrder (with_tpdu opening p body t)
tpdu_order opening p body (Err fault) h = record { size = h.size; order = h.order }
tpdu_order opening p body (Ok t) h = told_order opening p body p.size t refl h

unless_order : (o : Option Ending) (next p : Progress) → HasOrder next → HasOrder p → HasOrder (unless_ended o next p)
unless_order None next p a b = a
unless_order (Some ending) next p a b = b

body_order : (opening : Opening) (p : Progress) (body : List ℕ) → HasOrder p → HasOrder (with_body opening p body)
unfolding with_body
body_order opening p body h = unless_order p.ending _ p (tpdu_order opening p body (tpdu_of body) h) h

bodies_order : (opening : Opening) (p : Progress) (bodies : List (List ℕ)) → HasOrder p
    → HasOrder (with_bodies opening p bodies)
bodies_order opening p [] h = h
bodies_order opening p (body ∷ bodies) h =
    bodies_order opening (with_body opening p body) bodies (body_order opening p body h)

state_order : (p : Progress) (s : FedState) → HasOrder p → HasOrder (with_state p s)
state_order p fed.BadVersion h = record { size = h.size; order = h.order }
state_order p fed.BadLength h = record { size = h.size; order = h.order }
state_order p fed.TooLong h = record { size = h.size; order = h.order }
state_order p fed.More h = h
state_order p fed.Whole h = h

reading_order : (opening : Opening) (b : List ℕ) → HasOrder (reading opening b)
reading_order opening b =
    let p = with_bodies opening start (packets_of (limits opening) b) in
    let h = bodies_order opening start (packets_of (limits opening) b) (record { size = refl; order = tt }) in
    subst HasOrder (sym (reading_is opening b))
    (unless_order p.ending (with_state p (state_behind opening b)) p (state_order p (state_behind opening b) h) h)

-- ---- what a finding goes with

opened_first : (events : List Event) (c : ConnectionTold) → AreInOrder (events ++ opened c ∷ []) → events ≡ []
opened_first [] c h = refl
opened_first (opened d ∷ events) c h = absurd (not_messages events c h)
  where
    not_messages : (es : List Event) (d : ConnectionTold) → AreMessages (es ++ opened d ∷ []) → ⊥
    not_messages [] d h = h
    not_messages (opened x ∷ es) d h = h
    not_messages (message x y ∷ es) d h = not_messages es d h
opened_first (message octets at ∷ events) c h = absurd h

message_behind : (events : List Event) (octets : List ℕ) (at : ℕ) → AreInOrder (events ++ message octets at ∷ [])
    → (is_none (size_in events) ≡ false) × (size_in (events ++ message octets at ∷ []) ≡ size_in events)
message_behind [] octets at h = absurd h
message_behind (opened c ∷ events) octets at h = (refl, refl)
message_behind (message x y ∷ events) octets at h = absurd h

-- what a reader finds, by the events before it and the TPDU size
pub record Sizes (found : Found) (before after : Option ℕ) : Type 0 where
  pub size : after ≡ size_found found before
  pub opened : (c : Connection) → found ≡ finding.Opened c → before ≡ None
  pub sized : found ≡ finding.Message → is_none before ≡ false

sizes_plain : (found : Found) (events events' : List Event) → events' ≡ events ++ []
    → size_found found (size_in events) ≡ size_in events
    → ((c : Connection) → found ≡ finding.Opened c → ⊥) → (found ≡ finding.Message → ⊥)
    → Sizes found (size_in events) (size_in events')
sizes_plain found events events' e same not_opened not_message = record {
  size = ap size_in (e ∙ append-nil events) ∙ sym same;
  opened = λ c f. absurd (not_opened c f);
  sized = λ f. absurd (not_message f);
}

sizes_by : (found : Found) (events events' : List Event) (octets : List ℕ) (at : ℕ)
    → events' ≡ events ++ events_by found octets at → AreInOrder events'
    → Sizes found (size_in events) (size_in events')
sizes_by finding.More events events' octets at e h =
    sizes_plain finding.More events events' e refl (λ c f. cc) (λ f. cc)
sizes_by (finding.Opened c) events events' octets at e h =
    let first = opened_first events (connection_of c) (subst AreInOrder e h) in
    record {
      size = ap size_in e ∙ ap (λ (x : List Event). size_in (x ++ opened (connection_of c) ∷ [])) first;
      opened = λ d f. ap size_in first;
      sized = λ f. cc;
    }
sizes_by finding.Message events events' octets at e h =
    let m = message_behind events octets at (subst AreInOrder e h) in
    record {
      size = ap size_in e ∙ m.1;
      opened = λ c f. cc;
      sized = λ f. m.0;
    }
sizes_by finding.Disconnected events events' octets at e h =
    sizes_plain finding.Disconnected events events' e refl (λ c f. cc) (λ f. cc)
sizes_by (finding.Fault fault) events events' octets at e h =
    sizes_plain (finding.Fault fault) events events' e refl (λ c f. cc) (λ f. cc)

pub sizes : (old new : Reader) (b used : List ℕ) (found : Found) → opens_by new ≡ opens_by old → HasRead old b
    → HasFound new b used found → Sizes found (size_at old) (size_at new)
sizes old new b used found opening h f =
    let o = opens_by new in
    let before : size_at old ≡ size_in (reading o b).events =
    h.is.size ∙ (ap (λ (x : Opening). (reading x b).size) (sym opening) ∙ (reading_order o b).size) in
    let after : size_at new ≡ size_in (reading o (b ++ used)).events =
    f.read.is.size ∙ (reading_order o (b ++ used)).size in
    subst (λ (x : Option ℕ). Sizes found x (size_at new)) (sym before)
    (subst (λ (x : Option ℕ). Sizes found (size_in (reading o b).events) x) (sym after)
    (sizes_by found (reading o b).events (reading o (b ++ used)).events (message_at new) (reading o b).at f.events
    (reading_order o (b ++ used)).order))
