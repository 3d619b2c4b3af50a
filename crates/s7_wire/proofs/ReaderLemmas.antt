-- What a reader holds after more octets.
use Rattle.std.proofs.Common.{◌≡◌, ◌≢◌, ◌⊎◌, inl, inr, ℕ, List, [], ◌++◌, refl, ap, sym, ◌∙◌, subst, append-nil}
use Rattle.std.specs.Prelude.{Option, None, Some}
use Rattle.s7_tpkt.specs.Packets.{packets_of, rest_of, state_of, HoldsRest, GoesOn, EndsPacket}
use Rattle.s7_tpkt.specs.Cut.{Cut}
use Rattle.s7_tpkt.specs.declared.state.FedState.{FedState}
use Rattle.s7_tpkt.specs.declared.state.FedState.TheVariants as fed
use Rattle.s7_wire.specs.declared.transport.Transport.{Transport}
use Rattle.s7_wire.specs.declared.reader.Reader.{Reader}
use Rattle.s7_wire.specs.declared.found.Opening.{Opening}
use Rattle.s7_wire.specs.declared.found.Found.{Found}
use Rattle.s7_wire.specs.declared.found.Found.TheVariants as finding
use Rattle.s7_wire.specs.declared.found.Ended.{Ended}
use Rattle.s7_wire.specs.declared.found.Ended.TheVariants as end_of
use Rattle.s7_wire.specs.declared.found.ReadFault.{ReadFault}
use Rattle.s7_wire.specs.declared.found.ReadFault.TheVariants.{BadFrame, FrameTooLong}
use Rattle.s7_wire.specs.Reading.{Progress, start, limits, limit_by, with_body, with_state, with_rest, with_fault, reading}
use Rattle.s7_wire.specs.Reads.{IsAt, Finds, HasRead, HasFound, ending_by, ending_at, found_by, opens_by, ended_with, size_at}
use Rattle.s7_wire.proofs.ReadingLemmas.{reading_more, reading_whole, rest_more, rest_at, limit_is}

-- a link that goes on has read no ending
pub going_on : (t : Transport) (p : Progress) → IsAt t p → t.ended ≡ None → p.ending ≡ None
going_on t p is going = is.ending ∙ ap (λ e. ending_at e p.at) going

-- nothing was read
pub read_nothing : (r : Reader) → r.cutter.held ≡ [] → r.cutter.limit ≡ 8199 → IsAt r.transport start → HasRead r []
unfolding reading packets_of rest_of
read_nothing r held limit is = record { rest = λ going. record { held = sym held; limit = sym limit }; is = is }

-- what was found, by how the link is opened
record FindsIn (o : Opening) (r : Reader) (b more : List ℕ) (found : Found) : Type 0 where
  pub rest : ended_with r ≡ None → HoldsRest (limits o) (b ++ more) r.cutter
  pub finds : Finds (reading o b) (reading o (b ++ more)) r.transport found

has_found : (o : Opening) (r : Reader) (b more : List ℕ) (found : Found) → opens_by r ≡ o → FindsIn o r b more found → HasFound r b more found
has_found o r b more found e =
    subst (λ (x : Opening). FindsIn x r b more found → HasFound r b more found) e
    (λ f. record {
      read = record { rest = f.rest; is = f.finds.is };
      events = f.finds.events;
      ending = f.finds.ending;
      place = f.finds.place;
    })

-- what the octets show that no packet ends
shown : (o : Opening) (b used : List ℕ) (cutter : Cut) (s : FedState) → HoldsRest (limits o) b cutter → GoesOn (limits o) b used → s ≡ state_of cutter.limit (cutter.held ++ used)
    → (reading o b).ending ≡ None → reading o (b ++ used) ≡ with_rest (reading o b) s
shown o b used cutter s rest goes is none =
    reading_more o b used goes none
    ∙ ap (with_rest (reading o b)) (ap (λ l. state_of l (rest_of (limits o) b ++ used)) rest.limit ∙ (ap (λ x. state_of cutter.limit (x ++ used)) rest.held ∙ sym is))

-- a packet goes on
pub found_more : (old new : Reader) (b used : List ℕ) → ended_with old ≡ None → new.transport ≡ old.transport
    → (HoldsRest (limits (opens_by old)) b old.cutter → GoesOn (limits (opens_by old)) b used)
    → new.cutter.held ≡ old.cutter.held ++ used → new.cutter.limit ≡ old.cutter.limit → fed.More ≡ state_of old.cutter.limit (old.cutter.held ++ used)
    → HasRead old b → HasFound new b used finding.More
found_more old new b used going transport goes held limit shows h =
    let o = opens_by old in
    let rest = h.rest going in
    let g = goes rest in
    let same : reading o (b ++ used) ≡ reading o b = shown o b used old.cutter fed.More rest g shows (going_on old.transport (reading o b) h.is going) ∙ rest_more (reading o b) in
    has_found o new b used finding.More (ap (λ t. t.opening) transport) (record {
      rest = λ e. record { held = g.rest ∙ (ap (λ x. x ++ used) rest.held ∙ sym held); limit = ap (limits o) g.packets ∙ (rest.limit ∙ sym limit) };
      finds = record {
        is = subst (λ (p : Progress). IsAt new.transport p) (sym same) (subst (λ (t : Transport). IsAt t (reading o b)) (sym transport) h.is);
        events = ap (λ p. p.events) same ∙ sym (append-nil (reading o b).events);
        ending = ap (λ p. p.ending) same ∙ going_on old.transport (reading o b) h.is going;
        place = λ n. absurd (n refl);
      };
    })

-- octets show a fault
pub found_fault : (old new : Reader) (b used : List ℕ) (s : FedState) (fault : ReadFault) → ended_with old ≡ None → opens_by new ≡ opens_by old
    → (HoldsRest (limits (opens_by old)) b old.cutter → GoesOn (limits (opens_by old)) b used)
    → s ≡ state_of old.cutter.limit (old.cutter.held ++ used) → ((p : Progress) → with_state p s ≡ with_fault p fault)
    → ended_with new ≡ Some (end_of.Faulted fault) → ((p : Progress) → IsAt old.transport p → Finds p (with_fault p fault) new.transport (finding.Fault fault))
    → HasRead old b → HasFound new b used (finding.Fault fault)
found_fault old new b used s fault going opening goes shows is_fault ended finds h =
    let o = opens_by old in
    let rest = h.rest going in
    let none = going_on old.transport (reading o b) h.is going in
    let same : reading o (b ++ used) ≡ with_fault (reading o b) fault =
    shown o b used old.cutter s rest (goes rest) shows none ∙ (rest_at (reading o b) s none ∙ is_fault (reading o b)) in
    has_found o new b used (finding.Fault fault) opening (record {
      rest = λ e. let x : Some (end_of.Faulted fault) ≡ None = sym ended ∙ e in cc;
      finds = subst (λ (p : Progress). Finds (reading o b) p new.transport (finding.Fault fault)) (sym same) (finds (reading o b) h.is);
    })

-- a packet ends
pub found_whole : (old new : Reader) (b used body : List ℕ) (found : Found) → ended_with old ≡ None → opens_by new ≡ opens_by old
    → (HoldsRest (limits (opens_by old)) b old.cutter → EndsPacket (limits (opens_by old)) b used body)
    → new.cutter.held ≡ [] → new.cutter.limit ≡ limit_by (size_at new)
    → ((p : Progress) → IsAt old.transport p → Finds p (with_body (opens_by old) p body) new.transport found)
    → HasRead old b → HasFound new b used found
found_whole old new b used body found going opening ends held limit finds h =
    let o = opens_by old in
    let none = going_on old.transport (reading o b) h.is going in
    let e = ends (h.rest going) in
    let same : reading o (b ++ used) ≡ with_body o (reading o b) body = reading_whole o b used body e none in
    let f = subst (λ (p : Progress). Finds (reading o b) p new.transport found) (sym same) (finds (reading o b) h.is) in
    has_found o new b used found opening (record {
      rest = λ goes. record {
        held = e.rest ∙ sym held;
        limit = limit_is o (b ++ used) (going_on new.transport (reading o (b ++ used)) f.is goes) ∙ (ap limit_by (sym f.is.size) ∙ sym limit);
      };
      finds = f;
    })

-- ---- what a cutter's answer says of what was held and taken

pub state_at : (held held' used : List ℕ) (limit limit' : ℕ) (s s' : FedState) → s ≡ state_of limit' held' → s ≡ s' → held' ≡ held ++ used → limit' ≡ limit
    → s' ≡ state_of limit (held ++ used)
state_at held held' used limit limit' s s' is e h l = sym e ∙ (is ∙ (ap (state_of limit') h ∙ ap (λ n. state_of n (held ++ used)) l))

pub more_goes_on : (s : FedState) → s ≡ fed.More → s ≢ fed.Whole
more_goes_on s e w = let x : fed.More ≡ fed.Whole = sym e ∙ w in cc

-- a packet of another version, or one that is too short
pub found_bad_frame : (old new : Reader) (b used : List ℕ) (state : FedState) → ended_with old ≡ None → opens_by new ≡ opens_by old
    → (state ≢ fed.Whole → HoldsRest (limits (opens_by old)) b old.cutter → GoesOn (limits (opens_by old)) b used)
    → state ≡ state_of old.cutter.limit (old.cutter.held ++ used) → (state ≡ fed.BadVersion) ⊎ (state ≡ fed.BadLength)
    → ended_with new ≡ Some (end_of.Faulted BadFrame) → ((p : Progress) → IsAt old.transport p → Finds p (with_fault p BadFrame) new.transport (finding.Fault BadFrame))
    → HasRead old b → HasFound new b used (finding.Fault BadFrame)
found_bad_frame old new b used state going opening goes shows (inl e) ended finds h =
    found_fault old new b used fed.BadVersion BadFrame going opening (goes (λ w. let x : fed.BadVersion ≡ fed.Whole = sym e ∙ w in cc)) (sym e ∙ shows) (λ p. refl) ended finds h
found_bad_frame old new b used state going opening goes shows (inr e) ended finds h =
    found_fault old new b used fed.BadLength BadFrame going opening (goes (λ w. let x : fed.BadLength ≡ fed.Whole = sym e ∙ w in cc)) (sym e ∙ shows) (λ p. refl) ended finds h

pub found_too_long : (old new : Reader) (b used : List ℕ) (state : FedState) → ended_with old ≡ None → opens_by new ≡ opens_by old
    → (state ≢ fed.Whole → HoldsRest (limits (opens_by old)) b old.cutter → GoesOn (limits (opens_by old)) b used)
    → state ≡ state_of old.cutter.limit (old.cutter.held ++ used) → state ≡ fed.TooLong
    → ended_with new ≡ Some (end_of.Faulted FrameTooLong) → ((p : Progress) → IsAt old.transport p → Finds p (with_fault p FrameTooLong) new.transport (finding.Fault FrameTooLong))
    → HasRead old b → HasFound new b used (finding.Fault FrameTooLong)
found_too_long old new b used state going opening goes shows e ended finds h =
    found_fault old new b used fed.TooLong FrameTooLong going opening (goes (λ w. let x : fed.TooLong ≡ fed.Whole = sym e ∙ w in cc)) (sym e ∙ shows) (λ p. refl) ended finds h

-- ---- a reader ends where what it read does

none_ended : (e : Option Ended) (at : ℕ) → ending_at e at ≡ None → e ≡ None
none_ended None at h = refl
none_ended (Some end_of.Disconnected) at h = cc
none_ended (Some (end_of.Faulted fault)) at h = cc

pub reader_going : (r : Reader) (b : List ℕ) → HasRead r b → (reading (opens_by r) b).ending ≡ None → ended_with r ≡ None
reader_going r b h none = none_ended (ended_with r) (reading (opens_by r) b).at (sym h.is.ending ∙ none)

pub reader_ended : (r : Reader) (b : List ℕ) (end : Ended) → HasRead r b → ended_with r ≡ Some end
    → (reading (opens_by r) b).ending ≡ ending_by (found_by end) (reading (opens_by r) b).at
reader_ended r b end h ended = h.is.ending ∙ ap (λ e. ending_at e (reading (opens_by r) b).at) ended
