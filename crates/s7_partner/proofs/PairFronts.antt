-- What is read of messages on a link that was opened, and of any front of them.
use Rattle.std.proofs.Common.{◌≡◌, inl, inr, ℕ, ◌+◌, ◌-◌, ◌<◌, ◌≤◌, Bool, true, false, List, [], ◌∷◌, ◌++◌, length}
use Rattle.std.proofs.Common.{refl, ap, sym, ◌∙◌, subst, arith, append_assoc, append-nil}
use Rattle.std.specs.Prelude.{None, Some}
use Rattle.s7_tpkt.specs.Packets.{packet_of, packets_of, rest_of, state_of, GoesOn, EndsPacket}
use Rattle.s7_tpkt.specs.declared.state.FedState.TheVariants.{More}
use Rattle.s7_tpkt.proofs.PacketLemmas.{goes_on_at, ends_packet_at}
use Rattle.s7_tpkt.proofs.WriteLemmas.{packet_written}
use Rattle.s7_cotp.specs.Messages.{Step, more, whole, joined_with}
use Rattle.s7_cotp.specs.Spelling.{spelling_of_data}
use Rattle.s7_cotp.specs.Told.{fragment}
use Rattle.s7_cotp.proofs.SpellLemmas.{data_again}
use Rattle.s7_wire.specs.Bounds.{message_limit}
use Rattle.s7_wire.specs.declared.found.Opening.{Opening}
use Rattle.s7_wire.specs.Reading.{Event, message, Progress, Unfinished, nothing_unfinished}
use Rattle.s7_wire.specs.Reading.{limits, limit_by, with_joining, with_told}
use Rattle.s7_wire.specs.Reading.{with_tpdu, with_body, with_rest}
use Rattle.s7_wire.specs.Reading.{reading}
use Rattle.s7_wire.specs.Sent.{sent_message, sent_messages}
use Rattle.s7_wire.proofs.ReadingLemmas.{limit_is, reading_more, reading_whole, rest_more, body_at}
use Rattle.s7_partner.proofs.PairParts.{parts, front_more, few_fragments, joined_by, Joins, message_whole}
use Rattle.s7_partner.proofs.PairParts.{message_front}

-- octets behind whole packets, of which more has to come, are read as nothing
pub still_read : (opening : Opening) (b u : List ℕ) (limit : ℕ) → rest_of (limits opening) b ≡ []
    → (reading opening b).ending ≡ None → limits opening (packets_of (limits opening) b) ≡ limit
    → state_of limit u ≡ More → reading opening (b ++ u) ≡ reading opening b
still_read opening b u limit clear none is still =
    let g : GoesOn (limits opening) b u =
    goes_on_at (limits opening) b u [] limit More clear is (sym still) (λ e. absurd (cc)) in
    reading_more opening b u g none
    ∙ (ap
    (λ x. with_rest (reading opening b) (state_of (limits opening (packets_of (limits opening) b)) (x ++ u)))
    clear
    ∙ (ap (λ n. with_rest (reading opening b) (state_of n u)) is
    ∙ (ap (with_rest (reading opening b)) still ∙ rest_more (reading opening b))))

-- ---- where fragments came

-- what was read, with fragments of a message behind it
abbrev with_fragments : Progress → ℕ → List ℕ → ℕ → Progress
with_fragments p at octets count = record p { at = at; unfinished = record { octets = octets; count = count } }

-- and with a message of which the last packet came at a place
abbrev with_message : Progress → ℕ → List ℕ → ℕ → Progress
with_message p at m place =
    record p { at = at; unfinished = nothing_unfinished; events = p.events ++ message m place ∷ [] }

-- Behind what was read the octets bring whole packets with fragments of a message, or more octets too, or all of it.
record HasFragments (opening : Opening) (p : Progress) (c octets : List ℕ) (count : ℕ) : Type 0 where
  rest : rest_of (limits opening) c ≡ []
  at : ℕ
  is : reading opening c ≡ with_fragments p at octets count

record HasBegun (opening : Opening) (p : Progress) (c : List ℕ) : Type 0 where
  at : ℕ
  octets : List ℕ
  count : ℕ
  is : reading opening c ≡ with_fragments p at octets count

record HasMessage (opening : Opening) (p : Progress) (c m : List ℕ) : Type 0 where
  rest : rest_of (limits opening) c ≡ []
  at : ℕ
  place : ℕ
  is : reading opening c ≡ with_message p at m place

module _ (opening : Opening) (p : Progress) (size : ℕ) (least : 4 ≤ size) (unended : p.ending ≡ None)
    (sized : p.size ≡ Some size) where
  limit_with : (c octets : List ℕ) (count : ℕ) → HasFragments opening p c octets count
      → limits opening (packets_of (limits opening) c) ≡ size + 7
  limit_with c octets count h =
      limit_is opening c (ap (λ (q : Progress). q.ending) h.is ∙ unended)
      ∙ ap limit_by (ap (λ (q : Progress). q.size) h.is ∙ sized)

  begun_with : (c octets user u v : List ℕ) (count : ℕ) (last : Bool) → HasFragments opening p c octets count
      → length user ≤ size - 3 → u ++ v ≡ packet_of (spelling_of_data last user) → 0 < length v
      → HasBegun opening p (c ++ u)
  begun_with c octets user u v count last h fits is some = record {
    at = h.at;
    octets = octets;
    count = count;
    is = still_read opening c u (size + 7) h.rest (ap (λ (q : Progress). q.ending) h.is ∙ unended)
        (limit_with c octets count h)
        (front_more (size + 7) (spelling_of_data last user) u v (omega arith) (omega (arith, least, fits)) is some)
        ∙ h.is;
  }

  -- one packet more
  packet_ends : (c octets user : List ℕ) (count : ℕ) (last : Bool) → HasFragments opening p c octets count
      → length user ≤ size - 3
      → EndsPacket (limits opening) c (packet_of (spelling_of_data last user)) (spelling_of_data last user)
  packet_ends c octets user count last h fits =
      let body = spelling_of_data last user in
      ends_packet_at (limits opening) c (packet_of body) [] (size + 7) h.rest (limit_with c octets count h)
      (packet_written (size + 7) body (omega arith) (omega (arith, least, fits)))

  packet_joins : (c octets user : List ℕ) (count : ℕ) (last : Bool) (step : Step)
      → (h : HasFragments opening p c octets count) → length user ≤ size - 3
      → joined_with message_limit octets count (record { last = last; user = user }) ≡ step
      → reading opening (c ++ packet_of (spelling_of_data last user))
      ≡ with_joining (with_fragments p h.at octets count) (spelling_of_data last user) step
  packet_joins c octets user count last step h fits is =
      let body = spelling_of_data last user in
      let q = with_fragments p h.at octets count in
      reading_whole opening c (packet_of body) body (packet_ends c octets user count last h fits)
      (ap (λ (q : Progress). q.ending) h.is ∙ unended)
      ∙ (ap (λ q. with_body opening q body) h.is
      ∙ (body_at opening q body unended
      ∙ (ap (with_tpdu opening q body) (data_again last user)
      ∙ (ap (λ n. with_told opening q body n (fragment last user)) sized ∙ ap (with_joining q body) is))))

  reading_joins : Joins (size - 3) (HasFragments opening p) (HasBegun opening p) (HasMessage opening p)
  reading_joins = record {
    front = λ c octets user u v count last h fits is some. begun_with c octets user u v count last h fits is some;
    early = λ c octets user count h fits few most. record {
      rest = (packet_ends c octets user count false h fits).rest;
      at = _;
      is = packet_joins c octets user count false (more (octets ++ user) (count + 1)) h fits
          (joined_by octets user count false few most);
    };
    final = λ c octets user count h fits few most. record {
      rest = (packet_ends c octets user count true h fits).rest;
      at = _;
      place = _;
      is = packet_joins c octets user count true (whole (octets ++ user)) h fits
          (joined_by octets user count true few most);
    };
  }

-- ---- messages behind an opening

-- between two messages
pub record Settled (opening : Opening) (b : List ℕ) : Type 0 where
  pub rest : rest_of (limits opening) b ≡ []
  pub unended : (reading opening b).ending ≡ None
  pub unfinished : (reading opening b).unfinished ≡ nothing_unfinished
  pub size : (reading opening b).size ≡ Some 1024

none_came : (opening : Opening) (b : List ℕ) → Settled opening b → HasFragments opening (reading opening b) b [] 0
none_came opening b s = record {
  rest = s.rest;
  at = (reading opening b).at;
  is = ap (λ (u : Unfinished). with_fragments (reading opening b) (reading opening b).at u.octets u.count) s.unfinished;
}

-- one message more is read
message_read : (opening : Opening) (b m : List ℕ) → Settled opening b → length m ≤ message_limit
    → HasMessage opening (reading opening b) (b ++ sent_message 1024 m) m
message_read opening b m s most =
    message_whole 1024 b m (reading_joins opening (reading opening b) 1024 (omega arith) s.unended s.size) (omega arith)
    most (few_fragments (length m) 1024 (omega arith) (omega (arith, most))) (none_came opening b s)

-- of a front of it at most fragments
front_read : (opening : Opening) (b u v m : List ℕ) → Settled opening b → length m ≤ message_limit
    → u ++ v ≡ sent_message 1024 m → 0 < length v → HasBegun opening (reading opening b) (b ++ u)
front_read opening b u v m s most is some =
    message_front 1024 b m u v (reading_joins opening (reading opening b) 1024 (omega arith) s.unended s.size)
    (omega arith) most (few_fragments (length m) 1024 (omega arith) (omega (arith, most))) (none_came opening b s)
    is some

settled_on : (opening : Opening) (b m : List ℕ) → Settled opening b
    → HasMessage opening (reading opening b) (b ++ sent_message 1024 m) m → Settled opening (b ++ sent_message 1024 m)
settled_on opening b m s h = record {
  rest = h.rest;
  unended = ap (λ (q : Progress). q.ending) h.is ∙ s.unended;
  unfinished = ap (λ (q : Progress). q.unfinished) h.is;
  size = ap (λ (q : Progress). q.size) h.is ∙ s.size;
}

-- the events are these messages, wherever each ended
pub data AreMessages : List Event → List (List ℕ) → Type 0 where
  none : AreMessages [] []
  one : {m : List ℕ} {at : ℕ} {es : List Event} {ms : List (List ℕ)} → AreMessages es ms
      → AreMessages (message m at ∷ es) (m ∷ ms)

-- no message is too long to be joined
abbrev pub AreShort : List (List ℕ) → Type 0
AreShort [] = Unit {0}
AreShort (m ∷ ms) = (length m ≤ message_limit) × AreShort ms

-- what is read behind these octets, of further octets that are a front of messages: a front of those
pub record ReadsFront (opening : Opening) (b u : List ℕ) (ms : List (List ℕ)) : Type 0 where
  pub events : List Event
  pub front : List (List ℕ)
  pub behind : List (List ℕ)
  pub read : (reading opening (b ++ u)).events ≡ (reading opening b).events ++ events
  pub are : AreMessages events front
  pub all : ms ≡ front ++ behind

reads_none : (opening : Opening) (b u : List ℕ) (ms : List (List ℕ))
    → (reading opening (b ++ u)).events ≡ (reading opening b).events → ReadsFront opening b u ms
reads_none opening b u ms same = record {
  events = [];
  front = [];
  behind = ms;
  read = same ∙ sym (append-nil (reading opening b).events);
  are = none;
  all = refl;
}

reads_one : (opening : Opening) (b m z : List ℕ) (ms : List (List ℕ))
    → HasMessage opening (reading opening b) (b ++ sent_message 1024 m) m
    → ReadsFront opening (b ++ sent_message 1024 m) z ms → ReadsFront opening b (sent_message 1024 m ++ z) (m ∷ ms)
reads_one opening b m z ms h r = record {
  events = message m h.place ∷ r.events;
  front = m ∷ r.front;
  behind = r.behind;
  read =
      ap (λ x. (reading opening x).events) (sym (append_assoc b (sent_message 1024 m) z))
      ∙ (r.read
      ∙ (ap (λ (q : Progress). q.events ++ r.events) h.is
      ∙ append_assoc (reading opening b).events (message m h.place ∷ []) r.events));
  are = one r.are;
  all = ap (λ x. m ∷ x) r.all;
}

none_of : (u v : List ℕ) → u ++ v ≡ [] → u ≡ []
none_of [] v e = refl
none_of (x ∷ u) v e = absurd (cc)

pub reads_front : (opening : Opening) (b u v : List ℕ) (ms : List (List ℕ)) → Settled opening b → AreShort ms
    → u ++ v ≡ sent_messages 1024 ms → ReadsFront opening b u ms
reads_front opening b u v [] s short e =
    reads_none opening b u []
    (ap (λ x. (reading opening x).events) (ap (λ x. b ++ x) (none_of u v e) ∙ append-nil b))
reads_front opening b u v (m ∷ ms) s short e =
    let h = message_read opening b m s short.0 in
    elim (parts (sent_message 1024 m) (sent_messages 1024 ms) u v (sym e)) as (λ _. ReadsFront opening b u (m ∷ ms)) [
      | inl k ↦
          reads_none opening b u (m ∷ ms)
          (ap (λ (q : Progress). q.events) (front_read opening b u k.0 m s short.0 k.1 k.2).is)
      | inr k ↦
          subst (λ x. ReadsFront opening b x (m ∷ ms)) (sym k.1)
          (reads_one opening b m k.0 ms h
          (reads_front opening (b ++ sent_message 1024 m) k.0 v ms (settled_on opening b m s h) short.1 (sym k.2)))
    ]
