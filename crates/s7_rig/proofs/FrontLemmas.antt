-- The octets of a message, on a link between two messages: what is read of them all, and what of a front of them.
use Rattle.std.proofs.Common.{◌≡◌, ℕ, ◌+◌, ◌-◌, ◌<◌, ◌≤◌, Bool, true, false, List, [], ◌∷◌, ◌++◌, length, ap, sym, ◌∙◌, arith}
use Rattle.std.specs.Prelude.{Option, None, Some}
use Rattle.s7_tpkt.specs.Packets.{packet_of, packets_of, rest_of, state_of, GoesOn, EndsPacket}
use Rattle.s7_tpkt.specs.declared.state.FedState.TheVariants.{More}
use Rattle.s7_tpkt.proofs.PacketLemmas.{goes_on_at, ends_packet_at}
use Rattle.s7_tpkt.proofs.WriteLemmas.{packet_written}
use Rattle.s7_cotp.specs.Messages.{Step, more, whole, joined_with}
use Rattle.s7_cotp.specs.Spelling.{spelling_of_data}
use Rattle.s7_cotp.specs.Told.{fragment}
use Rattle.s7_cotp.proofs.SpellLemmas.{data_again}
use Rattle.s7_wire.specs.Bounds.{message_limit}
use Rattle.s7_wire.specs.declared.found.Opening.TheVariants.{Request}
use Rattle.s7_wire.specs.Reading.{Progress, Unfinished, nothing_unfinished, message, limits, limit_by, with_joining, with_told, with_tpdu, with_body, with_rest, reading}
use Rattle.s7_wire.specs.Sent.{sent_message}
use Rattle.s7_wire.proofs.ReadingLemmas.{limit_is, reading_more, reading_whole, rest_more, body_at}
use Rattle.s7_session.specs.LinkState.{LinkState}
use Rattle.s7_session.specs.Owed.{Past}
use Rattle.s7_session.specs.Telegrams.{entered_of}
use Rattle.s7_session.specs.Verdict.{Verdict}
use Rattle.s7_rig.specs.Settled.{Settled}
use Rattle.s7_rig.proofs.Waiting.{Waits}
use Rattle.s7_rig.proofs.PacketFronts.{front_more}
use Rattle.s7_rig.proofs.PartedLemmas.{few_fragments, joined_by, Joins, message_whole, message_front}
use Rattle.s7_rig.proofs.PastFacts.{past_alike, past_with}

-- octets behind whole packets, of which more has to come, are read as nothing
pub still_read : (b u : List ℕ) (limit : ℕ) → rest_of (limits Request) b ≡ [] → (reading Request b).ending ≡ None
    → limits Request (packets_of (limits Request) b) ≡ limit → state_of limit u ≡ More → reading Request (b ++ u) ≡ reading Request b
still_read b u limit clear none is still =
    let g : GoesOn (limits Request) b u = goes_on_at (limits Request) b u [] limit More clear is (sym still) (λ e. absurd (cc)) in
    reading_more Request b u g none
    ∙ (ap (λ x. with_rest (reading Request b) (state_of (limits Request (packets_of (limits Request) b)) (x ++ u))) clear
    ∙ (ap (λ n. with_rest (reading Request b) (state_of n u)) is
    ∙ (ap (with_rest (reading Request b)) still ∙ rest_more (reading Request b))))

-- ---- where fragments came

-- what was read, with fragments of a message behind it
abbrev with_fragments : Progress → ℕ → List ℕ → ℕ → Progress
with_fragments p at octets count = record p { at = at; unfinished = record { octets = octets; count = count } }

-- and with a message of which the last packet came at a place
abbrev with_message : Progress → ℕ → List ℕ → ℕ → Progress
with_message p at m place =
    record p { at = at; unfinished = nothing_unfinished; events = p.events ++ message m place ∷ [] }

-- Behind what was read the octets bring whole packets with fragments of a message, or more octets too, or all of it.
record HasFragments (p : Progress) (c octets : List ℕ) (count : ℕ) : Type 0 where
  rest : rest_of (limits Request) c ≡ []
  at : ℕ
  is : reading Request c ≡ with_fragments p at octets count

record HasBegun (p : Progress) (c : List ℕ) : Type 0 where
  at : ℕ
  octets : List ℕ
  count : ℕ
  is : reading Request c ≡ with_fragments p at octets count

pub record HasMessage (p : Progress) (c m : List ℕ) : Type 0 where
  pub rest : rest_of (limits Request) c ≡ []
  pub at : ℕ
  pub place : ℕ
  pub is : reading Request c ≡ with_message p at m place

module _ (p : Progress) (size : ℕ) (least : 4 ≤ size) (unended : p.ending ≡ None) (sized : p.size ≡ Some size) where
  limit_with : (c octets : List ℕ) (count : ℕ) → HasFragments p c octets count
      → limits Request (packets_of (limits Request) c) ≡ size + 7
  limit_with c octets count h =
      limit_is Request c (ap (λ (q : Progress). q.ending) h.is ∙ unended)
      ∙ ap limit_by (ap (λ (q : Progress). q.size) h.is ∙ sized)

  begun_with : (c octets user u v : List ℕ) (count : ℕ) (last : Bool) → HasFragments p c octets count
      → length user ≤ size - 3 → u ++ v ≡ packet_of (spelling_of_data last user) → 0 < length v → HasBegun p (c ++ u)
  begun_with c octets user u v count last h fits is some = record {
    at = h.at;
    octets = octets;
    count = count;
    is = still_read c u (size + 7) h.rest (ap (λ (q : Progress). q.ending) h.is ∙ unended)
        (limit_with c octets count h)
        (front_more (size + 7) (spelling_of_data last user) u v (omega arith) (omega (arith, least, fits)) is some)
        ∙ h.is;
  }

  -- one packet more
  packet_ends : (c octets user : List ℕ) (count : ℕ) (last : Bool) → HasFragments p c octets count
      → length user ≤ size - 3
      → EndsPacket (limits Request) c (packet_of (spelling_of_data last user)) (spelling_of_data last user)
  packet_ends c octets user count last h fits =
      let body = spelling_of_data last user in
      ends_packet_at (limits Request) c (packet_of body) [] (size + 7) h.rest (limit_with c octets count h)
      (packet_written (size + 7) body (omega arith) (omega (arith, least, fits)))

  packet_joins : (c octets user : List ℕ) (count : ℕ) (last : Bool) (step : Step)
      → (h : HasFragments p c octets count) → length user ≤ size - 3
      → joined_with message_limit octets count (record { last = last; user = user }) ≡ step
      → reading Request (c ++ packet_of (spelling_of_data last user))
      ≡ with_joining (with_fragments p h.at octets count) (spelling_of_data last user) step
  packet_joins c octets user count last step h fits is =
      let body = spelling_of_data last user in
      let q = with_fragments p h.at octets count in
      reading_whole Request c (packet_of body) body (packet_ends c octets user count last h fits)
      (ap (λ (q : Progress). q.ending) h.is ∙ unended)
      ∙ (ap (λ q. with_body Request q body) h.is
      ∙ (body_at Request q body unended
      ∙ (ap (with_tpdu Request q body) (data_again last user)
      ∙ (ap (λ n. with_told Request q body n (fragment last user)) sized ∙ ap (with_joining q body) is))))

  reading_joins : Joins (size - 3) (HasFragments p) (HasBegun p) (HasMessage p)
  reading_joins = record {
    front = λ c octets user u v count last h fits is some. begun_with c octets user u v count last h fits is some;
    early = λ c octets user count h fits few most. record {
      rest = (packet_ends c octets user count false h fits).rest;
      at = _;
      is = packet_joins c octets user count false (more (octets ++ user) (count + 1)) h fits
          (joined_by octets user count false few most);
    };
    final = λ c octets user count h fits few most. record {
      rest = (packet_ends c octets user count true h fits).rest;
      at = _;
      place = _;
      is = packet_joins c octets user count true (whole (octets ++ user)) h fits
          (joined_by octets user count true few most);
    };
  }

-- ---- a message on a link between two

module _ {first : LinkState} {b : List ℕ} {js : List Verdict} {granted : Option ℕ}
    (s : Settled first b js granted) where
  none_came : HasFragments (reading Request b) b [] 0
  none_came = record {
    rest = s.rest;
    at = (reading Request b).at;
    is = ap (λ (u : Unfinished). with_fragments (reading Request b) (reading Request b).at u.octets u.count)
        s.unfinished;
  }

  -- one message more is read
  pub message_read : (m : List ℕ) → length m ≤ message_limit
      → HasMessage (reading Request b) (b ++ sent_message 1024 m) m
  message_read m most =
      message_whole 1024 b m (reading_joins (reading Request b) 1024 (omega arith) s.unended s.read_size) (omega arith)
      most (few_fragments (length m) 1024 (omega arith) (omega (arith, most))) none_came

  -- of a front of it at most fragments
  front_read : (u v m : List ℕ) → length m ≤ message_limit → u ++ v ≡ sent_message 1024 m → 0 < length v
      → HasBegun (reading Request b) (b ++ u)
  front_read u v m most is some =
      message_front 1024 b m u v (reading_joins (reading Request b) 1024 (omega arith) s.unended s.read_size)
      (omega arith) most (few_fragments (length m) 1024 (omega arith) (omega (arith, most))) none_came is some

  -- before all octets of a message came, nothing is owed for it
  pub served_front : (u v m : List ℕ) (vs : List Verdict) → length m ≤ message_limit → u ++ v ≡ sent_message 1024 m
      → 0 < length v → Waits first b u js vs
  served_front u v m vs most is some =
      let begun = front_read u v m most is some in
      let same =
      past_alike first b (b ++ u) (js ++ vs) (ap (λ (q : Progress). q.events) begun.is)
      (ap (λ (q : Progress). q.ending) begun.is ∙ s.unended) s.unended
      ∙ past_with first b js vs s.lives in
      record {
        lives = ap (λ p. p.standing) same ∙ s.lives;
        verdicts = ap (λ p. p.verdicts) same ∙ ap (λ x. x ++ vs) s.met;
        owed = ap (λ p. p.owed) same;
        entered = ap (λ (p : Past). entered_of p.mets) same;
      }
