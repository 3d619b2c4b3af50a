-- What a partner says and hears behind the negotiation, and how that of two partners goes together.
use Rattle.std.proofs.Common.{◌≡◌, ◌⊎◌, inl, inr, ℕ, ◌+◌, ◌<◌, ◌≤◌, List, [], ◌∷◌, ◌++◌, length, refl, ap, sym, ◌∙◌}
use Rattle.std.proofs.Common.{subst, arith, length-append, drop}
use Rattle.std.specs.Prelude.{Option, None, Some}
use Rattle.std.proofs.lemmas.List.{length-take}
use Rattle.s7_dialogue.specs.UserData.{data_of}
use Rattle.s7_wire.specs.Reading.{Event}
use Rattle.s7_partner.specs.Telegrams.{Piece, piece_data, piece_message, room, total_octets}
use Rattle.s7_partner.specs.States.{Parcel}
use Rattle.s7_partner.specs.Pairs.{Delivered}
use Rattle.s7_partner.proofs.ListLemmas.{tail_same, head_same}
use Rattle.s7_partner.proofs.PairFronts.{AreMessages, none, one, AreShort}
use Rattle.s7_partner.proofs.PairTelegrams.{Said, piece, receipt, octets_of, messages_of}
use Rattle.s7_partner.proofs.PairTraces.{idle, nothing, Trace, said, given, heard, delivered, ended}
use Rattle.s7_partner.proofs.PairFollows.{Position, next_position, IsNext, Follows, start_of, says_follow}
use Rattle.s7_partner.proofs.PairFollows.{front_follows, Hears, mores_in, receipts_in, lasts, lasts_front}
use Rattle.s7_partner.proofs.PairFollows.{mores-append, receipts-append, ended_few}
use Rattle.s7_partner.proofs.PairReceives.{Received, nothing_out, received}

-- ---- what is said is short

length-data_of : (octets : List ℕ) → length (data_of octets) ≤ 4 + length octets
length-data_of [] = omega arith
length-data_of (x ∷ xs) = omega arith

length-total : (o : Option ℕ) → length (total_octets o) ≤ 2
length-total None = omega arith
length-total (Some total) = omega arith

piece_short : (sequence : ℕ) (p : Piece) → length (piece_message sequence p) ≤ 36 + length p.octets
piece_short sequence p =
    omega (
      arith,
      length-data_of (piece_data p),
      length-append (total_octets p.total) p.octets,
      length-total p.total,
    )

next_short : (pdu number from : ℕ) (blocks : List Parcel) (p : Piece)
    → IsNext pdu (record { number = number; from = from; blocks = blocks }) p → length p.octets ≤ room pdu
next_short pdu number from [] p h = absurd h
next_short pdu number from (b ∷ bs) p h =
    omega (arith, ap (λ (x : Piece). length x.octets) h, length-take (room pdu) (drop from b.body))

pub says_short : (pdu : ℕ) (q : Position) (says : List Said) → pdu ≤ 1920 → Follows pdu q says
    → AreShort (messages_of says)
says_short pdu q [] most h = tt
says_short pdu q (piece sequence p ∷ says) most h = (
  omega (arith, piece_short sequence p, next_short pdu q.number q.from q.blocks p h.0, most),
  says_short pdu (next_position pdu q) says most h.1,
)
says_short pdu q (receipt sequence number ∷ says) most h = (omega arith, says_short pdu q says most h)

-- ---- a talk

-- the first message is the negotiation, and behind it these are said
abbrev pub Led : List (List ℕ) → List Said → Type 0
Led [] hs = hs ≡ []
Led (m ∷ ms) hs = Hears ms hs

-- What a partner is given, hands out and tells as sent, by the messages that it hears and by what it says.
pub record Talk (gs ps : List Parcel) (n : ℕ) (ms : List (List ℕ)) (says : List Said) : Type 0 where
  pub pdu : ℕ
  pub least : 64 ≤ pdu
  pub most : pdu ≤ 1920
  pub follows : Follows pdu (start_of 0 gs) says
  pub few : (hs : List Said) → Led ms hs → n ≤ lasts (receipts_in hs) (mores_in says)
  pub receives : (pdu' : ℕ) (blocks : List Parcel) (hs : List Said) → 0 < room pdu' → Led ms hs
      → Follows pdu' (start_of 0 blocks) hs → Received nothing blocks ps hs says

-- nothing is said or handed out
pub quiet_talk : (gs : List Parcel) (ms : List (List ℕ)) → Talk gs [] 0 ms []
quiet_talk gs ms = record {
  pdu = 64;
  least = omega arith;
  most = omega arith;
  follows = tt;
  few = λ hs h. omega arith;
  receives = λ pdu' blocks hs some h f. nothing_out nothing blocks hs;
}

pub trace_talk : (pdu : ℕ) (m : List ℕ) (t : Trace pdu (idle 0) None nothing) → 64 ≤ pdu → pdu ≤ 1920
    → Talk (given pdu t) (delivered pdu t) (ended pdu t) (m ∷ heard pdu t) (said pdu t)
trace_talk pdu m t least most = record {
  pdu = pdu;
  least = least;
  most = most;
  follows = says_follow pdu t;
  few = λ hs h. ended_few pdu t hs h;
  receives = λ pdu' blocks hs some h f. received pdu pdu' t 1 0 blocks hs some h f refl;
}

-- ---- two partners

-- What is said by one, and heard of it by the other: at first the negotiation, which may not go out.
abbrev pub IsSpoken : List (List ℕ) → List Said → Type 0
IsSpoken first says = ((first ≡ []) × (says ≡ [])) ⊎ ((m : List ℕ) × (first ≡ m ∷ []))

pub record Heard (ms : List (List ℕ)) (says : List Said) : Type 0 where
  pub hs : List Said
  pub rest : List Said
  pub led : Led ms hs
  pub front : says ≡ hs ++ rest

record HearsFront (ms : List (List ℕ)) (says : List Said) : Type 0 where
  hs : List Said
  rest : List Said
  hears : Hears ms hs
  front : says ≡ hs ++ rest

hears_front : (ms behind : List (List ℕ)) (says : List Said) → messages_of says ≡ ms ++ behind → HearsFront ms says
hears_front [] behind says e = record { hs = []; rest = says; hears = tt; front = refl }
hears_front (m ∷ ms) behind [] e = absurd (cc)
hears_front (m ∷ ms) behind (x ∷ says) e =
    let h = hears_front ms behind says (tail_same (octets_of x) m (messages_of says) (ms ++ behind) e) in
    record {
      hs = x ∷ h.hs;
      rest = h.rest;
      hears = (sym (head_same (octets_of x) m (messages_of says) (ms ++ behind) e), h.hears);
      front = ap (λ z. x ∷ z) h.front;
    }

pub heard_front : (first ms behind : List (List ℕ)) (says : List Said) → IsSpoken first says
    → first ++ messages_of says ≡ ms ++ behind → Heard ms says
heard_front first [] behind says spoken e = record { hs = []; rest = says; led = refl; front = refl }
heard_front first (m ∷ ms) behind says (inl (n, s)) e =
    let x : [] ≡ m ∷ (ms ++ behind) =
    sym (ap (λ z. z ++ messages_of says) n ∙ ap messages_of s) ∙ e in
    absurd (cc)
heard_front first (m ∷ ms) behind says (inr (a, is)) e =
    let same : a ∷ messages_of says ≡ m ∷ (ms ++ behind) = sym (ap (λ z. z ++ messages_of says) is) ∙ e in
    let h = hears_front ms behind says (tail_same a m (messages_of says) (ms ++ behind) same) in
    record { hs = h.hs; rest = h.rest; led = h.hears; front = h.front }

pub messages_same : {es : List Event} {ms ns : List (List ℕ)} → AreMessages es ms → AreMessages es ns → ms ≡ ns
messages_same none k = messages_none k
  where
    messages_none : {ns : List (List ℕ)} → AreMessages [] ns → [] ≡ ns
    messages_none none = refl
messages_same (one {m = m} h) (one k) = ap (λ z. m ∷ z) (messages_same h k)

-- what one is given, the other hands out a front of, and as many blocks as one tells as sent at least
pub talks_meet : (gs ps gs' ps' : List Parcel) (n n' : ℕ) (ms ms' : List (List ℕ)) (says says' : List Said)
    → Talk gs ps n ms says → Talk gs' ps' n' ms' says' → Heard ms says' → Heard ms' says
    → Delivered gs ps' × (n ≤ length ps')
talks_meet gs ps gs' ps' n n' ms ms' says says' t t' h h' =
    let follows = front_follows t.pdu (start_of 0 gs) h'.hs h'.rest
    (subst (Follows t.pdu (start_of 0 gs)) h'.front t.follows) in
    let r = t'.receives t.pdu gs h'.hs (omega (arith, t.least)) h'.led follows in
    let few = t.few h.hs h.led in
    let told = receipts-append h.hs h.rest in
    let fewer : receipts_in h.hs ≤ receipts_in says' = omega (arith, ap receipts_in h.front, told) in
    let all : mores_in says ≡ mores_in h'.hs ++ mores_in h'.rest = ap mores_in h'.front ∙ mores-append h'.hs h'.rest in
    let front = lasts_front (receipts_in h.hs) (receipts_in says') (mores_in h'.hs) (mores_in h'.rest) fewer
    (omega (arith, r.answers)) in
    ((r.rest, r.front), omega (arith, few, ap (lasts (receipts_in h.hs)) all, front, r.covered))
