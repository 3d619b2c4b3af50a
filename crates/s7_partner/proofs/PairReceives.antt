-- A partner that hears fragments of blocks, in order, hands out a front of these blocks, and acknowledges no fragment
-- that it didn't hear, the last one of a block only once it was handed out.
use Rattle.std.proofs.Common.{◌≡◌, inl, inr, ℕ, ◌+◌, ◌<◌, ◌≤◌, ◌==◌, Bool, true, false, List, [], ◌∷◌, ◌++◌, length}
use Rattle.std.proofs.Common.{take, drop, refl, ap, sym, ◌∙◌, subst, arith, if◌then◌else◌, nat_lt, take-add}
use Rattle.std.specs.Prelude.{Option, None, Some, is_none, option_map}
use Rattle.std.proofs.lemmas.Bool.{ne_eqb, ltb-false}
use Rattle.std.proofs.lemmas.List.{take_all}
use Rattle.s7_partner.specs.Telegrams.{Piece, piece_from, piece_message, room, piece_in, sequence_of}
use Rattle.s7_partner.specs.States.{Receiving, Block, Parcel, next_number, is_of}
use Rattle.s7_partner.specs.Pieces.{first_block, block_for}
use Rattle.s7_partner.proofs.StateLemmas.{same_some}
use Rattle.s7_partner.proofs.PairTelegrams.{Said, piece, receipt, IsOnly, piece_again}
use Rattle.s7_partner.proofs.PairTraces.{Sender, Pending, nothing, whole, handed, block_of, parcel_in, Trace, ends}
use Rattle.s7_partner.proofs.PairTraces.{closes, gave, went_on, was_sent, kept_on, came_whole, hands_out, confirms_it}
use Rattle.s7_partner.proofs.PairTraces.{said, heard, delivered}
use Rattle.s7_partner.proofs.PairFollows.{Position, next_position, Follows, start_of, Hears, mores_in, receipts_in}
use Rattle.s7_partner.proofs.PairFollows.{last_one, lasts, none_confirms, no_piece}

-- a block of which the first octets came
pub record IsBegun (b : Receiving) (number from : ℕ) (p : Parcel) : Type 0 where
  pub number_is : b.number ≡ number
  pub rid_is : b.rid ≡ p.rid
  pub came : b.octets ≡ take from p.body

abbrev begun_by : Receiving → ℕ → ℕ → List Parcel → Type 0
begun_by b number from [] = ⊥
begun_by b number from (p ∷ ps) = (0 < from) × IsBegun b number from p

-- what came of a block that isn't whole are its octets before this place
abbrev pub Receives : Option Receiving → Position → Type 0
Receives None q = q.from ≡ 0
Receives (Some b) q = begun_by b q.number q.from q.blocks

-- ---- a fragment

total_later : (from total : ℕ) → 0 < from → (if from == 0 then Some total else None) ≡ None
total_later from total some =
    ap (λ t. if t then Some total else None) (ne_eqb from 0 (λ e. omega (arith, e, some)))

-- the fragment from a place on, with this total
abbrev piece_placed : ℕ → ℕ → ℕ → ℕ → List ℕ → Option ℕ → Piece
piece_placed pdu number from rid body total = record (piece_from pdu number rid body from) { total = total }

-- a fragment is read as the one that comes next, or not at all
next_only : (pdu number from rid : ℕ) (body : List ℕ) (r : Option Receiving) (sequence : ℕ) (ps : List Parcel)
    → Receives r (record { number = number; from = from; blocks = record { rid = rid; body = body } ∷ ps })
    → IsOnly (piece_in (is_none r) (piece_message sequence (piece_from pdu number rid body from)))
    (piece_from pdu number rid body from)
next_only pdu number from rid body None sequence ps h =
    let total = ap (λ n. if n == 0 then Some (length body) else None) h in
    let p = piece_placed pdu number from rid body in
    subst (λ o. IsOnly (piece_in true (piece_message sequence (p o))) (p o)) (sym total)
    (piece_again true sequence number rid (length body) (take (room pdu) (drop from body))
    (nat_lt (from + room pdu) (length body)))
next_only pdu number from rid body (Some b) sequence ps h =
    let p = piece_placed pdu number from rid body in
    subst (λ o. IsOnly (piece_in false (piece_message sequence (p o))) (p o)) (sym (total_later from (length body) h.0))
    (piece_again false sequence number rid (length body) (take (room pdu) (drop from body))
    (nat_lt (from + room pdu) (length body)))

only_same : (o : Option Piece) (p p' : Piece) → o ≡ Some p → IsOnly o p' → p ≡ p'
only_same o p p' e (inl h) = cc
only_same o p p' e (inr h) = cc

heard_next : (pdu number from : ℕ) (c : Parcel) (cs : List Parcel) (r : Option Receiving) (sequence : ℕ) (m : List ℕ)
    (p p' : Piece) → Receives r (record { number = number; from = from; blocks = c ∷ cs })
    → piece_in (is_none r) m ≡ Some p → m ≡ piece_message sequence p' → p' ≡ piece_from pdu number c.rid c.body from
    → p ≡ piece_from pdu number c.rid c.body from
heard_next pdu number from c cs r sequence m p p' h is e next =
    only_same (piece_in (is_none r) m) p (piece_from pdu number c.rid c.body from) is
    (subst (λ x. IsOnly (piece_in (is_none r) x) (piece_from pdu number c.rid c.body from))
    (sym (e ∙ ap (piece_message sequence) next))
    (next_only pdu number from c.rid c.body r sequence cs h))

-- the block that a fragment is of
first_begun : (p : Piece) (number : ℕ) (c : Parcel) (b : Receiving) → p.number ≡ number → p.rid ≡ c.rid
    → first_block p ≡ Some b → IsBegun b number 0 c
first_begun p number c b number_is rid_is of = by p.total of
  where
    by : (o : Option ℕ)
        → option_map (λ (total : ℕ). record { number = p.number; rid = p.rid; total = total; octets = [] }) o ≡ Some b
        → IsBegun b number 0 c
    by None e = absurd (cc)
    by (Some total) e =
        let made : Receiving = record { number = p.number; rid = p.rid; total = total; octets = [] } in
        subst (λ (x : Receiving). IsBegun x number 0 c) (same_some made b e)
        (record { number_is = number_is; rid_is = rid_is; came = refl })

of_begun : (p : Piece) (number from : ℕ) (c : Parcel) (r b : Receiving) → IsBegun r number from c
    → block_for (Some r) p ≡ Some b → IsBegun b number from c
of_begun p number from c r b h of = by (is_of r p) of
  where
    by : (t : Bool) → (if t then Some r else None) ≡ Some b → IsBegun b number from c
    by true e = subst (λ (x : Receiving). IsBegun x number from c) (same_some r b e) h
    by false e = absurd (cc)

block_begun : (number from : ℕ) (c : Parcel) (cs : List Parcel) (r : Option Receiving) (p : Piece) (b : Receiving)
    → Receives r (record { number = number; from = from; blocks = c ∷ cs }) → p.number ≡ number → p.rid ≡ c.rid
    → block_for r p ≡ Some b → IsBegun b number from c
block_begun number from c cs None p b h number_is rid_is of =
    subst (λ n. IsBegun b number n c) (sym h) (first_begun p number c b number_is rid_is of)
block_begun number from c cs (Some r) p b h number_is rid_is of = of_begun p number from c r b h.1 of

-- what is known of a fragment that comes: the octets of the block up to its end
record Comes (pdu number from : ℕ) (c : Parcel) (p p' : Piece) (b : Receiving) : Type 0 where
  begun : IsBegun b number from c
  octets : b.octets ++ p.octets ≡ take (from + room pdu) c.body
  more : p.more ≡ nat_lt (from + room pdu) (length c.body)
  more_again : p'.more ≡ p.more

comes : (pdu number from : ℕ) (c : Parcel) (cs : List Parcel) (r : Option Receiving) (sequence : ℕ) (m : List ℕ)
    (p p' : Piece) (b : Receiving) → Receives r (record { number = number; from = from; blocks = c ∷ cs })
    → piece_in (is_none r) m ≡ Some p → block_for r p ≡ Some b → m ≡ piece_message sequence p'
    → p' ≡ piece_from pdu number c.rid c.body from → Comes pdu number from c p p' b
comes pdu number from c cs r sequence m p p' b h is of e next =
    let same = heard_next pdu number from c cs r sequence m p p' h is e next in
    let begun = block_begun number from c cs r p b h (ap (λ (x : Piece). x.number) same)
    (ap (λ (x : Piece). x.rid) same) of in
    record {
      begun = begun;
      octets =
          ap (λ x. x ++ p.octets) begun.came
          ∙ (ap (λ (x : Piece). take from c.body ++ x.octets) same ∙ sym (take-add from (room pdu) c.body));
      more = ap (λ (x : Piece). x.more) same;
      more_again = ap (λ (x : Piece). x.more) (next ∙ sym same);
    }

-- ---- what is handed out

abbrev pub parcels_of : Pending → List Parcel
parcels_of nothing = []
parcels_of (whole block) = parcel_in block ∷ []
parcels_of (handed block) = []

-- a last fragment that came and wasn't acknowledged
abbrev pub mores_of : Pending → List Bool
mores_of nothing = []
mores_of (whole block) = false ∷ []
mores_of (handed block) = false ∷ []

-- a block of it was handed out before
abbrev pub already : Pending → ℕ
already nothing = 0
already (whole block) = 0
already (handed block) = 1

pub record Received (e : Pending) (blocks out : List Parcel) (hs says : List Said) : Type 0 where
  pub rest : List Parcel
  pub front : parcels_of e ++ blocks ≡ out ++ rest
  pub answers : receipts_in says ≤ length (mores_of e) + length (mores_in hs)
  pub covered : lasts (receipts_in says) (mores_of e ++ mores_in hs) ≤ already e + length out

pub nothing_out : (e : Pending) (blocks : List Parcel) (hs : List Said) → Received e blocks [] hs []
nothing_out e blocks hs =
    record { rest = parcels_of e ++ blocks; front = refl; answers = omega arith; covered = omega arith }

-- behind a fragment that others follow
more_received : (blocks out : List Parcel) (hs says : List Said) (s n s' : ℕ) (p : Piece) → p.more ≡ true
    → Received nothing blocks out hs says
    → Received nothing blocks out (piece s p ∷ hs) (receipt s' n ∷ says)
more_received blocks out hs says s n s' p more h = record {
  rest = h.rest;
  front = h.front;
  answers = omega (arith, h.answers);
  covered = omega (arith, h.covered, ap last_one more);
}

-- behind the last one
whole_received : (c : Parcel) (block : Block) (blocks out : List Parcel) (hs says : List Said) (s : ℕ) (p : Piece)
    → p.more ≡ false → parcel_in block ≡ c → Received (whole block) blocks out hs says
    → Received nothing (c ∷ blocks) out (piece s p ∷ hs) says
whole_received c block blocks out hs says s p more same h = record {
  rest = h.rest;
  front = ap (λ x. x ∷ blocks) (sym same) ∙ h.front;
  answers = omega (arith, h.answers);
  covered = omega (arith, h.covered, ap (λ x. lasts (receipts_in says) (x ∷ mores_in hs)) more);
}

-- an acknowledgement that is heard changes nothing
receipt_heard : (e : Pending) (blocks out : List Parcel) (hs says : List Said) (s n : ℕ)
    → Received e blocks out hs says → Received e blocks out (receipt s n ∷ hs) says
receipt_heard e blocks out hs says s n h =
    record { rest = h.rest; front = h.front; answers = h.answers; covered = h.covered }

-- nor does a fragment that is said
piece_said : (e : Pending) (blocks out : List Parcel) (hs says : List Said) (s : ℕ) (p : Piece)
    → Received e blocks out hs says → Received e blocks out hs (piece s p ∷ says)
piece_said e blocks out hs says s p h =
    record { rest = h.rest; front = h.front; answers = h.answers; covered = h.covered }

handed_received : (block : Block) (blocks out : List Parcel) (hs says : List Said)
    → Received (handed block) blocks out hs says → Received (whole block) blocks (parcel_in block ∷ out) hs says
handed_received block blocks out hs says h = record {
  rest = h.rest;
  front = ap (λ x. parcel_in block ∷ x) h.front;
  answers = h.answers;
  covered = omega (arith, h.covered);
}

confirmed_received : (block : Block) (blocks out : List Parcel) (hs says : List Said) (s n : ℕ)
    → Received nothing blocks out hs says → Received (handed block) blocks out hs (receipt s n ∷ says)
confirmed_received block blocks out hs says s n h = record {
  rest = h.rest;
  front = h.front;
  answers = omega (arith, h.answers);
  covered = omega (arith, h.covered);
}

-- ---- traces

-- behind a fragment that others of its block follow
follows_more : (pdu number from : ℕ) (c : Parcel) (cs : List Parcel) (hs : List Said) (t : Bool)
    → t ≡ nat_lt (from + room pdu) (length c.body) → t ≡ true
    → Follows pdu (next_position pdu (record { number = number; from = from; blocks = c ∷ cs })) hs
    → Follows pdu (record { number = number; from = from + room pdu; blocks = c ∷ cs }) hs
follows_more pdu number from c cs hs t e f h =
    subst
    (λ v.
    Follows pdu
    (if v then record { number = number; from = from + room pdu; blocks = c ∷ cs } else start_of number cs) hs)
    (sym e ∙ f) h

-- and behind its last one
follows_last : (pdu number from : ℕ) (c : Parcel) (cs : List Parcel) (hs : List Said) (t : Bool)
    → t ≡ nat_lt (from + room pdu) (length c.body) → t ≡ false
    → Follows pdu (next_position pdu (record { number = number; from = from; blocks = c ∷ cs })) hs
    → Follows pdu (start_of number cs) hs
follows_last pdu number from c cs hs t e f h =
    subst
    (λ v.
    Follows pdu
    (if v then record { number = number; from = from + room pdu; blocks = c ∷ cs } else start_of number cs) hs)
    (sym e ∙ f) h

block_same : (pdu number from : ℕ) (c : Parcel) (m : List ℕ) (p p' : Piece) (b : Receiving)
    → Comes pdu number from c p p' b → p.more ≡ false → parcel_in (block_of m b p) ≡ c
block_same pdu number from c m p p' b k more =
    let long = ltb-false (from + room pdu) (length c.body) (sym k.more ∙ more) in
    let all = k.octets ∙ take_all (from + room pdu) c.body long in
    ap (λ (n : ℕ). record { rid = n; body = b.octets ++ p.octets }) k.begun.rid_is
    ∙ ap (λ (xs : List ℕ). record { rid = c.rid; body = xs }) all

-- WHAT IS HANDED OUT is a front of the blocks whose fragments are heard
pub received : (pdu pdu' : ℕ) {x : Sender} {r : Option Receiving} {e : Pending} (t : Trace pdu x r e) (number from : ℕ)
    (blocks : List Parcel) (hs : List Said) → 0 < room pdu' → Hears (heard pdu t) hs
    → Follows pdu' (record { number = number; from = from; blocks = blocks }) hs
    → Receives r (record { number = number; from = from; blocks = blocks })
    → Received e blocks (delivered pdu t) hs (said pdu t)
received pdu pdu' {e = e} ends number from blocks hs some h f k = nothing_out e blocks hs
received pdu pdu' (closes m) number from blocks hs some h f k = nothing_out nothing blocks hs
received pdu pdu' {e = e} (gave n rid body sequence t) number from blocks hs some h f k =
    piece_said e blocks (delivered pdu t) hs (said pdu t) sequence _
    (received pdu pdu' t number from blocks hs some h f k)
received pdu pdu' (went_on out m sequence is more t) number from blocks [] some h f k = absurd h
received pdu pdu' (went_on out m sequence is more t) number from blocks (piece s p ∷ hs) some h f k =
    absurd (none_confirms out.sequence out.number s p m is h.0)
received pdu pdu' (went_on out m sequence is more t) number from blocks (receipt s n ∷ hs) some h f k =
    receipt_heard nothing blocks (delivered pdu t) hs (piece sequence _ ∷ said pdu t) s n
    (piece_said nothing blocks (delivered pdu t) hs (said pdu t) sequence _
    (received pdu pdu' t number from blocks hs some h.1 f k))
received pdu pdu' (was_sent out m is more t) number from blocks [] some h f k = absurd h
received pdu pdu' (was_sent out m is more t) number from blocks (piece s p ∷ hs) some h f k =
    absurd (none_confirms out.sequence out.number s p m is h.0)
received pdu pdu' (was_sent out m is more t) number from blocks (receipt s n ∷ hs) some h f k =
    receipt_heard nothing blocks (delivered pdu t) hs (said pdu t) s n
    (received pdu pdu' t number from blocks hs some h.1 f k)
received pdu pdu' (kept_on r m p b is of more t) number from blocks [] some h f k = absurd h
received pdu pdu' (kept_on r m p b is of more t) number from blocks (receipt s n ∷ hs) some h f k =
    absurd (no_piece (is_none r) s n p m is h.0)
received pdu pdu' (kept_on r m p b is of more t) number from [] (piece s p' ∷ hs) some h f k = absurd f.0
received pdu pdu' (kept_on r m p b is of more t) number from (c ∷ cs) (piece s p' ∷ hs) some h f k =
    let come = comes pdu' number from c cs r s m p p' b k is of h.0 f.0 in
    more_received (c ∷ cs) (delivered pdu t) hs (said pdu t) s p.number (sequence_of m) p' (come.more_again ∙ more)
    (received pdu pdu' t number (from + room pdu') (c ∷ cs) hs some h.1
    (follows_more pdu' number from c cs hs p.more come.more more f.1)
    (omega (arith, some), record { number_is = come.begun.number_is; rid_is = come.begun.rid_is; came = come.octets }))
received pdu pdu' (came_whole r m p b is of more t) number from blocks [] some h f k = absurd h
received pdu pdu' (came_whole r m p b is of more t) number from blocks (receipt s n ∷ hs) some h f k =
    absurd (no_piece (is_none r) s n p m is h.0)
received pdu pdu' (came_whole r m p b is of more t) number from [] (piece s p' ∷ hs) some h f k = absurd f.0
received pdu pdu' (came_whole r m p b is of more t) number from (c ∷ cs) (piece s p' ∷ hs) some h f k =
    let come = comes pdu' number from c cs r s m p p' b k is of h.0 f.0 in
    whole_received c (block_of m b p) cs (delivered pdu t) hs (said pdu t) s p' (come.more_again ∙ more)
    (block_same pdu' number from c m p p' b come more)
    (received pdu pdu' t (next_number number) 0 cs hs some h.1
    (follows_last pdu' number from c cs hs p.more come.more more f.1) refl)
received pdu pdu' (hands_out block t) number from blocks hs some h f k =
    handed_received block blocks (delivered pdu t) hs (said pdu t)
    (received pdu pdu' t number from blocks hs some h f k)
received pdu pdu' (confirms_it block t) number from blocks hs some h f k =
    confirmed_received block blocks (delivered pdu t) hs (said pdu t) block.sequence block.number
    (received pdu pdu' t number from blocks hs some h f k)
