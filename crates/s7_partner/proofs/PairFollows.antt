-- The fragments that a partner says are those of the blocks that it is given, in order, and what is heard of such is
-- handed out as the blocks.
use Rattle.std.proofs.Common.{◌≡◌, ℕ, zero, suc, ◌+◌, ◌≤◌, Bool, true, false, List, [], ◌∷◌, ◌++◌, length, refl, ap}
use Rattle.std.proofs.Common.{sym, ◌∙◌, subst, arith, if◌then◌else◌, nat_lt}
use Rattle.std.specs.Prelude.{Option, None, Some, is_none}
use Rattle.s7_partner.specs.Telegrams.{Piece, piece_from, piece_message, confirm_message, room, piece_in, confirms}
use Rattle.s7_partner.specs.States.{Receiving, Parcel, next_number}
use Rattle.s7_partner.proofs.PairTelegrams.{Said, piece, receipt, octets_of, piece_no_receipt, receipt_no_piece}
use Rattle.s7_partner.proofs.PairTraces.{Out, Sender, idle, busy, Pending, piece_out, next_out, has_more, Trace, ends}
use Rattle.s7_partner.proofs.PairTraces.{closes, gave, went_on, was_sent, kept_on, came_whole, hands_out, confirms_it}
use Rattle.s7_partner.proofs.PairTraces.{said, given, heard, ended}

-- ---- places in blocks

-- where the next fragment begins, and the blocks from its block on
pub record Position : Type 0 where
  pub number : ℕ
  pub from : ℕ
  pub blocks : List Parcel

abbrev position_by : ℕ → ℕ → ℕ → List Parcel → Position
position_by pdu number from [] = record { number = number; from = from; blocks = [] }
position_by pdu number from (b ∷ bs) =
    if nat_lt (from + room pdu) (length b.body)
    then record { number = number; from = from + room pdu; blocks = b ∷ bs }
    else record { number = next_number number; from = 0; blocks = bs }

-- behind that fragment
abbrev pub next_position : ℕ → Position → Position
next_position pdu q = position_by pdu q.number q.from q.blocks

abbrev is_next_by : ℕ → ℕ → ℕ → List Parcel → Piece → Type 0
is_next_by pdu number from [] p = ⊥
is_next_by pdu number from (b ∷ bs) p = p ≡ piece_from pdu number b.rid b.body from

abbrev pub IsNext : ℕ → Position → Piece → Type 0
IsNext pdu q p = is_next_by pdu q.number q.from q.blocks p

-- the fragments among what is said are those from a place on
abbrev pub Follows : ℕ → Position → List Said → Type 0
Follows pdu q [] = Unit {0}
Follows pdu q (piece sequence p ∷ xs) = IsNext pdu q p × Follows pdu (next_position pdu q) xs
Follows pdu q (receipt sequence number ∷ xs) = Follows pdu q xs

abbrev pub start_of : ℕ → List Parcel → Position
start_of number blocks = record { number = next_number number; from = 0; blocks = blocks }

abbrev position_out : Out → List Parcel → Position
position_out out blocks = record {
  number = out.number;
  from = out.from;
  blocks = record { rid = out.rid; body = out.body } ∷ blocks;
}

-- behind what is out
abbrev position_of : ℕ → Sender → List Parcel → Position
position_of pdu (idle number) blocks = start_of number blocks
position_of pdu (busy out) blocks = next_position pdu (position_out out blocks)

-- that place by whether further fragments of the block follow
abbrev place_by : Bool → ℕ → Out → List Parcel → Position
place_by true pdu out blocks = record (position_out out blocks) { from = out.from + room pdu }
place_by false pdu out blocks = start_of out.number blocks

follows_by : (pdu : ℕ) (out : Out) (blocks : List Parcel) (says : List Said) (b : Bool) → has_more pdu out ≡ b
    → Follows pdu (place_by b pdu out blocks) says → Follows pdu (next_position pdu (position_out out blocks)) says
follows_by pdu out blocks says b e h =
    subst
    (λ t. Follows pdu (if t then place_by true pdu out blocks else place_by false pdu out blocks) says)
    (sym e) (by b h)
  where
    by : (b : Bool) → Follows pdu (place_by b pdu out blocks) says
        → Follows pdu (if b then place_by true pdu out blocks else place_by false pdu out blocks) says
    by true h = h
    by false h = h

-- what is said follows what is given
pub says_follow : (pdu : ℕ) {x : Sender} {r : Option Receiving} {e : Pending} (t : Trace pdu x r e)
    → Follows pdu (position_of pdu x (given pdu t)) (said pdu t)
says_follow pdu ends = tt
says_follow pdu (closes m) = tt
says_follow pdu (gave number rid body sequence t) = (refl, says_follow pdu t)
says_follow pdu (went_on out m sequence is more t) =
    follows_by pdu out (given pdu t) (piece sequence (piece_out pdu (next_out pdu out sequence)) ∷ said pdu t) true more
    (refl, says_follow pdu t)
says_follow pdu (was_sent out m is more t) =
    follows_by pdu out (given pdu t) (said pdu t) false more (says_follow pdu t)
says_follow pdu (kept_on r m p b is of more t) = says_follow pdu t
says_follow pdu (came_whole r m p b is of more t) = says_follow pdu t
says_follow pdu (hands_out block t) = says_follow pdu t
says_follow pdu (confirms_it block t) = says_follow pdu t

-- a front of what is said follows too
pub front_follows : (pdu : ℕ) (q : Position) (xs ys : List Said) → Follows pdu q (xs ++ ys) → Follows pdu q xs
front_follows pdu q [] ys h = tt
front_follows pdu q (piece sequence p ∷ xs) ys h = (h.0, front_follows pdu (next_position pdu q) xs ys h.1)
front_follows pdu q (receipt sequence number ∷ xs) ys h = front_follows pdu q xs ys h

-- ---- what is heard

-- the messages are these
abbrev pub Hears : List (List ℕ) → List Said → Type 0
Hears [] [] = Unit {0}
Hears [] (h ∷ hs) = ⊥
Hears (m ∷ ms) [] = ⊥
Hears (m ∷ ms) (h ∷ hs) = (m ≡ octets_of h) × Hears ms hs

-- of the fragments, whether others of their block follow
abbrev pub mores_in : List Said → List Bool
mores_in [] = []
mores_in (piece sequence p ∷ xs) = p.more ∷ mores_in xs
mores_in (receipt sequence number ∷ xs) = mores_in xs

abbrev pub receipts_in : List Said → ℕ
receipts_in [] = 0
receipts_in (piece sequence p ∷ xs) = receipts_in xs
receipts_in (receipt sequence number ∷ xs) = suc (receipts_in xs)

abbrev pub last_one : Bool → ℕ
last_one true = 0
last_one false = 1

-- how many of the first so many fragments are the last of their block
abbrev pub lasts : ℕ → List Bool → ℕ
lasts zero bs = 0
lasts (suc n) [] = 0
lasts (suc n) (b ∷ bs) = last_one b + lasts n bs

pub lasts_front : (n k : ℕ) (xs ys : List Bool) → n ≤ k → k ≤ length xs → lasts n (xs ++ ys) ≤ lasts k xs
lasts_front zero k xs ys h m = omega arith
lasts_front (suc n) zero xs ys h m = absurd (omega (arith, h))
lasts_front (suc n) (suc k) [] ys h m = absurd (omega (arith, m))
lasts_front (suc n) (suc k) (x ∷ xs) ys h m =
    omega (arith, lasts_front n k xs ys (omega (arith, h)) (omega (arith, m)))

pub mores-append : (xs ys : List Said) → mores_in (xs ++ ys) ≡ mores_in xs ++ mores_in ys
mores-append [] ys = refl
mores-append (piece sequence p ∷ xs) ys = ap (λ bs. p.more ∷ bs) (mores-append xs ys)
mores-append (receipt sequence number ∷ xs) ys = mores-append xs ys

pub receipts-append : (xs ys : List Said) → receipts_in (xs ++ ys) ≡ receipts_in xs + receipts_in ys
receipts-append [] ys = omega arith
receipts-append (piece sequence p ∷ xs) ys = receipts-append xs ys
receipts-append (receipt sequence number ∷ xs) ys = omega (arith, receipts-append xs ys)

-- ---- sends that end

abbrev mores_out : ℕ → Sender → List Bool
mores_out pdu (idle number) = []
mores_out pdu (busy out) = has_more pdu out ∷ []

pub none_confirms : (s n sequence : ℕ) (p : Piece) (m : List ℕ) → confirms s n m ≡ true → m ≡ piece_message sequence p
    → ⊥
none_confirms s n sequence p m is e =
    let x : true ≡ false = sym is ∙ (ap (confirms s n) e ∙ piece_no_receipt s n sequence p) in cc

pub no_piece : (first : Bool) (sequence number : ℕ) (p : Piece) (m : List ℕ) → piece_in first m ≡ Some p
    → m ≡ confirm_message sequence number → ⊥
no_piece first sequence number p m is e =
    let x : Some p ≡ None = sym is ∙ (ap (piece_in first) e ∙ receipt_no_piece first sequence number) in cc

-- at most those of which all fragments were acknowledged
pub ended_few : (pdu : ℕ) {x : Sender} {r : Option Receiving} {e : Pending} (t : Trace pdu x r e) (hs : List Said)
    → Hears (heard pdu t) hs → ended pdu t ≤ lasts (receipts_in hs) (mores_out pdu x ++ mores_in (said pdu t))
ended_few pdu ends hs h = omega arith
ended_few pdu (closes m) hs h = omega arith
ended_few pdu (gave number rid body sequence t) hs h = ended_few pdu t hs h
ended_few pdu (went_on out m sequence is more t) [] h = absurd h
ended_few pdu (went_on out m sequence is more t) (piece s p ∷ hs) h =
    absurd (none_confirms out.sequence out.number s p m is h.0)
ended_few pdu (went_on out m sequence is more t) (receipt s n ∷ hs) h = omega (arith, ended_few pdu t hs h.1)
ended_few pdu (was_sent out m is more t) [] h = absurd h
ended_few pdu (was_sent out m is more t) (piece s p ∷ hs) h =
    absurd (none_confirms out.sequence out.number s p m is h.0)
ended_few pdu (was_sent out m is more t) (receipt s n ∷ hs) h =
    omega (arith, ended_few pdu t hs h.1, ap last_one more)
ended_few pdu (kept_on r m p b is of more t) [] h = absurd h
ended_few pdu (kept_on r m p b is of more t) (piece s p' ∷ hs) h = ended_few pdu t hs h.1
ended_few pdu (kept_on r m p b is of more t) (receipt s n ∷ hs) h = absurd (no_piece (is_none r) s n p m is h.0)
ended_few pdu (came_whole r m p b is of more t) [] h = absurd h
ended_few pdu (came_whole r m p b is of more t) (piece s p' ∷ hs) h = ended_few pdu t hs h.1
ended_few pdu (came_whole r m p b is of more t) (receipt s n ∷ hs) h = absurd (no_piece (is_none r) s n p m is h.0)
ended_few pdu (hands_out block t) hs h = ended_few pdu t hs h
ended_few pdu (confirms_it block t) hs h = ended_few pdu t hs h
