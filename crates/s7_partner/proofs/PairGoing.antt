-- The acts of a partner on a link that was negotiated have a trace.
use Rattle.std.proofs.Common.{◌≡◌, ℕ, Bool, true, false, List, [], ◌∷◌, length, refl, ap}
use Rattle.std.proofs.Common.{arith, if◌then◌else◌, nat_lt}
use Rattle.std.specs.Prelude.{Option, None, Some, is_none, option_map}
use Rattle.s7_wire.specs.Reading.{Event, opened, message}
use Rattle.s7_dialogue.specs.declared.config.Config.{Config}
use Rattle.s7_dialogue.specs.Course.{next_sequence}
use Rattle.s7_dialogue.specs.Codes.{short_message, invalid_answer}
use Rattle.s7_partner.specs.declared.role.Role.{Role}
use Rattle.s7_partner.specs.Telegrams.{Piece, piece_in, confirms, sequence_of}
use Rattle.s7_partner.specs.States.{Receiving, State, Act, gives, reads, hands, acknowledges, next_number}
use Rattle.s7_partner.specs.States.{with_code, acknowledged, goes_on_with, kept, if_goes_on, begun, is_of, by_piece}
use Rattle.s7_partner.specs.States.{exchanged, with_act, read_in}
use Rattle.s7_partner.specs.States.{is_sending}
use Rattle.s7_partner.specs.Acts.{MayTake, AreTaken}
use Rattle.s7_partner.specs.Pieces.{block_for}
use Rattle.s7_partner.proofs.PairFronts.{none}
use Rattle.s7_partner.proofs.PairOpening.{OnlyMessages, one_more}
use Rattle.s7_partner.proofs.PairTelegrams.{Said, piece, receipt}
use Rattle.s7_partner.proofs.PairTraces.{Out, Sender, idle, busy, Pending, nothing, whole, handed, at, piece_out}
use Rattle.s7_partner.proofs.PairTraces.{first_out, next_out, has_more, with_octets, block_of, parcel_in, Trace, ends}
use Rattle.s7_partner.proofs.PairTraces.{closes, gave, went_on, was_sent, kept_on, came_whole, hands_out, confirms_it}
use Rattle.s7_partner.proofs.PairTraces.{said, given, heard, delivered, ended}
use Rattle.s7_partner.proofs.PairFacts.{Facts, Fact, no_acts, join, closed_facts, same_still, none_of, not_some}
use Rattle.s7_partner.proofs.PairFacts.{said_on, says_one, says_none, read_fact}

pub record Traced (role : Role) (config : Config) (st : State) (acts : List Act) (pdu : ℕ) (x : Sender)
    (r : Option Receiving) (e : Pending) : Type 0 where
  pub trace : Trace pdu x r e
  pub facts : Facts role config st acts (said pdu trace) (given pdu trace) (heard pdu trace) (delivered pdu trace)
      (ended pdu trace)

-- the fragment that comes next, and how it is said
abbrev out_next : ℕ → State → Out → Out
out_next pdu s out = next_out pdu out (next_sequence s.sequence)

abbrev said_next : ℕ → State → Out → Said
said_next pdu s out = piece (next_sequence s.sequence) (piece_out pdu out)

-- the state where it is out
abbrev went : ℕ → State → Out → Option Receiving → State
went pdu s out r =
    at (said_on (record s { sequence = next_sequence s.sequence }) (said_next pdu s (out_next pdu s out))) pdu
    (busy (out_next pdu s out)) r nothing

-- the state where a fragment was acknowledged that others follow
abbrev kept_at : ℕ → State → Sender → List ℕ → Piece → Receiving → State
kept_at pdu s x m p b =
    at (said_on s (receipt (sequence_of m) p.number)) pdu x (Some (with_octets b p)) nothing

module _ (role : Role) (config : Config) (pdu : ℕ) (acts : List Act) where
  -- what holds of the acts from each state on that they may be taken from
  abbrev Later : Type 0
  Later = (s : State) (x : Sender) (r : Option Receiving) (e : Pending)
      → AreTaken role config (at s pdu x r e) acts → Traced role config (at s pdu x r e) acts pdu x r e

  -- ---- a block is given

  gives_traced : (s : State) (n : ℕ) (r : Option Receiving) (e : Pending) (rid : ℕ) (body : List ℕ) → Later
      → AreTaken role config (with_act role config (at s pdu (idle n) r e) (gives rid body)) acts
      → Traced role config (at s pdu (idle n) r e) (gives rid body ∷ acts) pdu (idle n) r e
  unfolding with_act
  gives_traced s n r e rid body ih t =
      let st = at s pdu (idle n) r e in
      let nx = with_act role config st (gives rid body) in
      let out = first_out (next_number n) rid body (next_sequence s.sequence) in
      let later = ih nx (busy out) r e t in
      let fact : Fact role config st nx (gives rid body) (said_next pdu s out ∷ [])
      (record { rid = rid; body = body } ∷ []) [] [] 0 = record {
        makes = refl;
        out = says_one s (said_next pdu s out);
        size = refl;
        gives_them = refl;
        hears = none;
        hands_them = refl;
        ends_them = refl;
      } in
      record {
        trace = gave n rid body (next_sequence s.sequence) later.trace;
        facts = join role config st nx (gives rid body) acts fact later.facts (omega arith);
      }

  -- ---- a message is read

  -- the state that a message leads to
  abbrev ReadTo : State → ℕ → Sender → Option Receiving → List ℕ → State → Type 0
  ReadTo s place x r m nx =
      with_act role config (at s pdu x r nothing) (reads (message m place)) ≡ nx → AreTaken role config nx acts
      → Traced role config (at s pdu x r nothing) (reads (message m place) ∷ acts) pdu x r nothing

  shut_traced : (s : State) (place : ℕ) (x : Sender) (r : Option Receiving) (m : List ℕ) (code : ℕ)
      → ReadTo s place x r m (with_code (at s pdu x r nothing) code)
  shut_traced s place x r m code is t =
      let st = at s pdu x r nothing in
      let nx = with_code st code in
      record {
        trace = closes m;
        facts = join role config st nx (reads (message m place)) acts
            (read_fact role config st nx m place [] 0 is (says_none s) refl (same_still (is_sending st)))
            (closed_facts role config nx acts code refl t) (omega arith);
      }

  -- an acknowledgement
  more_traced : (s : State) (place : ℕ) (out : Out) (r : Option Receiving) (m : List ℕ) → Later
      → confirms out.sequence out.number m ≡ true → has_more pdu out ≡ true
      → ReadTo s place (busy out) r m (went pdu s out r)
  more_traced s place out r m ih confirmed more is t =
      let st = at s pdu (busy out) r nothing in
      let says = said_next pdu s (out_next pdu s out) in
      let nx = went pdu s out r in
      let later = ih nx (busy (out_next pdu s out)) r nothing t in
      record {
        trace = went_on out m (next_sequence s.sequence) confirmed more later.trace;
        facts = join role config st nx (reads (message m place)) acts
            (read_fact role config st nx m place (says ∷ []) 0 is (says_one s says) refl refl) later.facts
            (omega arith);
      }

  sent_traced : (s : State) (place : ℕ) (out : Out) (r : Option Receiving) (m : List ℕ) → Later
      → confirms out.sequence out.number m ≡ true → has_more pdu out ≡ false
      → ReadTo s place (busy out) r m (at s pdu (idle out.number) r nothing)
  sent_traced s place out r m ih confirmed more is t =
      let st = at s pdu (busy out) r nothing in
      let nx = at s pdu (idle out.number) r nothing in
      let later = ih s (idle out.number) r nothing t in
      record {
        trace = was_sent out m confirmed more later.trace;
        facts = join role config st nx (reads (message m place)) acts
            (read_fact role config st nx m place [] 1 is (says_none s) refl refl) later.facts (omega arith);
      }

  sent_on_traced : (s : State) (place : ℕ) (out : Out) (r : Option Receiving) (m : List ℕ) (b : Bool) → Later
      → confirms out.sequence out.number m ≡ true → has_more pdu out ≡ b
      → ReadTo s place (busy out) r m (if b then went pdu s out r else at s pdu (idle out.number) r nothing)
  sent_on_traced s place out r m true ih confirmed more = more_traced s place out r m ih confirmed more
  sent_on_traced s place out r m false ih confirmed more = sent_traced s place out r m ih confirmed more

  -- a fragment
  on_traced : (s : State) (place : ℕ) (x : Sender) (r : Option Receiving) (m : List ℕ) (p : Piece) (b : Receiving)
      → Later → piece_in (is_none r) m ≡ Some p → block_for r p ≡ Some b → p.more ≡ true
      → ReadTo s place x r m (kept_at pdu s x m p b)
  on_traced s place x r m p b ih is_piece of more is t =
      let st = at s pdu x r nothing in
      let says = receipt (sequence_of m) p.number in
      let nx = kept_at pdu s x m p b in
      let later = ih (said_on s says) x (Some (with_octets b p)) nothing t in
      record {
        trace = kept_on r m p b is_piece of more later.trace;
        facts = join role config st nx (reads (message m place)) acts
            (read_fact role config st nx m place (says ∷ []) 0 is (says_one s says) refl (same_still (is_sending st)))
            later.facts (omega arith);
      }

  whole_traced : (s : State) (place : ℕ) (x : Sender) (r : Option Receiving) (m : List ℕ) (p : Piece) (b : Receiving)
      → Later → piece_in (is_none r) m ≡ Some p → block_for r p ≡ Some b → p.more ≡ false
      → ReadTo s place x r m (at s pdu x None (whole (block_of m b p)))
  whole_traced s place x r m p b ih is_piece of more is t =
      let st = at s pdu x r nothing in
      let nx = at s pdu x None (whole (block_of m b p)) in
      let later = ih s x None (whole (block_of m b p)) t in
      record {
        trace = came_whole r m p b is_piece of more later.trace;
        facts = join role config st nx (reads (message m place)) acts
            (read_fact role config st nx m place [] 0 is (says_none s) refl (same_still (is_sending st)))
            later.facts (omega arith);
      }

  kept_traced : (s : State) (place : ℕ) (x : Sender) (r : Option Receiving) (m : List ℕ) (p : Piece) (b : Receiving)
      (t : Bool) → Later → piece_in (is_none r) m ≡ Some p → block_for r p ≡ Some b → p.more ≡ t
      → ReadTo s place x r m (if t then kept_at pdu s x m p b else at s pdu x None (whole (block_of m b p)))
  kept_traced s place x r m p b true ih is_piece of more = on_traced s place x r m p b ih is_piece of more
  kept_traced s place x r m p b false ih is_piece of more = whole_traced s place x r m p b ih is_piece of more

  goes_on_traced : (s : State) (place : ℕ) (x : Sender) (r : Option Receiving) (m : List ℕ) (p : Piece) (b : Receiving)
      (t : Bool) → Later → piece_in (is_none r) m ≡ Some p → block_for r p ≡ Some b
      → ReadTo s place x r m
      (if t then kept (at s pdu x r nothing) (sequence_of m) b p else with_code (at s pdu x r nothing) invalid_answer)
  goes_on_traced s place x r m p b true ih is_piece of = kept_traced s place x r m p b p.more ih is_piece of refl
  goes_on_traced s place x r m p b false ih is_piece of = shut_traced s place x r m invalid_answer

  begun_traced : (s : State) (place : ℕ) (x : Sender) (m : List ℕ) (p : Piece) (o : Option ℕ) → Later
      → piece_in true m ≡ Some p → p.total ≡ o
      → ReadTo s place x None m (begun (at s pdu x None nothing) (sequence_of m) p o)
  begun_traced s place x m p None ih is_piece total = shut_traced s place x None m invalid_answer
  begun_traced s place x m p (Some n) ih is_piece total =
      let b : Receiving = record { number = p.number; rid = p.rid; total = n; octets = [] } in
      goes_on_traced s place x None m p b (goes_on_with n [] p) ih is_piece
      (ap (option_map (λ (n : ℕ). record { number = p.number; rid = p.rid; total = n; octets = [] })) total)

  of_traced : (s : State) (place : ℕ) (x : Sender) (m : List ℕ) (p : Piece) (b : Receiving) (t : Bool) → Later
      → piece_in false m ≡ Some p → is_of b p ≡ t
      → ReadTo s place x (Some b) m
      (if t then if_goes_on (at s pdu x (Some b) nothing) (sequence_of m) b p
      else with_code (at s pdu x (Some b) nothing) invalid_answer)
  of_traced s place x m p b true ih is_piece of =
      goes_on_traced s place x (Some b) m p b (goes_on_with b.total b.octets p) ih is_piece
      (ap (λ (t : Bool). if t then Some b else None) of)
  of_traced s place x m p b false ih is_piece of = shut_traced s place x (Some b) m invalid_answer

  piece_traced : (s : State) (place : ℕ) (x : Sender) (r : Option Receiving) (m : List ℕ) (o : Option Piece) → Later
      → piece_in (is_none r) m ≡ o → ReadTo s place x r m (by_piece (at s pdu x r nothing) (sequence_of m) r o)
  piece_traced s place x None m None ih is_piece = shut_traced s place x None m invalid_answer
  piece_traced s place x (Some b) m None ih is_piece = shut_traced s place x (Some b) m invalid_answer
  piece_traced s place x None m (Some p) ih is_piece = begun_traced s place x m p p.total ih is_piece refl
  piece_traced s place x (Some b) m (Some p) ih is_piece = of_traced s place x m p b (is_of b p) ih is_piece refl

  busy_traced : (s : State) (place : ℕ) (out : Out) (r : Option Receiving) (m : List ℕ) (t : Bool) → Later
      → confirms out.sequence out.number m ≡ t
      → ReadTo s place (busy out) r m
      (if t then acknowledged (at s pdu (busy out) r nothing) pdu (at s pdu (busy out) r nothing).sending
      else by_piece (at s pdu (busy out) r nothing) (sequence_of m) r (piece_in (is_none r) m))
  busy_traced s place out r m true ih confirmed = sent_on_traced s place out r m (has_more pdu out) ih confirmed refl
  busy_traced s place out r m false ih confirmed = piece_traced s place (busy out) r m (piece_in (is_none r) m) ih refl

  exchange_traced : (s : State) (place : ℕ) (x : Sender) (r : Option Receiving) (m : List ℕ) → Later
      → ReadTo s place x r m (exchanged (at s pdu x r nothing) pdu m)
  exchange_traced s place (idle n) r m ih = piece_traced s place (idle n) r m (piece_in (is_none r) m) ih refl
  exchange_traced s place (busy out) r m ih = busy_traced s place out r m (confirms out.sequence out.number m) ih refl

  message_traced : (s : State) (place : ℕ) (x : Sender) (r : Option Receiving) (m : List ℕ) (t : Bool) → Later
      → ReadTo s place x r m
      (if t then with_code (at s pdu x r nothing) short_message else exchanged (at s pdu x r nothing) pdu m)
  message_traced s place x r m true ih = shut_traced s place x r m short_message
  message_traced s place x r m false ih = exchange_traced s place x r m ih

  reads_traced : (s : State) (x : Sender) (r : Option Receiving) (e : Pending) (m : List ℕ) (place : ℕ) → Later
      → MayTake (at s pdu x r e) (reads (message m place))
      → AreTaken role config (with_act role config (at s pdu x r e) (reads (message m place))) acts
      → Traced role config (at s pdu x r e) (reads (message m place) ∷ acts) pdu x r e
  unfolding with_act
  reads_traced s x r nothing m place ih may t = message_traced s place x r m (nat_lt (length m) 10) ih refl t
  reads_traced s x r (whole block) m place ih may t = absurd (none_of block may.1.none_whole)
  reads_traced s x r (handed block) m place ih may t = absurd (none_of block may.1.handed)

  -- ---- a block is handed out and acknowledged

  hands_traced : (s : State) (x : Sender) (r : Option Receiving) (e : Pending) → Later
      → MayTake (at s pdu x r e) hands → AreTaken role config (with_act role config (at s pdu x r e) hands) acts
      → Traced role config (at s pdu x r e) (hands ∷ acts) pdu x r e
  unfolding with_act
  hands_traced s x r nothing ih may t = absurd (not_some may.1)
  hands_traced s x r (handed block) ih may t = absurd (not_some may.1)
  hands_traced s x r (whole block) ih may t =
      let st = at s pdu x r (whole block) in
      let nx = at s pdu x r (handed block) in
      let later = ih s x r (handed block) t in
      let fact : Fact role config st nx hands [] [] [] (parcel_in block ∷ []) 0 = record {
        makes = refl;
        out = says_none s;
        size = refl;
        gives_them = refl;
        hears = none;
        hands_them = refl;
        ends_them = same_still (is_sending st);
      } in
      record {
        trace = hands_out block later.trace;
        facts = join role config st nx hands acts fact later.facts (omega arith);
      }

  confirms_traced : (s : State) (x : Sender) (r : Option Receiving) (e : Pending) → Later
      → MayTake (at s pdu x r e) acknowledges
      → AreTaken role config (with_act role config (at s pdu x r e) acknowledges) acts
      → Traced role config (at s pdu x r e) (acknowledges ∷ acts) pdu x r e
  unfolding with_act
  confirms_traced s x r nothing ih may t = absurd (not_some may.1)
  confirms_traced s x r (whole block) ih may t = absurd (not_some may.1)
  confirms_traced s x r (handed block) ih may t =
      let st = at s pdu x r (handed block) in
      let says = receipt block.sequence block.number in
      let nx = at (said_on s says) pdu x r nothing in
      let later = ih (said_on s says) x r nothing t in
      let fact : Fact role config st nx acknowledges (says ∷ []) [] [] [] 0 = record {
        makes = refl;
        out = says_one s says;
        size = refl;
        gives_them = refl;
        hears = none;
        hands_them = refl;
        ends_them = same_still (is_sending st);
      } in
      record {
        trace = confirms_it block later.trace;
        facts = join role config st nx acknowledges acts fact later.facts (omega arith);
      }

pub only_later : {m : List ℕ} {place : ℕ} {es : List Event} → OnlyMessages (message m place ∷ es) → OnlyMessages es
only_later (one_more m place h) = h

-- THE ACTS HAVE A TRACE
pub traced : (role : Role) (config : Config) (pdu : ℕ) (acts : List Act) → OnlyMessages (read_in acts) → (s : State)
    (x : Sender) (r : Option Receiving) (e : Pending) → AreTaken role config (at s pdu x r e) acts
    → Traced role config (at s pdu x r e) acts pdu x r e
traced role config pdu [] only s x r e t = record { trace = ends; facts = no_acts role config (at s pdu x r e) }
traced role config pdu (gives rid body ∷ acts) only s (busy out) r e t = absurd (none_of _ t.0.1.idle)
traced role config pdu (gives rid body ∷ acts) only s (idle n) r e t =
    gives_traced role config pdu acts s n r e rid body (traced role config pdu acts only) t.1
traced role config pdu (reads (opened c) ∷ acts) only s x r e t = elim only [ ]
traced role config pdu (reads (message m place) ∷ acts) only s x r e t =
    reads_traced role config pdu acts s x r e m place (traced role config pdu acts (only_later only)) t.0 t.1
traced role config pdu (hands ∷ acts) only s x r e t =
    hands_traced role config pdu acts s x r e (traced role config pdu acts only) t.0 t.1
traced role config pdu (acknowledges ∷ acts) only s x r e t =
    confirms_traced role config pdu acts s x r e (traced role config pdu acts only) t.0 t.1
