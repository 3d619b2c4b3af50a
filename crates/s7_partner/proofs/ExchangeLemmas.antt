-- States that a partner reaches while fragments go.
use Rattle.std.proofs.Common.{◌≡◌, ℕ, ◌+◌, ◌-◌, ◌==◌, ◌<◌, ◌≤◌, Bool, true, false, ◌&&◌, nat_lt, if◌then◌else◌, List}
use Rattle.std.proofs.Common.{[], ◌++◌, length, refl, ap, sym, ◌∙◌, subst, arith, length-append}
use Rattle.std.specs.Prelude.{Option, None, Some, option_map, is_none, nat_le}
use Rattle.std.proofs.lemmas.Bool.Decides.{nat_tests}
use Rattle.s7_wire.specs.Outgoing.{Outgoing}
use Rattle.s7_outer.specs.Held.{Held as Room}
use Rattle.s7_wire.specs.Reads.{size_at}
use Rattle.s7_dialogue.specs.Codes.{invalid_answer}
use Rattle.s7_partner.specs.declared.partner.Partner.{Partner}
use Rattle.s7_partner.specs.declared.partner.Sending.{Sending as HeldSending}
use Rattle.s7_partner.specs.declared.partner.Receiving.{Receiving as HeldReceiving}
use Rattle.s7_partner.specs.declared.partner.Arrived.{Arrived}
use Rattle.s7_partner.specs.declared.step.Step.TheVariants as step
use Rattle.s7_partner.specs.Telegrams.{Piece, room, piece_in, sequence_of}
use Rattle.s7_partner.specs.States.{State, Sending, Receiving, with_code, with_piece, if_sending, is_acknowledged}
use Rattle.s7_partner.specs.States.{sent_on, acknowledged, goes_on_with, kept, if_goes_on, begun, is_of, by_piece}
use Rattle.s7_partner.specs.States.{exchanged}
use Rattle.s7_partner.specs.Held.{closed_of, code_in, stage_in, sending_in, receiving_in, block_in, HoldsHanded}
use Rattle.s7_partner.specs.Pieces.{block_for, with_piece_read}
use Rattle.s7_partner.specs.At.{IsAt, KeepsLink, Reaches, KeepsPiece, Does, stage_left, sending_left, receiving_left}
use Rattle.s7_partner.proofs.StateLemmas.{same_some}
use Rattle.s7_partner.proofs.ReachLemmas.{reaches_same, reaches_both}

-- ---- a fragment is acknowledged

-- the block goes on from another octet
from_at : (old mid : Partner) (held' : HeldSending) (sending' : Sending) (s : State) (written : List ℕ)
    → mid.sending ≡ Some held' → sending_in held' ≡ sending' → mid.stage ≡ old.stage → mid.sequence ≡ old.sequence
    → mid.number ≡ old.number → mid.receiving ≡ old.receiving → mid.octets ≡ old.octets → mid.whole ≡ old.whole
    → mid.handed ≡ old.handed → mid.outbox ≡ old.outbox → IsAt old s written
    → IsAt mid (record s { sending = Some sending' }) written
from_at old mid held' sending' s written is same stage sequence number receiving octets whole handed outbox at =
    let h = at.holds in
    record {
      holds = record {
        stage = ap stage_in stage ∙ h.stage;
        sequence = sequence ∙ h.sequence;
        number = number ∙ h.number;
        sending = ap (option_map sending_in) is ∙ ap Some same;
        receiving =
            ap (λ (o : Room). option_map (receiving_in o.octets) mid.receiving) octets
            ∙ (ap (option_map (receiving_in old.octets.octets)) receiving ∙ h.receiving);
        whole =
            ap (λ (o : Room). option_map (block_in o.octets) mid.whole) octets
            ∙ (ap (option_map (block_in old.octets.octets)) whole ∙ h.whole);
        handed = subst (λ (x : Option Arrived). HoldsHanded x s.handed) (sym handed) h.handed;
      };
      out = at.out ∙ ap (λ (o : Outgoing). written ++ o.unsent) (sym outbox);
    }

-- the fragment behind the one that was acknowledged
abbrev next_of : ℕ → HeldSending → Sending
next_of pdu held = record (sending_in held) { from = held.from + room pdu }

sent_on_more : (s : State) (pdu : ℕ) (held : HeldSending) → nat_lt (held.from + room pdu) (length held.body) ≡ true
    → with_piece s pdu (next_of pdu held) ≡ sent_on s pdu (sending_in held)
sent_on_more s pdu held more =
    ap (λ (b : Bool). if b then with_piece s pdu (next_of pdu held) else record s { sending = None }) (sym more)

pub sends_on : (old mid new : Partner) (held held' : HeldSending) (pdu : ℕ) → old.sending ≡ Some held
    → mid.sending ≡ Some held' → sending_in held' ≡ next_of pdu held
    → nat_lt (held.from + room pdu) (length held.body) ≡ true → KeepsLink old mid → mid.stage ≡ old.stage
    → mid.sequence ≡ old.sequence → mid.number ≡ old.number → mid.receiving ≡ old.receiving → mid.octets ≡ old.octets
    → mid.whole ≡ old.whole → mid.handed ≡ old.handed → mid.outbox ≡ old.outbox
    → Reaches mid new (λ s. if_sending s pdu s.sending) → Reaches old new (λ s. acknowledged s pdu s.sending)
sends_on old mid new held held' pdu is is' same more keeps stage sequence number receiving octets whole handed outbox
    r =
    reaches_same old new (λ s. with_piece s pdu (next_of pdu held)) (λ s. acknowledged s pdu s.sending)
    (λ s written size at.
    let sending : Some (sending_in held) ≡ s.sending = ap (option_map sending_in) (sym is) ∙ at.holds.sending in
    sent_on_more s pdu held more ∙ ap (acknowledged s pdu) sending)
    (reaches_both old mid new (λ s. record s { sending = Some (next_of pdu held) })
    (λ s. if_sending s pdu s.sending) keeps
    (λ s written size at.
    from_at old mid held' (next_of pdu held) s written is' same stage sequence number receiving octets whole handed
    outbox at)
    (λ s. refl) r)

-- ---- a message, by whether it acknowledges

pub exchanges_piece : (old new : Partner) (pdu : ℕ) (octets : List ℕ)
    → is_acknowledged (option_map sending_in old.sending) octets ≡ false
    → Reaches old new (λ s. with_piece_read s octets) → Reaches old new (λ s. exchanged s pdu octets)
exchanges_piece old new pdu octets is r =
    reaches_same old new (λ s. with_piece_read s octets) (λ s. exchanged s pdu octets)
    (λ s written size at.
    ap (λ (b : Bool). if b then acknowledged s pdu s.sending else with_piece_read s octets)
    (sym is ∙ ap (λ (o : Option Sending). is_acknowledged o octets) at.holds.sending)) r

-- ---- a fragment is taken

begun_for : (s : State) (sequence : ℕ) (p : Piece) (r : Receiving) (o : Option ℕ)
    → option_map (λ (total : ℕ). record { number = p.number; rid = p.rid; total = total; octets = [] }) o ≡ Some r
    → begun s sequence p o ≡ if_goes_on s sequence r p
begun_for s sequence p r None e = cc
begun_for s sequence p r (Some total) e =
    ap (λ (x : Receiving). if_goes_on s sequence x p)
    (same_some (record { number = p.number; rid = p.rid; total = total; octets = [] }) r e)

further_for : (s : State) (sequence : ℕ) (p : Piece) (r r0 : Receiving) (b : Bool)
    → (if b then Some r0 else None) ≡ Some r
    → (if b then if_goes_on s sequence r0 p else with_code s invalid_answer) ≡ if_goes_on s sequence r p
further_for s sequence p r r0 true e = ap (λ (x : Receiving). if_goes_on s sequence x p) (same_some r0 r e)
further_for s sequence p r r0 false e = cc

-- the fragment by the block that it is of
piece_for : (s : State) (sequence : ℕ) (p : Piece) (o : Option Receiving) (r : Receiving) → block_for o p ≡ Some r
    → by_piece s sequence o (Some p) ≡ if_goes_on s sequence r p
piece_for s sequence p None r e = begun_for s sequence p r p.total e
piece_for s sequence p (Some r0) r e = further_for s sequence p r r0 (is_of r0 p) e

goes_on_kept : (s : State) (sequence : ℕ) (r : Receiving) (p : Piece) → goes_on_with r.total r.octets p ≡ true
    → kept s sequence r p ≡ if_goes_on s sequence r p
goes_on_kept s sequence r p e =
    ap (λ (b : Bool). if b then kept s sequence r p else with_code s invalid_answer) (sym e)

-- the octets that came of a block, of which none came where its first fragment comes
abbrev pub came_of : Option HeldReceiving → List ℕ → List ℕ
came_of receiving octets = if is_none receiving then [] else octets

none_same : (o : Option HeldReceiving) (octets : List ℕ) (t : Option Receiving)
    → option_map (receiving_in octets) o ≡ t → is_none o ≡ is_none t
none_same None octets t e = ap is_none e
none_same (Some r) octets t e = ap is_none e

pub takes_piece : (old mid new : Partner) (octets : List ℕ) (p : Piece) (block : HeldReceiving) (sequence : ℕ)
    (more : Bool)
    → piece_in (is_none old.receiving) octets ≡ Some p
    → block_for (option_map (receiving_in old.octets.octets) old.receiving) p
    ≡ Some (receiving_in (came_of old.receiving old.octets.octets) block)
    → goes_on_with block.total (came_of old.receiving old.octets.octets) p ≡ true
    → mid.octets.octets ≡ came_of old.receiving old.octets.octets ++ p.octets
    → p.more ≡ more → KeepsLink old mid → mid.stage ≡ old.stage → mid.sequence ≡ old.sequence → mid.number ≡ old.number
    → mid.sending ≡ old.sending → old.whole ≡ None → mid.handed ≡ old.handed → mid.outbox ≡ old.outbox
    → sequence ≡ sequence_of octets → KeepsPiece mid new block sequence p.number more
    → Reaches old new (λ s. with_piece_read s octets)
takes_piece old mid new octets p block numbered more piece block_is goes came more_is keeps stage sequence number
    sending whole handed outbox sequence_is l =
    let k = subst (λ (n : ℕ). KeepsPiece mid new block n p.number more) sequence_is l in
    let r = receiving_in (came_of old.receiving old.octets.octets) block in
    record {
      keeps = record {
        role = k.keeps.role ∙ keeps.role;
        config = k.keeps.config ∙ keeps.config;
        reader = k.keeps.reader ∙ keeps.reader;
        inbox = k.keeps.inbox ∙ keeps.inbox;
      };
      reaches = λ s written size at.
          let h = at.holds in
          let is : kept s (sequence_of octets) r p ≡ with_piece_read s octets =
          goes_on_kept s (sequence_of octets) r p goes
          ∙ (sym (piece_for s (sequence_of octets) p
          (option_map (receiving_in old.octets.octets) old.receiving) r block_is)
          ∙ (ap (λ (o : Option Receiving). by_piece s (sequence_of octets) o (Some p)) h.receiving
          ∙ ap (by_piece s (sequence_of octets) s.receiving)
          (sym piece ∙ ap (λ (b : Bool). piece_in b octets)
          (none_same old.receiving old.octets.octets s.receiving h.receiving)))) in
          subst (λ (x : State). IsAt new x written) is
          (k.reaches s written (came_of old.receiving old.octets.octets) p (ap size_at keeps.reader ∙ size)
          (ap stage_in stage ∙ h.stage) (sequence ∙ h.sequence) (number ∙ h.number)
          (ap (option_map sending_in) sending ∙ h.sending)
          (sym h.whole ∙ ap (option_map (block_in old.octets.octets)) whole)
          (subst (λ (x : Option Arrived). HoldsHanded x s.handed) (sym handed) h.handed)
          (at.out ∙ ap (λ (o : Outgoing). written ++ o.unsent) (sym outbox))
          refl more_is came);
    }

-- ---- what is told of it

total_for : (o : Option HeldReceiving) (octets : List ℕ) (p : Piece) (block : HeldReceiving)
    → block_for (option_map (receiving_in octets) o) p ≡ Some (receiving_in (came_of o octets) block)
    → block.total < 65536 → length (came_of o octets) < block.total
    → block.total - length (came_of o octets) ≤ receiving_left o (length octets)
total_for None octets p block e most less = omega (arith, most)
total_for (Some r) octets p block e most less =
    let same : r.total ≡ block.total = total_by (is_of (receiving_in octets r) p) r block octets e in
    omega (arith, same)
  where
    total_by : (b : Bool) (r block : HeldReceiving) (octets : List ℕ)
        → (if b then Some (receiving_in octets r) else None) ≡ Some (receiving_in octets block) → r.total ≡ block.total
    total_by true r block octets e =
        ap (λ (x : Receiving). x.total) (same_some (receiving_in octets r) (receiving_in octets block) e)
    total_by false r block octets e = cc

some_more : (total came len : ℕ) (more : Bool)
    → (if more then nat_lt 0 len && nat_le (came + len) total else came + len == total) ≡ true → more ≡ true
    → (0 < len) × (came + len ≤ total)
some_more total came len more e is = (grind (arith, nat_tests), grind (arith, nat_tests))

-- more follow a fragment
does_more : (old new : Partner) (octets : List ℕ) (p : Piece) (block : HeldReceiving)
    → block_for (option_map (receiving_in old.octets.octets) old.receiving) p
    ≡ Some (receiving_in (came_of old.receiving old.octets.octets) block)
    → goes_on_with block.total (came_of old.receiving old.octets.octets) p ≡ true
    → new.octets.octets ≡ came_of old.receiving old.octets.octets ++ p.octets → p.more ≡ true → block.total < 65536
    → closed_of old ≡ None → new.stage ≡ old.stage → new.sending ≡ old.sending → new.receiving ≡ Some block
    → new.handed ≡ None → Does old new step.Went
does_more old new octets p block block_is goes came more most live stage sending receiving handed =
    let some = some_more block.total (length (came_of old.receiving old.octets.octets)) (length p.octets) p.more goes
    more in
    let len : length new.octets.octets ≡ length (came_of old.receiving old.octets.octets) + length p.octets =
    ap length came ∙ length-append (came_of old.receiving old.octets.octets) p.octets in
    record {
      some = λ e. cc;
      closed = ap code_in stage ∙ live;
      quiet = λ n e. ap is_none sending ∙ e;
      sent = λ e. cc;
      none_whole = λ e. cc;
      handed = handed;
      less = λ e none.
          omega (
            arith,
            ap stage_left stage,
            ap sending_left sending,
            len,
            some.0,
            some.1,
            ap (λ (o : Option HeldReceiving). receiving_left o (length new.octets.octets)) receiving,
            total_for old.receiving old.octets.octets p block block_is most (omega (arith, some.0, some.1)),
          );
    }

-- the last fragment
does_whole : (old new : Partner) → closed_of old ≡ None → new.stage ≡ old.stage → new.sending ≡ old.sending
    → is_none new.whole ≡ false → new.handed ≡ None → Does old new step.Went
does_whole old new live stage sending whole handed = record {
  some = λ e. cc;
  closed = ap code_in stage ∙ live;
  quiet = λ n e. ap is_none sending ∙ e;
  sent = λ e. cc;
  none_whole = λ e. cc;
  handed = handed;
  less = λ e none. absurd (let x : true ≡ false = sym (ap is_none none) ∙ whole in cc);
}

pub does_piece : (old new : Partner) (octets : List ℕ) (p : Piece) (block : HeldReceiving) (more : Bool)
    → block_for (option_map (receiving_in old.octets.octets) old.receiving) p
    ≡ Some (receiving_in (came_of old.receiving old.octets.octets) block)
    → goes_on_with block.total (came_of old.receiving old.octets.octets) p ≡ true
    → new.octets.octets ≡ came_of old.receiving old.octets.octets ++ p.octets → p.more ≡ more → block.total < 65536
    → closed_of old ≡ None → new.stage ≡ old.stage → new.sending ≡ old.sending
    → new.receiving ≡ (if more then Some block else None)
    → is_none new.whole ≡ more → new.handed ≡ None → Does old new step.Went
does_piece old new octets p block true block_is goes came more most live stage sending receiving whole handed =
    does_more old new octets p block block_is goes came more most live stage sending receiving handed
does_piece old new octets p block false block_is goes came more most live stage sending receiving whole handed =
    does_whole old new live stage sending whole handed
