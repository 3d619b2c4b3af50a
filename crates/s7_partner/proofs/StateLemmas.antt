-- What a partner holds after a put.
use Rattle.std.proofs.Common.{◌≡◌, ℕ, List, ◌++◌, ap, sym, ◌∙◌, subst, append_assoc}
use Rattle.std.specs.Prelude.{Option, Some, option_map}
use Rattle.s7_outer.specs.Held.{Held as Room}
use Rattle.s7_wire.specs.Reads.{size_at}
use Rattle.s7_wire.specs.Sent.{sent_message}
use Rattle.s7_dialogue.specs.Course.{next_sequence}
use Rattle.s7_partner.specs.declared.partner.Partner.{Partner}
use Rattle.s7_partner.specs.declared.partner.Sending.{Sending as HeldSending}
use Rattle.s7_partner.specs.declared.partner.Arrived.{Arrived}
use Rattle.s7_partner.specs.Telegrams.{piece_from, piece_message}
use Rattle.s7_partner.specs.States.{State, Sending, with_piece, if_sending}
use Rattle.s7_partner.specs.Held.{stage_in, sending_in, receiving_in, block_in, HoldsHanded}
use Rattle.s7_partner.specs.At.{IsAt, Reaches, KeepsLink}
use Rattle.s7_partner.specs.Outboxes.{Puts}

pub same_some : {A : Type 0} (x y : A) → Some x ≡ Some y → x ≡ y
same_some x y e = cc

-- the octets of the fragment that comes next
abbrev pub next_octets : ℕ → ℕ → ℕ → HeldSending → List ℕ
next_octets size pdu sequence held =
    sent_message size (piece_message sequence (piece_from pdu held.number held.rid held.body held.from))

-- a put behind what may be sent
pub put_behind : (out written old new more : List ℕ) → out ≡ written ++ old → new ≡ old ++ more
    → out ++ more ≡ written ++ new
put_behind out written old new more e f =
    ap (λ x. x ++ more) e ∙ (append_assoc written old more ∙ ap (λ x. written ++ x) (sym f))

-- the next fragment was put
at_next : (old new : Partner) (s : State) (written : List ℕ) (held held' : HeldSending) (pdu size sequence : ℕ)
    → old.sending ≡ Some held → new.sending ≡ Some held'
    → sending_in held' ≡ record (sending_in held) { sequence = Some sequence }
    → size ≡ s.size → sequence ≡ next_sequence s.sequence → new.sequence ≡ sequence
    → Puts old.outbox new.outbox (next_octets size pdu sequence held)
    → new.stage ≡ old.stage → new.number ≡ old.number → new.receiving ≡ old.receiving → new.octets ≡ old.octets
    → new.whole ≡ old.whole → new.handed ≡ old.handed
    → IsAt old s written → IsAt new (with_piece s pdu (sending_in held)) written
at_next old new s written held held' pdu size sequence is is' same same_size next now puts stage number receiving octets
    whole handed at =
    let h = at.holds in
    record {
      holds = record {
        stage = ap stage_in stage ∙ h.stage;
        sequence = now ∙ next;
        number = number ∙ h.number;
        sending =
            ap (option_map sending_in) is'
            ∙ ap Some (same ∙ ap (λ (n : ℕ). record (sending_in held) { sequence = Some n }) next);
        receiving =
            ap (λ (o : Room). option_map (receiving_in o.octets) new.receiving) octets
            ∙ (ap (option_map (receiving_in old.octets.octets)) receiving ∙ h.receiving);
        whole =
            ap (λ (o : Room). option_map (block_in o.octets) new.whole) octets
            ∙ (ap (option_map (block_in old.octets.octets)) whole ∙ h.whole);
        handed = subst (λ (x : Option Arrived). HoldsHanded x s.handed) (sym handed) h.handed;
      };
      out =
          ap (λ (n : ℕ). s.out ++ next_octets s.size pdu n held) (sym next)
          ∙ (ap (λ (n : ℕ). s.out ++ next_octets n pdu sequence held) (sym same_size)
          ∙ put_behind s.out written old.outbox.unsent new.outbox.unsent (next_octets size pdu sequence held) at.out
          puts.unsent);
    }

-- a block that is being sent goes on with its next fragment
pub next_reaches : (old new : Partner) (held held' : HeldSending) (pdu size sequence : ℕ)
    → old.sending ≡ Some held → new.sending ≡ Some held'
    → sending_in held' ≡ record (sending_in held) { sequence = Some sequence }
    → size_at old.reader ≡ Some size → sequence ≡ next_sequence old.sequence → new.sequence ≡ sequence
    → Puts old.outbox new.outbox (next_octets size pdu sequence held)
    → KeepsLink old new
    → new.stage ≡ old.stage → new.number ≡ old.number → new.receiving ≡ old.receiving → new.octets ≡ old.octets
    → new.whole ≡ old.whole → new.handed ≡ old.handed
    → Reaches old new (λ s. if_sending s pdu s.sending)
next_reaches old new held held' pdu size sequence is is' same sized next now puts keeps stage number receiving octets
    whole handed = record {
      keeps = keeps;
      reaches = λ s written size_is at.
          let sending : s.sending ≡ Some (sending_in held) = sym at.holds.sending ∙ ap (option_map sending_in) is in
          subst (λ (x : Option Sending). IsAt new (if_sending s pdu x) written) (sym sending)
          (at_next old new s written held held' pdu size sequence is is' same
          (same_some size s.size (sym sized ∙ size_is)) (next ∙ ap next_sequence at.holds.sequence) now puts
          stage number receiving octets whole handed at);
    }
