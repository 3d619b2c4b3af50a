use Rattle.std.proofs.Common.{ℕ, ◌+◌, length, refl, ap, arith}
use Rattle.std.proofs.lemmas.Bool.{lt-ltb}
use Rattle.s7_partner.specs.Held.{sending_in}
use Rattle.s7_partner.proofs.ExchangeLemmas.{sends_on}
use Rattle.s7_partner.proofs.partner.Partner.send_on.Goals as goal

pub returns-then-next-as_slice-clause-reaches : goal.returns-then-next-as_slice-clause-reaches
returns-then-next-as_slice-clause-reaches c =
    let held = c.in-Some.sending in
    sends_on c.args.self.now _ c.put_next.new.self held _ c.args.pdu c.in-Some.is refl
    (ap (λ (n : ℕ). record (sending_in held) { from = held.from + n }) c.piece_room.ensures)
    (lt-ltb _ _ (omega (arith, c.if-next-as_slice.true, c.piece_room.ensures, ap length c.as_slice.ensures)))
    (record { role = refl; config = refl; reader = refl; inbox = refl })
    refl refl refl refl refl refl refl refl c.put_next.ensures.reaches
