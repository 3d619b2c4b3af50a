use Rattle.std.proofs.Common.{◌≡◌, length, Some, None, slice_get, slice_set, ap, sym, ◌∙◌, subst, arith}
use Rattle.std.specs.Prelude.{is_some}
use Rattle.std.proofs.lemmas.Option.{get_or_from_slice_get}
use Rattle.s7_turn.specs.Seats.{IsOf}
use Rattle.s7_bank.specs.Seats.{IsCall}
use Rattle.s7_bank.proofs.ListLemmas.{same_some, set_twice, length_of_set}
use Rattle.s7_bank.proofs.SeatLemmas.{seat_at, seat_of_call, said_of_call}
use Rattle.s7_bank.proofs.banks.Banks.act.Goals as goal

pub take-requires : goal.take-requires
take-requires g c = (omega arith, omega (arith, c.requires.seat.0.0, c.requires.bank, c.from-place.ensures))

pub unwrap-own-requires : goal.unwrap-own-requires
unwrap-own-requires g c =
    let p = seat_at c.args.self.now.halls.items c.args.seat.now.seats.items c.args.bank c.requires.seat.0 c.requires.bank in
    ap is_some (sym (same_some (Some p.seat) c.take.result (sym p.seat_is ∙ ap (slice_get c.args.seat.now.seats.items) (sym c.from-place.ensures) ∙ c.take.ensures.out)))

pub act-done-requires-clause-hall : goal.act-done-requires-clause-hall
act-done-requires-clause-hall g c =
    let halls = c.args.self.now.halls.items in
    let p = seat_at halls c.args.seat.now.seats.items c.args.bank c.requires.seat.0 c.requires.bank in
    let is : Some p.seat ≡ c.take.result = same_some (Some p.seat) c.take.result (sym p.seat_is ∙ ap (slice_get c.args.seat.now.seats.items) (sym c.from-place.ensures) ∙ c.take.ensures.out) in
    let own : p.seat ≡ c.unwrap-own.result = same_some p.seat c.unwrap-own.result (is ∙ c.unwrap-own.ensures) in
    let hall : c.index.result.now ≡ p.hall = c.index.ensures ∙ get_or_from_slice_get halls c.from-place.result p.hall c.index.result.now (ap (slice_get halls) c.from-place.ensures ∙ p.hall_is) in
    subst (λ h. IsOf h c.unwrap-own.result) (sym hall) (subst (IsOf p.hall) own p.of)

pub put-requires : goal.put-requires
put-requires g c =
    (omega arith, omega (arith, c.requires.seat.0.0, c.requires.bank, c.from-place.ensures, ap length c.take.ensures.left, length_of_set c.args.seat.now.seats.items c.from-place.result None))

pub returns : goal.returns
returns g c =
    let halls = c.args.self.now.halls.items in
    let seats = c.args.seat.now.seats.items in
    let news = c.put.new.self.seats.items in
    let p = seat_at halls seats c.args.bank c.requires.seat.0 c.requires.bank in
    let is : Some p.seat ≡ c.take.result = same_some (Some p.seat) c.take.result (sym p.seat_is ∙ ap (slice_get seats) (sym c.from-place.ensures) ∙ c.take.ensures.out) in
    let own : p.seat ≡ c.unwrap-own.result = same_some p.seat c.unwrap-own.result (is ∙ c.unwrap-own.ensures) in
    let hall : c.index.result.now ≡ p.hall = c.index.ensures ∙ get_or_from_slice_get halls c.from-place.result p.hall c.index.result.now (ap (slice_get halls) c.from-place.ensures ∙ p.hall_is) in
    let new = c.act-done.new.seat in
    let same = c.act-done.ensures.seat in
    let call : IsCall halls seats news c.args.bank = record {
      hall = c.index.result.now;
      old = c.unwrap-own.result;
      new = new;
      hall_is = p.hall_is ∙ ap Some (sym hall);
      old_is = p.seat_is ∙ ap (λ s. Some (Some s)) own;
      news_are = c.put.ensures ∙ ap (λ l. slice_set l c.from-place.result (Some new)) c.take.ensures.left
          ∙ set_twice seats c.from-place.result None (Some new) ∙ ap (λ k. slice_set seats k (Some new)) c.from-place.ensures;
      of = same.0;
      same_caller = same.1;
      same_callers = same.2;
      same_next = same.3;
    } in
    let after = seat_of_call halls seats news c.args.bank c.args.self.now.some c.requires.seat call in
    record {
      seat = after.0;
      same = after.1;
      reply = c.act-done.ensures.reply;
      call = (call, said_of_call call c.args.request c.args.reply.now c.act-done.new.reply c.act-done.result c.act-done.ensures.entered c.act-done.ensures.full);
    }
