use Rattle.std.proofs.Common.{◌≡◌, length, Some, None, slice_set, ap, sym, ◌∙◌, subst, arith}
use Rattle.std.specs.Prelude.{is_some}
use Rattle.std.proofs.lemmas.Option.{get_or_from_slice_get}
use Rattle.s7_turn.specs.Seats.{IsOf}
use Rattle.s7_bank.specs.Seats.{AreSeated}
use Rattle.s7_bank.proofs.ListLemmas.{same_some, set_twice, length_of_set}
use Rattle.s7_bank.proofs.SeatLemmas.{seat_at, seated_set}
use Rattle.s7_bank.proofs.banks.Banks.split_at.Goals as goal

pub take-requires : goal.take-requires
take-requires g c = (omega arith, omega (arith, c.requires.halls.0, c.requires.bank))

pub unwrap-own-requires : goal.unwrap-own-requires
unwrap-own-requires g c =
    let p = seat_at c.args.self.now.halls.items c.args.seat.now.seats.items c.args.bank c.requires.halls c.requires.bank in
    ap is_some (sym (same_some (Some p.seat) c.take.result (sym p.seat_is ∙ c.take.ensures.out)))

pub split-new-requires-clause-hall : goal.split-new-requires-clause-hall
split-new-requires-clause-hall g c =
    let halls = c.args.self.now.halls.items in
    let p = seat_at halls c.args.seat.now.seats.items c.args.bank c.requires.halls c.requires.bank in
    let is : Some p.seat ≡ c.take.result = same_some (Some p.seat) c.take.result (sym p.seat_is ∙ c.take.ensures.out) in
    let own : p.seat ≡ c.unwrap-own.result = same_some p.seat c.unwrap-own.result (is ∙ c.unwrap-own.ensures) in
    let hall : c.index.result.now ≡ p.hall = c.index.ensures ∙ get_or_from_slice_get halls c.args.bank p.hall c.index.result.now p.hall_is in
    subst (λ h. IsOf h c.unwrap-own.result) (sym hall) (subst (IsOf p.hall) own p.of)

pub split-new-requires-clause-number : goal.split-new-requires-clause-number
split-new-requires-clause-number g c =
    c.requires.number c.unwrap-own.result (c.take.ensures.out ∙ ap Some c.unwrap-own.ensures)

pub put-requires : goal.put-requires
put-requires g c =
    (omega arith, omega (arith, c.requires.halls.0, c.requires.bank, ap length c.take.ensures.left, length_of_set c.args.seat.now.seats.items c.args.bank None))

pub returns : goal.returns
returns g c =
    let halls = c.args.self.now.halls.items in
    let seats = c.args.seat.now.seats.items in
    let bank = c.args.bank in
    let p = seat_at halls seats bank c.requires.halls c.requires.bank in
    let is : Some p.seat ≡ c.take.result = same_some (Some p.seat) c.take.result (sym p.seat_is ∙ c.take.ensures.out) in
    let own : p.seat ≡ c.unwrap-own.result = same_some p.seat c.unwrap-own.result (is ∙ c.unwrap-own.ensures) in
    let hall : c.index.result.now ≡ p.hall = c.index.ensures ∙ get_or_from_slice_get halls bank p.hall c.index.result.now p.hall_is in
    let new = c.split-new.new.seat in
    let s = c.split-new.ensures in
    let news_are : c.put.new.self.seats.items ≡ slice_set seats bank (Some new) =
    c.put.ensures ∙ ap (λ l. slice_set l bank (Some new)) c.take.ensures.left ∙ set_twice seats bank None (Some new) in
    record {
      halls = subst (AreSeated halls) (sym news_are)
          (seated_set halls seats bank p.hall new c.requires.halls p.hall_is (subst (λ h. IsOf h new) hall s.old.0));
      split = record {
        hall = c.index.result.now;
        old = c.unwrap-own.result;
        new = new;
        hall_is = p.hall_is ∙ ap Some (sym hall);
        old_is = p.seat_is ∙ ap (λ s. Some (Some s)) own;
        news_are = news_are;
        split = record {
          of_new = s.old.0;
          of_own = s.hall;
          given = s.new.0;
          alone = s.new.1;
          sees = s.new.2;
          silent = s.new.3;
          gives_none = s.new.4;
          same_caller = s.old.1;
          same_callers = s.old.2;
          same_seen = s.old.3;
          gives = s.old.4;
          below = s.below;
        };
      };
    }
