use Rattle.std.proofs.Common.{◌≡◌, Some, ap, sym, ◌∙◌, subst, arith}
use Rattle.std.specs.Prelude.{is_some}
use Rattle.std.proofs.lemmas.Option.{get_or_from_slice_get, slice_get_within}
use Rattle.s7_turn.specs.Seats.{IsOf}
use Rattle.s7_bank.proofs.ListLemmas.{same_some}
use Rattle.s7_bank.proofs.banks.Banks.meet_at.Goals as goal

pub take-requires : goal.take-requires
take-requires g c = (omega arith, slice_get_within c.args.one.now.seats.items c.args.bank (Some c.requires.one.seat) c.requires.one.seat_is)

pub unwrap-first-requires : goal.unwrap-first-requires
unwrap-first-requires g c = ap is_some (sym (same_some (Some c.requires.one.seat) c.take.result (sym c.requires.one.seat_is ∙ c.take.ensures.out)))

pub take-requires-2 : goal.take-requires-2
take-requires-2 g c = (omega arith, slice_get_within c.args.two.now.seats.items c.args.bank (Some c.requires.two.seat) c.requires.two.seat_is)

pub unwrap-second-requires : goal.unwrap-second-requires
unwrap-second-requires g c = ap is_some (sym (same_some (Some c.requires.two.seat) c.take-2.result (sym c.requires.two.seat_is ∙ c.take-2.ensures.out)))

pub meet-requires-clause-one : goal.meet-requires-clause-one
meet-requires-clause-one g c =
    let one = c.requires.one in
    let own : one.seat ≡ c.unwrap-first.result = same_some one.seat c.unwrap-first.result (same_some (Some one.seat) c.take.result (sym one.seat_is ∙ c.take.ensures.out) ∙ c.unwrap-first.ensures) in
    let hall : c.index.result.now ≡ one.hall = c.index.ensures ∙ get_or_from_slice_get c.args.self.now.halls.items c.args.bank one.hall c.index.result.now one.hall_is in
    subst (λ h. IsOf h c.unwrap-first.result) (sym hall) (subst (IsOf one.hall) own one.of)

pub meet-requires-clause-two : goal.meet-requires-clause-two
meet-requires-clause-two g c =
    let two = c.requires.two in
    let own : two.seat ≡ c.unwrap-second.result = same_some two.seat c.unwrap-second.result (same_some (Some two.seat) c.take-2.result (sym two.seat_is ∙ c.take-2.ensures.out) ∙ c.unwrap-second.ensures) in
    let hall : c.index.result.now ≡ two.hall = c.index.ensures ∙ get_or_from_slice_get c.args.self.now.halls.items c.args.bank two.hall c.index.result.now two.hall_is in
    subst (λ h. IsOf h c.unwrap-second.result) (sym hall) (subst (IsOf two.hall) own two.of)

pub returns : goal.returns
returns g c =
    let halls = c.args.self.now.halls.items in
    let bank = c.args.bank in
    let one = c.requires.one in
    let two = c.requires.two in
    let first : one.seat ≡ c.unwrap-first.result = same_some one.seat c.unwrap-first.result (same_some (Some one.seat) c.take.result (sym one.seat_is ∙ c.take.ensures.out) ∙ c.unwrap-first.ensures) in
    let second : two.seat ≡ c.unwrap-second.result = same_some two.seat c.unwrap-second.result (same_some (Some two.seat) c.take-2.result (sym two.seat_is ∙ c.take-2.ensures.out) ∙ c.unwrap-second.ensures) in
    let hall : c.index.result.now ≡ one.hall = c.index.ensures ∙ get_or_from_slice_get halls bank one.hall c.index.result.now one.hall_is in
    let e = c.meet.ensures in
    record {
      left_one = c.take.ensures.left;
      left_two = c.take-2.ensures.left;
      met = record {
        hall = c.index.result.now;
        one = c.unwrap-first.result;
        two = c.unwrap-second.result;
        hall_is = one.hall_is ∙ ap Some (sym hall);
        one_is = one.seat_is ∙ ap (λ s. Some (Some s)) first;
        two_is = two.seat_is ∙ ap (λ s. Some (Some s)) second;
        met = record {
          of = e.hall;
          same_caller = e.callers.0;
          stands = e.callers.1;
          sees = e.seen.0;
          first_agrees = e.seen.1;
          second_agrees = e.seen.2;
          gives = e.next.0;
          one_gives = e.next.1;
        };
      };
    }
