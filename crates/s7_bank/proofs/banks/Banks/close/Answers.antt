use Rattle.std.proofs.Common.{◌≡◌, ◌+◌, ◌<◌, Some, length, ℕ, [], refl, ap, sym, ◌∙◌, subst, arith, slice_get}
use Rattle.std.specs.Prelude.{is_some}
use Rattle.std.proofs.lemmas.List.{append-nil}
use Rattle.s7_turn.specs.Seats.{IsOf}
use Rattle.s7_bank.specs.Sharing.{ClosedAt}
use Rattle.s7_bank.proofs.ListLemmas.{same_some}
use Rattle.s7_bank.proofs.SharingLemmas.{closed_more, next_at, rest_more}
use Rattle.s7_bank.proofs.banks.Banks.close.Goals as goal

pub loop-bank-init : goal.loop-bank-init
loop-bank-init g c = record {
  halls_are = λ b. let same : b ≡ 0 + b = omega arith in ap (slice_get c.args.self.halls.items) same;
  seats_are = λ b. let same : b ≡ 0 + b = omega arith in ap (slice_get c.args.seat.seats.items) same;
  left = omega arith;
  seated = omega arith;
  room = c.requires.room;
  made = ([], sym (append-nil c.args.into.now.items), refl, λ b l. absurd (omega (arith, l)));
}

pub unwrap-own-requires : goal.unwrap-own-requires
unwrap-own-requires g c =
    let i = c.loop-bank.invariant in
    let n = next_at c.args.self.halls.items c.loop-bank.halls.items c.args.seat.seats.items c.loop-bank.seats.items c.loop-bank.bank c.remove-hall.result c.remove.result
    c.requires.seat.0 (omega (arith, c.loop-bank-test.true, c.len-bank-end.ensures)) i.halls_are i.seats_are c.remove-hall.ensures.value c.remove.ensures.value in
    ap is_some n.1

pub close-requires : goal.close-requires
close-requires g c =
    let i = c.loop-bank.invariant in
    let n = next_at c.args.self.halls.items c.loop-bank.halls.items c.args.seat.seats.items c.loop-bank.seats.items c.loop-bank.bank c.remove-hall.result c.remove.result
    c.requires.seat.0 (omega (arith, c.loop-bank-test.true, c.len-bank-end.ensures)) i.halls_are i.seats_are c.remove-hall.ensures.value c.remove.ensures.value in
    record { hall = subst (IsOf c.remove-hall.result) (same_some n.0 c.unwrap-own.result (sym n.1 ∙ c.unwrap-own.ensures)) n.4 }

pub loop-bank-preserved : goal.loop-bank-preserved
loop-bank-preserved g c =
    let i = c.loop-bank.invariant in
    let halls = c.args.self.halls.items in
    let seats = c.args.seat.seats.items in
    let rest = c.loop-bank.halls.items in
    let left = c.loop-bank.seats.items in
    let bank = c.loop-bank.bank in
    let hall = c.remove-hall.result in
    let seat = c.unwrap-own.result in
    let e = c.close.ensures in
    let n = next_at halls rest seats left bank hall c.remove.result
    c.requires.seat.0 (omega (arith, c.loop-bank-test.true, c.len-bank-end.ensures)) i.halls_are i.seats_are c.remove-hall.ensures.value c.remove.ensures.value in
    let own : n.0 ≡ seat = same_some n.0 seat (sym n.1 ∙ c.unwrap-own.ensures) in
    record {
      halls_are = rest_more halls rest c.remove-hall.new.self.items bank i.halls_are c.remove-hall.ensures.items;
      seats_are = rest_more seats left c.remove.new.self.items bank i.seats_are c.remove.ensures.items;
      left = omega (arith, i.left, c.remove-hall.ensures.len);
      seated = omega (arith, i.seated, c.remove.ensures.len);
      room = omega (arith, i.room, c.remove-hall.ensures.len, c.push_reserved.ensures.len, c.push_reserved.ensures.capacity);
      made = closed_more halls seats c.args.into.now.items c.loop-bank.into.items c.push_reserved.new.self.items bank hall seat c.close.result i.made
          n.2 (n.3 ∙ ap (λ s. Some (Some s)) own)
          (record { same_opening = e.fixed.0; same_limit = e.fixed.1; replayed = e.state; holds = e.holds; agrees = e.agrees; numbered = e.numbered; whole = e.whole })
          c.push_reserved.ensures.items;
    }

pub returns : goal.returns
returns g c =
    let i = c.loop-bank.invariant in
    let halls = c.args.self.halls.items in
    let seats = c.args.seat.seats.items in
    let made = i.made in
    let all : c.loop-bank.bank ≡ length halls = omega (arith, c.loop-bank-test.false, c.loop-bank.auto.bank-end, c.len-bank-end.ensures) in
    record { closed = (made.0, made.1, made.2 ∙ all, subst (λ k. (b : ℕ) → b < k → ClosedAt halls seats made.0 b) all made.3) }
