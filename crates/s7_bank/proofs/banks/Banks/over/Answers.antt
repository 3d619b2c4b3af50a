use Rattle.std.proofs.Common.{◌≡◌, ◌<◌, ℕ, List, [], ◌∷◌, Some, length, refl, sym, ap, subst, ◌∙◌, arith}
use Rattle.std.specs.Prelude.{◌++◌}
use Rattle.std.specs.Vec.Iter.{into_iter_items}
use Rattle.s7_bank.specs.Opening.{OpenedAt}
use Rattle.s7_bank.proofs.ListLemmas.{length_more, walk_more, walk_left, walk_end}
use Rattle.s7_bank.proofs.OpeningLemmas.{next_here, opened_more, opened_all}
use Rattle.s7_bank.proofs.banks.Banks.over.Goals as goal

pub loop-machine-init : goal.loop-machine-init
loop-machine-init g c =
    let none = c.in_ok-halls.ensures.items in
    let gives = c.into_iter-machine-iterator.ensures.into_iter_gives in
    let len = gives.1 ∙ c.args.machines.ok.0 in
    record {
      may = tt {0};
      ends = tt {0};
      all = gives.0;
      left = gives.1 ∙ (c.args.machines.ok.0 ∙ ap length (sym gives.0));
      count = let empty = ap length none in omega (arith, empty, len);
      room = omega (arith, c.in_ok-halls.ensures.exact, c.len.ensures, c.args.machines.ok.0);
      opened = λ b l. absurd (omega (arith, l));
      many = ap length none;
      seated = ap length c.new-seat.ensures;
    }

pub hall_of-requires : goal.hall_of-requires
hall_of-requires g c =
    let at = c.loop-machine in
    let x = c.in-Some.machine in
    record {
      unused = c.requires.unused (length at.yielded) x
          (next_here at.yielded (into_iter_items c.next.new.self) c.args.machines.items x (ap (λ t. at.yielded ++ t) (sym c.in-Some.ensures.steps.0) ∙ at.invariant.all));
    }

pub push-requires : goal.push-requires
push-requires g c =
    let at = c.loop-machine in
    (omega arith, omega (arith, at.invariant.seated, at.invariant.many, at.invariant.count, c.in-Some.ensures.steps.1, c.requires.few))

pub loop-machine-preserved : goal.loop-machine-preserved
loop-machine-preserved g c =
    let at = c.loop-machine in
    let x = c.in-Some.machine in
    let steps = c.in-Some.ensures.steps in
    let halls = at.halls.items in
    let seats = at.seat.seats.items in
    let opened = c.in_ok-opened.opened in
    let ys : List _ = at.yielded ++ x ∷ [] in
    let more = opened_more at.yielded halls seats x opened.0 opened.1 at.invariant.opened at.invariant.many at.invariant.seated c.in_ok-opened.ensures.opened in
    let halls_many = ap length c.push_reserved.ensures.items ∙ length_more halls opened.0 (length at.yielded) at.invariant.many in
    let seats_many = ap length c.push.ensures.items ∙ length_more seats (Some opened.1) (length at.yielded) at.invariant.seated in
    let yielded_many = length_more at.yielded x (length at.yielded) refl in
    record {
      may = tt {0};
      ends = tt {0};
      all = walk_more at.yielded _ (into_iter_items c.next.new.self) _ x at.invariant.all steps.0;
      left = walk_left _ (into_iter_items c.next.new.self) x _ _ steps.0 steps.1 at.invariant.left;
      count = omega (arith, at.invariant.count, at.invariant.many, halls_many, steps.1);
      room = let room = at.invariant.room in omega (arith, room, c.push_reserved.ensures.capacity);
      opened = subst (λ hs. (b : ℕ) → b < length ys → OpenedAt ys hs c.push.new.self.items b) (sym c.push_reserved.ensures.items)
          (subst (λ ss. (b : ℕ) → b < length ys → OpenedAt ys (halls ++ opened.0 ∷ []) ss b) (sym c.push.ensures.items) more);
      many = halls_many ∙ sym yielded_many;
      seated = seats_many ∙ sym yielded_many;
    }

pub returns : goal.returns
returns g c =
    let at = c.loop-machine in
    let machines = c.args.machines.items in
    let halls = at.halls.items in
    let seats = at.seat.seats.items in
    let all : at.yielded ≡ machines = walk_end at.yielded _ _ at.invariant.all (sym at.invariant.left ∙ c.in-None.ensures.steps.0) in
    let banks = subst (λ ms. (b : ℕ) → b < length ms → OpenedAt ms halls seats b) all at.invariant.opened in
    let many = at.invariant.many ∙ ap length all in
    let shows = opened_all machines halls seats c.requires.some many (at.invariant.seated ∙ ap length all) banks in
    record { many = many; banks = banks; seat = shows.seat; first = shows.first }
