use Rattle.std.proofs.Common.{◌≡◌, ◌<◌, ◌+◌, ℕ, length, Some, None, refl, ap, sym, ◌∙◌, subst, arith}
use Rattle.s7_bank.specs.Sharing.{MetAt}
use Rattle.s7_bank.proofs.ListLemmas.{length_more}
use Rattle.s7_bank.proofs.SeatLemmas.{still_at}
use Rattle.s7_bank.proofs.SharingLemmas.{met_more, kept_more, met_all}
use Rattle.s7_bank.proofs.banks.Banks.meet.Goals as goal

pub loop-bank-init : goal.loop-bank-init
loop-bank-init g c = record {
  done = λ b l. absurd (omega (arith, l));
  first = λ b l. refl;
  second = λ b l. refl;
  many = ap length c.new-new.ensures;
}

pub meet_at-met-requires : goal.meet_at-met-requires
meet_at-met-requires g c =
    let halls = c.args.self.now.halls.items in
    let bank = c.loop-bank.bank in
    let i = c.loop-bank.invariant in
    let below : bank < length halls = omega (arith, c.loop-bank-test.true, c.len-bank-end.ensures) in (
      omega arith,
      (
        still_at halls c.args.one.seats.items c.loop-bank.first.seats.items bank c.requires.one.0 below (i.first bank (omega arith)),
        (still_at halls c.args.two.seats.items c.loop-bank.second.seats.items bank c.requires.two.0 below (i.second bank (omega arith)), below),
      ),
    )

pub push-requires : goal.push-requires
push-requires g c = (omega arith, omega (arith, c.loop-bank.invariant.many, c.loop-bank-test.true, c.len-bank-end.ensures, c.args.self.now.few))

pub loop-bank-preserved : goal.loop-bank-preserved
loop-bank-preserved g c =
    let halls = c.args.self.now.halls.items in
    let ones = c.args.one.seats.items in
    let twos = c.args.two.seats.items in
    let news = c.loop-bank.new.seats.items in
    let first = c.loop-bank.first.seats.items in
    let second = c.loop-bank.second.seats.items in
    let bank = c.loop-bank.bank in
    let i = c.loop-bank.invariant in
    let e = c.meet_at-met.ensures in
    let new = c.meet_at-met.result in
    record {
      done = subst (λ xs. (b : ℕ) → b < bank + 1 → MetAt halls ones twos xs b) (sym c.push.ensures.items)
          (met_more halls ones twos first second news bank new i.done i.many (i.first bank (omega arith)) (i.second bank (omega arith)) e.met);
      first = kept_more ones first c.meet_at-met.new.one.seats.items bank None i.first e.left_one;
      second = kept_more twos second c.meet_at-met.new.two.seats.items bank None i.second e.left_two;
      many = ap length c.push.ensures.items ∙ length_more news (Some new) bank i.many;
    }

pub returns : goal.returns
returns g c =
    let halls = c.args.self.now.halls.items in
    let ones = c.args.one.seats.items in
    let twos = c.args.two.seats.items in
    let news = c.loop-bank.new.seats.items in
    let i = c.loop-bank.invariant in
    let all : c.loop-bank.bank ≡ length halls = omega (arith, c.loop-bank-test.false, c.loop-bank.auto.bank-end, c.len-bank-end.ensures) in
    let done = subst (λ k. (b : ℕ) → b < k → MetAt halls ones twos news b) all i.done in
    let shows = met_all halls ones twos news c.args.self.now.some c.requires.one c.requires.two (i.many ∙ all) done in
    record { banks = done; seat = shows.seat; callers = shows.callers_are; next = shows.next_is }
