use Rattle.std.proofs.Common.{◌≡◌, ◌<◌, ◌+◌, ℕ, length, Some, refl, ap, sym, ◌∙◌, subst, arith}
use Rattle.s7_bank.specs.Sharing.{SplitAt}
use Rattle.s7_bank.proofs.ListLemmas.{length_more}
use Rattle.s7_bank.proofs.SharingLemmas.{split_more, kept_more, split_all}
use Rattle.s7_bank.proofs.banks.Banks.split.Goals as goal

pub loop-bank-init : goal.loop-bank-init
loop-bank-init g c = record {
  halls = c.requires.seat.0;
  done = λ b l. absurd (omega (arith, l));
  kept = λ b l. refl;
  many = ap length c.new-new.ensures;
}

pub split_at-own-requires : goal.split_at-own-requires
split_at-own-requires g c = (
  omega arith,
  (
    c.loop-bank.invariant.halls,
    (
      omega (arith, c.loop-bank-test.true, c.len-bank-end.ensures),
      λ own e. let is = c.requires.seat.1 c.loop-bank.bank own (sym (c.loop-bank.invariant.kept c.loop-bank.bank (omega arith)) ∙ e) in
          (c.requires.number.0, is.2 ∙ c.requires.number.1, c.requires.number.2),
    ),
  ),
)

pub push-requires : goal.push-requires
push-requires g c = (omega arith, omega (arith, c.loop-bank.invariant.many, c.loop-bank-test.true, c.len-bank-end.ensures, c.args.self.now.few))

pub loop-bank-preserved : goal.loop-bank-preserved
loop-bank-preserved g c =
    let halls = c.args.self.now.halls.items in
    let olds = c.args.seat.now.seats.items in
    let mids = c.loop-bank.seat.seats.items in
    let news = c.split_at-own.new.seat.seats.items in
    let owns = c.loop-bank.new.seats.items in
    let bank = c.loop-bank.bank in
    let own = c.split_at-own.result in
    let i = c.loop-bank.invariant in
    let off = c.split_at-own.ensures.split in
    record {
      halls = c.split_at-own.ensures.halls;
      done = subst (λ xs. (b : ℕ) → b < bank + 1 → SplitAt halls olds news xs b) (sym c.push.ensures.items)
          (split_more halls olds mids news owns bank own i.done i.many (i.kept bank (omega arith)) off);
      kept = kept_more olds mids news bank (Some off.new) i.kept off.news_are;
      many = ap length c.push.ensures.items ∙ length_more owns (Some own) bank i.many;
    }

pub returns : goal.returns
returns g c =
    let halls = c.args.self.now.halls.items in
    let olds = c.args.seat.now.seats.items in
    let news = c.loop-bank.seat.seats.items in
    let owns = c.loop-bank.new.seats.items in
    let i = c.loop-bank.invariant in
    let all : c.loop-bank.bank ≡ length halls = omega (arith, c.loop-bank-test.false, c.loop-bank.auto.bank-end, c.len-bank-end.ensures) in
    let done = subst (λ k. (b : ℕ) → b < k → SplitAt halls olds news owns b) all i.done in
    let shows = split_all halls olds news owns c.requires.number.0 c.args.self.now.some c.requires.seat c.requires.number.1 i.halls (i.many ∙ all) done in
    record { banks = done; seat = shows.seat; new = shows.new; given = shows.given; old = shows.old }
