use Rattle.std.proofs.Common.{refl, ◌∙◌, arith}
use Rattle.s7_bank.specs.Seats.{caller_at}
use Rattle.s7_bank.proofs.ListLemmas.{length_of_set, numbers_more}
use Rattle.s7_bank.proofs.seat.BankSeat.callers.Goals as goal

pub loop-bank-init : goal.loop-bank-init
loop-bank-init g c = record { len = refl; so = λ b l. absurd (omega (arith, l)) }

pub loop-bank-preserved : goal.loop-bank-preserved
loop-bank-preserved g c =
    let callers = c.loop-bank.callers in
    let bank = c.loop-bank.bank in
    let i = c.loop-bank.invariant in
    record {
      len = length_of_set callers bank c.caller_at.result ∙ i.len;
      so = numbers_more (caller_at c.args.self.now.seats.items) callers bank c.caller_at.result (omega (arith, i.len, c.loop-bank-test.true)) i.so c.caller_at.ensures;
    }
