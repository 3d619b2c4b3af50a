use Rattle.s7_bank.proofs.LegalLemmas.{parts_are_legal, banks_are_legal}
use Rattle.s7_bank.proofs.laws.closed_banks_are_legal.Goals as goal

pub returns : goal.returns
returns c = record { parts = parts_are_legal; banks = banks_are_legal }
