use Rattle.s7_symbol.proofs.AnswerLemmas.{one_octets, one_text}
use Rattle.s7_symbol.proofs.laws.values_are_one.Goals as goal

pub returns : goal.returns
returns c = record { text = one_text; octets = one_octets }
