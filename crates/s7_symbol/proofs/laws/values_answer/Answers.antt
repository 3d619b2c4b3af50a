use Rattle.s7_symbol.proofs.AnswerLemmas.{octets_answer, text_answer, value_answer}
use Rattle.s7_symbol.proofs.laws.values_answer.Goals as goal

pub returns : goal.returns
returns c = record { octets = octets_answer; text = text_answer; both = value_answer }
