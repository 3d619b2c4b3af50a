use Rattle.s7_cotp.proofs.SpellLemmas.{spelled_read, read_spelled}
use Rattle.s7_cotp.proofs.laws.one_spelling.Goals as goal

pub returns-clause-reads : goal.returns-clause-reads
returns-clause-reads c = λ octets t e. read_spelled octets t e

pub returns-clause-only : goal.returns-clause-only
returns-clause-only c = λ octets t h. spelled_read octets t h
