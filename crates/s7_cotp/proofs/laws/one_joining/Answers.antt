use Rattle.s7_cotp.proofs.JoinLemmas.{one_joining_reads, one_joining_only}
use Rattle.s7_cotp.proofs.laws.one_joining.Goals as goal

pub returns-clause-reads : goal.returns-clause-reads
returns-clause-reads c = λ limit fs. one_joining_reads limit fs

pub returns-clause-only : goal.returns-clause-only
returns-clause-only c = λ limit fs ms rest h. one_joining_only limit fs ms rest h
