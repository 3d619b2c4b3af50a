use Rattle.s7_wire.proofs.ReaderLemmas.{read_nothing}
use Rattle.s7_wire.proofs.reader.Reader.new.Goals as goal

pub returns-clause-read : goal.returns-clause-read
returns-clause-read c = read_nothing _ c.new.ensures.held c.new.ensures.limit c.in_ok-new.ensures.at
