use Rattle.s7_wire.proofs.ReaderLemmas.{read_nothing}
use Rattle.s7_wire.proofs.reader.Reader.restart.Goals as goal

pub returns-clause-read : goal.returns-clause-read
returns-clause-read c = read_nothing _ c.new-self.ensures.held c.new-self.ensures.limit c.restart.ensures.at
