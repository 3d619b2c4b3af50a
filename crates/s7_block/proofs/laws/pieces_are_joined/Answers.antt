use Rattle.s7_block.proofs.AssemblyLemmas.{joined_pieces}
use Rattle.s7_block.proofs.laws.pieces_are_joined.Goals as goal

pub returns : goal.returns
returns c = joined_pieces
