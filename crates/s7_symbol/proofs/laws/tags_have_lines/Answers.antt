use Rattle.s7_symbol.proofs.TagLineLemmas.{line_read}
use Rattle.s7_symbol.proofs.laws.tags_have_lines.Goals as goal

pub returns : goal.returns
returns c = line_read
