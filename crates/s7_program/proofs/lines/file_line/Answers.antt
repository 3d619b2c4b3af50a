use Rattle.std.proofs.Common.{rules}
use Rattle.s7_program.specs.Lines.{file_line}
use Rattle.s7_program.proofs.lines.file_line.Goals as goal

pub returns : goal.returns
unfolding file_line
returns c = search rules
