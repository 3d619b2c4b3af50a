use Rattle.std.proofs.Common.{arith}
use Rattle.s7_script.proofs.ScriptLemmas.{some-size}
use Rattle.s7_script.proofs.scripts.written.element_size.Goals as goal

pub returns-clause-some : goal.returns-clause-some
returns-clause-some c = let s = some-size c.args.word in grind (arith, s, c.from.ensures, c.unwrap_or.ensures, c.size_of.ensures.size)
