use Rattle.s7_watch.proofs.LawLemmas.{lines_taken}
use Rattle.s7_watch.proofs.laws.results_give_lines.Goals as goal

pub returns : goal.returns
returns c = lines_taken
