use Rattle.s7_watched.proofs.ShownLemmas.{shows_watches}
use Rattle.s7_watched.proofs.laws.rigs_show_watches.Goals as goal

pub returns : goal.returns
returns c = record { shown = shows_watches c.rigs_follow.ensures c.watches_are_seen.ensures }
