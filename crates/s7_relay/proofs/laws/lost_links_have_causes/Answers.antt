use Rattle.s7_relay.proofs.ErrorLemmas.{lost_have_causes}
use Rattle.s7_relay.proofs.laws.lost_links_have_causes.Goals as goal

pub returns : goal.returns
returns c = lost_have_causes
