use Rattle.s7_client.proofs.CauseLemmas.{codes_tell}
use Rattle.s7_client.proofs.laws.codes_tell_of_links.Goals as goal

pub returns : goal.returns
returns c = codes_tell
