use Rattle.s7_relay.proofs.FileLawLemmas.{files_one}
use Rattle.s7_relay.proofs.laws.files_are_one.Goals as goal

pub returns : goal.returns
returns c = files_one
