use Rattle.s7_listener.proofs.FoundLemmas.{full_of}
use Rattle.s7_listener.proofs.laws.telegrams_found_a_full_history.Goals as goal

pub returns : goal.returns
returns c = full_of
