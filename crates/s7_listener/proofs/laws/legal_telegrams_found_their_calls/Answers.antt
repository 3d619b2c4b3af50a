use Rattle.s7_listener.proofs.FoundLemmas.{found_of}
use Rattle.s7_listener.proofs.laws.legal_telegrams_found_their_calls.Goals as goal

pub returns : goal.returns
returns c = found_of
