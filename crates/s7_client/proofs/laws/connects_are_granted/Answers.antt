use Rattle.s7_client.proofs.CauseLemmas.{connect_granted, connect_refused}
use Rattle.s7_client.proofs.laws.connects_are_granted.Goals as goal

pub returns : goal.returns
returns c = record { granted = connect_granted; refused = connect_refused }
