use Rattle.s7_client.proofs.CodeLemmas.{departure_other, octets_other}
use Rattle.s7_client.proofs.laws.octets_end_otherwise.Goals as goal

pub returns : goal.returns
returns c = record { octets = octets_other; departure = departure_other }
