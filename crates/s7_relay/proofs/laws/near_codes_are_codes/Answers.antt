use Rattle.s7_relay.proofs.NearLemmas.{near_codes}
use Rattle.s7_relay.proofs.laws.near_codes_are_codes.Goals as goal

pub returns : goal.returns
returns c = near_codes
