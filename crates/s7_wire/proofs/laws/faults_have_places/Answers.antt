use Rattle.s7_wire.proofs.PlaceLemmas.{fault_place}
use Rattle.s7_wire.proofs.laws.faults_have_places.Goals as goal

pub returns : goal.returns
returns c = λ opening b fault at h. fault_place opening b fault at h
