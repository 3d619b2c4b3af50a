use Rattle.s7_script.proofs.MigrateLemmas.{areas_migrate}
use Rattle.s7_script.proofs.laws.areas_migrate.Goals as goal

pub returns : goal.returns
returns c = record { migrates = areas_migrate c.areas_join.ensures }
