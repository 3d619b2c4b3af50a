use Rattle.s7_szl.proofs.TableLemmas.{records_are_exact, images_add_up, images_are_short}
use Rattle.s7_szl.proofs.laws.tables_are_exact.Goals as goal

pub returns-clause-records : goal.returns-clause-records
returns-clause-records c = λ id index running t e. records_are_exact id index running t e

pub returns-clause-adds_up : goal.returns-clause-adds_up
returns-clause-adds_up c = λ id index running image e. images_add_up id index running image e

pub returns-clause-most : goal.returns-clause-most
returns-clause-most c = λ id index running image e. images_are_short id index running image e
