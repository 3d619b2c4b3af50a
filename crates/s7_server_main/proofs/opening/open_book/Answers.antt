use Rattle.s7_script.specs.Naming.{naming}
use Rattle.s7_server_main.proofs.FileLemmas.{left_by}
use Rattle.s7_server_main.proofs.opening.open_book.Goals as goal

pub returns-in-Ok-new_book-clause-changed : goal.returns-in-Ok-new_book-clause-changed
returns-in-Ok-new_book-clause-changed g c = left_by (naming c.args.asked.areas.now) _ _ _ c.load_areas.ensures

pub returns-in-Err-clause-changed : goal.returns-in-Err-clause-changed
returns-in-Err-clause-changed g c = left_by (naming c.args.asked.areas.now) _ _ _ c.load_areas.ensures
