use Rattle.s7_server_main.proofs.report.add_areas.Given as goal

abbrev pub ghosts-plant_at : goal.ghosts-plant_at
ghosts-plant_at g a = record { name = a.blank.name; parts = a.blank.parts }
