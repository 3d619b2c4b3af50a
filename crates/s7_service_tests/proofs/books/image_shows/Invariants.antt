use Rattle.s7_service_tests.proofs.books.image_shows.Given as goal

abbrev pub ghosts-image_of : goal.ghosts-image_of
ghosts-image_of a = record { name = a.blank.name; parts = a.blank.parts }
