use Rattle.std.proofs.Common.{◌≡◌, ℕ, ◌<◌, ltb, true, List, [], ◌∷◌, refl}
use Rattle.std.proofs.lemmas.Bool.{ltb-true}
use Rattle.std.proofs.lemmas.List.Elements.{All-weaker}
use Rattle.std.proofs.lemmas.List.Sums.{AllPass-from_list_all}
use Rattle.s7_library_tests.proofs.rigs.a_read_around_a_write.Goals as goal

abbrev turns : List ℕ
turns = 0 ∷ 2 ∷ 2 ∷ 0 ∷ 2 ∷ 2 ∷ 0 ∷ 0 ∷ 2 ∷ 2 ∷ 1 ∷ 3 ∷ 3 ∷ 1 ∷ 3 ∷ 3 ∷ 1 ∷ 1 ∷ 3 ∷ 3 ∷ 1 ∷ 3 ∷ 3 ∷ 1 ∷ 0 ∷ 2 ∷ 2 ∷ 0 ∷ []

pub a_reader_and_a_writer-requires : goal.a_reader_and_a_writer-requires
a_reader_and_a_writer-requires c =
    All-weaker (λ x. ltb x 4 ≡ true) (λ x. x < 4) (λ x h. ltb-true x 4 h) turns (AllPass-from_list_all (λ x. ltb x 4) turns refl)
