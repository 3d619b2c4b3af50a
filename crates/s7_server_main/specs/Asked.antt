-- What the words ask for.
use Rattle.std.specs.Prelude.{ℕ, List, Option, None, map, option_map}
use Rattle.std.specs.Borrow.{Bor}
use Rattle.s7_args.specs.Server.{ServerTold, server_words, pipe, serve}
use Rattle.s7_server_main.specs.declared.asked.Asked.{Asked}

-- the command that the words name, `None` if they are usage
abbrev pub command_of : List (Bor (List ℕ)) → Option ServerTold
command_of words = server_words (map (λ w. w.now) words)

-- what a command asks for: the word that names the areas, the path to which they are saved, the limit of the journal,
-- and the number of entries after which the areas are printed
pub record AskedTold : Type 0 where
  pub areas : List ℕ
  pub save : Option (List ℕ)
  pub journal : ℕ
  pub entry : Option ℕ

-- what each command asks to be served
abbrev pub asked_by : ServerTold → AskedTold
asked_by (pipe areas save journal) = record { areas = areas; save = save; journal = journal; entry = None }
asked_by (serve areas port links save journal entry) =
    record { areas = areas; save = save; journal = journal; entry = entry }

abbrev pub asked_told : Asked → AskedTold
asked_told asked = record {
  areas = asked.areas.now;
  save = option_map (λ s. s.now) asked.save;
  journal = asked.journal;
  entry = asked.at;
}
