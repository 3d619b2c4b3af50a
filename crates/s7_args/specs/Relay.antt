-- The command line of the relay, this project's own, with options in GNU form. No name of a command stands before it.
use Rattle.std.specs.Prelude.{ℕ, codes, List, [], ◌∷◌, Option, option_map}
use Rattle.s7_args.specs.CommandLine.{Text, Field, CommandLine, Given, given_by}
use Rattle.s7_args.specs.Fields.{operand, port, journal, text_or, number_or}
use Rattle.s7_args.specs.Tool.{host, polls}

-- the arguments of the relay: the windows file, the host and the port of the controller, the number of polls after
-- which a question times out, and how many telegrams are kept at most
pub record RelayTold : Type 0 where
  pub windows : Text
  pub host : Text
  pub port : ℕ
  pub polls : ℕ
  pub journal : ℕ

-- ---- WINDOWS, with these options

-- the windows file
abbrev pub windows : Field
windows = operand (codes "WINDOWS")

abbrev pub relay_line : CommandLine
relay_line = record { operands = windows ∷ []; options = host ∷ port ∷ polls ∷ journal ∷ [] }

abbrev pub relay_of : Given → RelayTold
relay_of given = record {
  windows = text_or given windows [];
  host = text_or given host (codes "127.0.0.1");
  port = number_or given port 102;
  polls = number_or given polls 50;
  journal = number_or given journal 65536;
}

-- WHAT THE WORDS SAY, or `None` if they are usage
abbrev pub relay_words : List Text → Option RelayTold
relay_words words = option_map relay_of (given_by relay_line words)
