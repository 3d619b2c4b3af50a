-- The command line of the server, this project's own, with options in GNU form.
use Rattle.std.specs.Prelude.{ℕ, codes, List, [], ◌∷◌, Option, None, option_map, if◌then◌else◌}
use Rattle.std.specs.Str.{bytes_eq}
use Rattle.s7_args.specs.CommandLine.{Text, Field, CommandLine, Given, given_by, value_of}
use Rattle.s7_args.specs.Fields.{text, number, areas, port, journal, text_or, number_given, number_or}

-- a command with its operands and options
pub data ServerTold : Type 0 where
  pipe : (areas : Text) (save : Option Text) (journal : ℕ) → ServerTold
  serve : (areas : Text) (port : ℕ) (links : ℕ) (save : Option Text) (journal : ℕ) (entry : Option ℕ) → ServerTold

-- ---- pipe AREAS [--save PATH] [--journal N]

abbrev pub save : Field
save = text (codes "save")

abbrev pub pipe_line : CommandLine
pipe_line = record { operands = areas ∷ []; options = save ∷ journal ∷ [] }

abbrev pub pipe_of : Given → ServerTold
pipe_of given = pipe (text_or given areas []) (value_of given save.name) (number_or given journal 65536)

-- ---- serve AREAS [--port N] [--links N] [--journal N] [--save PATH] [--at N]

-- the number of links that it accepts
abbrev pub links : Field
links = number (codes "links") 1 1024

-- the number of entries after which the areas are printed
abbrev pub at_entry : Field
at_entry = number (codes "at") 0 262144

abbrev pub serve_line : CommandLine
serve_line = record { operands = areas ∷ []; options = port ∷ links ∷ journal ∷ save ∷ at_entry ∷ [] }

abbrev pub serve_of : Given → ServerTold
serve_of given = serve (text_or given areas []) (number_or given port 102) (number_or given links 16)
    (value_of given save.name) (number_or given journal 65536) (number_given given at_entry)

-- ---- all commands

-- the command that the words name, or `None` if they are usage
abbrev pub server_words : List Text → Option ServerTold
server_words [] = None
server_words (name ∷ rest) =
    if bytes_eq name (codes "pipe") then option_map pipe_of (given_by pipe_line rest)
    else (if bytes_eq name (codes "serve") then option_map serve_of (given_by serve_line rest) else None)
