-- The command line of the tool, this project's own, with options in GNU form.
use Rattle.std.specs.Prelude.{ℕ, Bool, codes, List, [], ◌∷◌, map, length, ◌+◌, ◌*◌, ◌==◌, ◌&&◌, not, nat_le, nat_lt}
use Rattle.std.specs.Prelude.{Option, Some, None, is_some, option_map, option_and_then, if◌then◌else◌}
use Rattle.std.specs.List.{list_all, slice_split}
use Rattle.std.specs.Str.{bytes_eq}
use Rattle.s7_args.specs.CommandLine.{Text, Field, CommandLine, Given, given_by, is_number, number_of, value_of, values_of}
use Rattle.s7_args.specs.Fields.{operand, operands, optional, numeral, text, number, areas, port, journal, text_or, number_given, number_or}

-- the arguments of `run`: the script, the host and the port of the controller, the kind of the connection with rack,
-- slot and PDU, the number of polls after which a job times out, the number of parallel jobs, and the tag file
pub record RunTold : Type 0 where
  pub script : Text
  pub host : Text
  pub port : ℕ
  pub kind : ℕ
  pub rack : ℕ
  pub slot : ℕ
  pub pdu : ℕ
  pub polls : ℕ
  pub jobs : ℕ
  pub tags : Option Text

-- the arguments of `rig`: the areas, the scripts, the stated turns, the seed and the number of seeded turns, the PDU,
-- the limit of the journal, the number of parallel jobs, the tag file that scripts may use, the tag file that is
-- watched, and the number of rounds
pub record RigTold : Type 0 where
  pub areas : Text
  pub scripts : List Text
  pub turns : List ℕ
  pub seed : ℕ
  pub steps : ℕ
  pub pdu : ℕ
  pub journal : ℕ
  pub jobs : ℕ
  pub tags : Option Text
  pub watch : Option Text
  pub rounds : ℕ

-- the sends file of the first partner, and that of the second; `None` if the second is reached at a host and port
pub record PartnerTold : Type 0 where
  pub one : Text
  pub other : Option Text
  pub host : Text
  pub port : ℕ
  pub seed : ℕ
  pub steps : ℕ

-- a command with its operands and options
pub data ToolTold : Type 0 where
  run : RunTold → ToolTold
  rig : RigTold → ToolTold
  gen : (seed : ℕ) → ToolTold
  partner : PartnerTold → ToolTold

-- ---- run SCRIPT, with these options

abbrev pub script : Field
script = operand (codes "SCRIPT")

abbrev pub host : Field
host = text (codes "host")

abbrev pub kind : Field
kind = number (codes "type") 1 3

abbrev pub rack : Field
rack = number (codes "rack") 0 7

abbrev pub slot : Field
slot = number (codes "slot") 0 31

abbrev pub pdu : Field
pdu = number (codes "pdu") 64 1920

abbrev pub polls : Field
polls = number (codes "polls") 1 4294967295

-- the number of parallel jobs to ask for
abbrev pub jobs : Field
jobs = number (codes "jobs") 1 8

-- the tag file
abbrev pub tags : Field
tags = text (codes "tags")

abbrev pub run_line : CommandLine
run_line = record {
  operands = script ∷ [];
  options = host ∷ port ∷ kind ∷ rack ∷ slot ∷ pdu ∷ polls ∷ jobs ∷ tags ∷ [];
}

abbrev pub run_of : Given → ToolTold
run_of given = run (record {
  script = text_or given script [];
  host = text_or given host (codes "127.0.0.1");
  port = number_or given port 102;
  kind = number_or given kind 1;
  rack = number_or given rack 0;
  slot = number_or given slot 2;
  pdu = number_or given pdu 480;
  polls = number_or given polls 50;
  jobs = number_or given jobs 1;
  tags = value_of given tags.name;
})

-- ---- rig AREAS SCRIPT.., with these options

abbrev pub scripts : Field
scripts = operands (codes "SCRIPT")

abbrev pub turns : Field
turns = text (codes "turns")

abbrev pub seed : Field
seed = number (codes "seed") 0 4294967295

abbrev pub steps : Field
steps = number (codes "steps") 0 1000000

-- the tag file whose tags are watched
abbrev pub watch : Field
watch = text (codes "watch")

-- the number of rounds in which they are read
abbrev pub rounds : Field
rounds = number (codes "rounds") 1 10000

abbrev pub rig_line : CommandLine
rig_line = record {
  operands = areas ∷ scripts ∷ [];
  options = turns ∷ seed ∷ steps ∷ pdu ∷ journal ∷ jobs ∷ tags ∷ watch ∷ rounds ∷ [];
}

abbrev pub most_scripts : ℕ
most_scripts = 1024

-- a client for each script, and one more if tags are watched
abbrev pub client_count : {A : Type 0} → ℕ → Option A → ℕ
client_count scripts None = scripts
client_count scripts (Some watched) = scripts + 1

-- each client has two actors
abbrev pub actors : List Text → Option Text → ℕ
actors paths watched = 2 * client_count (length paths) watched

abbrev pub is_comma : ℕ → Bool
is_comma b = b == 44

-- the number of one of the actors, which are numbered from 0
abbrev pub is_actor : ℕ → Text → Bool
is_actor count text = is_number text && nat_lt (number_of text) count

-- one or more actors, joined by commas
abbrev pub turns_in : ℕ → Text → Option (List ℕ)
turns_in count text =
    let parts = slice_split is_comma text in
    if list_all (is_actor count) parts then Some (map number_of parts) else None

-- without a text there are no turns
abbrev pub turns_or_none : ℕ → Option Text → Option (List ℕ)
turns_or_none count None = Some []
turns_or_none count (Some text) = turns_in count text

abbrev pub rig_with : Given → List Text → List ℕ → ToolTold
rig_with given paths order = rig (record {
  areas = text_or given areas [];
  scripts = paths;
  turns = order;
  seed = number_or given seed 0;
  steps = number_or given steps 0;
  pdu = number_or given pdu 480;
  journal = number_or given journal 65536;
  jobs = number_or given jobs 1;
  tags = value_of given tags.name;
  watch = value_of given watch.name;
  rounds = number_or given rounds 1;
})

-- rounds were given, and no tags to be read in them
abbrev pub lacks_watch : Option Text → Option ℕ → Bool
lacks_watch watched count = is_some count && not (is_some watched)

abbrev pub rig_of : Given → Option ToolTold
rig_of given =
    let paths = values_of given scripts.name in
    let watched = value_of given watch.name in
    if nat_le (length paths) most_scripts && not (lacks_watch watched (number_given given rounds))
    then option_map (rig_with given paths) (turns_or_none (actors paths watched) (value_of given turns.name))
    else None

-- ---- gen N

-- the seed from which everything is made
abbrev pub made_from : Field
made_from = numeral (codes "N") 0 4294967295

abbrev pub gen_line : CommandLine
gen_line = record { operands = made_from ∷ []; options = [] }

abbrev pub gen_of : Given → ToolTold
gen_of given = gen (number_or given made_from 0)

-- ---- partner A [B], with these options

-- the sends file of the active partner
abbrev pub one : Field
one = operand (codes "A")

-- the sends file of the passive partner
abbrev pub other : Field
other = optional (codes "B")

abbrev pub partner_line : CommandLine
partner_line = record { operands = one ∷ other ∷ []; options = host ∷ port ∷ seed ∷ steps ∷ [] }

abbrev pub partner_of : Given → ToolTold
partner_of given = partner (record {
  one = text_or given one [];
  other = value_of given other.name;
  host = text_or given host (codes "127.0.0.1");
  port = number_or given port 102;
  seed = number_or given seed 0;
  steps = number_or given steps 0;
})

-- ---- all commands

-- the command that the words name, or `None` if they are usage
abbrev pub tool_words : List Text → Option ToolTold
tool_words [] = None
tool_words (name ∷ rest) =
    if bytes_eq name (codes "run") then option_map run_of (given_by run_line rest)
    else (if bytes_eq name (codes "rig") then option_and_then rig_of (given_by rig_line rest)
    else (if bytes_eq name (codes "gen") then option_map gen_of (given_by gen_line rest)
    else (if bytes_eq name (codes "partner") then option_map partner_of (given_by partner_line rest) else None)))
