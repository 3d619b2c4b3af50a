-- What the words ask for.
use Rattle.std.specs.Prelude.{ℕ, ◌+◌, ◌*◌, List, Option, map}
use Rattle.std.specs.Borrow.{Bor}
use Rattle.s7_dialogue.specs.declared.config.Config.{Config}
use Rattle.s7_rig.specs.Rigs.{Turning}
use Rattle.s7_args.specs.Tool.{RigTold, RunTold, ToolTold, tool_words}

-- the command that the words name, `None` if they are usage
abbrev pub command_of : List (Bor (List ℕ)) → Option ToolTold
command_of words = tool_words (map (λ w. w.now) words)

-- the configuration of the client of `run`: the calling TSAP is 0100, the called one is made of kind, rack and slot
-- (Snap7 1.4 reference manual, `Cli_ConnectTo` and `Cli_SetConnectionType`)
abbrev pub config_by : RunTold → Config
config_by told = record {
  calling = 0x0100;
  called = told.kind * 256 + told.rack * 32 + told.slot;
  pdu = told.pdu;
  jobs = told.jobs;
  polls = told.polls;
}

-- the configuration of a rig's clients: programming devices at rack 0 and slot 2, with 1,000,000 polls each, this
-- profile's own
abbrev pub rig_config : ℕ → ℕ → Config
rig_config pdu jobs = record { calling = 0x0100; called = 0x0102; pdu = pdu; jobs = jobs; polls = 1000000 }

-- the turns that `rig` states
abbrev pub turning_of : RigTold → Turning
turning_of told = record { turns = told.turns; seed = told.seed; steps = told.steps }
