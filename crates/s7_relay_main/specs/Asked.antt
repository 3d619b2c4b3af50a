-- What the words ask for.
use Rattle.std.specs.Prelude.{ℕ, List, Option, map}
use Rattle.std.specs.Borrow.{Bor}
use Rattle.s7_dialogue.specs.declared.config.Config.{Config}
use Rattle.s7_args.specs.Relay.{RelayTold, relay_words}

-- what the words ask to be relayed, `None` if they are usage
abbrev pub asked_by : List (Bor (List ℕ)) → Option RelayTold
asked_by words = relay_words (map (λ w. w.now) words)

-- how the client of the far server connects: as usual to a controller in rack 0, slot 2, over a connection of kind 1,
-- with PDU 480 and one telegram at a time; a job times out after this number of polls
abbrev pub relay_config : ℕ → Config
relay_config polls = record { calling = 0x0100; called = 0x0102; pdu = 480; jobs = 1; polls = polls }
