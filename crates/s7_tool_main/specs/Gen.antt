-- What the command `gen` does, by this profile's own rules.
use Rattle.std.specs.Prelude.{ℕ, ◌+◌, ◌%◌, List, [], ◌∷◌, map, replicate, Option, None, IsNone, IsSomeAnd}
use Rattle.std.specs.List.{range_with_len}
use Rattle.s7_outer.specs.OutShown.{OutShown}
use Rattle.s7_item.specs.Codes.{data_blocks, flags}
use Rattle.s7_area.specs.declared.key.AreaKey.{AreaKey}
use Rattle.s7_area.specs.Memory.{Memory}
use Rattle.s7_dialogue.specs.declared.config.Config.{Config}
use Rattle.s7_rig.specs.declared.end.RigEnd.{RigEnd}
use Rattle.s7_rig.specs.Rigs.{RigRan, Turning}
use Rattle.s7_rig.specs.Scripts.{Script, goes_on}
use Rattle.s7_rig.specs.Shown.{EndTold, end_told}
use Rattle.s7_program.specs.Lines.{memory_line}
use Rattle.s7_program.specs.Output.{Printed}
use Rattle.s7_tool_main.specs.declared.ended.Ended.{Ended}
use Rattle.s7_tool_main.specs.declared.ended.Ended.TheVariants as ended
use Rattle.s7_tool_main.specs.Asked.{rig_config}
use Rattle.s7_tool_main.specs.Drawn.{made_scripts}
use Rattle.s7_tool_main.specs.GenText.{are_made_good, made_text}
use Rattle.s7_tool_main.specs.Report.{PrintsText}

-- ---- the areas

abbrev pub flags_key : AreaKey
flags_key = record { area = flags; number = 0 }

abbrev pub block_key : ℕ → AreaKey
block_key number = record { area = data_blocks; number = number }

-- this number of octets 00
unfoldable pub blank_octets : ℕ → List ℕ
blank_octets count = replicate count 0

-- this number of octets that count up by one from `first`, modulo 256
unfoldable pub rising_octets : ℕ → ℕ → List ℕ
rising_octets first count = map (λ k. (first + k) % 256) (range_with_len 0 count)

abbrev pub block_of : ℕ → AreaKey × List ℕ
block_of number = (block_key number, rising_octets number 4096)

-- THE AREAS: the flags with 256 octets 00, and the data blocks 1 to 4 with 4,096 octets each; octet k of block d is (d
-- + k) mod 256. They have no guard
abbrev pub made_areas : Memory
made_areas = record { areas = (flags_key, blank_octets 256) ∷ map block_of (1 ∷ 2 ∷ 3 ∷ 4 ∷ []); guard = None }

-- ---- the rig

-- the scripts of the clients, which do all their jobs, whether one fails or not
abbrev pub client_scripts : ℕ → List Script
client_scripts seed = map goes_on (made_scripts seed)

-- the configuration of its clients is that of `rig`, with a PDU of 240 and four parallel jobs
abbrev pub made_config : Config
made_config = rig_config 240 4

-- no turn is stated, and 2,000 are drawn from the seed
abbrev pub made_turning : ℕ → Turning
made_turning seed = record { turns = []; seed = seed; steps = 2000 }

-- A RIG RAN over the areas and the scripts of a seed, with a journal of 65,536 entries, and its text was printed
pub record RanGen (seed : ℕ) (out out' : OutShown) (end : EndTold) (how : Ended) : Type 0 where
  pub ran : RigRan made_areas 65536 made_config (client_scripts seed) (made_turning seed) end
  pub printed : PrintsText (made_text end) (are_made_good end.clients) out out' how

-- HOW `gen` ENDED, by the output before and after, and the rig if one ran; it uses no file and no dial
abbrev pub GenEnds : ℕ → OutShown → OutShown → Option RigEnd → Ended → Type 0
GenEnds seed out out' rig ended.Done = IsSomeAnd rig (λ r. RanGen seed out out' (end_told r) ended.Done)
GenEnds seed out out' rig ended.Jobs = IsSomeAnd rig (λ r. RanGen seed out out' (end_told r) ended.Jobs)
GenEnds seed out out' rig ended.Output = IsSomeAnd rig (λ r. RanGen seed out out' (end_told r) ended.Output)
GenEnds seed out out' rig ended.Memory = IsNone rig × Printed out out' memory_line
GenEnds seed out out' rig ended.Refused = ⊥
GenEnds seed out out' rig ended.File = ⊥
GenEnds seed out out' rig ended.Dial = ⊥
