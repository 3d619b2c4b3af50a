-- The state of a plant.
use Rattle.std.specs.Prelude.{ℕ, ℤ, pos, ◌+ℤ◌, Bool, true, []}
use Rattle.s7_area.specs.Memory.{Memory}
use Rattle.s7_clock.specs.Moment.{held}
use Rattle.s7_block.specs.Store.{Store}
use Rattle.s7_plant.specs.declared.plant.Plant.{Plant}

pub record State : Type 0 where
  pub memory : Memory
  -- the blocks of the store; data blocks are areas of the memory
  pub blocks : Store
  -- how many milliseconds its clock is ahead of the moments that requests bring
  pub offset : ℤ
  pub running : Bool

-- no block, and room for 1,024: this profile's own limit
abbrev pub no_blocks : Store
no_blocks = record { images = []; limit = 1024 }

-- a plant with this memory and these blocks at its beginning: it runs, and its clock shows the moments that requests
-- bring
abbrev pub opens_with : Memory → Store → State
opens_with m blocks = record { memory = m; blocks = blocks; offset = pos 0; running = true }

-- a plant with this memory and without blocks at its beginning
abbrev pub begins_with : Memory → State
begins_with m = opens_with m no_blocks

abbrev pub state_of : Plant → State
state_of plant =
    record { memory = plant.areas; blocks = plant.blocks; offset = plant.offset; running = plant.running }

-- what its clock shows at a moment, both in milliseconds since 1970
abbrev pub clock_at : State → ℕ → ℕ
clock_at s moment = held (pos (held (pos moment)) +ℤ s.offset)
