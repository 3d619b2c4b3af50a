-- The states that a plant can be in, for replies that depend on more than the request.
use Rattle.std.specs.Prelude.{◌≤◌, length}
use Rattle.std.specs.List.{AllByRecursion}
use Rattle.std.specs.Map.{keys_of}
use Rattle.s7_area.specs.Registers.{db_numbers, most_dbs, IsArea}
use Rattle.s7_block.specs.Store.{IsStore}
use Rattle.s7_plant.specs.declared.request.Request.{Request}
use Rattle.s7_plant.specs.declared.request.Request.TheVariants as plain
use Rattle.s7_plant.specs.State.{State}

-- the areas have allowed names and lengths, and no more data blocks than are allowed; the blocks are a store
pub record IsPlant (s : State) : Type 0 where
  pub areas : AllByRecursion IsArea s.memory.areas
  pub dbs : length (db_numbers (keys_of s.memory.areas)) ≤ most_dbs
  pub blocks : IsStore s.blocks

-- The list of blocks of a kind and the head of a block need a state that a plant can be in. Any other request may be
-- asked of any state.
abbrev pub IsStateFor : Request → State → Type 0
IsStateFor (plain.ListOf kind) s = IsPlant s
IsStateFor (plain.Info kind number) s = IsPlant s
IsStateFor _ s = Unit {0}
