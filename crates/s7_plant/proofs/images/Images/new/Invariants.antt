use Rattle.std.proofs.Common.{◌≡◌, ◌≤◌, All, vec_capacity, vec_len}
use Rattle.s7_plant.specs.Images.{HasRoomOf}
use Rattle.s7_plant.specs.State.{state_of}
use Rattle.s7_plant.proofs.images.Images.new.Given as goal

-- there are so many places for images, and room for those to come
abbrev pub invariant-loop : goal.invariant-loop
invariant-loop l = record {
  fits : All (HasRoomOf (state_of l.opening)) l.kept.items;
  len : vec_len l.kept ≡ l.counter;
  room : l.room ≤ vec_capacity l.kept;
}
