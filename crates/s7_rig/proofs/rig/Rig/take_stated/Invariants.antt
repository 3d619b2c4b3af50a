use Rattle.std.proofs.Common.{◌≡◌, Bool, length, take}
use Rattle.std.specs.Prelude.{is_some, option_map}
use Rattle.s7_rig.specs.Shown.{state_of}
use Rattle.s7_rig.specs.Runs.{Turns}
use Rattle.s7_rig.specs.Tells.{TellsFirst}
use Rattle.s7_rig.proofs.rig.Rig.take_stated.Given as goal

-- the actors before this one had their turns
abbrev pub invariant-loop-actor : goal.invariant-loop-actor
invariant-loop-actor g l = record {
  count : length l.self.stations.items ≡ length l.fn.self.stations.items;
  tells : TellsFirst (state_of l.fn.self) (state_of l.self) (option_map g.C.Completion.told l.fn.done)
      (option_map g.C.Completion.told l.done);
  handed : is_some l.done ≡ is_some l.fn.done;
  turns : (stirs : Bool) × Turns (take l.actor-index l.turns) (state_of l.fn.self) (state_of l.self) stirs;
}
