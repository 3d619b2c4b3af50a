use Rattle.std.proofs.Common.{◌≡◌, length}
use Rattle.std.specs.Prelude.{is_some, option_map}
use Rattle.s7_rig.specs.Shown.{state_of}
use Rattle.s7_rig.proofs.RoundsLemmas.{CountsOn}
use Rattle.s7_rig.specs.Runs.{Rounds}
use Rattle.s7_rig.specs.Stopped.{RoundsStop}
use Rattle.s7_rig.specs.Tells.{TellsFirst}
use Rattle.s7_rig.proofs.rig.Rig.take_rounds.Given as goal

-- rounds that stirred were made
abbrev pub invariant-loop : goal.invariant-loop
invariant-loop g l = record {
  count : length l.self.stations.items ≡ length l.fn.self.stations.items;
  tells : TellsFirst (state_of l.fn.self) (state_of l.self) (option_map g.C.Completion.told l.fn.done)
      (option_map g.C.Completion.told l.done);
  handed : is_some l.done ≡ is_some l.fn.done;
  rounds : CountsOn Rounds l.counter (state_of l.fn.self) (state_of l.self);
  stops : CountsOn RoundsStop l.counter (state_of l.fn.self) (state_of l.self);
}
