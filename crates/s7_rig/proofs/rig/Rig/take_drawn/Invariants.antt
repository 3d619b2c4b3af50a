use Rattle.std.proofs.Common.{◌≡◌, ◌-◌, ◌*◌, length}
use Rattle.std.specs.Prelude.{is_some, option_map}
use Rattle.s7_rig.specs.Shown.{state_of}
use Rattle.s7_schedule.specs.Drawing.{drawn, seeded}
use Rattle.s7_rig.specs.Stopped.{TurnsLead}
use Rattle.s7_rig.specs.Tells.{TellsFirst}
use Rattle.s7_rig.proofs.rig.Rig.take_drawn.Given as goal

-- the turns that were drawn so far were made, and the others are left to draw
abbrev pub invariant-loop : goal.invariant-loop
invariant-loop g l = record {
  count : length l.self.stations.items ≡ length l.fn.self.stations.items;
  tells : TellsFirst (state_of l.fn.self) (state_of l.self) (option_map g.C.Completion.told l.fn.done)
      (option_map g.C.Completion.told l.done);
  handed : is_some l.done ≡ is_some l.fn.done;
  turns : TurnsLead (seeded l.fn.seed l.fn.steps (2 * length l.fn.self.stations.items))
      (drawn l.draw (l.fn.steps - l.counter) (2 * length l.fn.self.stations.items)) (state_of l.fn.self) (state_of l.self);
}
