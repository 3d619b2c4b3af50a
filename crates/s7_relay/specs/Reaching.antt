-- What came of an attempt to reach the far server.
use Rattle.std.specs.Prelude.{◌≡◌, false}
use Rattle.s7_outer.specs.Shown.{Shown}
use Rattle.s7_relay.specs.Far.{FailsToConnect, FailsToDial, FarModel, FarServer, Reaches, is_connected}
use Rattle.s7_relay.specs.declared.far.Reach.{Reach}
use Rattle.s7_relay.specs.declared.far.Reach.TheVariants as reach
use Rattle.s7_relay.specs.declared.passage.Passage.{Passage}
use Rattle.s7_relay.specs.declared.passage.Passage.TheVariants as passage

-- the dial or the connect failed
abbrev pub FailsBy : {M : Type 0} → (M → Shown) → FarServer → FarModel M → FarModel M → Passage → Type 0
FailsBy shows server old new passage.Undialled = (is_connected old.client ≡ false) × FailsToDial server old new
FailsBy shows server old new (passage.Unconnected connect) = FailsToConnect shows server old new connect
FailsBy shows server old new passage.Near = ⊥
FailsBy shows server old new (passage.Unpacked connect) = ⊥
FailsBy shows server old new (passage.Asked connect job) = ⊥

abbrev pub ReachesOrNot : {M : Type 0} → (M → Shown) → FarServer → FarModel M → FarModel M → Reach → Type 0
ReachesOrNot shows server old new (reach.Connected connect) = Reaches shows server old new connect
ReachesOrNot shows server old new (reach.Not p) = FailsBy shows server old new p

-- the client is connected
abbrev pub HasReached : Reach → Type 0
HasReached (reach.Connected connect) = Unit {0}
HasReached (reach.Not p) = ⊥
