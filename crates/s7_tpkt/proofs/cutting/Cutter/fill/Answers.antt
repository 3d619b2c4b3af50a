use Rattle.std.proofs.Common.{◌≡◌, ◌≤◌, ◌+◌, ◌-◌, length, take, drop, length-drop, arith, length-take-le, ◌∙◌}
use Rattle.s7_tpkt.specs.declared.state.FedState.TheVariants.{More}
use Rattle.s7_tpkt.specs.Packets.{state_of}
use Rattle.s7_tpkt.specs.Front.{wanted}
use Rattle.s7_tpkt.proofs.FeedLemmas.{filled, wanted_room}
use Rattle.s7_tpkt.proofs.cutting.Cutter.fill.Goals as goal

pub invariant_of-self : goal.invariant_of-self
invariant_of-self c =
    let held = take c.self.inside.len c.self.inside.octets in
    let more : state_of c.self.inside.limit held ≡ More = rw (← c.self.view_is) at c.requires.more in
    let least : c.min-taken.result ≤ wanted held = omega arith in
    let room = wanted_room c.self.inside.limit held more c.self.invariant.1 in
    let fits : c.self.inside.len ≤ length c.self.inside.octets = omega arith in
    let fits_all = length-take-le c.self.inside.len c.self.inside.octets fits in
    let copied : length c.copy_from_slice.new.self ≡ c.min-taken.result = c.copy_from_slice.ensures.len
    ∙ length-take-le (c.self.inside.len + c.min-taken.result - c.self.inside.len) (drop c.self.inside.len c.self.inside.octets) (omega (arith, room, least, fits_all, length-drop c.self.inside.len c.self.inside.octets))
    ∙ omega arith in (
      omega (arith, room, least, fits_all),
      c.self.invariant.1,
      c.self.invariant.2,
      filled c.self.inside.limit c.self.inside.len c.min-taken.result (c.self.inside.len + c.min-taken.result - c.self.inside.len) c.self.inside.octets c.copy_from_slice.new.self fits more least copied,
    )
