use Rattle.std.proofs.Common.{◌≡◌, Some, rules, arith}
use Rattle.s7_area.specs.Memory.{Memory, area_octets}
use Rattle.s7_area.specs.Registers.{Keeps}
use Rattle.s7_area.proofs.MemoryLemmas.{total-without_area, Keeps-without_area}
use Rattle.s7_area.proofs.areas.Areas.unregister.Goals as goal

pub overflow_sub-self : goal.overflow_sub-self
overflow_sub-self c =
    let m : Memory = record { areas = c.in-Some.map.entries; guard = c.self.inside.guard } in
    let found : area_octets m c.args.key ≡ Some c.in-Some-remove.area = search rules in
    let is : Keeps m c.self.inside.total = search rules in
    rw c.as_slice.ensures (omega (arith, total-without_area m c.args.key c.in-Some-remove.area found, is.1))

pub invariant_of-self-2 : goal.invariant_of-self-2
invariant_of-self-2 c =
    let m : Memory = record { areas = c.in-Some.map.entries; guard = c.self.inside.guard } in
    let found : area_octets m c.args.key ≡ Some c.in-Some-remove.area = search rules in
    let is : Keeps m c.self.inside.total = search rules in
    let gone = c.in-Some-remove.ensures.entries in
    rw (gone, c.as_slice.ensures) (Keeps-without_area m c.args.key c.in-Some-remove.area _ found (rw gone at c.in-Some-remove.ensures.ordered) is)
