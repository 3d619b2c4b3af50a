use Rattle.std.proofs.Common.{◌≡◌, None, length, rules}
use Rattle.s7_area.specs.Memory.{memory_of}
use Rattle.s7_area.specs.Registers.{fault_of}
use Rattle.s7_area.proofs.MemoryLemmas.{Keeps-with_area}
use Rattle.s7_area.proofs.areas.Areas.add.Goals as goal

pub invariant_of-self : goal.invariant_of-self
invariant_of-self c =
    let same = c.take_or_make-map.ensures in
    let taken = c.in-Ok.ensures.entries in
    let none : fault_of (memory_of c.self.inside.map c.self.inside.guard) c.args.key (length c.args.octets) ≡ None = search rules in
    let sorted = rw (taken, same, c.new.ensures) at c.in-Ok.ensures.ordered in
    rw (taken, same, c.new.ensures, c.as_slice-len.ensures)
    (Keeps-with_area (memory_of c.self.inside.map c.self.inside.guard) c.args.key c.args.octets c.self.inside.total sorted none c.self.invariant)
