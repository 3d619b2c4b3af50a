use Rattle.std.proofs.Common.{◌≡◌, Option, sym, ap, ◌∙◌, arith}
use Rattle.std.proofs.lemmas.Grind.{common_steps}
use Rattle.std.proofs.lemmas.Map.Steps.{set_value_same}
use Rattle.s7_area.specs.declared.guard.Guard.{Guard}
use Rattle.s7_area.specs.Memory.{AreaList, Memory, write_code, written}
use Rattle.s7_area.proofs.MemoryLemmas.{Keeps-with_octets}
use Rattle.s7_area.proofs.areas.Areas.write.Goals as goal

abbrev with_areas : AreaList → Option Guard → Memory
with_areas areas guard = record { areas = areas; guard = guard }

pub invariant_of-self-then-not-is_inside : goal.invariant_of-self-then-not-is_inside
invariant_of-self-then-not-is_inside c =
    let kept = (c.get_mut.follows.holds c.in-Some-get_mut.area.now).0 ∙ set_value_same _ _ _ (sym c.in-Some-get_mut.ensures.value) in
    rw kept (rw c.in-Some.is at c.self.invariant)

pub returns-then-not-is_inside-clause-refused : goal.returns-then-not-is_inside-clause-refused
returns-then-not-is_inside-clause-refused c =
    let kept : (c.get_mut.follows.lender c.in-Some-get_mut.area.now).entries ≡ c.in-Some.map.entries = (c.get_mut.follows.holds c.in-Some-get_mut.area.now).0 ∙ set_value_same _ _ _ (sym c.in-Some-get_mut.ensures.value) in
    let seen : with_areas c.in-Some.map.entries c.self.inside.guard ≡ c.args.self.now = rw c.in-Some.is at c.self.view_is in
    λ other. ap (λ areas. with_areas areas c.self.inside.guard) kept ∙ seen

pub returns-then-not-is_inside-clause-written : goal.returns-then-not-is_inside-clause-written
unfolding written write_code
returns-then-not-is_inside-clause-written c =
    let kept : (c.get_mut.follows.lender c.in-Some-get_mut.area.now).entries ≡ c.in-Some.map.entries = (c.get_mut.follows.holds c.in-Some-get_mut.area.now).0 ∙ set_value_same _ _ _ (sym c.in-Some-get_mut.ensures.value) in
    let seen : with_areas c.in-Some.map.entries c.self.inside.guard ≡ c.args.self.now = rw c.in-Some.is at c.self.view_is in
    rw (kept, seen) (grind (arith, common_steps))

pub invariant_of-self-then-octets-octet_count : goal.invariant_of-self-then-octets-octet_count
invariant_of-self-then-octets-octet_count c =
    let kept = (c.get_mut.follows.holds c.in-Some-get_mut.area.now).0 ∙ set_value_same _ _ _ (sym c.in-Some-get_mut.ensures.value) in
    rw kept (rw c.in-Some.is at c.self.invariant)

pub returns-then-octets-octet_count-clause-refused : goal.returns-then-octets-octet_count-clause-refused
returns-then-octets-octet_count-clause-refused c =
    let kept : (c.get_mut.follows.lender c.in-Some-get_mut.area.now).entries ≡ c.in-Some.map.entries = (c.get_mut.follows.holds c.in-Some-get_mut.area.now).0 ∙ set_value_same _ _ _ (sym c.in-Some-get_mut.ensures.value) in
    let seen : with_areas c.in-Some.map.entries c.self.inside.guard ≡ c.args.self.now = rw c.in-Some.is at c.self.view_is in
    λ other. ap (λ areas. with_areas areas c.self.inside.guard) kept ∙ seen

pub returns-then-octets-octet_count-clause-written : goal.returns-then-octets-octet_count-clause-written
unfolding written write_code
returns-then-octets-octet_count-clause-written c =
    let kept : (c.get_mut.follows.lender c.in-Some-get_mut.area.now).entries ≡ c.in-Some.map.entries = (c.get_mut.follows.holds c.in-Some-get_mut.area.now).0 ∙ set_value_same _ _ _ (sym c.in-Some-get_mut.ensures.value) in
    let seen : with_areas c.in-Some.map.entries c.self.inside.guard ≡ c.args.self.now = rw c.in-Some.is at c.self.view_is in
    rw (kept, seen) (grind (arith, common_steps))

pub invariant_of-self-2 : goal.invariant_of-self-2
invariant_of-self-2 c =
    let m : Memory = record { areas = c.in-Some.map.entries; guard = c.self.inside.guard } in
    rw (c.get_mut.follows.holds c.write.new.self).0
    (Keeps-with_octets m c.key_of.result c.in-Some-get_mut.area.now _ c.self.inside.total (sym c.in-Some-get_mut.ensures.value) c.write.ensures.len (rw c.in-Some.is at c.self.invariant))
