use Rattle.s7_area.proofs.OverwriteLemmas.{overwritten_none, overwritten_fits, overwritten_there, overwritten_more, overwritten_all}
use Rattle.s7_area.proofs.areas.overwrite_each.Goals as goal

pub loop-key-init : goal.loop-key-init
loop-key-init c = rw c.into_iter-key-iterator.ensures.into_iter_gives.0 (overwritten_none c.args.map.now.entries c.args.from.now.entries c.requires)

pub overwrite-requires : goal.overwrite-requires
overwrite-requires c = overwritten_fits c.loop-key.map.entries c.loop-key.key-iterator c.next.new.self c.args.from.now.entries c.in-Some.key.now c.in-Some.octets.now c.into_iter-key-iterator.ensures.into_iter_gives.5 c.in-Some.ensures.steps c.loop-key.invariant c.in-Some-get_mut.area.now c.in-Some-get_mut.ensures.value

pub loop-key-preserved : goal.loop-key-preserved
loop-key-preserved c = absurd (overwritten_there c.loop-key.map.entries c.loop-key.key-iterator c.next.new.self c.args.from.now.entries c.in-Some.key.now c.in-Some.octets.now c.into_iter-key-iterator.ensures.into_iter_gives.5 c.in-Some.ensures.steps c.loop-key.invariant c.in_default.ensures.value)

pub loop-key-preserved-in-Some-get_mut : goal.loop-key-preserved-in-Some-get_mut
loop-key-preserved-in-Some-get_mut c =
    rw ((c.get_mut.follows.holds c.overwrite.new.self).0, c.overwrite.ensures)
    (overwritten_more c.loop-key.map.entries c.loop-key.key-iterator c.next.new.self c.args.from.now.entries c.in-Some.key.now c.in-Some.octets.now c.into_iter-key-iterator.ensures.into_iter_gives.5 c.in-Some.ensures.steps c.loop-key.invariant)

pub returns : goal.returns
returns c = overwritten_all c.loop-key.map.entries c.loop-key.key-iterator c.args.from.now.entries c.in-None.ensures.steps.0 c.loop-key.invariant
