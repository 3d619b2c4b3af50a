use Rattle.std.proofs.Common.{◌≡◌, ◌∙◌, ap, take, lit<}
use Rattle.std.specs.List.{slice_split}
use Rattle.std.proofs.lemmas.Iterator.{items_from_drains}
use Rattle.std.proofs.lemmas.Iterator.Splits.{YieldsList-from_str_split}
use Rattle.s7_args.specs.Tool.{is_comma}
use Rattle.s7_args.proofs.Actors.{actors_in, all_at, all_below, more_at, none_at, now_of}
use Rattle.s7_args.proofs.turns.read_turns.Goals as goal

pub returns-in_default-read_actor-clause-told : goal.returns-in_default-read_actor-clause-told
returns-in_default-read_actor-clause-told c =
    let ran = c.in_ok-parts.ensures.ran in
    let pieces : now_of c.deref-part-items.result.now ≡ slice_split is_comma c.in-Some.text.now = ap now_of (c.deref-part-items.ensures.value ∙ ran.2.0)
    ∙ items_from_drains ran.0 ran.1 (YieldsList-from_str_split 44 c.in-Some.text.now (lit< tt) c.split.ensures.text c.split.ensures.has_more c.split.ensures.pattern) in
    rw c.in-Some.is (none_at c.args.count c.deref-part-items.result.now c.loop-part.part-index _ c.loop-part-test.true c.in_default-read_actor.ensures ∙ ap (actors_in c.args.count) pieces)

pub loop-part-preserved : goal.loop-part-preserved
loop-part-preserved c = rw c.in_ok-push.ensures.items (more_at c.args.count c.deref-part-items.result.now c.loop-part.part-index _ c.loop-part-test.true c.loop-part.turns.items
    c.in-Some-read_actor.actor c.loop-part.invariant c.in-Some-read_actor.ensures)

pub returns-clause-told : goal.returns-clause-told
returns-clause-told c =
    let ran = c.in_ok-parts.ensures.ran in
    let pieces : now_of c.deref-part-items.result.now ≡ slice_split is_comma c.in-Some.text.now = ap now_of (c.deref-part-items.ensures.value ∙ ran.2.0)
    ∙ items_from_drains ran.0 ran.1 (YieldsList-from_str_split 44 c.in-Some.text.now (lit< tt) c.split.ensures.text c.split.ensures.has_more c.split.ensures.pattern) in
    rw c.in-Some.is (all_at c.args.count c.deref-part-items.result.now c.loop-part.part-index c.loop-part.turns.items c.loop-part-test.false c.loop-part.invariant ∙ ap (actors_in c.args.count) pieces)

pub returns-clause-actors : goal.returns-clause-actors
returns-clause-actors c = all_below c.args.count (take c.loop-part.part-index (now_of c.deref-part-items.result.now)) c.loop-part.turns.items c.loop-part.invariant
