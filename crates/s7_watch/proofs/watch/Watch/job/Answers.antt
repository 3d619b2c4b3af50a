use Rattle.std.proofs.Common.{◌∙◌, ap, Some, map}
use Rattle.s7_dialogue.specs.declared.job.Job.TheVariants as job
use Rattle.s7_watch.specs.Samples.{items_of}
use Rattle.s7_watch.specs.Looks.{look_at, looks_from, part}
use Rattle.s7_watch.specs.WatchShown.{tag_in, tags_of, watch_told}
use Rattle.s7_watch.proofs.LookLemmas.{looks_ended}
use Rattle.s7_watch.proofs.WatchLemmas.{hands_next, hands_none, told_out}
use Rattle.s7_watch.proofs.watch.Watch.job.Goals as goal

pub returns-then-self-eq0-clause-ok : goal.returns-then-self-eq0-clause-ok
returns-then-self-eq0-clause-ok c =
    let w = c.args.self.now in
    hands_none _ (watch_told w)
    (ap (looks_from (tags_of w) w.round w.number) c.if-self-eq0.true ∙ looks_ended (tags_of w) w.round w.number)

pub returns-clause-ok : goal.returns-clause-ok
returns-clause-ok c =
    let w = c.args.self.now in
    let new = c.pass.new.self in
    hands_next _ (watch_told new).ahead (look_at (tags_of w) w.round w.number) (watch_told w) (watch_told new) _ c.pass.ensures.ahead
    (ap (λ l. Some (job.ReadMany l)) (c.in_ok-items.ensures ∙ ap items_of c.looked.ensures.tags
    ∙ ap (λ ws. items_of (part w.number (map tag_in ws))) c.as_slice.ensures.value))
    (told_out new w.watched (record { round = w.round; number = w.number }) c.pass.ensures.watched c.pass.ensures.out)
