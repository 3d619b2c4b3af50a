use Rattle.std.proofs.Common.{◌∙◌, ap, sym, arith}
use Rattle.std.proofs.lemmas.List.{length-map}
use Rattle.s7_watch.specs.Looks.{look_count}
use Rattle.s7_watch.specs.WatchShown.{tag_in, tags_of}
use Rattle.s7_watch.proofs.LookLemmas.{looks_over, looks_within}
use Rattle.s7_watch.proofs.watch.Watch.pass.Goals as goal

pub returns-then-self-div_ceil-clause-ahead : goal.returns-then-self-div_ceil-clause-ahead
returns-then-self-div_ceil-clause-ahead c =
    let w = c.args.self.now in
    let count = ap look_count (length-map w.watched.items tag_in ∙ sym w.watched.ok.0 ∙ sym c.len.ensures) ∙ sym c.div_ceil.ensures in
    looks_within (tags_of w) w.round w.number w.left c.requires (omega (arith, count))

pub returns-else-self-div_ceil-clause-ahead : goal.returns-else-self-div_ceil-clause-ahead
returns-else-self-div_ceil-clause-ahead c =
    let w = c.args.self.now in
    let count = ap look_count (length-map w.watched.items tag_in ∙ sym w.watched.ok.0 ∙ sym c.len.ensures) ∙ sym c.div_ceil.ensures in
    looks_over (tags_of w) w.round w.number w.left c.requires (omega (arith, count)) (omega (arith, count))
