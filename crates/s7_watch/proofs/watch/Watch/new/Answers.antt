use Rattle.std.proofs.Common.{◌∙◌, ap, arith, length}
use Rattle.std.proofs.lemmas.List.{length-map}
use Rattle.s7_watch.specs.Lines.{nothing_seen}
use Rattle.s7_watch.specs.WatchShown.{tag_in}
use Rattle.s7_watch.proofs.WatchLemmas.{told_fresh}
use Rattle.s7_watch.proofs.watch.Watch.new.Goals as goal

pub invariant_of-result-clause-next_fits : goal.invariant_of-result-clause-next_fits
invariant_of-result-clause-next_fits c =
    let same = ap length (c.in_ok-watched.ensures.tags ∙ c.as_slice.ensures) in
    omega (arith, same, length-map c.in_ok-watched.watched.items tag_in, c.requires)

pub returns : goal.returns
returns c =
    told_fresh c.in_ok-watched.watched.items c.args.tags.now c.args.rounds (c.in_ok-watched.ensures.tags ∙ c.as_slice.ensures)
    (c.in_ok-watched.ensures.lasts ∙ ap nothing_seen c.as_slice.ensures)
