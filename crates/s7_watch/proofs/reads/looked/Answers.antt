use Rattle.std.proofs.Common.{◌∙◌, ◌*◌, ap, arith, length, map, take}
use Rattle.std.proofs.lemmas.List.{take_rest}
use Rattle.s7_watch.specs.WatchShown.{last_of, tag_in}
use Rattle.s7_watch.proofs.PartLemmas.{looked_rest, looked_whole}
use Rattle.s7_watch.proofs.reads.looked.Goals as goal

pub returns-then-rest-gt-MOST_TAGS-clause-tags : goal.returns-then-rest-gt-MOST_TAGS-clause-tags
returns-then-rest-gt-MOST_TAGS-clause-tags c =
    let all = c.args.all.now in
    ap (λ l. map tag_in (take 20 l)) (take_rest all (20 * c.args.number)) ∙ looked_whole tag_in c.args.number all

pub returns-then-rest-gt-MOST_TAGS-clause-lasts : goal.returns-then-rest-gt-MOST_TAGS-clause-lasts
returns-then-rest-gt-MOST_TAGS-clause-lasts c =
    let all = c.args.all.now in
    ap (λ l. map last_of (take 20 l)) (take_rest all (20 * c.args.number)) ∙ looked_whole last_of c.args.number all

pub returns-else-rest-gt-MOST_TAGS-clause-tags : goal.returns-else-rest-gt-MOST_TAGS-clause-tags
returns-else-rest-gt-MOST_TAGS-clause-tags c =
    let all = c.args.all.now in
    let rest = take_rest all (20 * c.args.number) in
    ap (map tag_in) rest ∙ looked_rest tag_in c.args.number all (omega (arith, ap length rest))

pub returns-else-rest-gt-MOST_TAGS-clause-lasts : goal.returns-else-rest-gt-MOST_TAGS-clause-lasts
returns-else-rest-gt-MOST_TAGS-clause-lasts c =
    let all = c.args.all.now in
    let rest = take_rest all (20 * c.args.number) in
    ap (map last_of) rest ∙ looked_rest last_of c.args.number all (omega (arith, ap length rest))
