use Rattle.std.proofs.Common.{◌∙◌, ◌+◌, ◌*◌, ◌≤◌, ap, arith, get_or, length, map, refl, set, subst, sym}
use Rattle.std.proofs.lemmas.List.{get_or_default, length-map}
use Rattle.s7_item.specs.Item.{octet_count}
use Rattle.s7_watch.specs.Samples.{items_of}
use Rattle.s7_watch.specs.Lines.{with_samples}
use Rattle.s7_watch.specs.WatchShown.{last_of, tag_in}
use Rattle.s7_watch.specs.declared.watched.Watched.{Watched}
use Rattle.s7_watch.proofs.PartLemmas.{part_long, part_octets, part_samples}
use Rattle.s7_watch.proofs.CutLemmas.{octets_at}
use Rattle.s7_watch.proofs.SeenLemmas.{last_kept, seen_all, seen_more, seen_none, tag_at, tag_inside, tags_kept}
use Rattle.s7_watch.proofs.reads.see_all.Goals as goal

pub loop-k-init : goal.loop-k-init
loop-k-init c =
    let old = c.args.all.now in
    let tags = map tag_in old in
    record {
      tags = refl;
      seen = seen_none (items_of tags) c.args.codes.now c.args.octets.now (map last_of old) (20 * c.args.number)
          (c.requires.octets ∙ part_octets c.args.number tags c.args.codes.now c.requires.codes);
    }

pub bounds-all-first : goal.bounds-all-first
bounds-all-first c =
    tag_inside c.args.all.now c.loop-k.all c.args.codes.now c.args.number c.loop-k.k c.requires.codes c.loop-k.auto.all c.loop-k-test.true

pub bounds-all-first-in-loop-k : goal.bounds-all-first-in-loop-k
bounds-all-first-in-loop-k c =
    λ other. tag_inside c.args.all.now c.loop-k.all c.args.codes.now c.args.number c.loop-k.k c.requires.codes c.loop-k.auto.all c.loop-k-test.true

pub bounds-all-first-in-loop-k-2 : goal.bounds-all-first-in-loop-k-2
bounds-all-first-in-loop-k-2 c =
    tag_inside c.args.all.now c.loop-k.all c.args.codes.now c.args.number c.loop-k.k c.requires.codes c.loop-k.auto.all c.loop-k-test.true

pub cut-requires : goal.cut-requires
cut-requires c =
    let old = c.args.all.now in
    let all = c.loop-k.all in
    let codes = c.args.codes.now in
    let k = c.loop-k.k in
    let i = 20 * c.args.number + k in
    let within = tag_inside old all codes c.args.number k c.requires.codes c.loop-k.auto.all c.loop-k-test.true in
    let w : Watched = get_or all i c.index-all-first.result in
    let at = tag_at old all codes w i k (get_or codes k 0) within c.loop-k-test.true c.loop-k.invariant.tags
    (get_or_default all i c.index-all-first.result w within) refl in
    omega (arith, octets_at (items_of (map tag_in old)) codes i k w.tag.item (get_or codes k 0) at, c.loop-k.invariant.seen.left)

pub see-requires : goal.see-requires
see-requires c =
    let all = c.loop-k.all in
    let i = 20 * c.args.number + c.loop-k.k in
    let within = tag_inside c.args.all.now all c.args.codes.now c.args.number c.loop-k.k c.requires.codes c.loop-k.auto.all c.loop-k-test.true in
    subst (λ (w : Watched). length c.cut.result.0.now ≤ octet_count w.tag.item)
    (get_or_default all i c.index-all-first.result c.index-all-first-in-loop-k.result within) c.cut.ensures.fits

pub loop-k-preserved : goal.loop-k-preserved
loop-k-preserved c =
    let old = c.args.all.now in
    let all = c.loop-k.all in
    let codes = c.args.codes.now in
    let k = c.loop-k.k in
    let i = 20 * c.args.number + k in
    let code = get_or codes k 0 in
    let new = c.see.new.self in
    let within = tag_inside old all codes c.args.number k c.requires.codes c.loop-k.auto.all c.loop-k-test.true in
    let w : Watched = get_or all i c.index-all-first.result in
    let v : Watched = get_or all i c.index-all-first-in-loop-k.result in
    let at = tag_at old all codes w i k code within c.loop-k-test.true c.loop-k.invariant.tags
    (get_or_default all i c.index-all-first.result w within) refl in
    record {
      tags = tags_kept all i v new within (get_or_default all i c.index-all-first-in-loop-k.result v within) c.see.ensures.tag
          ∙ c.loop-k.invariant.tags;
      seen = seen_more (items_of (map tag_in old)) codes c.args.octets.now (map last_of old) (20 * c.args.number) (map last_of all)
          (map last_of (set all i new)) c.loop-k.rest.now c.cut.result.0.now c.cut.result.1.now k w.tag.item code at
          (omega (arith, within, length-map all last_of)) c.cut.ensures.own c.cut.ensures.rest
          (last_kept all i new (record { code = code; octets = c.cut.result.0.now }) c.see.ensures.last) c.loop-k.invariant.seen;
    }

pub returns : goal.returns
returns c =
    let old = c.args.all.now in
    let tags = map tag_in old in
    let codes = c.args.codes.now in
    record {
      tags = c.loop-k.invariant.tags;
      lasts = seen_all (items_of tags) codes c.args.octets.now (map last_of old) (20 * c.args.number) (map last_of c.loop-k.all)
          c.loop-k.rest.now c.loop-k.k (omega (arith, c.loop-k-test.false, c.loop-k.auto.k-end))
          (part_long c.args.number tags codes c.requires.codes) c.loop-k.invariant.seen
          ∙ ap (with_samples (map last_of old) (20 * c.args.number)) (sym (part_samples c.args.number tags codes c.args.octets.now c.requires.codes));
    }
