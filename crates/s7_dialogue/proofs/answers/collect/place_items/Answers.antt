use Rattle.std.proofs.Common.{◌≡◌, length, refl, rules, ap, ◌∙◌, arith}
use Rattle.std.proofs.Math.Path.{ap₂}
use Rattle.std.specs.Iterator.Adapters.{zip_first, zip_second}
use Rattle.std.specs.Slice.Iter.{iter_rest}
use Rattle.std.proofs.lemmas.Slice.{put_mid-paste}
use Rattle.std.proofs.lemmas.Slice.Zip.{Zip-more, either_empty_from_Zip}
use Rattle.s7_dialogue.specs.DataItems.{answers_in}
use Rattle.s7_dialogue.specs.Taking.{with_codes, with_octets}
use Rattle.s7_dialogue.proofs.ItemLemmas.{codes_told, place_starts, place_step, place_ends}
use Rattle.s7_dialogue.proofs.answers.collect.place_items.Goals as goal

pub loop-item-init : goal.loop-item-init
loop-item-init c =
    let it = c.into_iter-item-iterator.result in
    let first : iter_rest (zip_first it) ≡ c.args.items.now = search rules in
    let second : iter_rest (zip_second it) ≡ c.args.answers.now = search rules in
    place_starts _ _ _ _ _ _ _ _ _ first second c.requires.told c.requires.octets c.requires.codes

pub loop-item-preserved : goal.loop-item-preserved
loop-item-preserved c =
    let steps =
    Zip-more c.loop-item.item-iterator c.next.new.self c.next.result (c.in-Some.item, c.in-Some.answer) c.in-Some.is
    c.next.ensures.steps in
    let answer = c.in-Some.answer.now in
    place_step _ _ _ _ c.in-Some.item.now answer _ _ _ c.octet_count-at.result _ _ c.loop-item.found _ _ _ _ _ steps.0
    steps.1 c.loop-item.invariant c.octet_count-at.ensures.count refl refl
    (put_mid-paste _ _ _ _ answer.octets.now (length answer.octets.now) c.copy_from_slice.ensures.after (omega arith)
    refl)
    c.set.ensures

pub returns-clause-octets : goal.returns-clause-octets
returns-clause-octets c =
    let it = c.into_iter-item-iterator.result in
    let first : iter_rest (zip_first it) ≡ c.args.items.now = search rules in
    let second : iter_rest (zip_second it) ≡ c.args.answers.now = search rules in
    (place_ends _ _ _ _ _ _ _ _ _
    (either_empty_from_Zip c.loop-item.item-iterator c.next.new.self c.next.result c.in-None.is c.next.ensures.steps)
    c.loop-item.invariant).0
    ∙ ap₂ (λ items answers. with_octets c.args.from items (answers_in answers) c.args.found.now) first second

pub returns-clause-codes : goal.returns-clause-codes
returns-clause-codes c =
    let it = c.into_iter-item-iterator.result in
    let first : iter_rest (zip_first it) ≡ c.args.items.now = search rules in
    let second : iter_rest (zip_second it) ≡ c.args.answers.now = search rules in
    (place_ends _ _ _ _ _ _ _ _ _
    (either_empty_from_Zip c.loop-item.item-iterator c.next.new.self c.next.result c.in-None.is c.next.ensures.steps)
    c.loop-item.invariant).1
    ∙ ap (λ answers. with_codes c.args.place (codes_told (answers_in answers)) c.args.codes.now) second
