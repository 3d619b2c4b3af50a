use Rattle.std.proofs.Common.{subst, sym, length}
use Rattle.s7_dialogue.specs.DataItems.{answers_in}
use Rattle.s7_dialogue.specs.GoesOn.{TellAll}
use Rattle.s7_dialogue.proofs.KeepLemmas.{by_kind, keep_items, keeps_items}
use Rattle.s7_dialogue.proofs.stages.progress.keep.Goals as goal

pub place_items-requires-clause-told : goal.place_items-requires-clause-told
place_items-requires-clause-told c =
    let kind = by_kind c.args.items.now c.args.flight.now.asked c.requires.asked in
    subst (λ kept. TellAll c.args.items.now (answers_in kept)) (sym c.as_slice.ensures.value)
    (keep_items c.requires.flies.0 (length c.args.found.now) c.args.flight.now kind.0 c.args.items.now
    c.args.answer.now c.in-Items.answers kind.1 c.requires.flies.1 c.requires.told c.in-Items.is).0

pub place_items-requires-clause-octets : goal.place_items-requires-clause-octets
place_items-requires-clause-octets c =
    let kind = by_kind c.args.items.now c.args.flight.now.asked c.requires.asked in
    (keep_items c.requires.flies.0 (length c.args.found.now) c.args.flight.now kind.0 c.args.items.now
    c.args.answer.now c.in-Items.answers kind.1 c.requires.flies.1 c.requires.told c.in-Items.is).1

pub returns-in-Items : goal.returns-in-Items
returns-in-Items c =
    keeps_items c.args.items.now c.args.flight.now c.args.answer.now c.in-Items.answers c.as_slice.result.now
    c.args.found.now c.args.codes.now c.place_items.new.found c.place_items.new.codes c.in-Items.is
    c.as_slice.ensures.value c.place_items.ensures.octets c.place_items.ensures.codes
