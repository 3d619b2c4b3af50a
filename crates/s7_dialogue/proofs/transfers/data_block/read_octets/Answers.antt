use Rattle.std.proofs.Common.{true, List, ◌∷◌, [], length, sym, ap, ◌∙◌}
use Rattle.std.proofs.lemmas.Bool.{eqb-true}
use Rattle.s7_item.specs.declared.item.Item.{Item}
use Rattle.s7_dialogue.specs.Answer.{counts_items}
use Rattle.s7_dialogue.specs.DataItems.{first_of}
use Rattle.s7_dialogue.proofs.DataReadLemmas.{told_read}
use Rattle.s7_dialogue.proofs.transfers.data_block.read_octets.Goals as goal

pub returns : goal.returns
returns c = λ so_far.
    let params = c.args.params.now in
    let body = c.args.body.now in
    let first = c.in_ok-first.first in
    told_read c.args.block.now c.args.place params body so_far c.first_item.result first c.told.result
    (ap (λ (items : List Item). counts_items 0x04 items params)
    (sym (c.alone.ensures ∙ ap (λ part. part ∷ []) c.part-part.ensures))
    ∙ (sym c.counts_items.ensures ∙ c.if-not-counts_items.false))
    (c.first_item.ensures ∙ ap (λ part. first_of part true body) c.part-part.ensures) (cc)
    (eqb-true (length first.rest.now) 0 (sym c.is_empty.ensures ∙ c.if-not-is_empty.false)) c.requires.read
    c.told.ensures
