use Rattle.std.proofs.Common.{◌≡◌, true, ◌∷◌, [], length, take, ap, sym, ◌∙◌, arith}
use Rattle.std.specs.Prelude.{replicate}
use Rattle.std.proofs.lemmas.List.{length-replicate}
use Rattle.s7_item.specs.Sizes.{request_size}
use Rattle.s7_dialogue.specs.Checks.{octet_count_of}
use Rattle.s7_dialogue.specs.DataPlaces.{part_count}
use Rattle.s7_dialogue.proofs.DataPartLemmas.{byte_octets}
use Rattle.s7_dialogue.proofs.DataReadLemmas.{one_known, write_sized, few_written, filled_octets, write_spelled}
use Rattle.s7_dialogue.proofs.transfers.data_block.write_part.Goals as goal

pub write_write-requires-clause-known : goal.write_write-requires-clause-known
write_write-requires-clause-known c = λ k d within.
    let block = c.args.block.now in
    let place = c.args.place in
    one_known c.alone-items.result block.number place.from (part_count block place) k d
    (c.alone-items.ensures ∙ ap (λ part. part ∷ []) c.part-part.ensures) within

pub write_write-requires-clause-all : goal.write_write-requires-clause-all
write_write-requires-clause-all c =
    let block = c.args.block.now in
    let place = c.args.place in
    let count = part_count block place in
    let few = few_written block place c.in-Some.value c.requires.pdu c.in-Some.is in
    let counted : c.from.result ≡ count = c.from.ensures ∙ ap (λ part. part.count) c.part-part.ensures in
    let octets : take c.from.result (replicate 1920 c.in-Some.value) ≡ replicate count c.in-Some.value =
    ap (λ n. take n (replicate 1920 c.in-Some.value)) counted ∙ filled_octets count c.in-Some.value (omega (arith, few)) in
    let items : octet_count_of c.alone-items.result ≡ count =
    ap octet_count_of (c.alone-items.ensures ∙ ap (λ part. part ∷ []) c.part-part.ensures)
    ∙ omega (arith, byte_octets block.number place.from count) in
    ap length octets ∙ (length-replicate count c.in-Some.value ∙ sym items)

pub write_write-requires-clause-fits : goal.write_write-requires-clause-fits
write_write-requires-clause-fits c =
    let block = c.args.block.now in
    let place = c.args.place in
    let count = part_count block place in
    omega (
      arith,
      few_written block place c.in-Some.value c.requires.pdu c.in-Some.is,
      ap (λ items. request_size items true) (c.alone-items.ensures ∙ ap (λ part. part ∷ []) c.part-part.ensures),
      write_sized block.number place.from count,
    )

pub returns-in-Some-clause-octets : goal.returns-in-Some-clause-octets
returns-in-Some-clause-octets c =
    let block = c.args.block.now in
    let place = c.args.place in
    let count = part_count block place in
    let few = few_written block place c.in-Some.value c.requires.pdu c.in-Some.is in
    let counted : c.from.result ≡ count = c.from.ensures ∙ ap (λ part. part.count) c.part-part.ensures in
    write_spelled block place c.in-Some.value c.args.sequence c.alone-items.result
    (take c.from.result (replicate 1920 c.in-Some.value)) c.write_write.new.message.octets c.in-Some.is
    (c.alone-items.ensures ∙ ap (λ part. part ∷ []) c.part-part.ensures)
    (ap (λ n. take n (replicate 1920 c.in-Some.value)) counted
    ∙ filled_octets count c.in-Some.value (omega (arith, few)))
    c.write_write.ensures.octets
