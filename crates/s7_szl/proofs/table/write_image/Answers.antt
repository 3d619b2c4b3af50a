use Rattle.std.proofs.Common.{◌+◌, ◌-◌, ◌/◌, length, refl, ◌∙◌, arith}
use Rattle.s7_szl.specs.Images.{head_octets}
use Rattle.s7_szl.proofs.WriteLemmas.{written_in_two, is_head}
use Rattle.s7_szl.proofs.table.write_image.Goals as goal

pub returns-clause-written : goal.returns-clause-written
returns-clause-written c =
    let records = c.args.records.now in
    written_in_two c.copy_from_slice.new.self c.copy_from_slice-2.new.self
    (head_octets c.args.id c.args.index c.args.record_len (length records / c.args.record_len)) records c.args.into.now 8 (8 + length records - 8) (8 + length records)
    refl (omega arith) (omega arith) (c.copy_from_slice.ensures.after ∙ is_head c.args.id c.args.index c.args.record_len (length records / c.args.record_len) c.two_octets.result c.two_octets-2.result c.two_octets-3.result c.two_octets-4.result c.two_octets.ensures c.two_octets-2.ensures c.two_octets-3.ensures c.two_octets-4.ensures) c.copy_from_slice-2.ensures.after
