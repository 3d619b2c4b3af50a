use Rattle.std.proofs.Common.{arith}
use Rattle.s7_cotp.specs.Told.{connection_of}
use Rattle.s7_cotp.proofs.WriteLemmas.{connection_written}
use Rattle.s7_cotp.proofs.writing.write_connection.Goals as goal

pub returns-clause-written : goal.returns-clause-written
returns-clause-written c =
    connection_written (connection_of c.args.c.now) c.args.code _ c.write_tsap-calling.result c.write_tsap-called.result _ _ _ _
    c.copy_from_slice.new.self c.args.into.now c.write_tsap-calling.new.into c.write_tsap-called.new.into
    c.copy_from_slice.ensures.after (omega arith) c.high_and_low-dst.ensures.high c.high_and_low-dst.ensures.low c.high_and_low-src.ensures.high c.high_and_low-src.ensures.low
    c.write_tsap-calling.ensures.size c.write_tsap-calling.ensures.written c.write_tsap-called.ensures.written
