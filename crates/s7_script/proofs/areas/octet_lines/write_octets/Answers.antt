use Rattle.std.proofs.Common.{◌<◌, length, arith, eqb-true, sym}
use Rattle.std.proofs.lemmas.Bool.Decides.{nat_tests}
use Rattle.s7_script.proofs.WriteLemmas.{lines-end, lines-go_on}
use Rattle.s7_script.proofs.areas.octet_lines.write_octets.Goals as goal

pub loop-rest-preserved : goal.loop-rest-preserved
loop-rest-preserved c =
    let some : 0 < length c.loop-rest.rest.now = grind (arith, nat_tests) in
    lines-go_on c.write_line.new.text.items c.loop-rest.text.items c.loop-rest.rest.now _ c.in_ok-count.count some c.in_ok-count.ensures.count c.in_ok-count.ensures.text c.loop-rest.invariant

pub returns : goal.returns
returns c =
    let empty = eqb-true (length c.loop-rest.rest.now) 0 (sym c.loop-rest-test.ensures) in
    lines-end c.loop-rest.text.items _ c.loop-rest.rest.now empty c.loop-rest.invariant
