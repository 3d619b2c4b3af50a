use Rattle.s7_area.proofs.BitLemmas.{turned_on, turned_off}
use Rattle.s7_area.proofs.place.with_bit.Goals as goal

pub returns-then-on : goal.returns-then-on
returns-then-on c = rw c.if-on.true (turned_on c.args.octet c.args.bit c.ranges.octet.fits c.requires)

pub returns-else-on : goal.returns-else-on
returns-else-on c = rw c.if-on.false (turned_off c.args.octet c.args.bit c.ranges.octet.fits c.requires)
