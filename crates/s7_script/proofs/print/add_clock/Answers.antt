use Rattle.s7_text.proofs.MomentPrintLemmas.{has_parts}
use Rattle.s7_script.proofs.print.add_clock.Goals as goal

pub clock_text-requires : goal.clock_text-requires
clock_text-requires c = has_parts c.args.octets.now c.requires
