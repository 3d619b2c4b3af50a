use Rattle.s7_script.proofs.WriteLemmas.{first-front, no-front}
use Rattle.s7_script.proofs.areas.octet_lines.front.Goals as goal

pub returns-in-Some : goal.returns-in-Some
returns-in-Some c = first-front c.args.octets.now c.in-Some.first.now c.repeats.result c.in-Some.ensures.value c.repeats.ensures

pub returns-in-None : goal.returns-in-None
returns-in-None c = no-front c.args.octets.now c.in-None.ensures.value
