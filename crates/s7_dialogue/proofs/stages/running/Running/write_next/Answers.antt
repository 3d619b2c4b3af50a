use Rattle.std.proofs.Common.{length, sym, subst}
use Rattle.std.proofs.lemmas.Bool.{and_parts}
use Rattle.s7_dialogue.proofs.UnputLemmas.{IsShort, IsWaiting, is_waiting, put_one, flight_short}
use Rattle.s7_dialogue.proofs.stages.running.Running.write_next.Goals as goal

pub write_flight-requires-clause-asked : goal.write_flight-requires-clause-asked
write_flight-requires-clause-asked c =
    let r = c.args.self.now in
    let waits : IsWaiting r c.in-Asking.asking c.index-deref-len.result =
    is_waiting r c.in-Asking.asking c.deref.result.now c.len.result c.index-deref-len.result c.in-Asking.is
    c.deref.ensures.0
    c.len.ensures.value c.if-asking-eq0.false c.index-deref-len.is in
    (length r.found.items, (and_parts _ _ waits.flies).1)

pub returns-else-asking-eq0-clause-some : goal.returns-else-asking-eq0-clause-some
returns-else-asking-eq0-clause-some c = λ yes size.
    let r = c.args.self.now in
    put_one r c.in-Asking.asking c.index-deref-len.result c.args.config.now size c.write_flight.new.message.octets
    c.in-Asking.is
    (is_waiting r c.in-Asking.asking c.deref.result.now c.len.result c.index-deref-len.result c.in-Asking.is
    c.deref.ensures.0
    c.len.ensures.value c.if-asking-eq0.false c.index-deref-len.is)
    c.write_flight.ensures.octets

pub returns-else-asking-eq0-clause-fits : goal.returns-else-asking-eq0-clause-fits
returns-else-asking-eq0-clause-fits c = λ yes.
    let r = c.args.self.now in
    let waits : IsWaiting r c.in-Asking.asking c.index-deref-len.result =
    is_waiting r c.in-Asking.asking c.deref.result.now c.len.result c.index-deref-len.result c.in-Asking.is
    c.deref.ensures.0
    c.len.ensures.value c.if-asking-eq0.false c.index-deref-len.is in
    subst IsShort (sym c.write_flight.ensures.octets)
    (flight_short c.args.config.now r.job (length r.found.items) c.index-deref-len.result waits.flies)
