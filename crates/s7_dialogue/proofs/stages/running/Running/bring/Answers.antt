use Rattle.std.proofs.Common.{[], length, refl, ap, ◌∙◌, arith}
use Rattle.std.proofs.lemmas.List.{with_items_is}
use Rattle.s7_dialogue.proofs.SingleTakeLemmas.{pasted, left_alone, over_fewer, refused_alone, fits_told, ended_alone, next_alone, next_ready, anew_told, anew_alone}
use Rattle.s7_dialogue.proofs.stages.running.Running.bring.Goals as goal

pub returns-in-Refused-clause-reached : goal.returns-in-Refused-clause-reached
returns-in-Refused-clause-reached c = λ message of config granted course follows same.
    let by =
    refused_alone c.args.self.now c.end.new.self c.args.ask c.args.len message c.args.told c.in-Refused.number
    c.args.sequence config granted course of c.in-Refused.is follows same (c.end.ensures.ends [])
    c.end.ensures.over in
    (by.rows, by.fills, by.reached)

pub returns-in-Refused-clause-fewer : goal.returns-in-Refused-clause-fewer
returns-in-Refused-clause-fewer c =
    over_fewer c.args.self.now c.end.new.self c.args.ask c.args.len c.requires.0 c.args.told c.requires.1
    c.end.ensures.over

pub place_octets-requires : goal.place_octets-requires
place_octets-requires c =
    let fits =
    fits_told c.args.self.now c.args.ask c.args.len c.requires.0 c.args.told c.in-Brought.octets c.in-Brought.next
    c.requires.1 c.in-Brought.is in
    omega (arith, fits.room, ap length c.as_mut_slice.ensures.value)

pub returns-in_default-clause-reached : goal.returns-in_default-clause-reached
returns-in_default-clause-reached c = λ message of config granted course follows same.
    let r = c.args.self.now in
    let octets = c.in-Brought.octets in
    let by =
    ended_alone r c.finish.new.self c.args.ask c.args.len message _ c.args.told octets c.in-Brought.next _
    c.args.sequence config granted course of c.in-Brought.is c.in_default.is
    (with_items_is r.found c.place_octets.new.found
    (omega (arith, c.place_octets.ensures.len, c.as_mut_slice.ensures.len))
    ∙ (c.place_octets.ensures.octets
    ∙ ap (λ xs. pasted xs c.args.len octets.now) c.as_mut_slice.ensures.value))
    c.lead.ensures follows same (c.finish.ensures.ends []) c.finish.ensures.over in
    (by.rows, by.fills, by.reached)

pub returns-in_default-clause-fewer : goal.returns-in_default-clause-fewer
returns-in_default-clause-fewer c =
    over_fewer c.args.self.now c.finish.new.self c.args.ask c.args.len c.requires.0 c.args.told c.requires.1
    c.finish.ensures.over

pub ask_next-requires-clause-first : goal.ask_next-requires-clause-first
ask_next-requires-clause-first c = λ subject is.
    let fits =
    fits_told c.args.self.now c.args.ask c.args.len c.requires.0 c.args.told c.in-Brought.octets c.in-Brought.next
    c.requires.1 c.in-Brought.is in
    absurd ((fits.on c.in-Some.next c.in-Some.is).later subject is)

pub ask_next-requires-clause-alone : goal.ask_next-requires-clause-alone
ask_next-requires-clause-alone c = λ block is.
    let fits =
    fits_told c.args.self.now c.args.ask c.args.len c.requires.0 c.args.told c.in-Brought.octets c.in-Brought.next
    c.requires.1 c.in-Brought.is in
    absurd ((fits.on c.in-Some.next c.in-Some.is).behind block is)

pub ask_next-requires-clause-most : goal.ask_next-requires-clause-most
ask_next-requires-clause-most c =
    let fits =
    fits_told c.args.self.now c.args.ask c.args.len c.requires.0 c.args.told c.in-Brought.octets c.in-Brought.next
    c.requires.1 c.in-Brought.is in
    let next = fits.on c.in-Some.next c.in-Some.is in
    omega (arith, next.most, next.room)

pub ask_next-requires-clause-ready : goal.ask_next-requires-clause-ready
ask_next-requires-clause-ready c =
    let r = c.args.self.now in
    let fits =
    fits_told r c.args.ask c.args.len c.requires.0 c.args.told c.in-Brought.octets c.in-Brought.next c.requires.1
    c.in-Brought.is in
    next_ready r c.args.ask c.args.len c.in-Brought.octets.now c.in-Brought.next c.in-Some.next _ fits c.in-Some.is
    (ap length
    (with_items_is r.found c.place_octets.new.found
    (omega (arith, c.place_octets.ensures.len, c.as_mut_slice.ensures.len)))
    ∙ (c.place_octets.ensures.len ∙ ap length c.as_mut_slice.ensures.value))

pub returns-in-Some-clause-reached : goal.returns-in-Some-clause-reached
returns-in-Some-clause-reached c = λ message of config granted course follows same.
    let r = c.args.self.now in
    let octets = c.in-Brought.octets in
    let by =
    next_alone r c.ask_next.new.self c.args.ask c.args.len message _ c.args.told octets c.in-Brought.next
    c.in-Some.next c.ask_next.result config granted course of c.in-Brought.is c.in-Some.is
    (with_items_is r.found c.place_octets.new.found
    (omega (arith, c.place_octets.ensures.len, c.as_mut_slice.ensures.len))
    ∙ (c.place_octets.ensures.octets
    ∙ ap (λ xs. pasted xs c.args.len octets.now) c.as_mut_slice.ensures.value))
    follows
    (λ now on next. c.ask_next.ensures.reached config granted now on (next ∙ same)) in
    (by.rows, by.fills, by.reached)

pub returns-in-Some-clause-fewer : goal.returns-in-Some-clause-fewer
returns-in-Some-clause-fewer c =
    let r = c.args.self.now in
    let fits =
    fits_told r c.args.ask c.args.len c.requires.0 c.args.told c.in-Brought.octets c.in-Brought.next c.requires.1
    c.in-Brought.is in
    let next = fits.on c.in-Some.next c.in-Some.is in
    omega (
      arith,
      c.ask_next.ensures.fewer,
      left_alone r c.args.ask c.args.len c.requires.0 c.args.told c.requires.1,
      next.fewer,
    )

pub ask_next-requires-in-Anew-clause-first : goal.ask_next-requires-in-Anew-clause-first
ask_next-requires-in-Anew-clause-first c = λ subject is. refl

pub ask_next-requires-in-Anew-clause-alone : goal.ask_next-requires-in-Anew-clause-alone
ask_next-requires-in-Anew-clause-alone c = λ block is. refl

pub ask_next-requires-in-Anew-clause-most : goal.ask_next-requires-in-Anew-clause-most
ask_next-requires-in-Anew-clause-most c =
    let anew =
    anew_told c.args.self.now c.args.ask c.args.len c.requires.0 c.args.told c.in-Anew.next c.requires.1 c.in-Anew.is in
    omega (arith, anew.most)

pub ask_next-requires-in-Anew-clause-ready : goal.ask_next-requires-in-Anew-clause-ready
ask_next-requires-in-Anew-clause-ready c =
    (anew_told c.args.self.now c.args.ask c.args.len c.requires.0 c.args.told c.in-Anew.next c.requires.1
    c.in-Anew.is).ready

pub returns-in-Anew-clause-reached : goal.returns-in-Anew-clause-reached
returns-in-Anew-clause-reached c = λ message of config granted course follows same.
    let by =
    anew_alone c.args.self.now c.ask_next-in-Anew.new.self c.args.ask c.args.len message c.args.told c.in-Anew.next
    c.ask_next-in-Anew.result config granted course of c.in-Anew.is follows
    (λ now on next. c.ask_next-in-Anew.ensures.reached config granted now on (next ∙ same)) in
    (by.rows, by.fills, by.reached)

pub returns-in-Anew-clause-fewer : goal.returns-in-Anew-clause-fewer
returns-in-Anew-clause-fewer c =
    let r = c.args.self.now in
    let anew = anew_told r c.args.ask c.args.len c.requires.0 c.args.told c.in-Anew.next c.requires.1 c.in-Anew.is in
    omega (
      arith,
      c.ask_next-in-Anew.ensures.fewer,
      left_alone r c.args.ask c.args.len c.requires.0 c.args.told c.requires.1,
      anew.fewer,
    )
