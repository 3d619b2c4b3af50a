use Rattle.std.proofs.Common.{ap, refl, sym, codes, option_map, Some, ◌≡◌, ◌∙◌}
use Rattle.clap.specs.Words.{is_simple_and_free}
use Rattle.s7_args.specs.Tool.{ToolTold, host, one, other, partner, partner_line, partner_of}
use Rattle.s7_args.proofs.Commands.{accepted, refused, text_or_is, text_read}
use Rattle.s7_args.proofs.Lines.{partner_is}
use Rattle.s7_args.proofs.RunLemmas.{partner_port_is, partner_seed_is, partner_steps_is}
use Rattle.s7_args.proofs.partner.read_partner.Goals as goal

pub returns-in_default : goal.returns-in_default
returns-in_default c =
    let made = c.in_ok-partner_command.ensures in
    let fails = c.try_get_matches_from.ensures.kinds (ap is_simple_and_free made ∙ partner_is.is_free) in
    let wrong = rw c.in_default.is at c.in_ok-matches.ensures.none in
    sym (ap (option_map partner_of) (refused (codes "partner") partner_line partner_is _ _ _ made fails wrong))

pub invariant_of-partner : goal.invariant_of-partner
invariant_of-partner c =
    let made = c.in_ok-partner_command.ensures in
    let fails = c.try_get_matches_from.ensures.kinds (ap is_simple_and_free made ∙ partner_is.is_free) in
    let is_ok = rw c.in-Some.is at c.in_ok-matches.ensures.some in
    let m = c.in-Some.matches in
    let read = accepted (codes "partner") partner_line partner_is _ _ _ m is_ok made fails c.try_get_matches_from.ensures.matches in
    let port_read = partner_port_is _ m read c.get_one.result _ c.unwrap_or-3.ensures c.get_one.ensures.none c.get_one.ensures.value in
    let steps_read = partner_steps_is _ m read c.get_one-3.result _ c.unwrap_or-5.ensures c.get_one-3.ensures.none c.get_one-3.ensures.value in
    record { least_port = port_read.least; most_steps = steps_read.most }

pub returns : goal.returns
returns c =
    let made = c.in_ok-partner_command.ensures in
    let fails = c.try_get_matches_from.ensures.kinds (ap is_simple_and_free made ∙ partner_is.is_free) in
    let is_ok = rw c.in-Some.is at c.in_ok-matches.ensures.some in
    let m = c.in-Some.matches in
    let read = accepted (codes "partner") partner_line partner_is _ _ _ m is_ok made fails c.try_get_matches_from.ensures.matches in
    let one_is = text_or_is c.get_str.result _ c.unwrap_or.result _ _ c.unwrap_or.ensures
    (text_read (codes "partner") partner_line partner_is _ m read one.name c.get_str.result c.get_str.ensures) refl in
    let other_is = text_read (codes "partner") partner_line partner_is _ m read other.name c.get_str-2.result c.get_str-2.ensures in
    let host_is = text_or_is c.get_str-3.result _ c.unwrap_or-2.result _ _ c.unwrap_or-2.ensures
    (text_read (codes "partner") partner_line partner_is _ m read host.name c.get_str-3.result c.get_str-3.ensures) refl in
    let port_read = partner_port_is _ m read c.get_one.result _ c.unwrap_or-3.ensures c.get_one.ensures.none c.get_one.ensures.value in
    let seed_read = partner_seed_is _ m read c.get_one-2.result _ c.unwrap_or-4.ensures c.get_one-2.ensures.none c.get_one-2.ensures.value in
    let steps_read = partner_steps_is _ m read c.get_one-3.result _ c.unwrap_or-5.ensures c.get_one-3.ensures.none c.get_one-3.ensures.value in
    let told : ◌≡◌ {A = ToolTold} _ (partner_of read.given) = λ i. partner (record {
      one = one_is i;
      other = other_is i;
      host = host_is i;
      port = port_read.same i;
      seed = seed_read.same i;
      steps = steps_read.same i;
    }) in
    ap Some told ∙ sym (ap (option_map partner_of) read.by_line)
