use Rattle.std.proofs.Common.{ap, refl, sym, codes, option_map, Some, ◌≡◌, ◌∙◌}
use Rattle.clap.specs.Words.{is_simple_and_free}
use Rattle.s7_args.specs.Relay.{RelayTold, relay_line, relay_of, windows}
use Rattle.s7_args.specs.Tool.{host}
use Rattle.s7_args.proofs.Commands.{accepted, refused, text_or_is, text_read}
use Rattle.s7_args.proofs.RelayLemmas.{journal_is, polls_is, port_is, relay_is}
use Rattle.s7_args.proofs.relay.read_relay_words.Goals as goal

pub returns-in_default : goal.returns-in_default
returns-in_default c =
    let made = c.in_ok-relay_command.ensures in
    let fails = c.try_get_matches_from.ensures.kinds (ap is_simple_and_free made ∙ relay_is.is_free) in
    let wrong = rw c.in_default.is at c.in_ok-matches.ensures.none in
    sym (ap (option_map relay_of) (refused (codes "s7relay") relay_line relay_is _ _ _ made fails wrong))

pub invariant_of-relay : goal.invariant_of-relay
invariant_of-relay c =
    let made = c.in_ok-relay_command.ensures in
    let fails = c.try_get_matches_from.ensures.kinds (ap is_simple_and_free made ∙ relay_is.is_free) in
    let is_ok = rw c.in-Some.is at c.in_ok-matches.ensures.some in
    let m = c.in-Some.matches in
    let read = accepted (codes "s7relay") relay_line relay_is _ _ _ m is_ok made fails c.try_get_matches_from.ensures.matches in
    let port_read = port_is _ m read c.get_one.result _ c.unwrap_or-3.ensures c.get_one.ensures.none c.get_one.ensures.value in
    let polls_read = polls_is _ m read c.get_one-2.result _ c.unwrap_or-4.ensures c.get_one-2.ensures.none c.get_one-2.ensures.value in
    let journal_read = journal_is _ m read c.get_one-3.result _ c.unwrap_or-5.ensures c.get_one-3.ensures.none c.get_one-3.ensures.value in
    record {
      least_port = port_read.least;
      least_polls = polls_read.least;
      least_journal = journal_read.least;
      most_journal = journal_read.most;
    }

pub returns : goal.returns
returns c =
    let made = c.in_ok-relay_command.ensures in
    let fails = c.try_get_matches_from.ensures.kinds (ap is_simple_and_free made ∙ relay_is.is_free) in
    let is_ok = rw c.in-Some.is at c.in_ok-matches.ensures.some in
    let m = c.in-Some.matches in
    let read = accepted (codes "s7relay") relay_line relay_is _ _ _ m is_ok made fails c.try_get_matches_from.ensures.matches in
    let windows_is = text_or_is c.get_str.result _ c.unwrap_or.result _ _ c.unwrap_or.ensures
    (text_read (codes "s7relay") relay_line relay_is _ m read windows.name c.get_str.result c.get_str.ensures) refl in
    let host_is = text_or_is c.get_str-2.result _ c.unwrap_or-2.result _ _ c.unwrap_or-2.ensures
    (text_read (codes "s7relay") relay_line relay_is _ m read host.name c.get_str-2.result c.get_str-2.ensures) refl in
    let port_read = port_is _ m read c.get_one.result _ c.unwrap_or-3.ensures c.get_one.ensures.none c.get_one.ensures.value in
    let polls_read = polls_is _ m read c.get_one-2.result _ c.unwrap_or-4.ensures c.get_one-2.ensures.none c.get_one-2.ensures.value in
    let journal_read = journal_is _ m read c.get_one-3.result _ c.unwrap_or-5.ensures c.get_one-3.ensures.none c.get_one-3.ensures.value in
    let told : ◌≡◌ {A = RelayTold} _ (relay_of read.given) = λ i. record {
      windows = windows_is i;
      host = host_is i;
      port = port_read.same i;
      polls = polls_read.same i;
      journal = journal_read.same i;
    } in
    ap Some told ∙ sym (ap (option_map relay_of) read.by_line)
