use Rattle.std.proofs.Common.{ap, refl, sym, codes, option_map, Some, ◌≡◌, ◌∙◌}
use Rattle.clap.specs.Words.{is_simple_and_free}
use Rattle.s7_args.specs.Tool.{ToolTold, host, run, run_line, run_of, script, tags}
use Rattle.s7_args.proofs.Commands.{accepted, refused, text_or_is, text_read}
use Rattle.s7_args.proofs.Lines.{run_is}
use Rattle.s7_args.proofs.RunLemmas.{port_is, kind_is, rack_is, slot_is, pdu_is, polls_is, jobs_is}
use Rattle.s7_args.proofs.tool.read_run.Goals as goal

pub returns-in_default : goal.returns-in_default
returns-in_default c =
    let made = c.in_ok-run_command.ensures in
    let fails = c.try_get_matches_from.ensures.kinds (ap is_simple_and_free made ∙ run_is.is_free) in
    let wrong = rw c.in_default.is at c.in_ok-matches.ensures.none in
    sym (ap (option_map run_of) (refused (codes "run") run_line run_is _ _ _ made fails wrong))

pub invariant_of-run : goal.invariant_of-run
invariant_of-run c =
    let made = c.in_ok-run_command.ensures in
    let fails = c.try_get_matches_from.ensures.kinds (ap is_simple_and_free made ∙ run_is.is_free) in
    let is_ok = rw c.in-Some.is at c.in_ok-matches.ensures.some in
    let m = c.in-Some.matches in
    let read = accepted (codes "run") run_line run_is _ _ _ m is_ok made fails c.try_get_matches_from.ensures.matches in
    let port_read = port_is _ m read c.get_one.result _ c.unwrap_or-3.ensures c.get_one.ensures.none c.get_one.ensures.value in
    let kind_read = kind_is _ m read c.get_one-2.result _ c.unwrap_or-4.ensures c.get_one-2.ensures.none c.get_one-2.ensures.value in
    let rack_read = rack_is _ m read c.get_one-3.result _ c.unwrap_or-5.ensures c.get_one-3.ensures.none c.get_one-3.ensures.value in
    let slot_read = slot_is _ m read c.get_one-4.result _ c.unwrap_or-6.ensures c.get_one-4.ensures.none c.get_one-4.ensures.value in
    let pdu_read = pdu_is _ m read c.get_one-5.result _ c.unwrap_or-7.ensures c.get_one-5.ensures.none c.get_one-5.ensures.value in
    let polls_read = polls_is _ m read c.get_one-6.result _ c.unwrap_or-8.ensures c.get_one-6.ensures.none c.get_one-6.ensures.value in
    let jobs_read = jobs_is _ m read c.get_one-7.result _ c.unwrap_or-9.ensures c.get_one-7.ensures.none c.get_one-7.ensures.value in
    record {
      least_port = port_read.least;
      least_kind = kind_read.least;
      most_kind = kind_read.most;
      most_rack = rack_read.most;
      most_slot = slot_read.most;
      least_pdu = pdu_read.least;
      most_pdu = pdu_read.most;
      least_polls = polls_read.least;
      least_jobs = jobs_read.least;
      most_jobs = jobs_read.most;
    }

pub returns : goal.returns
returns c =
    let made = c.in_ok-run_command.ensures in
    let fails = c.try_get_matches_from.ensures.kinds (ap is_simple_and_free made ∙ run_is.is_free) in
    let is_ok = rw c.in-Some.is at c.in_ok-matches.ensures.some in
    let m = c.in-Some.matches in
    let read = accepted (codes "run") run_line run_is _ _ _ m is_ok made fails c.try_get_matches_from.ensures.matches in
    let script_is = text_or_is c.get_str.result _ c.unwrap_or.result _ _ c.unwrap_or.ensures
    (text_read (codes "run") run_line run_is _ m read script.name c.get_str.result c.get_str.ensures) refl in
    let host_is = text_or_is c.get_str-2.result _ c.unwrap_or-2.result _ _ c.unwrap_or-2.ensures
    (text_read (codes "run") run_line run_is _ m read host.name c.get_str-2.result c.get_str-2.ensures) refl in
    let port_read = port_is _ m read c.get_one.result _ c.unwrap_or-3.ensures c.get_one.ensures.none c.get_one.ensures.value in
    let kind_read = kind_is _ m read c.get_one-2.result _ c.unwrap_or-4.ensures c.get_one-2.ensures.none c.get_one-2.ensures.value in
    let rack_read = rack_is _ m read c.get_one-3.result _ c.unwrap_or-5.ensures c.get_one-3.ensures.none c.get_one-3.ensures.value in
    let slot_read = slot_is _ m read c.get_one-4.result _ c.unwrap_or-6.ensures c.get_one-4.ensures.none c.get_one-4.ensures.value in
    let pdu_read = pdu_is _ m read c.get_one-5.result _ c.unwrap_or-7.ensures c.get_one-5.ensures.none c.get_one-5.ensures.value in
    let polls_read = polls_is _ m read c.get_one-6.result _ c.unwrap_or-8.ensures c.get_one-6.ensures.none c.get_one-6.ensures.value in
    let jobs_read = jobs_is _ m read c.get_one-7.result _ c.unwrap_or-9.ensures c.get_one-7.ensures.none c.get_one-7.ensures.value in
    let tags_are = text_read (codes "run") run_line run_is _ m read tags.name c.get_str-3.result c.get_str-3.ensures in
    let told : ◌≡◌ {A = ToolTold} _ (run_of read.given) = λ i. run (record {
      script = script_is i;
      host = host_is i;
      port = port_read.same i;
      kind = kind_read.same i;
      rack = rack_read.same i;
      slot = slot_read.same i;
      pdu = pdu_read.same i;
      polls = polls_read.same i;
      jobs = jobs_read.same i;
      tags = tags_are i;
    }) in
    ap Some told ∙ sym (ap (option_map run_of) read.by_line)
