use Rattle.s7_args.specs.Shown.{partner_told_of}
use Rattle.s7_tool_main.proofs.PartnerLemmas.{both_ended}
use Rattle.s7_tool_main.proofs.scripts.partner_run.run_both.Goals as goal

pub returns-in-Ok-pair-clause-ended : goal.returns-in-Ok-pair-clause-ended
returns-in-Ok-pair-clause-ended g c =
    both_ended (partner_told_of c.args.words.now) c.args.one c.in-Ok.sends c.args.path.now
    (g.F.Files.shows c.args.files.now) (g.F.Files.shows c.load_sends.new.files) (g.O.Out.shows c.args.out.now)
    (g.O.Out.shows c.print_text.new.out) c.in-Ok.ensures.ok c.print_text.result c.in-Ok-pair.paired.text.items _
    c.in-Ok-pair.paired.is_done c.in-Ok-pair.ensures c.as_slice.ensures.value c.print_text.ensures
