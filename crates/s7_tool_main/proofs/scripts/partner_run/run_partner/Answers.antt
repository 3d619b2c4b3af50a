use Rattle.std.proofs.Common.{ap, option_map, Bor, List, ℕ}
use Rattle.s7_args.specs.Shown.{partner_told_of}
use Rattle.s7_tool_main.proofs.PartnerLemmas.{both_by}
use Rattle.s7_tool_main.proofs.scripts.partner_run.run_partner.Goals as goal

pub returns-in-Some-clause-ended : goal.returns-in-Some-clause-ended
returns-in-Some-clause-ended g c =
    both_by g.L.Link.shows (partner_told_of c.args.words) c.in-Ok.sends c.in-Some.path.now
    (g.F.Files.shows c.args.files.now) (g.F.Files.shows c.load_sends.new.files)
    (g.F.Files.shows c.run_both.new.files) _ _ _ _ c.in-Ok.ensures.ok c.in-Ok.ensures.unchanged
    c.run_both.result (ap (option_map (λ (b : Bor (List ℕ)). b.now)) c.in-Some.is) c.run_both.ensures.ended
