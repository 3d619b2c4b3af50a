use Rattle.std.proofs.Common.{ap, sym, codes, option_map, Some, ◌≡◌, ◌∙◌}
use Rattle.clap.specs.Words.{is_simple_and_free}
use Rattle.s7_args.specs.Tool.{ToolTold, gen, gen_line, gen_of}
use Rattle.s7_args.proofs.Commands.{accepted, refused}
use Rattle.s7_args.proofs.Lines.{gen_is}
use Rattle.s7_args.proofs.RunLemmas.{made_from_is}
use Rattle.s7_args.proofs.tool.read_gen.Goals as goal

pub returns-in_default : goal.returns-in_default
returns-in_default c =
    let made = c.in_ok-gen_command.ensures in
    let fails = c.try_get_matches_from.ensures.kinds (ap is_simple_and_free made ∙ gen_is.is_free) in
    let wrong = rw c.in_default.is at c.in_ok-matches.ensures.none in
    sym (ap (option_map gen_of) (refused (codes "gen") gen_line gen_is _ _ _ made fails wrong))

pub returns : goal.returns
returns c =
    let made = c.in_ok-gen_command.ensures in
    let fails = c.try_get_matches_from.ensures.kinds (ap is_simple_and_free made ∙ gen_is.is_free) in
    let is_ok = rw c.in-Some.is at c.in_ok-matches.ensures.some in
    let m = c.in-Some.matches in
    let read = accepted (codes "gen") gen_line gen_is _ _ _ m is_ok made fails c.try_get_matches_from.ensures.matches in
    let seed_read = made_from_is _ m read c.get_one.result _ c.unwrap_or-seed.ensures c.get_one.ensures.none c.get_one.ensures.value in
    let told : ◌≡◌ {A = ToolTold} _ (gen_of read.given) = ap gen seed_read.same in
    ap Some told ∙ sym (ap (option_map gen_of) read.by_line)
