use Rattle.std.proofs.Common.{ap, refl, sym, codes, option_map, Some, ◌≡◌, ◌∙◌}
use Rattle.clap.specs.Words.{is_simple_and_free}
use Rattle.s7_args.specs.Fields.{areas}
use Rattle.s7_args.specs.Server.{ServerTold, pipe, pipe_line, pipe_of, save}
use Rattle.s7_args.proofs.Commands.{accepted, refused, text_or_is, text_read}
use Rattle.s7_args.proofs.Lines.{pipe_is}
use Rattle.s7_args.proofs.RunLemmas.{journal_is}
use Rattle.s7_args.proofs.server.read_pipe.Goals as goal

pub returns-in_default : goal.returns-in_default
returns-in_default c =
    let made = c.in_ok-pipe_command.ensures in
    let fails = c.try_get_matches_from.ensures.kinds (ap is_simple_and_free made ∙ pipe_is.is_free) in
    let wrong = rw c.in_default.is at c.in_ok-matches.ensures.none in
    record { told = sym (ap (option_map pipe_of) (refused (codes "pipe") pipe_line pipe_is _ _ _ made fails wrong)); journal = tt }

pub returns : goal.returns
returns c =
    let made = c.in_ok-pipe_command.ensures in
    let fails = c.try_get_matches_from.ensures.kinds (ap is_simple_and_free made ∙ pipe_is.is_free) in
    let is_ok = rw c.in-Some.is at c.in_ok-matches.ensures.some in
    let m = c.in-Some.matches in
    let read = accepted (codes "pipe") pipe_line pipe_is _ _ _ m is_ok made fails c.try_get_matches_from.ensures.matches in
    let areas_is = text_or_is c.get_str.result _ c.unwrap_or.result _ _ c.unwrap_or.ensures
    (text_read (codes "pipe") pipe_line pipe_is _ m read areas.name c.get_str.result c.get_str.ensures) refl in
    let save_is = text_read (codes "pipe") pipe_line pipe_is _ m read save.name c.get_str-2.result c.get_str-2.ensures in
    let journal_read = journal_is _ m read c.get_one.result _ c.unwrap_or-2.ensures c.get_one.ensures.none c.get_one.ensures.value in
    let told : ◌≡◌ {A = ServerTold} _ (pipe_of read.given) = λ i. pipe (areas_is i) (save_is i) (journal_read.same i) in
    record { told = ap Some told ∙ sym (ap (option_map pipe_of) read.by_line); journal = (journal_read.least, journal_read.most) }
