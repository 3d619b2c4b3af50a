use Rattle.std.proofs.Common.{ap, refl, sym, codes, option_map, Some, ◌≡◌, ◌∙◌}
use Rattle.clap.specs.Words.{is_simple_and_free}
use Rattle.s7_args.specs.Fields.{areas}
use Rattle.s7_args.specs.Server.{ServerTold, save, serve, serve_line, serve_of}
use Rattle.s7_args.proofs.Commands.{accepted, refused, text_or_is, text_read}
use Rattle.s7_args.proofs.Lines.{serve_is}
use Rattle.s7_args.proofs.RunLemmas.{serve_port_is, links_is, serve_journal_is, at_entry_is}
use Rattle.s7_args.proofs.server.read_serve.Goals as goal

pub returns-in_default : goal.returns-in_default
returns-in_default c =
    let made = c.in_ok-serve_command.ensures in
    let fails = c.try_get_matches_from.ensures.kinds (ap is_simple_and_free made ∙ serve_is.is_free) in
    let wrong = rw c.in_default.is at c.in_ok-matches.ensures.none in
    record { told = sym (ap (option_map serve_of) (refused (codes "serve") serve_line serve_is _ _ _ made fails wrong)); journal = tt; port = tt; links = tt }

pub returns : goal.returns
returns c =
    let made = c.in_ok-serve_command.ensures in
    let fails = c.try_get_matches_from.ensures.kinds (ap is_simple_and_free made ∙ serve_is.is_free) in
    let is_ok = rw c.in-Some.is at c.in_ok-matches.ensures.some in
    let m = c.in-Some.matches in
    let read = accepted (codes "serve") serve_line serve_is _ _ _ m is_ok made fails c.try_get_matches_from.ensures.matches in
    let areas_is = text_or_is c.get_str.result _ c.unwrap_or-areas.result _ _ c.unwrap_or-areas.ensures
    (text_read (codes "serve") serve_line serve_is _ m read areas.name c.get_str.result c.get_str.ensures) refl in
    let port_read = serve_port_is _ m read c.get_one.result _ c.unwrap_or-port.ensures c.get_one.ensures.none c.get_one.ensures.value in
    let links_read = links_is _ m read c.get_one-2.result _ c.unwrap_or-links.ensures c.get_one-2.ensures.none c.get_one-2.ensures.value in
    let save_is = text_read (codes "serve") serve_line serve_is _ m read save.name c.get_str-save.result c.get_str-save.ensures in
    let journal_read = serve_journal_is _ m read c.get_one-3.result _ c.unwrap_or-journal.ensures c.get_one-3.ensures.none c.get_one-3.ensures.value in
    let entry_is = at_entry_is _ m read c.get_one-4.result c.get_one-4.ensures.none c.get_one-4.ensures.value in
    let told : ◌≡◌ {A = ServerTold} _ (serve_of read.given) = λ i. serve (areas_is i) (port_read.same i) (links_read.same i) (save_is i) (journal_read.same i) (entry_is i) in
    record {
      told = ap Some told ∙ sym (ap (option_map serve_of) read.by_line);
      journal = (journal_read.least, journal_read.most);
      port = (port_read.least, port_read.most);
      links = (links_read.least, links_read.most);
    }
