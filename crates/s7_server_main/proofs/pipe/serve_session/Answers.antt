use Rattle.std.proofs.Common.{sym}
use Rattle.s7_server_main.proofs.ServedLemmas.{shut_alone}
use Rattle.s7_server_main.proofs.WatchLemmas.{told_alone}
use Rattle.s7_server_main.specs.Hosts.{first_of}
use Rattle.s7_server_main.proofs.pipe.serve_session.Goals as goal

pub returns : goal.returns
returns g c =
    let kept = c.serve-outcome.ensures.kept in
    let opening = c.args.book.now.opening.areas in
    let alone =
    shut_alone opening _ _ _ _ _ c.serve-outcome.result _ _
    (c.serve-outcome.ensures.run (first_of opening) c.requires.fresh) c.requires.empty c.requires.begins kept.1 kept.2 c.shutdown.ensures.shut in
    let last = c.book-1.given.1 (sym kept.0) in
    let told =
    told_alone g.O.Observer.seen _ _ c.args.book.now.observers.items c.serve-outcome.new.doer.book.now.observers.items
    c.requires.empty kept.2.opening kept.3 in
    rw last (record { served = alone.link; legal_book = alone.legal_book; told = told; shut = alone.shut })
