use Rattle.std.proofs.Common.{ap, map, ◌∙◌}
use Rattle.s7_plant.specs.Books.{book_told}
use Rattle.s7_plant.specs.Observers.{told}
use Rattle.s7_server_main.specs.Asked.{asked_told}
use Rattle.s7_server_main.specs.Told.{events_of}
use Rattle.s7_server_main.proofs.WatchLemmas.{told_each}
use Rattle.s7_server_main.proofs.FileLemmas.{ends}
use Rattle.s7_server_main.proofs.pipe.run_pipe.Goals as goal

pub returns-in-Ok-serve_book-clause-ended : goal.returns-in-Ok-serve_book-clause-ended
returns-in-Ok-serve_book-clause-ended g c =
    let files = g.F.Files.shows in
    let out = g.U.Out.shows in
    ends g.L.Link.shows (asked_told c.args.asked) ⊥ c.in-Ok-serve_book.run' (files c.args.files.now)
    (files c.open_book.new.files) (files c.close.new.files) (out c.args.out.now) (out c.open_book.new.out)
    (out c.close.new.out) c.close.result c.in-Ok.ensures.unchanged c.in-Ok.ensures.silent c.close.ensures.ended

pub returns-in-Ok-serve_book-clause-told : goal.returns-in-Ok-serve_book-clause-told
returns-in-Ok-serve_book-clause-told g c =
    c.in-Ok-serve_book.ensures.told
    ∙ ap (map (λ s. told s (events_of (book_told c.in-Ok-serve_book.run'.book)))) c.in-Ok.ensures.observers
    ∙ told_each g.O.Observer.seen (events_of (book_told c.in-Ok-serve_book.run'.book)) c.args.observers.items
