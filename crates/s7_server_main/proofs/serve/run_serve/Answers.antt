use Rattle.std.proofs.Common.{ap, map, sym, ◌∙◌, Err}
use Rattle.s7_plant.specs.Books.{book_told}
use Rattle.s7_plant.specs.Observers.{fresh, told}
use Rattle.s7_listener.specs.Given.{HasFailed}
use Rattle.s7_server_main.specs.Told.{events_of}
use Rattle.s7_server_main.proofs.WatchLemmas.{all_fresh, told_each}
use Rattle.s7_script.specs.Naming.{naming}
use Rattle.s7_server_main.specs.Asked.{asked_told}
use Rattle.s7_server_main.specs.End.{ReadsNamed}
use Rattle.s7_server_main.proofs.FileLemmas.{door_ended, ends}
use Rattle.s7_server_main.proofs.serve.run_serve.Goals as goal

pub returns-in-Ok-serve_book-clause-ended : goal.returns-in-Ok-serve_book-clause-ended
returns-in-Ok-serve_book-clause-ended g c =
    let files = g.F.Files.shows in
    let out = g.U.Out.shows in
    let door = g.D.Door.shows in
    ends g.L.Link.shows (asked_told c.args.asked) (ReadsNamed (naming (asked_told c.args.asked).areas) (files c.args.files.now)
    × HasFailed c.args.port (door c.args.door.now) (door c.serve_book.new.door))
    c.in-Ok-serve_book.run' (files c.args.files.now) (files c.open_book.new.files) (files c.close.new.files)
    (out c.args.out.now) (out c.open_book.new.out) (out c.close.new.out) c.close.result c.in-Ok.ensures.unchanged
    c.in-Ok.ensures.silent c.close.ensures.ended

pub serve_book-requires-clause-fresh : goal.serve_book-requires-clause-fresh
serve_book-requires-clause-fresh g c =
    let same = c.in-Ok.ensures.observers in
    λ κs outlives. ap (map fresh) same ∙ all_fresh g.O.Observer.seen c.args.observers.items c.requires.fresh ∙ sym same

pub returns-in-Ok-serve_book-clause-told : goal.returns-in-Ok-serve_book-clause-told
returns-in-Ok-serve_book-clause-told g c =
    c.in-Ok-serve_book.ensures.told
    ∙ ap (map (λ s. told s (events_of (book_told c.in-Ok-serve_book.run'.book)))) c.in-Ok.ensures.observers
    ∙ told_each g.O.Observer.seen (events_of (book_told c.in-Ok-serve_book.run'.book)) c.args.observers.items

pub returns-in-Err-Door-clause-ended : goal.returns-in-Err-Door-clause-ended
returns-in-Err-Door-clause-ended g c =
    let files = g.F.Files.shows in
    let out = g.U.Out.shows in
    let door = g.D.Door.shows in
    door_ended g.row.O.Denot g.L.Link.shows (asked_told c.args.asked)
    (HasFailed c.args.port (door c.args.door.now) (door c.serve_book.new.door)) (book_told c.in-Ok.book)
    (files c.args.files.now) (files c.open_book.new.files) (out c.args.out.now) (out c.open_book.new.out)
    (out c.print_as.new.out) c.print_as.result c.in-Ok.ensures.opened
    (c.serve_book.ensures.failed (c.in-Err-Door.is ∙ ap Err c.in-Err-Door.field-0-is))
    c.in-Ok.ensures.silent c.print_as.ensures.ended c.print_as.ensures.line
