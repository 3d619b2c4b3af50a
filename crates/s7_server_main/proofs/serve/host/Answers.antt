use Rattle.std.proofs.Common.{ap, length, ◌∙◌}
use Rattle.s7_plant.specs.Books.{BookState, book_told, seen_of}
use Rattle.s7_plant.specs.State.{state_of}
use Rattle.s7_session.specs.Books.{history_of}
use Rattle.s7_session.specs.LinkState.{first_link}
use Rattle.s7_server_main.proofs.ServedLemmas.{hosts_from}
use Rattle.s7_server_main.proofs.WatchLemmas.{told_hosted}
use Rattle.s7_server_main.proofs.serve.host.Goals as goal
use Rattle.s7_server_main.proofs.serve.host.Goals.{in-Ok, in-Err}

pub returns-clause-served : goal.returns-clause-served
returns-clause-served g c =
    elim c.match-hosted.branch [
      | in-Ok w ↦
          let fixed = rw w.in-Ok.is at c.serve_door-hosted.ensures.fixed in
          let hosted = rw w.in-Ok.is at c.serve_door-hosted.ensures.hosted in
          let book = book_told w.in-Ok.hosted.keeper in
          rw w.t-20-is (record {
            lines = hosted.0;
            given = hosted.1;
            hosts = hosts_from c.args.book.opening.areas c.args.book.journal.limit _ _ book _ _ c.requires.begins
                (ap first_link c.guard-guard.ensures) hosted.2
                (ap (λ (s : BookState). s.plant) fixed.0 ∙ c.requires.begins) fixed.1;
          })
      | in-Err w ↦ rw w.t-20-is tt
    ]

pub returns-clause-told : goal.returns-clause-told
returns-clause-told g c =
    elim c.match-hosted.branch [
      | in-Ok w ↦
          let fixed = rw w.in-Ok.is at c.serve_door-hosted.ensures.fixed in
          let replayed = rw w.in-Ok.is at c.serve_door-hosted.ensures.replayed in
          rw w.t-20-is
          (told_hosted (state_of w.in-Ok.hosted.keeper.opening) (history_of (book_told w.in-Ok.hosted.keeper))
          (seen_of g.O.Observer.seen w.in-Ok.hosted.keeper) (seen_of g.O.Observer.seen c.args.book)
          (state_of w.in-Ok.hosted.keeper.plant) (length w.in-Ok.hosted.keeper.journal.entries) replayed (ap (λ (s : BookState). s.seen) fixed.0) c.requires.fresh)
      | in-Err w ↦ rw w.t-20-is tt
    ]
