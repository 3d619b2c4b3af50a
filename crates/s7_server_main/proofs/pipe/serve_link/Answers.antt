use Rattle.std.proofs.Common.{inl, ◌≤◌, refl, ap, sym, ◌∙◌, subst, arith, length, ◌∷◌, []}
use Rattle.std.proofs.lemmas.List.{length-map}
use Rattle.s7_turn.specs.Histories.{entry}
use Rattle.s7_plant.specs.declared.journal.Entry.{Entry}
use Rattle.s7_plant.specs.Books.{book_told, seen_of}
use Rattle.s7_plant.specs.State.{begins_with}
use Rattle.s7_session.specs.Books.{history_of, own}
use Rattle.s7_session.specs.Legal.{IsLegalBook}
use Rattle.s7_listener.proofs.ServedLemmas.{alone_and_shut, told_so}
use Rattle.s7_server_main.proofs.ServedLemmas.{untouched_book}
use Rattle.s7_server_main.proofs.WatchLemmas.{told_none}
use Rattle.s7_server_main.specs.Hosts.{first_of, piped_link}
use Rattle.s7_server_main.proofs.pipe.serve_link.Goals as goal

pub returns-in_default : goal.returns-in_default
returns-in_default g c =
    let book = c.args.book.now in
    let s = begins_with book.opening.areas in
    let legal = untouched_book book.opening.areas (book_told book) c.requires.empty c.requires.begins c.requires.plant piped_link in
    record {
      told = told_none (book_told book) (seen_of g.O.Observer.seen book) c.requires.empty;
      hosts = record {
        hosted = record {
          served = (
            record {
              number_is = refl;
              is_served = alone_and_shut s book.journal.limit (first_of book.opening.areas) (history_of (book_told book)) _ _ _ c.shutdown.ensures.shut;
              count = ap (λ h. length (own s piped_link h)) (sym c.requires.empty);
            },
            tt,
          );
          few = subst (λ h. length h ≤ book.journal.limit) (sym c.requires.empty) (omega arith);
          only = legal.only;
          different = legal.different;
          sum = legal.sum;
        };
        legal_book = legal;
      };
    }

pub returns : goal.returns
returns g c =
    let book = c.args.book.now in
    let new = c.serve_session-outcome.new.book in
    let s = begins_with book.opening.areas in
    let run = c.serve_session-outcome.ensures in
    let told : _ = c.entries-2.ensures in
    let legal = subst (λ n. IsLegalBook s book.journal.limit ((piped_link, n) ∷ []) (book_told new)) (sym told) run.legal_book in
    record {
      told = run.told;
      hosts = record {
        hosted = record {
          served = (
            record {
              number_is = refl;
              is_served = told_so s book.journal.limit (first_of book.opening.areas) (history_of (book_told new)) _ _ _ refl told c.last.ensures
                  (record { came = inl run.served; shut = run.shut });
              count = told ∙ run.served.legal.counted.count;
            },
            tt,
          );
          few = omega (arith, c.len.ensures.len, c.len.ensures.most, length-map new.journal.entries (λ (e : Entry). entry e.link e.ask), legal.limited);
          only = legal.only;
          different = legal.different;
          sum = legal.sum;
        };
        legal_book = legal;
      };
    }
