use Rattle.std.proofs.Common.{ℕ, ◌<◌, length, map, ap, arith}
use Rattle.std.specs.Prelude.{Result, Ok, Err, IfOk}
use Rattle.s7_plant.specs.Books.{BookState}
use Rattle.s7_bank.specs.Books.{BookAt}
use Rattle.s7_bank.specs.Opening.{OpenedAt}
use Rattle.s7_bank.proofs.BookLemmas.{book_at}
use Rattle.s7_bank.proofs.books.Banks+Book+O.new.Goals as goal

-- each result that is so is also so in another way
on_each : {A E : Type 0} (r : Result A E) (P Q : A → Type 0) → ((a : A) → P a → Q a) → IfOk r P → IfOk r Q
on_each (Ok a) P Q step is = step a is
on_each (Err e) P Q step is = tt

pub over-requires : goal.over-requires
over-requires g c =
    let many = c.in_ok-books.ensures.many in
    (omega arith, (omega (arith, many, c.requires.some_banks), (omega (arith, many, c.requires.few_banks), λ bank machine e. (c.in_ok-books.ensures.books bank machine e).1)))

pub returns-clause-books : goal.returns-clause-books
returns-clause-books g c =
    let seen = g.O.Observer.seen in
    let observers = map seen c.args.observers.items in
    let books = c.in_ok-books.books.items in
    let many = c.in_ok-books.ensures.many in
    on_each c.over.result
    (λ r. (bank : ℕ) → bank < length books → OpenedAt books r.0.halls.items r.1.seats.items bank)
    (λ r. (bank : ℕ) → bank < c.args.banks → BookAt seen c.args.banks bank c.args.limit c.args.areas c.args.blocks observers r.0.halls.items r.1.seats.items)
    (λ r so bank l.
    book_at seen c.args.banks c.args.limit c.args.areas c.args.blocks observers books r.0.halls.items r.1.seats.items bank
    (λ a b e. (ap (λ (s : BookState). s.plant) e, ap (λ (s : BookState). s.seen) e)) (λ a b e. e)
    (λ i book e. (c.in_ok-books.ensures.books i book e).0) (so bank (omega (arith, l, many))))
    c.over.ensures.banks
