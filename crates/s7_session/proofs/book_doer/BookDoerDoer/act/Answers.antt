use Rattle.std.proofs.Common.{refl, ap}
use Rattle.s7_plant.specs.Books.{book_told, watches_of}
use Rattle.s7_plant.specs.Requests.{kept}
use Rattle.s7_plant.specs.Replies.{said_of}
use Rattle.s7_session.proofs.BookLemmas.{own_grows, goes_on_by_one, goes_on_by_none, told_on_by_one, told_on_by_none}
use Rattle.s7_session.proofs.book_doer.BookDoerDoer.act.Goals as goal

pub returns-in-Ok-clause-ok : goal.returns-in-Ok-clause-ok
returns-in-Ok-clause-ok g c =
    own_grows c.in-Ok.number (book_told c.args.self.now.book.now) (book_told c.step.new.self) c.args.self.now.link (kept c.args.ask) (said_of c.step.new.reply)
    c.in-Ok.ensures.number c.in-Ok.ensures.entered c.in-Ok.ensures.said c.step.ensures.opening

pub returns-in-Ok-clause-kept : goal.returns-in-Ok-clause-kept
returns-in-Ok-clause-kept g c =
    let old = book_told c.args.self.now.book.now in
    let new = book_told c.step.new.self in (
      refl,
      refl,
      goes_on_by_one old new c.args.self.now.link (kept c.args.ask) c.step.ensures.opening c.in-Ok.ensures.entered,
      told_on_by_one old new c.args.self.now.link c.args.ask _ _ c.in-Ok.ensures.entered c.in-Ok.ensures.observers,
    )

pub returns-in-Err-clause-kept : goal.returns-in-Err-clause-kept
returns-in-Err-clause-kept g c =
    let same = c.in-Err.ensures.err.1 in
    (refl, refl, goes_on_by_none _ _ c.args.self.now.link (ap book_told same), told_on_by_none _ _ _ _ (ap book_told same) (ap (watches_of g.O.Observer.seen) same))
