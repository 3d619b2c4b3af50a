use Rattle.std.proofs.Common.{ap, sym}
use Rattle.std.proofs.lemmas.Result.{IfOk-weaker}
use Rattle.s7_server_main.proofs.DoorLemmas.{failed, given, same, same_loan}
use Rattle.s7_server_main.proofs.serve.serve_book.Goals as goal

-- the loan that comes back is the door's, so what it was left with is what the door is left with

pub returns-clause-served : goal.returns-clause-served
returns-clause-served g c =
    let old = g.D.Door.shows c.args.door.now in
    let new = g.D.Door.shows c.host-lent.result.door.now in
    IfOk-weaker c.host-lent.new.run _ _
    (λ run s.
    let last = c.door-1.given.1 (sym (same_loan _ _ old.lent new.lent s.given.gives.lent)) in
    rw last
    (record {
      lines = s.lines;
      given = given _ _ old new c.args.port c.args.links s.lines run.door_failed s.given;
      hosts = s.hosts;
    }))
    c.host-lent.ensures.served

pub returns-clause-failed : goal.returns-clause-failed
returns-clause-failed g c =
    let old = g.D.Door.shows c.args.door.now in
    let new = g.D.Door.shows c.host-lent.result.door.now in
    λ is.
    let h = c.host-lent.ensures.failed is in
    let last = c.door-1.given.1 (sym (same_loan _ _ old.lent new.lent h.gives.lent)) in
    rw last (failed _ _ old new c.args.port h)

pub returns-clause-memory : goal.returns-clause-memory
returns-clause-memory g c =
    let old = g.D.Door.shows c.args.door.now in
    let new = g.D.Door.shows c.host-lent.result.door.now in
    λ is.
    let h = c.host-lent.ensures.memory is in
    let last = c.door-1.given.1 (sym (same_loan _ _ old.lent new.lent (ap (λ d. d.lent) h))) in
    rw last (same _ _ old new h)
