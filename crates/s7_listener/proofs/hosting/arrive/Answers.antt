use Rattle.std.proofs.Common.{refl}
use Rattle.s7_listener.proofs.StepLemmas.{gives_more, gives_at_end, gives_at_fault, one_more, no_more}
use Rattle.s7_listener.proofs.hosting.arrive.Goals as goal

pub returns-in-Link-clause-goes_on : goal.returns-in-Link-clause-goes_on
returns-in-Link-clause-goes_on g c = λ came port before lines serving.
    let line = c.in-Link.line in
    let old = g.D.Door.shows c.args.door.now in
    let now = g.D.Door.shows c.next.new.self in
    let answer = c.in-Link.ensures in
    let gives = gives_more port before old now lines line serving.gives answer.heard answer.listened answer.lent answer.gives in (
      line,
      one_more _ _ _ _ port before old now (g.B.Bench.told c.args.seat) (g.B.Bench.told c.split-own.new.seat) (g.B.Bench.told c.split-own.result) _
          lines line c.args.works.now.items _ serving gives (answer.failed_no_other (λ e. cc)) c.split-own.ensures.split c.admit.ensures.next c.admit.ensures.goes_on,
    )

pub returns-in-End-clause-stops : goal.returns-in-End-clause-stops
returns-in-End-clause-stops g c = λ port before lines serving.
    let old = g.D.Door.shows c.args.door.now in
    let now = g.D.Door.shows c.next.new.self in
    let answer = c.in-End.ensures in
    let gives = gives_at_end port before old now lines serving.gives serving.unfailed answer.heard answer.listened answer.lent answer.gives
    (answer.failed_no_other (λ e. cc)) in (
      no_more _ _ _ _ port before old now (g.B.Bench.told c.args.seat) (g.B.Bench.told c.split-own.new.seat) (g.B.Bench.told c.split-own.result) _
          lines c.args.works.now.items serving gives.0 c.split-own.ensures.split c.meet.ensures.met,
      gives.1,
    )

pub returns-in-Failed-clause-stops : goal.returns-in-Failed-clause-stops
returns-in-Failed-clause-stops g c = λ port before lines serving.
    let old = g.D.Door.shows c.args.door.now in
    let now = g.D.Door.shows c.next.new.self in
    let answer = c.in-Failed.ensures in
    let gives = gives_at_fault port before old now lines serving.gives serving.unfailed answer.heard answer.listened answer.lent answer.gives
    (answer.failed refl) in (
      no_more _ _ _ _ port before old now (g.B.Bench.told c.args.seat) (g.B.Bench.told c.split-own.new.seat) (g.B.Bench.told c.split-own.result) _
          lines c.args.works.now.items serving gives.0 c.split-own.ensures.split c.meet-in-Failed.ensures.met,
      gives.1,
    )
