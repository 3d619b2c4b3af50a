use Rattle.std.proofs.Common.{◌≡◌, ◌∷◌, [], map, ap, ◌∙◌, subst}
use mathlib.Core.List.{map-append}
use Rattle.s7_listener.specs.Benches.{HasServed}
use Rattle.s7_listener.specs.Served.{told_of}
use Rattle.s7_listener.proofs.StepLemmas.{kept_of, take_done, take_joined}
use Rattle.s7_listener.proofs.hosting.take_in.Goals as goal

pub returns-in-Done-clause-takes : goal.returns-in-Done-clause-takes
returns-in-Done-clause-takes g c = λ start pipes works gathering.
    let told = told_of g.L.Link.shows in
    take_done _ _ _ _ start (g.B.Bench.told c.args.seat) pipes c.args.work works (map told c.args.links.now.items) _ c.in-Done.served c.in-Done.is
    (ap (map told) c.push_reserved-in-Done.ensures.items ∙ map-append told c.args.links.now.items (c.in-Done.served ∷ [])) gathering

pub returns-in-Running-clause-takes : goal.returns-in-Running-clause-takes
returns-in-Running-clause-takes g c = λ start pipes works gathering.
    let told = told_of g.L.Link.shows in
    let worker = c.in-Running.worker in
    let served = c.join-back.result.1 in
    let at_its_bench : HasServed (g.B.Bench.terms worker.promise.bench.now) (g.B.Bench.told worker.promise.seat.value) (g.B.Bench.told c.join-back.result.0)
    (g.L.Link.shows worker.promise.line.value) (told served) = c.join-back.ensures.1 in
    let kept : worker.promise.bench.now ≡ c.args.bench.now = kept_of _ c.args.work worker c.in-Running.is c.requires.keeps in
    take_joined _ _ _ _ start (g.B.Bench.told c.args.seat) (g.B.Bench.told c.join-back.result.0) _ pipes c.args.work works (map told c.args.links.now.items) _ worker (told served)
    c.in-Running.is
    (ap (map told) c.push_reserved.ensures.items ∙ map-append told c.args.links.now.items (served ∷ []))
    (subst (λ b. HasServed (g.B.Bench.terms b) (g.B.Bench.told worker.promise.seat.value) (g.B.Bench.told c.join-back.result.0)
    (g.L.Link.shows worker.promise.line.value) (told served)) kept at_its_bench)
    c.meet.ensures.met gathering
