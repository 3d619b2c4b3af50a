use Rattle.std.proofs.Common.{◌∙◌, sym}
use Rattle.s7_listener.proofs.StepLemmas.{accepted_under_way, begins, heard_gives, is_over, given_in_all, failed_at_once, not_failed}
use Rattle.s7_listener.proofs.hosting.host_in.Goals as goal

pub returns-clause-hosted : goal.returns-clause-hosted
returns-clause-hosted g c =
    let before = g.D.Door.shows c.args.door in
    let gives = heard_gives c.args.port before (g.D.Door.shows c.listen.new.self) c.listen.ensures.heard c.listen.ensures.listened c.listen.ensures.lent c.listen.ensures.coming in
    let unfailed = not_failed c.listen.result c.if-is_err.ensures.negation c.listen.ensures.failed_no_other in
    let accepted = c.accept-seat.ensures.accepted c.args.port before (begins _ _ _ _ c.args.port before _ (g.B.Bench.told c.args.seat) _ c.requires.first c.in-Ok.ensures.items gives unfailed) in (
      c.gather-seat.ensures.hall,
      accepted.0,
      given_in_all _ _ _ _ c.args.port _ _ before _ _ accepted.0 _ c.accept-seat.result.1 _ _ c.from-2.ensures c.has_failed-door_failed.ensures
          (c.len.ensures ∙ c.accept-seat.new.works.ok.0) (sym c.is_without_link.ensures ∙ c.if-is_without_link.false) accepted.1,
      is_over _ _ _ _ c.args.port _ before _ (g.B.Bench.told c.accept-seat.result.0) _ accepted.0 _ _ c.accept-seat.result.1 accepted.1
          (c.gather-seat.ensures.gathered _ (accepted_under_way _ _ _ _ c.args.port _ before _ (g.B.Bench.told c.accept-seat.result.0) accepted.0 _ c.accept-seat.result.1 accepted.1)),
    )

pub returns-then-is_without_link-clause-failed : goal.returns-then-is_without_link-clause-failed
returns-then-is_without_link-clause-failed g c = λ failed.
    let before = g.D.Door.shows c.args.door in
    let gives = heard_gives c.args.port before (g.D.Door.shows c.listen.new.self) c.listen.ensures.heard c.listen.ensures.listened c.listen.ensures.lent c.listen.ensures.coming in
    let unfailed = not_failed c.listen.result c.if-is_err.ensures.negation c.listen.ensures.failed_no_other in
    let accepted = c.accept-seat.ensures.accepted c.args.port before (begins _ _ _ _ c.args.port before _ (g.B.Bench.told c.args.seat) _ c.requires.first c.in-Ok.ensures.items gives unfailed) in
    failed_at_once _ _ _ _ c.args.port _ before _ _ accepted.0 _ c.accept-seat.result.1 _ _ c.has_failed-door_failed.ensures
    (c.len.ensures ∙ c.accept-seat.new.works.ok.0) (sym c.is_without_link.ensures ∙ c.if-is_without_link.true) accepted.1
