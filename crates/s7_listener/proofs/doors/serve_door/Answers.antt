use Rattle.std.proofs.Common.{map, subst}
use Rattle.s7_turn.specs.Seats.{made}
use Rattle.s7_session.specs.LinkState.{first_link}
use Rattle.s7_listener.specs.Hosted.{AreHosted}
use Rattle.s7_listener.specs.SeatShown.{seat_told}
use Rattle.s7_listener.specs.Served.{told_of}
use Rattle.s7_listener.proofs.OverLemmas.{first_of_hall, covers, over_is_hosted}
use Rattle.s7_listener.proofs.StepLemmas.{if_ok_of}
use Rattle.s7_listener.proofs.doors.serve_door.Goals as goal

pub host-gathered-requires-clause-first : goal.host-gathered-requires-clause-first
host-gathered-requires-clause-first g c = λ k lives.
    let first = c.in-Ok-Ok.ensures.first in
    first_of_hall (g.M.Keeper.opened (made c.in-Ok-Ok.hall)) (g.M.Machine.limit (made c.in-Ok-Ok.hall)) (first_link c.args.guard)
    (seat_told c.in-Ok-Ok.seat) first.0 first.1 first.2

pub returns-in-Ok-clause-hosted : goal.returns-in-Ok-clause-hosted
returns-in-Ok-clause-hosted g c =
    let hall = c.in-Ok-Ok.hall in
    let hosted = if_ok_of _ c.host-gathered.result.0 c.in-Ok.gathered c.in-Ok.is c.host-gathered.ensures.hosted in
    let pipes = map g.L.Link.shows hosted.1 in
    let links = map (told_of g.L.Link.shows) c.in-Ok.gathered.links.items in
    let all = seat_told c.in-Ok.gathered.seat in
    let over = hosted.3 in
    let is = c.close.ensures.whole over.next over.gives (covers _ all pipes links over) in
    let at_made : AreHosted (g.M.Keeper.opened (made hall)) (g.M.Machine.limit (made hall)) (first_link c.args.guard) (g.M.Machine.history c.close.result) pipes links =
    over_is_hosted (g.M.Keeper.opened (made hall)) (g.M.Machine.limit (made hall)) (first_link c.args.guard) all (g.M.Machine.history c.close.result) pipes links over is.0 (c.close.ensures.numbered over.next over.gives) in (
      hosted.1,
      hosted.2,
      subst (λ s. AreHosted s (g.M.Machine.limit c.args.keeper) (first_link c.args.guard) (g.M.Machine.history c.close.result) pipes links) c.in-Ok-Ok.ensures.opened
          (subst (λ n. AreHosted (g.M.Keeper.opened (made hall)) n (first_link c.args.guard) (g.M.Machine.history c.close.result) pipes links) c.in-Ok-Ok.ensures.fixed.1 at_made),
    )
