use Rattle.std.proofs.Common.{ap, length, refl, ◌∙◌}
use Rattle.s7_turn.specs.Seats.{made, seen, caller}
use Rattle.s7_session.specs.LinkState.{first_link}
use Rattle.s7_listener.proofs.OwnLemmas.{own_of_none}
use Rattle.s7_listener.proofs.ServedLemmas.{served_and_shut, alone_and_shut, told_so, told_as}
use Rattle.s7_listener.proofs.worker.serve_link.Goals as goal

pub returns-in_default-clause-count : goal.returns-in_default-clause-count
returns-in_default-clause-count g c =
    let seat = c.args.seat in
    c.shut.ensures.entries
    ∙ ap length (own_of_none (g.M.Keeper.opened (made c.args.hall.now)) (caller seat) (seen seat) c.requires.new)

pub returns-in_default-clause-served : goal.returns-in_default-clause-served
returns-in_default-clause-served g c =
    let s = g.M.Keeper.opened (made c.args.hall.now) in
    let limit = g.M.Machine.limit (made c.args.hall.now) in
    let first = first_link c.args.guard in
    told_as s limit first _ _ _ _ c.shut.ensures.told
    (alone_and_shut s limit first _ _ _ _ refl)

pub returns-clause-served : goal.returns-clause-served
returns-clause-served g c =
    let s = g.M.Keeper.opened (made c.args.hall.now) in
    let limit = g.M.Machine.limit (made c.args.hall.now) in
    let first = first_link c.args.guard in
    told_as s limit first _ _ _ _ c.shut-2.ensures.told
    (told_so s limit first _ _ _ _ c.caller-link.ensures c.entries-entries.ensures c.last-last.ensures
    (served_and_shut s limit first _ _ _ _ _ _ _ _ refl
    (c.serve_session-outcome.ensures.unshut first c.in-Ok.ensures.fresh)
    (c.serve_session-outcome.ensures.served first c.in-Ok.ensures.fresh)))
