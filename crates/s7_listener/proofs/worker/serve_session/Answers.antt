use Rattle.std.proofs.Common.{sym, ap, ◌∙◌}
use Rattle.s7_turn.specs.Seats.{made, seen, caller}
use Rattle.s7_session.specs.Books.{own}
use Rattle.s7_listener.proofs.OwnLemmas.{own_of_none}
use Rattle.s7_listener.proofs.ServedLemmas.{served_link}
use Rattle.s7_listener.proofs.worker.serve_session.Goals as goal

pub returns-clause-served : goal.returns-clause-served
returns-clause-served g c =
    let seat = c.args.seat.now in
    let s = g.M.Keeper.opened (made c.args.hall.now) in
    let limit = g.M.Machine.limit (made c.args.hall.now) in
    let new = c.serve.new.doer.seat.now in
    let kept = c.serve.ensures.kept in
    let last = c.seat-1.given.1 (sym kept.1) in
    λ first fresh.
    rw last (served_link _ _ _ _ _ s limit first (seen new) (caller seat) _ _ _ _ c.serve.result _ _
    (c.serve.ensures.run first fresh)
    (own_of_none s (caller seat) (seen seat) c.requires.new)
    (λ entries e. e ∙ (λ i. own (g.M.Keeper.opened (made (kept.0 i))) (kept.2.same_caller i) (seen new)))
    (λ e a b full. full)
    (λ a full. full ∙ ap (λ hall. g.M.Machine.limit (made hall)) kept.0)
    (λ e a lacks. lacks))

pub returns-clause-unshut : goal.returns-clause-unshut
returns-clause-unshut g c = λ first fresh. (c.serve.ensures.run first fresh).shut
