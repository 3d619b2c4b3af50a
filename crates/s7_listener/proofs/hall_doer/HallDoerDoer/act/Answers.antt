use Rattle.std.proofs.Common.{◌≡◌, ◌∷◌, ◌++◌, [], length, min, sym, ap, ◌∙◌, subst}
use Rattle.s7_turn.specs.Histories.{has, calls, entry, replay}
use Rattle.s7_turn.specs.Seats.{made, seen, caller, callers}
use Rattle.s7_turn.proofs.Lists.{calls_same}
use Rattle.s7_plant.specs.declared.request.Ask.{Ask}
use Rattle.s7_plant.specs.Answers.{IsReplyOf}
use Rattle.s7_plant.specs.Journals.{after_call}
use Rattle.s7_plant.specs.Replies.{said_of}
use Rattle.s7_plant.specs.Requests.{kept}
use Rattle.s7_session.specs.Books.{own}
use Rattle.s7_listener.proofs.OwnLemmas.{own_agrees, own_grows}
use Rattle.s7_listener.proofs.hall_doer.HallDoerDoer.act.Goals as goal

pub invariant_of-self-in-Err-1 : goal.invariant_of-self-in-Err-1
invariant_of-self-in-Err-1 g c =
    let old = c.args.self.now in
    let new = c.act.new.seat in
    let same = c.act.ensures.seat in
    record {
      of = same.0;
      named = (λ i. has (same.2 i) (same.1 i)) ∙ old.named;
      counted = old.counted ∙ ap (λ places. min (length places) 18446744073709551615)
          (sym (ap (λ n. calls n (seen new)) same.1
          ∙ calls_same (seen old.seat.now) (seen new) (callers old.seat.now) (caller old.seat.now) old.named c.in-Err.ensures.full.3));
    }

pub returns-in-Ok-clause-ok : goal.returns-in-Ok-clause-ok
returns-in-Ok-clause-ok g c =
    let old = c.args.self.now in
    let seat = old.seat.now in
    let m = g.M.Machine in
    let machine = made old.hall.now in
    let s = g.M.Keeper.opened machine in
    let ask = kept c.args.ask in
    let same = c.act.ensures.seat in
    let e = c.in-Ok.ensures.entered in
    let keeps : m.kept c.args.ask ≡ ask = g.met.M.Keeper.keeps_asks c.args.ask in
    let reply = c.act.new.reply in
    let is : IsReplyOf (replay after_call s e.0) ask reply =
    g.met.M.Keeper.answers machine e.0 (caller seat) ask reply
    (subst (λ (a : Ask). m.gives (replay m.after (m.opening machine) e.0) (caller seat) a reply) keeps e.5) in
    let seen_is : seen c.act.new.seat ≡ e.0 ++ entry (caller seat) ask ∷ [] =
    e.1 ∙ ap (λ (a : Ask). e.0 ++ entry (caller seat) a ∷ []) keeps in
    λ entries mine.
    own_grows s (caller seat) (callers seat) (seen seat) e.0 c.in-Ok.receipt.number ask (said_of reply)
    old.named e.4 e.2 is.said entries mine
    ∙ (λ i. own s (sym same.1 i) (sym seen_is i))

pub returns-in-Err-clause-err : goal.returns-in-Err-clause-err
returns-in-Err-clause-err g c =
    let old = c.args.self.now in
    let seat = old.seat.now in
    let new = c.act.new.seat in
    let same = c.act.ensures.seat in
    let s = g.M.Keeper.opened (made old.hall.now) in
    λ entries mine.
    mine
    ∙ sym (own_agrees s (caller seat) (callers seat) (seen seat) (seen new) old.named c.in-Err.ensures.full.3)
    ∙ ap (λ n. own s n (seen new)) (sym same.1)
