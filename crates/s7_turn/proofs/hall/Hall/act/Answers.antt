use Rattle.std.proofs.Common.{◌≡◌, ◌<◌, ℕ, [], ◌∷◌, ◌++◌, length, Some, None, ap, sym, ◌∙◌, subst}
use Rattle.s7_turn.specs.declared.view.Stage.TheVariants.{Idle, Took}
use Rattle.s7_turn.specs.Histories.{has, entry, Agrees, AddedBy, calls, replay}
use Rattle.s7_turn.specs.Turns.{at_stage}
use Rattle.s7_turn.proofs.Lists.{step_added, calls_grow, calls_none, below_added}
use Rattle.s7_turn.proofs.hall.Hall.act.Goals as goal

pub give-requires-clause-took : goal.give-requires-clause-took
give-requires-clause-took g c = let v = c.args.seat.now.place.me.0 in let w = c.wait_turn.ensures.called in let t = c.take-machine.ensures.took in let history = g.M.Machine.history in let h = history c.take-machine.result.value in
    let taken : c.take-machine.new.place.me ≡ (at_stage v (Took t.0 h), (0, None) ∷ []) = t.1 ∙ (λ i. (at_stage (w.1 i).0 (Took t.0 h), (0, None) ∷ [])) in
    let was = c.deref_mut.ensures.value in let own = c.args.seat.now.own.0 in
    let added : AddedBy v.caller h (history c.step-done.new.self) = subst (λ (x : ℕ × g.row.M.Denot). AddedBy x.0 (history x.1) (history c.step-done.new.self)) (λ i. (sym own i, was i))
    (step_added history g.M.Machine.limit c.deref_mut.result.now c.step-done.new.self c.args.seat.now.caller (g.M.Machine.kept c.args.request) _ _ _ c.step-done.result c.step-done.ensures.step) in
    (ap (λ m. m.1) taken, (t.0, h, ap (λ m. m.0.stage) taken, subst (λ (k : ℕ). AddedBy k h (history c.step-done.new.self)) (sym (ap (λ m. m.0.caller) taken)) added))

pub give-requires-clause-origin : goal.give-requires-clause-origin
give-requires-clause-origin g c = let m = g.M.Machine in let w = c.wait_turn.ensures.called in let t = c.take-machine.ensures.took in let was = c.deref_mut.ensures.value in let hall = c.requires.hall.1 in
    let from = c.take-machine.ensures.origin _ (ap (λ m. m.0.origin) w.1 ∙ hall) in let fixed = c.step-done.ensures.fixed in
    let replayed = ap m.state was ∙ (from.2 ∙ (λ i. replay m.after (m.opening (sym was i)) (m.history (sym was i)))) in
    (_, ap (λ m. m.0.origin) t.1 ∙ (ap (λ m. m.0.origin) w.1 ∙ hall), (fixed.0 ∙ (ap m.opening was ∙ from.0), fixed.1 ∙ (ap m.limit was ∙ from.1), c.step-done.ensures.replayed replayed, c.step-done.ensures.holds (subst m.holds (sym was) from.3)))

pub invariant_of-seat : goal.invariant_of-seat
invariant_of-seat g c = let old = c.args.seat.now in let v = old.place.me.0 in let w = c.wait_turn.ensures.called in let t = c.take-machine.ensures.took in let history = g.M.Machine.history in let h = history c.take-machine.result.value in
    let h' = history c.step-done.new.self in
    let given : c.give.new.place.me ≡ (record v { seen = h'; stage = Idle }, []) = c.give.ensures.gave ∙ ((λ i. (record (t.1 i).0 { seen = h'; stage = Idle }, [])) ∙ (λ i. (record (w.1 i).0 { seen = h'; stage = Idle }, []))) in
    let was = c.deref_mut.ensures.value in
    let added : AddedBy v.caller h h' = subst (λ (x : ℕ × g.row.M.Denot). AddedBy x.0 (history x.1) h') (λ i. (sym old.own.0 i, was i))
    (step_added history g.M.Machine.limit c.deref_mut.result.now c.step-done.new.self c.args.seat.now.caller (g.M.Machine.kept c.args.request) _ _ _ c.step-done.result c.step-done.ensures.step) in
    let before : (n : ℕ) → c.give.new.place.me.0.next ≡ Some n → v.next ≡ Some n = λ n e. sym (ap (λ m. m.0.next) given) ∙ e in record {
      own = (ap (λ m. m.0.caller) given ∙ old.own.0, ap (λ m. m.0.next) given ∙ old.own.1);
      idle = (ap (λ m. m.0.stage) given, ap (λ m. m.1) given);
      stands = ap (λ m. has m.0.callers m.0.caller) given ∙ old.stands;
      fresh = λ n x e l. ap (λ m. calls x m.0.seen) given
          ∙ calls_none h' n x (below_added h h' n v.caller (c.take-machine.ensures.numbered n (ap (λ m. m.0.next) w.1 ∙ before n e)) (old.below n v.caller (before n e) old.stands) added) l;
      below = λ n x e k. old.below n x (before n e) (sym (ap (λ m. has m.0.callers x) given) ∙ k);
    }

pub returns-in-Ok-clause-entered : goal.returns-in-Ok-clause-entered
returns-in-Ok-clause-entered g c = let old = c.args.seat.now in let v = old.place.me.0 in let w = c.wait_turn.ensures.called in let t = c.take-machine.ensures.took in let history = g.M.Machine.history in let h = history c.take-machine.result.value in
    let h' = history c.step-done.new.self in let kept = g.M.Machine.kept c.args.request in let machine = c.deref_mut.result.now in
    let given : c.give.new.place.me ≡ (record v { seen = h'; stage = Idle }, []) = c.give.ensures.gave ∙ ((λ i. (record (t.1 i).0 { seen = h'; stage = Idle }, [])) ∙ (λ i. (record (w.1 i).0 { seen = h'; stage = Idle }, []))) in
    let was = c.deref_mut.ensures.value in let s = c.in-Ok.ensures.step in let from = c.take-machine.ensures.origin _ (ap (λ m. m.0.origin) w.1 ∙ c.requires.hall.1) in
    let agrees : Agrees v.seen v.callers h = subst (λ m. Agrees m.0.seen m.0.callers h) w.1 c.take-machine.ensures.agrees in
    let seen : c.give.new.place.me.0.seen ≡ h ++ entry v.caller kept ∷ [] = ap (λ m. m.0.seen) given ∙ (s.2 ∙ (λ i. history (was i) ++ entry (sym old.own.0 i) kept ∷ [])) in
    let long : length h ≡ c.in-Ok.number = ap (λ m. length (history m)) (sym was) ∙ sym s.0 in (
      h,
      seen,
      long,
      subst (λ (l : ℕ). c.in-Ok.number < l) (ap g.M.Machine.limit was ∙ from.1) s.1,
      agrees,
      subst (λ (x : g.M.Machine.State × ℕ). g.M.Machine.gives x.0 x.1 kept c.step-done.new.reply)
          (λ i. ((ap g.M.Machine.state was ∙ (from.2 ∙ (λ j. replay g.M.Machine.after (from.0 j) h))) i, sym old.own.0 i)) s.3,
      ap (calls v.caller) seen ∙ (calls_grow v.seen h v.callers v.caller kept old.stands agrees ∙ ap (λ (n : ℕ). calls v.caller v.seen ++ n ∷ []) long),
    )
