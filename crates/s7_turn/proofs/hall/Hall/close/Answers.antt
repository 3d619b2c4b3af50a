use Rattle.std.proofs.Common.{◌≡◌, ◌<◌, true, ap, sym, ◌∙◌, subst, is_some, Some}
use mathlib.Core.Option.{some-injective}
use Rattle.s7_turn.specs.Histories.{has, Each, Agrees, replay}
use Rattle.s7_turn.proofs.Lists.{all_seen, Each-weaker}
use Rattle.s7_turn.proofs.Seating.{ends, same_some}
use Rattle.s7_turn.proofs.hall.Hall.close.Goals as goal

pub unwrap-machine-requires : goal.unwrap-machine-requires
unwrap-machine-requires g c = let w = c.wait_turn.ensures.called in let f = ends _ _ _ _ _ w.0 _ _ (ap (λ m. m.0.stage) w.1) c.close_with-closed.ensures.values.2 in
    ap is_some (some-injective c.take.result (Some f.0) (sym c.take.ensures.value ∙ f.1))

pub returns-clause-fixed : goal.returns-clause-fixed
returns-clause-fixed g c = let w = c.wait_turn.ensures.called in let f = ends _ _ _ _ _ w.0 _ _ (ap (λ m. m.0.stage) w.1) c.close_with-closed.ensures.values.2 in
    let got : f.0 ≡ c.unwrap-machine.result = same_some _ f.0 c.unwrap-machine.result (sym (some-injective c.take.result (Some f.0) (sym c.take.ensures.value ∙ f.1)) ∙ c.unwrap-machine.ensures) in
    let same : c.into_inner.result ≡ f.0.value = c.into_inner.ensures ∙ ap (λ b. b.value) (sym got) in let from = f.3 _ (ap (λ m. m.0.origin) w.1 ∙ c.requires.hall.1) in
    (ap g.M.Machine.opening same ∙ from.0, ap g.M.Machine.limit same ∙ from.1)

pub returns-clause-state : goal.returns-clause-state
returns-clause-state g c = let m = g.M.Machine in let w = c.wait_turn.ensures.called in let f = ends _ _ _ _ _ w.0 _ _ (ap (λ m. m.0.stage) w.1) c.close_with-closed.ensures.values.2 in
    let got : f.0 ≡ c.unwrap-machine.result = same_some _ f.0 c.unwrap-machine.result (sym (some-injective c.take.result (Some f.0) (sym c.take.ensures.value ∙ f.1)) ∙ c.unwrap-machine.ensures) in
    let same : c.into_inner.result ≡ f.0.value = c.into_inner.ensures ∙ ap (λ b. b.value) (sym got) in let from = f.3 _ (ap (λ m. m.0.origin) w.1 ∙ c.requires.hall.1) in
    ap m.state same ∙ (from.2 ∙ (λ i. replay m.after (m.opening (sym same i)) (m.history (sym same i))))

pub returns-clause-holds : goal.returns-clause-holds
returns-clause-holds g c = let m = g.M.Machine in let w = c.wait_turn.ensures.called in let f = ends _ _ _ _ _ w.0 _ _ (ap (λ m. m.0.stage) w.1) c.close_with-closed.ensures.values.2 in
    let got : f.0 ≡ c.unwrap-machine.result = same_some _ f.0 c.unwrap-machine.result (sym (some-injective c.take.result (Some f.0) (sym c.take.ensures.value ∙ f.1)) ∙ c.unwrap-machine.ensures) in
    let same : c.into_inner.result ≡ f.0.value = c.into_inner.ensures ∙ ap (λ b. b.value) (sym got) in let from = f.3 _ (ap (λ m. m.0.origin) w.1 ∙ c.requires.hall.1) in
    subst m.holds (sym same) from.3

pub returns-clause-agrees : goal.returns-clause-agrees
returns-clause-agrees g c = let w = c.wait_turn.ensures.called in let f = ends _ _ _ _ _ w.0 _ _ (ap (λ m. m.0.stage) w.1) c.close_with-closed.ensures.values.2 in
    let got : f.0 ≡ c.unwrap-machine.result = same_some _ f.0 c.unwrap-machine.result (sym (some-injective c.take.result (Some f.0) (sym c.take.ensures.value ∙ f.1)) ∙ c.unwrap-machine.ensures) in
    let same : f.0.value ≡ c.into_inner.result = ap (λ b. b.value) got ∙ sym c.into_inner.ensures in let v = c.args.seat.place.me.0 in
    subst (λ (m : g.row.M.Denot). Agrees v.seen v.callers (g.M.Machine.history m)) same (subst (λ m. Agrees m.0.seen m.0.callers (g.M.Machine.history f.0.value)) w.1 f.2)

pub returns-clause-numbered : goal.returns-clause-numbered
returns-clause-numbered g c = let w = c.wait_turn.ensures.called in let f = ends _ _ _ _ _ w.0 _ _ (ap (λ m. m.0.stage) w.1) c.close_with-closed.ensures.values.2 in
    let got : f.0 ≡ c.unwrap-machine.result = same_some _ f.0 c.unwrap-machine.result (sym (some-injective c.take.result (Some f.0) (sym c.take.ensures.value ∙ f.1)) ∙ c.unwrap-machine.ensures) in
    let same : f.0.value ≡ c.into_inner.result = ap (λ b. b.value) got ∙ sym c.into_inner.ensures in
    λ n e. subst (λ (m : g.row.M.Denot). Each (λ e. e.caller < n) (g.M.Machine.history m)) same (f.4 n (ap (λ m. m.0.next) w.1 ∙ e))

pub returns-clause-whole : goal.returns-clause-whole
returns-clause-whole g c = let w = c.wait_turn.ensures.called in let f = ends _ _ _ _ _ w.0 _ _ (ap (λ m. m.0.stage) w.1) c.close_with-closed.ensures.values.2 in
    let got : f.0 ≡ c.unwrap-machine.result = same_some _ f.0 c.unwrap-machine.result (sym (some-injective c.take.result (Some f.0) (sym c.take.ensures.value ∙ f.1)) ∙ c.unwrap-machine.ensures) in
    let same : f.0.value ≡ c.into_inner.result = ap (λ b. b.value) got ∙ sym c.into_inner.ensures in let v = c.args.seat.place.me.0 in
    let agrees : Agrees v.seen v.callers (g.M.Machine.history f.0.value) = subst (λ m. Agrees m.0.seen m.0.callers (g.M.Machine.history f.0.value)) w.1 f.2 in
    λ n e all. let below = f.4 n (ap (λ m. m.0.next) w.1 ∙ e) in (
      ap g.M.Machine.history (sym same) ∙ all_seen v.seen (g.M.Machine.history f.0.value) v.callers n agrees below all,
      subst (λ (m : g.row.M.Denot). Each (λ e. has v.callers e.caller ≡ true) (g.M.Machine.history m)) same (Each-weaker (λ e. e.caller < n) (λ e. has v.callers e.caller ≡ true) (g.M.Machine.history f.0.value) (λ e l. all e.caller l) below),
    )
