use Rattle.std.proofs.Common.{◌≡◌, rules, ◌∷◌, ap, sym, ◌∙◌, subst, Some}
use Rattle.atomic_table.specs.Table.{rest}
use Rattle.s7_turn.specs.Histories.{replay}
use Rattle.s7_turn.proofs.Turning.{gets}
use Rattle.s7_turn.proofs.turn.take.Goals as goal

pub load-requires : goal.load-requires
load-requires g c = (search rules, search rules, gets _ _ _ _ _ _ _ c.requires.called.1.1)

pub exchange-requires : goal.exchange-requires
exchange-requires g c = let l = c.load.ensures.2 in let e = ap (λ m. m.1) l.1 in (search rules, (Some l.0, e ∙ ap (λ k. (0, Some l.0) ∷ rest k) (sym e)))

pub returns-clause-origin : goal.returns-clause-origin
returns-clause-origin g c = let l = c.load.ensures.2 in let m = g.M.Machine in let same : c.unwrap.result.value ≡ l.0.value = search rules in λ x e. let from = l.3 x e in (
  ap m.opening same ∙ from.0,
  ap m.limit same ∙ from.1,
  ap m.state same ∙ (from.2 ∙ (λ i. replay m.after (m.opening (sym same i)) (m.history (sym same i)))),
  subst m.holds (sym same) from.3,
)
