use Rattle.std.proofs.Common.{◌<◌, ◌^◌, ◌∙◌, ap, arith, subst, sym, Option}
use Rattle.s7_relay.specs.Windows.{moved_by, window_of}
use Rattle.s7_relay.specs.declared.windows.Window.{Window}
use Rattle.s7_relay.proofs.FarLemmas.{far_address}
use Rattle.s7_relay.proofs.near.far_item.Goals as goal

pub returns-clause-address : goal.returns-clause-address
returns-clause-address c =
    let windows = c.args.windows.now in
    let item = c.args.item.now in
    let found = ap (window_of windows) (sym c.key_of.ensures) ∙ sym c.window_of.ensures ∙ c.in-Some.is in
    let fits = subst (λ (o : Option Window). (moved_by o item).address < 2 ^ 24) found (far_address windows item c.requires) in
    omega (arith, fits)
