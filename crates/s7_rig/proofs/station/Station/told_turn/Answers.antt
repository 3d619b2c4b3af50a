use Rattle.std.proofs.Common.{◌∙◌}
use Rattle.s7_rig.proofs.TellsLemmas.{client_gains, tells_nothing, tells_one}
use Rattle.s7_rig.proofs.station.Station.told_turn.Goals as goal

pub returns-in-Some-clause-tells : goal.returns-in-Some-clause-tells
returns-in-Some-clause-tells g c =
    let lookup = c.in-Some.ensures.lookup in
    tells_one c.args.self.now.results.items c.client_turn.new.self.results.items _ _ c.in-Some.told.now _ _
    (client_gains _ _ _ c.in_ok-stirs.ensures) (c.len-before.ensures ∙ c.args.self.now.results.ok.0)
    c.deref.ensures.value lookup.3.0 lookup.1 c.tell.ensures

pub returns-in_default-clause-tells : goal.returns-in_default-clause-tells
returns-in_default-clause-tells g c =
    tells_nothing c.args.self.now.results.items c.client_turn.new.self.results.items _ _ _
    (client_gains _ _ _ c.in_ok-stirs.ensures) (c.len-before.ensures ∙ c.args.self.now.results.ok.0)
    c.deref.ensures.value c.in_default.ensures.lookup.3
