use Rattle.std.proofs.Common.{◌≡◌, arith, length, subst, sym}
use Rattle.std.specs.Prelude.{IfErr}
use Rattle.s7_script.specs.Reading.{FailsAs}
use Rattle.s7_script.specs.Shown.{open_of, state_of}
use Rattle.s7_script.proofs.JoinLemmas.{whole_joins}
use Rattle.s7_script.proofs.areas.opening.State.fill.Goals as goal

pub returns-clause-err : goal.returns-clause-err
returns-clause-err c =
    let whole : length c.args.area.octets.items ≡ c.args.area.size = omega (arith, c.args.area.octets.ok.0, c.args.area.within, c.len.ensures) in
    subst (λ r. IfErr c.register.result (λ e. FailsAs e e.kind r)) (sym (whole_joins (state_of c.args.self.now) (open_of c.args.area) whole)) c.register.ensures.err
