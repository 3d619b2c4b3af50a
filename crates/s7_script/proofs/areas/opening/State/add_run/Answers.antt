use Rattle.std.proofs.Common.{◌≡◌, ◌∙◌, ◌≤◌, ◌+◌, not, ap, arith, is_ok, length, subst, sym, vec_len}
use Rattle.std.specs.Prelude.{IfErr}
use Rattle.s7_script.specs.Reading.{FailsAs}
use Rattle.s7_script.specs.Shown.{open_of, state_of}
use Rattle.s7_script.proofs.JoinLemmas.{resized, run_fills}
use Rattle.s7_script.proofs.areas.opening.State.add_run.Goals as goal

pub returns-clause-err : goal.returns-clause-err
returns-clause-err c =
    let ok = c.is_err.ensures.negation ∙ ap not c.if-is_err.false in
    let len : c.len-len.result ≡ length c.args.area.octets.items = omega (arith, c.args.area.octets.ok.0, c.len-len.ensures) in
    let held : vec_len c.args.area.octets ≡ length c.args.area.octets.items = omega (arith, c.args.area.octets.ok.0) in
    let items = resized c.args.area.octets.items c.resize.new.self.items c.len-len.result c.in_ok-count.count c.in_ok-count.octet (vec_len c.args.area.octets) (is_ok c.resize.result) c.resize.ensures.items ok len held in
    let fits : length c.args.area.octets.items + c.in_ok-count.count ≤ c.args.area.size = omega arith in
    let read = sym c.run_of.ensures ∙ c.in_ok-count.was in
    let whole = run_fills c.args.line (state_of c.args.self.now) (open_of c.args.area) (c.args.count.now, c.args.digits.now) c.in_ok-count.count c.in_ok-count.octet c.resize.new.self.items read fits items in
    subst (λ r. IfErr c.fill.result (λ e. FailsAs e e.kind r)) (sym whole) c.fill.ensures.err
