use Rattle.std.proofs.Common.{◌≡◌, ap, arith, length}
use Rattle.s7_area.specs.Memory.{with_area}
use Rattle.s7_area.specs.Registers.{fault_of}
use Rattle.s7_script.proofs.JoinLemmas.{joins, taken_by, refused_by, registers}
use Rattle.s7_script.specs.Shown.{open_of, state_of}
use Rattle.s7_script.proofs.areas.opening.State.register.Goals.{in-Ok, in-Err}
use Rattle.s7_script.proofs.areas.opening.State.register.Goals as goal

pub invariant_of-self : goal.invariant_of-self
invariant_of-self c =
    let s = c.args.self.now in
    let key = c.args.area.key in
    let octets = c.of_vec.result in
    let t = taken_by (fault_of s.areas key (length octets)) c.in-Ok.field-0 octets c.register.new.self (with_area s.areas key octets) c.in-Ok.ensures.refused c.in-Ok.ensures.taken in
    let len : c.len-len.result ≡ length octets = omega (arith, c.args.area.octets.ok.0, ap length c.of_vec.ensures, c.len-len.ensures) in
    let j = joins c.areas_join.ensures s.areas c.register.new.self key octets s.total c.len-len.result s.ordered s.is_total t.0 t.1 len in
    record { is_total = j.is_total; fits = j.fits; ordered = j.ordered }

pub returns-clause-err : goal.returns-clause-err
returns-clause-err c = elim c.match-register.branch [
  | in-Ok w ↦ rw w.result-is tt
  | in-Err w ↦ rw w.result-is (refused_by (state_of c.args.self.now) (open_of c.args.area) w.in-Err.refusal w.in-Err.field-0-1 c.of_vec.result w.fault.result w.kind_of.result c.of_vec.ensures w.fault.ensures w.kind_of.ensures w.in-Err.ensures.refused w.in-Err.ensures.taken)
]

pub returns-clause-ok : goal.returns-clause-ok
returns-clause-ok c = elim c.match-register.branch [
  | in-Ok w ↦
      let a = open_of c.args.area in
      let t = taken_by (fault_of c.args.self.now.areas a.key (length c.of_vec.result)) w.in-Ok.field-0 c.of_vec.result c.register.new.self (with_area c.args.self.now.areas a.key c.of_vec.result) w.in-Ok.ensures.refused w.in-Ok.ensures.taken in
      rw (w.result-is, w.self-is) (registers (state_of c.args.self.now) c.register.new.self a c.of_vec.result c.of_vec.ensures t.0 t.1)
  | in-Err w ↦ rw w.result-is tt
]
