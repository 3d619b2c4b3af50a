use Rattle.std.proofs.Common.{◌≡◌, ◌∙◌, ℕ, pos, unsigned_abs, ap, ℤ, to_z, of_z, arith}
use Rattle.std.specs.Int.{w128}
use Rattle.std.proofs.lemmas.Int.{to_z-of_z}
use Rattle.s7_clock.specs.Moment.{IsHeld, moment_of}
use Rattle.s7_clock.proofs.MomentLemmas.{epoch_is, moment_held, signed_held, since_epoch}
use Rattle.s7_clock.proofs.moment.moment_of.Goals as goal

cast : (r : ℤ) (n : ℕ) → IsHeld n → r ≡ pos n → to_z w128 (of_z w128 r) ≡ pos n
cast r n is e = ap (λ (z : ℤ). to_z w128 (of_z w128 z)) e ∙ to_z-of_z w128 (pos n) (signed_held n is)

-- the number that is cast is the moment
cast_is : (c : goal.After-as_millis) → to_z w128 (of_z w128 c.as_millis.result) ≡ pos (moment_of c.args.t.now)
cast_is c =
    let d = c.datetime-epoch.ensures.date in
    let t = c.datetime-epoch.ensures.time in
    let zero = epoch_is c.datetime-epoch.result d.0 d.1 d.2 t.0 t.1 t.2 t.3 in
    let ms = since_epoch c.args.t.now c.datetime-epoch.result _ c.as_millis.result c.requires zero c.duration_since.ensures c.as_millis.ensures in
    cast c.as_millis.result (moment_of c.args.t.now) (moment_held c.args.t.now c.requires) ms

pub overflow_cast-result : goal.overflow_cast-result
overflow_cast-result c = let held = moment_held c.args.t.now c.requires in rw (cast_is c) (tt, omega (arith, held.to))

pub returns-clause-value : goal.returns-clause-value
returns-clause-value c = ap unsigned_abs (cast_is c)

pub returns-clause-within : goal.returns-clause-within
returns-clause-within c = rw (cast_is c) (moment_held c.args.t.now c.requires)
