use Rattle.std.proofs.Common.{Some, sym, subst, ◌∙◌, ap}
use Rattle.s7_dialogue.specs.declared.job.Job.{Job}
use Rattle.s7_dialogue.specs.declared.job.Job.TheVariants as job
use Rattle.s7_dialogue.specs.Starting.{Starts}
use Rattle.s7_dialogue.proofs.stages.starting.start_connected.Goals as goal

pub returns-in-ClockSet : goal.returns-in-ClockSet
returns-in-ClockSet c =
    let start = c.set_clock.result in
    subst (λ (done : Job). Starts done (Some c.args.granted.now) start.stage start.octets start.codes)
    (sym c.in-ClockSet.is) (c.set_clock.ensures c.args.granted.now)

pub returns-in-PasswordSet : goal.returns-in-PasswordSet
returns-in-PasswordSet c =
    let start = c.set_password.result in
    subst (λ (done : Job). Starts done (Some c.args.granted.now) start.stage start.octets start.codes)
    (sym (c.in-PasswordSet.is ∙ ap job.PasswordSet (sym c.as_slice-in-PasswordSet.ensures)))
    (c.set_password.ensures c.args.granted.now)
