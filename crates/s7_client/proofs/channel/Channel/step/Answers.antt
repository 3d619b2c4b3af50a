use Rattle.std.proofs.Common.{[], refl, inl, inr, ap, sym, subst, take}
use Rattle.s7_outer.specs.Shown.{Shown}
use Rattle.s7_client.specs.declared.channel.Channel.{Channel}
use Rattle.s7_client.specs.declared.under_way.UnderWay.{UnderWay}
use Rattle.s7_dialogue.specs.Codes.{send_failed}
use Rattle.s7_dialogue.specs.Dialogue.{fault_end}
use Rattle.s7_dialogue.specs.Running.{IsOver, IsLeaving}
use Rattle.s7_client.proofs.PacketLemmas.{none_pending}
use Rattle.s7_client.proofs.CountLemmas.{ends_as_told}
use Rattle.s7_client.proofs.LinkLemmas.{some_of, empty_of}
use Rattle.s7_client.proofs.SendLemmas.{step_sent, step_full, step_unsent, step_over, step_departed, full_of}
use Rattle.s7_client.proofs.PutLemmas.{fits_put, step_put}
use Rattle.s7_client.proofs.channel.Channel.step.Goals as goal

pub returns-in-Bytes-clause-step : goal.returns-in-Bytes-clause-step
returns-in-Bytes-clause-step g c =
    let t = c.put_next.new.self in
    let l : Channel = record c.args.self.now { talk = t } in
    let u : UnderWay = record c.args.job.now { running = c.put_next.new.running } in
    step_put c.args.self.now _ t c.args.job.now u c.put_next.new.running _ _ c.args.config.now c.args.granted _
    c.put_next.ensures
    (step_sent l _ u (g.L.Link.shows c.args.link.now) (g.L.Link.shows c.flush.new.line)
    (take c.in-Bytes.field-0 t.outbox.unsent) c.args.config.now c.args.granted
    (fits_put c.args.config.now c.args.self.now t c.args.job.now c.put_next.new.running c.put_next.ensures
    c.requires.fits)
    (some_of t.outbox.unsent c.is_empty.result c.is_empty.ensures c.if-not-is_empty.true)
    (record {
      reader = refl;
      inbox = refl;
      sequence = refl;
      out = c.in-Bytes.ensures.sent;
    }) (c.in-Bytes.ensures.some c.in-Bytes.field-0 refl).1
    c.in-Bytes.ensures.wrote c.in-Bytes.ensures.space c.flush.ensures.same c.flush.ensures.faults c.flush.ensures.waits)

pub returns-in-NotYet-clause-step : goal.returns-in-NotYet-clause-step
returns-in-NotYet-clause-step g c =
    let t = c.put_next.new.self in
    let l : Channel = record c.args.self.now { talk = t } in
    let u : UnderWay = record c.args.job.now { running = c.put_next.new.running } in
    step_put c.args.self.now _ t c.args.job.now u c.put_next.new.running _ _ c.args.config.now c.args.granted _
    c.put_next.ensures
    (step_full l _ u (g.L.Link.shows c.args.link.now) (g.L.Link.shows c.flush.new.line) c.args.config.now c.args.granted
    (fits_put c.args.config.now c.args.self.now t c.args.job.now c.put_next.new.running c.put_next.ensures
    c.requires.fits)
    (some_of t.outbox.unsent c.is_empty.result c.is_empty.ensures c.if-not-is_empty.true)
    (record {
      reader = refl;
      inbox = refl;
      sequence = refl;
      out = c.in-NotYet.ensures.sent;
    })
    c.in-NotYet.ensures.wrote c.in-NotYet.ensures.space c.flush.ensures.same c.flush.ensures.faults
    c.flush.ensures.waits
    (full_of (g.L.Link.shows c.args.link.now).space c.in-NotYet.ensures.no_space))

pub returns-in-Failed-clause-step : goal.returns-in-Failed-clause-step
returns-in-Failed-clause-step g c =
    let t = c.put_next.new.self in
    let l : Channel = record c.args.self.now { talk = t } in
    let u : UnderWay = record c.args.job.now { running = c.put_next.new.running } in
    step_put c.args.self.now _ t c.args.job.now _ c.put_next.new.running _ _ c.args.config.now c.args.granted _
    c.put_next.ensures
    (step_unsent l _ u _ (g.L.Link.shows c.args.link.now) (g.L.Link.shows c.flush.new.line)
    c.args.config.now c.args.granted
    (fits_put c.args.config.now c.args.self.now t c.args.job.now c.put_next.new.running c.put_next.ensures
    c.requires.fits)
    (some_of t.outbox.unsent c.is_empty.result c.is_empty.ensures c.if-not-is_empty.true)
    (record {
      reader = refl;
      inbox = refl;
      sequence = refl;
      out = c.in-Failed.ensures.sent;
    })
    c.in-Failed.ensures.wrote c.in-Failed.ensures.space c.flush.ensures.same c.flush.ensures.faults
    c.flush.ensures.waits (c.in-Failed.ensures.failed refl)
    c.fail.ensures.fails c.fail.ensures.over c.fail.ensures.job refl refl)

pub returns-in-Over-clause-step : goal.returns-in-Over-clause-step
returns-in-Over-clause-step g c =
    let t = c.put_next.new.self in
    let l : Channel = record c.args.self.now { talk = t } in
    let u : UnderWay = record c.args.job.now { running = c.put_next.new.running } in
    step_put c.args.self.now l t c.args.job.now u c.put_next.new.running _ _ c.args.config.now c.args.granted _
    c.put_next.ensures
    (step_over l u (g.L.Link.shows c.args.link.now) c.args.config.now c.args.granted
    (fits_put c.args.config.now c.args.self.now t c.args.job.now c.put_next.new.running c.put_next.ensures
    c.requires.fits)
    (empty_of t.outbox.unsent c.is_empty.result c.is_empty.ensures c.if-not-is_empty.false)
    (subst IsOver (sym c.in-Over.is) tt))

pub returns-in-Leaving-clause-step : goal.returns-in-Leaving-clause-step
returns-in-Leaving-clause-step g c =
    let t = c.put_next.new.self in
    let l : Channel = record c.args.self.now { talk = t } in
    let u : UnderWay = record c.args.job.now { running = c.put_next.new.running } in
    let empty = empty_of t.outbox.unsent c.is_empty.result c.is_empty.ensures c.if-not-is_empty.false in
    step_put c.args.self.now l t c.args.job.now _ c.put_next.new.running _ _ c.args.config.now c.args.granted _
    c.put_next.ensures
    (step_departed l u _ (g.L.Link.shows c.args.link.now) c.args.config.now c.args.granted
    (none_pending c.args.config.now t c.put_next.new.running empty (c.put_next.ensures.none empty))
    (subst IsLeaving (sym c.in-Leaving.is) tt)
    c.depart.ensures.departs c.depart.ensures.over c.depart.ensures.job refl refl)

pub returns-in-Opening-clause-step : goal.returns-in-Opening-clause-step
returns-in-Opening-clause-step g c =
    step_put c.args.self.now c.go_on.new.self c.put_next.new.self c.args.job.now c.go_on.new.job c.put_next.new.running
    (g.L.Link.shows c.args.link.now) (g.L.Link.shows c.go_on.new.link)
    c.args.config.now c.args.granted c.go_on.result c.put_next.ensures c.go_on.ensures.step

pub returns-in-Asking-clause-step : goal.returns-in-Asking-clause-step
returns-in-Asking-clause-step g c =
    step_put c.args.self.now c.go_on-in-Asking.new.self c.put_next.new.self c.args.job.now c.go_on-in-Asking.new.job
    c.put_next.new.running (g.L.Link.shows c.args.link.now)
    (g.L.Link.shows c.go_on-in-Asking.new.link) c.args.config.now c.args.granted c.go_on-in-Asking.result
    c.put_next.ensures c.go_on-in-Asking.ensures.step

pub returns-in-Single-clause-step : goal.returns-in-Single-clause-step
returns-in-Single-clause-step g c =
    step_put c.args.self.now c.go_on-in-Single.new.self c.put_next.new.self c.args.job.now c.go_on-in-Single.new.job
    c.put_next.new.running (g.L.Link.shows c.args.link.now)
    (g.L.Link.shows c.go_on-in-Single.new.link) c.args.config.now c.args.granted c.go_on-in-Single.result
    c.put_next.ensures c.go_on-in-Single.ensures.step

pub go_on-requires-clause-fits : goal.go_on-requires-clause-fits
go_on-requires-clause-fits g c =
    fits_put c.args.config.now c.args.self.now c.put_next.new.self c.args.job.now c.put_next.new.running
    c.put_next.ensures c.requires.fits

pub go_on-requires-in-Asking-clause-fits : goal.go_on-requires-in-Asking-clause-fits
go_on-requires-in-Asking-clause-fits g c =
    fits_put c.args.config.now c.args.self.now c.put_next.new.self c.args.job.now c.put_next.new.running
    c.put_next.ensures c.requires.fits

pub go_on-requires-in-Single-clause-fits : goal.go_on-requires-in-Single-clause-fits
go_on-requires-in-Single-clause-fits g c =
    fits_put c.args.config.now c.args.self.now c.put_next.new.self c.args.job.now c.put_next.new.running
    c.put_next.ensures c.requires.fits

pub returns-in-Failed-clause-counts : goal.returns-in-Failed-clause-counts
returns-in-Failed-clause-counts g c = (
  c.in-Failed.ensures.waited_no_other (λ e. cc),
  ends_as_told c.fail.new.self (g.L.Link.shows c.args.link.now) (g.L.Link.shows c.flush.new.line)
      (fault_end send_failed)
      (c.fail.ensures.fails []) (
        inr ((c.in-Failed.ensures.failed refl, c.flush.ensures.faults_once), inl refl),
        inl (ap (λ (x : Shown). x.has_ended) c.flush.ensures.same),
      ),
)
