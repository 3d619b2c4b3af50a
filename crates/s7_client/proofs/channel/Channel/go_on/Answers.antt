use Rattle.std.proofs.Common.{[], refl, inl, inr}
use Rattle.s7_dialogue.specs.Codes.{link_ended, receive_failed}
use Rattle.s7_dialogue.specs.Dialogue.{fault_end}
use Rattle.s7_client.proofs.PacketLemmas.{none_pending}
use Rattle.s7_client.proofs.CountLemmas.{ends_as_told}
use Rattle.s7_client.proofs.LinkLemmas.{step_used, step_taken, step_waiting, step_broken, empty_of}
use Rattle.s7_client.proofs.channel.Channel.go_on.Goals as goal

pub returns-then-not-is_empty-clause-step : goal.returns-then-not-is_empty-clause-step
returns-then-not-is_empty-clause-step g c =
    step_used c.args.self.now c.consume.new.self c.args.job.now c.consume.new.job (g.L.Link.shows c.args.link.now)
    c.args.config.now c.args.granted
    (none_pending c.args.config.now c.args.self.now.talk c.args.job.now.running c.requires.sent c.requires.unput)
    c.consume.ensures

pub returns-in-Bytes-clause-step : goal.returns-in-Bytes-clause-step
returns-in-Bytes-clause-step g c =
    step_taken c.args.self.now c.consume-in-Bytes.new.self c.args.job.now c.consume-in-Bytes.new.job
    (g.L.Link.shows c.args.link.now) (g.L.Link.shows c.refill.new.line) c.refill.new.self
    c.args.config.now c.args.granted c.requires.awaiting
    (none_pending c.args.config.now c.args.self.now.talk c.args.job.now.running c.requires.sent c.requires.unput)
    (empty_of c.args.self.now.inbox c.is_empty.result c.is_empty.ensures c.if-not-is_empty.false)
    c.consume-in-Bytes.ensures
    c.refill.ensures.took c.refill.ensures.same c.refill.ensures.faults c.refill.ensures.waits

pub returns-in-NotYet-clause-step : goal.returns-in-NotYet-clause-step
returns-in-NotYet-clause-step g c =
    let met = c.in-NotYet.ensures.not_yet refl in
    step_waiting c.args.self.now c.refill.new.self c.args.job.now (g.L.Link.shows c.args.link.now)
    (g.L.Link.shows c.refill.new.line) c.args.config.now c.args.granted c.requires.fits c.requires.awaiting
    (none_pending c.args.config.now c.args.self.now.talk c.args.job.now.running c.requires.sent c.requires.unput)
    (empty_of c.args.self.now.inbox c.is_empty.result c.is_empty.ensures c.if-not-is_empty.false) met.0
    c.refill.ensures.took c.refill.ensures.same c.refill.ensures.faults c.refill.ensures.waits
    (λ h. (c.in-NotYet.ensures.nothing_left h).0 refl)

pub returns-in-Failed-clause-step : goal.returns-in-Failed-clause-step
returns-in-Failed-clause-step g c =
    let met = c.in-Failed.ensures.failed refl in
    step_broken c.args.self.now c.refill.new.self c.args.job.now _ (g.L.Link.shows c.args.link.now)
    (g.L.Link.shows c.refill.new.line) c.args.config.now c.args.granted receive_failed c.requires.awaiting
    (none_pending c.args.config.now c.args.self.now.talk c.args.job.now.running c.requires.sent c.requires.unput)
    (empty_of c.args.self.now.inbox c.is_empty.result c.is_empty.ensures c.if-not-is_empty.false) met.0
    c.refill.ensures.took c.refill.ensures.same c.refill.ensures.faults c.refill.ensures.waits c.fail.ensures.fails
    c.fail.ensures.over c.fail.ensures.job refl refl
    (λ origin b w waiting. inr (inr (inr (inl (record { waiting = waiting; rose = met.1; fault = (refl, refl) })))))

pub returns-in-End-clause-step : goal.returns-in-End-clause-step
returns-in-End-clause-step g c =
    let met = c.in-End.ensures.end refl in
    step_broken c.args.self.now c.refill.new.self c.args.job.now _ (g.L.Link.shows c.args.link.now)
    (g.L.Link.shows c.refill.new.line) c.args.config.now c.args.granted link_ended c.requires.awaiting
    (none_pending c.args.config.now c.args.self.now.talk c.args.job.now.running c.requires.sent c.requires.unput)
    (empty_of c.args.self.now.inbox c.is_empty.result c.is_empty.ensures c.if-not-is_empty.false) met.0
    c.refill.ensures.took c.refill.ensures.same c.refill.ensures.faults c.refill.ensures.waits
    c.fail-in-End.ensures.fails c.fail-in-End.ensures.over c.fail-in-End.ensures.job refl refl
    (λ origin b w waiting. inr
    (inr (inl (record { waiting = waiting; at_end = met.1; has_ended = met.2; fault = (refl, refl) }))))

pub returns-in-Failed-clause-counts : goal.returns-in-Failed-clause-counts
returns-in-Failed-clause-counts g c = (
  c.in-Failed.ensures.waited_no_other (λ e. cc),
  ends_as_told c.fail.new.self (g.L.Link.shows c.args.link.now) (g.L.Link.shows c.refill.new.line)
      (fault_end receive_failed)
      (c.fail.ensures.fails []) (
        inr (((c.in-Failed.ensures.failed refl).1, c.refill.ensures.faults_once), inr refl),
        inl (c.in-Failed.ensures.stays_open (λ e. cc)),
      ),
)

pub returns-in-End-clause-counts : goal.returns-in-End-clause-counts
returns-in-End-clause-counts g c = (
  c.in-End.ensures.waited_no_other (λ e. cc),
  ends_as_told c.fail-in-End.new.self (g.L.Link.shows c.args.link.now) (g.L.Link.shows c.refill.new.line)
      (fault_end link_ended)
      (c.fail-in-End.ensures.fails []) (inl (c.in-End.ensures.failed_no_other (λ e. cc)), inr refl),
)
