use Rattle.std.proofs.Common.{◌≡◌, [], take, refl, sym, ap, ◌∙◌}
use Rattle.std.specs.Prelude.{None}
use Rattle.std.specs.Io.KnownBytes.{prepend_known}
use Rattle.s7_session.specs.declared.outcome.Turn.TheVariants as turn
use Rattle.s7_session.specs.declared.outcome.Outcome.TheVariants as outcome
use Rattle.s7_session.proofs.ConsumeLemmas.{went_not_yet, went_not_closed}
use Rattle.s7_session.proofs.TurnLemmas.{moved_nothing, moved_by_receive, moved_by_transmit}
use Rattle.s7_session.proofs.ServeLemmas.{turn_closed, turn_plain, turn_closing, turn_used, turn_both, empty_of, some_of, none_from_not, not_yet_not_went, not_yet_not_closed, read_not_write, write_not_read, torn_not_write, fails_torn, cause_end, closed_keeps, met_full, met_empty, not_empty, if_some, is_some_from}
use Rattle.s7_session.proofs.session.Session.turn.Goals as goal

pub returns-in-Some-clause-turn : goal.returns-in-Some-clause-turn
returns-in-Some-clause-turn g c = turn_closed g.D.Doer.stands g.D.Doer.is_full g.D.Doer.may_lack g.D.Doer.did g.D.Doer.keeps c.args.self.now (g.L.Link.shows c.args.line.now) c.args.doer.now c.in-Some.outcome c.in-Some.is

pub returns-in-Bytes-clause-turn : goal.returns-in-Bytes-clause-turn
returns-in-Bytes-clause-turn g c =
    let live : c.args.self.now.closed ≡ None = none_from_not c.args.self.now.closed c.in_default.not-Some in
    turn_plain g.D.Doer.stands g.D.Doer.is_full g.D.Doer.may_lack g.D.Doer.did g.D.Doer.keeps c.args.self.now _ (g.L.Link.shows c.args.line.now) (g.L.Link.shows c.flush.new.line) c.args.doer.now
    (take c.in-Bytes.field-0 c.args.self.now.conversation.sender.outbox.unsent) turn.Went (record { reader = refl; used = refl; count = refl; newest = refl; held = refl; size = refl }) c.in-Bytes.ensures.sent refl
    (moved_by_transmit (g.L.Link.shows c.args.line.now) (g.L.Link.shows c.flush.new.line) _ c.in-Bytes.ensures.wrote c.in-Bytes.ensures.fits c.in-Bytes.ensures.space c.flush.ensures.faults c.flush.ensures.waits c.flush.ensures.same) live live
    (λ e. (c.in-Bytes.ensures.some c.in-Bytes.field-0 refl).1) (λ e. absurd (went_not_yet e)) (λ o e. absurd (went_not_closed o e))
    (λ e. absurd (went_not_closed outcome.ReadFault e)) (λ e. absurd (went_not_closed outcome.WriteFault e))
    (c.in-Bytes.ensures.failed_no_other (λ e. cc), c.in-Bytes.ensures.waited_no_other (λ e. cc))

pub returns-in-NotYet-clause-turn : goal.returns-in-NotYet-clause-turn
returns-in-NotYet-clause-turn g c =
    let live : c.args.self.now.closed ≡ None = none_from_not c.args.self.now.closed c.in_default.not-Some in
    let some = some_of c.args.self.now.conversation.sender.outbox.unsent c.is_empty.result c.is_empty.ensures c.if-not-is_empty.true in
    turn_plain g.D.Doer.stands g.D.Doer.is_full g.D.Doer.may_lack g.D.Doer.did g.D.Doer.keeps c.args.self.now _ (g.L.Link.shows c.args.line.now) (g.L.Link.shows c.flush.new.line) c.args.doer.now
    [] turn.NotYet (record { reader = refl; used = refl; count = refl; newest = refl; held = refl; size = refl }) c.in-NotYet.ensures.sent refl
    (moved_by_transmit (g.L.Link.shows c.args.line.now) (g.L.Link.shows c.flush.new.line) _ c.in-NotYet.ensures.wrote c.in-NotYet.ensures.fits c.in-NotYet.ensures.space c.flush.ensures.faults c.flush.ensures.waits c.flush.ensures.same) live live
    (λ e. absurd (not_yet_not_went e))
    (λ e. (refl, c.in-NotYet.ensures.not_yet refl, met_full c.args.self.now (g.L.Link.shows c.args.line.now) (λ n h. (if_some _ _ c.in-NotYet.ensures.no_space n h).0 refl) (not_empty _ some)))
    (λ o e. absurd (not_yet_not_closed o e))
    (λ e. absurd (not_yet_not_closed outcome.ReadFault e)) (λ e. absurd (not_yet_not_closed outcome.WriteFault e))
    (c.in-NotYet.ensures.failed_no_other (λ e. cc), (c.in-NotYet.ensures.not_yet refl, c.flush.ensures.waits_once))

pub returns-in-Failed-clause-turn : goal.returns-in-Failed-clause-turn
returns-in-Failed-clause-turn g c =
    let live : c.args.self.now.closed ≡ None = none_from_not c.args.self.now.closed c.in_default.not-Some in
    let k = c.close.ensures in
    let same = ap (λ x. x.sender.outbox.unsent) k.conversation ∙ sym c.in-Failed.ensures.sent in
    let some = some_of c.args.self.now.conversation.sender.outbox.unsent c.is_empty.result c.is_empty.ensures c.if-not-is_empty.true in
    turn_closing g.D.Doer.stands g.D.Doer.is_full g.D.Doer.may_lack g.D.Doer.did g.D.Doer.keeps c.args.self.now c.close.new.self (g.L.Link.shows c.args.line.now) (g.L.Link.shows c.flush.new.line) c.args.doer.now
    outcome.WriteFault c.close.result (record { reader = k.reader; used = k.used; count = k.count; newest = k.newest; held = ap (λ x. x.held) k.conversation; size = ap (λ x. x.size) k.conversation }) same k.inbox
    (moved_by_transmit (g.L.Link.shows c.args.line.now) (g.L.Link.shows c.flush.new.line) _ c.in-Failed.ensures.wrote c.in-Failed.ensures.fits c.in-Failed.ensures.space c.flush.ensures.faults c.flush.ensures.waits c.flush.ensures.same)
    live k.closed k.result
    (λ first b js w h. (c.in-Failed.ensures.failed refl, rw same some, h.lives live))
    (λ e. absurd (write_not_read e)) (λ e. some)
    ((c.in-Failed.ensures.failed refl, c.flush.ensures.faults_once), c.in-Failed.ensures.waited_no_other (λ e. cc))

pub returns-then-not-is_empty-2-clause-turn : goal.returns-then-not-is_empty-2-clause-turn
returns-then-not-is_empty-2-clause-turn g c =
    turn_used g.D.Doer.stands g.D.Doer.is_full g.D.Doer.may_lack g.D.Doer.did g.D.Doer.keeps c.args.self.now c.consume.new.self (g.L.Link.shows c.args.line.now) (g.L.Link.shows c.consume.new.line) c.args.doer.now c.consume.new.doer
    c.consume.result (none_from_not c.args.self.now.closed c.in_default.not-Some) (empty_of c.args.self.now.conversation.sender.outbox.unsent c.is_empty.result c.is_empty.ensures c.if-not-is_empty.false) c.consume.ensures.consumes

pub returns-then-self-eq-SPENT-clause-turn : goal.returns-then-self-eq-SPENT-clause-turn
returns-then-self-eq-SPENT-clause-turn g c =
    let k = c.close-then-self-eq-SPENT.ensures in
    let live : c.args.self.now.closed ≡ None = none_from_not c.args.self.now.closed c.in_default.not-Some in
    let none = empty_of c.args.self.now.conversation.sender.outbox.unsent c.is_empty.result c.is_empty.ensures c.if-not-is_empty.false in
    let read = empty_of c.args.self.now.inbox c.is_empty-2.result c.is_empty-2.ensures c.if-not-is_empty-2.false in
    turn_closing g.D.Doer.stands g.D.Doer.is_full g.D.Doer.may_lack g.D.Doer.did g.D.Doer.keeps c.args.self.now c.close-then-self-eq-SPENT.new.self (g.L.Link.shows c.args.line.now) (g.L.Link.shows c.args.line.now) c.args.doer.now
    outcome.Spent c.close-then-self-eq-SPENT.result (closed_keeps _ _ k.reader k.conversation k.used k.count k.newest) (ap (λ x. x.sender.outbox.unsent) k.conversation) k.inbox
    (moved_nothing (g.L.Link.shows c.args.line.now)) live k.closed k.result
    (λ first b js w h. (h.used ∙ c.if-self-eq-SPENT.true, (ap (λ x. x.sender.outbox.unsent) k.conversation ∙ none, k.inbox ∙ read), h.lives live))
    (λ e. absurd (cc)) (λ e. absurd (cc)) (refl, refl)

pub returns-in-Bytes-refill-clause-turn : goal.returns-in-Bytes-refill-clause-turn
returns-in-Bytes-refill-clause-turn g c =
    let k = c.consume-in-Bytes-refill in
    turn_both g.D.Doer.stands g.D.Doer.is_full g.D.Doer.may_lack g.D.Doer.did g.D.Doer.keeps c.args.self.now _ k.new.self (g.L.Link.shows c.args.line.now) (g.L.Link.shows c.refill.new.line) (g.L.Link.shows k.new.line)
    c.args.doer.now k.new.doer k.result (closed_keeps _ _ refl refl refl refl refl) refl refl (moved_by_receive (g.L.Link.shows c.args.line.now) (g.L.Link.shows c.refill.new.line) _ c.refill.ensures.took c.refill.ensures.faults c.refill.ensures.waits c.refill.ensures.same)
    (none_from_not c.args.self.now.closed c.in_default.not-Some) (
      empty_of c.args.self.now.conversation.sender.outbox.unsent c.is_empty.result c.is_empty.ensures c.if-not-is_empty.false,
      empty_of c.args.self.now.inbox c.is_empty-2.result c.is_empty-2.ensures c.if-not-is_empty-2.false,
    )
    k.ensures.consumes
    (c.in-Bytes-refill.ensures.failed_no_other (λ e. cc)) (c.in-Bytes-refill.ensures.waited_no_other (λ e. cc))

pub returns-in-NotYet-refill-clause-turn : goal.returns-in-NotYet-refill-clause-turn
returns-in-NotYet-refill-clause-turn g c =
    let live : c.args.self.now.closed ≡ None = none_from_not c.args.self.now.closed c.in_default.not-Some in
    let none = (c.in-NotYet-refill.ensures.not_yet refl).0 in
    let sent = empty_of c.args.self.now.conversation.sender.outbox.unsent c.is_empty.result c.is_empty.ensures c.if-not-is_empty.false in
    let old_none = empty_of c.args.self.now.inbox c.is_empty-2.result c.is_empty-2.ensures c.if-not-is_empty-2.false in
    turn_plain g.D.Doer.stands g.D.Doer.is_full g.D.Doer.may_lack g.D.Doer.did g.D.Doer.keeps c.args.self.now _ (g.L.Link.shows c.args.line.now) (g.L.Link.shows c.refill.new.line) c.args.doer.now
    [] turn.NotYet (closed_keeps _ _ refl refl refl refl refl) refl (old_none ∙ sym none)
    (moved_by_receive (g.L.Link.shows c.args.line.now) (g.L.Link.shows c.refill.new.line) [] (c.refill.ensures.took ∙ ap (λ x. prepend_known x (g.L.Link.shows c.refill.new.line).left) none) c.refill.ensures.faults c.refill.ensures.waits c.refill.ensures.same) live live
    (λ e. absurd (not_yet_not_went e))
    (λ e. (refl, (c.in-NotYet-refill.ensures.not_yet refl).1, met_empty c.args.self.now (g.L.Link.shows c.args.line.now) (λ n h. (c.in-NotYet-refill.ensures.nothing_left (is_some_from _ n h)).0 refl) (sent, old_none)))
    (λ o e. absurd (not_yet_not_closed o e))
    (λ e. absurd (not_yet_not_closed outcome.ReadFault e)) (λ e. absurd (not_yet_not_closed outcome.WriteFault e)) (
      c.in-NotYet-refill.ensures.failed_no_other (λ e. cc),
      ((c.in-NotYet-refill.ensures.not_yet refl).1, c.refill.ensures.waits_once),
    )

pub returns-in-Failed-refill-clause-turn : goal.returns-in-Failed-refill-clause-turn
returns-in-Failed-refill-clause-turn g c =
    let k = c.close-in-Failed-refill.ensures in
    let live : c.args.self.now.closed ≡ None = none_from_not c.args.self.now.closed c.in_default.not-Some in
    let none = (c.in-Failed-refill.ensures.failed refl).0 in
    let sent = empty_of c.args.self.now.conversation.sender.outbox.unsent c.is_empty.result c.is_empty.ensures c.if-not-is_empty.false in
    let old_none = empty_of c.args.self.now.inbox c.is_empty-2.result c.is_empty-2.ensures c.if-not-is_empty-2.false in
    turn_closing g.D.Doer.stands g.D.Doer.is_full g.D.Doer.may_lack g.D.Doer.did g.D.Doer.keeps c.args.self.now c.close-in-Failed-refill.new.self (g.L.Link.shows c.args.line.now) (g.L.Link.shows c.refill.new.line) c.args.doer.now
    outcome.ReadFault c.close-in-Failed-refill.result (closed_keeps _ _ k.reader k.conversation k.used k.count k.newest) (ap (λ x. x.sender.outbox.unsent) k.conversation) (k.inbox ∙ (none ∙ sym old_none))
    (moved_by_receive (g.L.Link.shows c.args.line.now) (g.L.Link.shows c.refill.new.line) [] (c.refill.ensures.took ∙ ap (λ x. prepend_known x (g.L.Link.shows c.refill.new.line).left) none) c.refill.ensures.faults c.refill.ensures.waits c.refill.ensures.same)
    live k.closed k.result
    (λ first b js w h. (
      (c.in-Failed-refill.ensures.failed refl).1,
      (ap (λ x. x.sender.outbox.unsent) k.conversation ∙ sent, k.inbox ∙ none),
      h.lives live,
    ))
    (λ e. (sent, old_none)) (λ e. absurd (read_not_write e)) (
      ((c.in-Failed-refill.ensures.failed refl).1, c.refill.ensures.faults_once),
      c.in-Failed-refill.ensures.waited_no_other (λ e. cc),
    )

pub returns-in-End-clause-turn : goal.returns-in-End-clause-turn
returns-in-End-clause-turn g c =
    let k = c.close-in-End.ensures in
    let live : c.args.self.now.closed ≡ None = none_from_not c.args.self.now.closed c.in_default.not-Some in
    let ended = c.in-End.ensures.end refl in
    let sent = empty_of c.args.self.now.conversation.sender.outbox.unsent c.is_empty.result c.is_empty.ensures c.if-not-is_empty.false in
    let old_none = empty_of c.args.self.now.inbox c.is_empty-2.result c.is_empty-2.ensures c.if-not-is_empty-2.false in
    turn_closing g.D.Doer.stands g.D.Doer.is_full g.D.Doer.may_lack g.D.Doer.did g.D.Doer.keeps c.args.self.now c.close-in-End.new.self (g.L.Link.shows c.args.line.now) (g.L.Link.shows c.refill.new.line) c.args.doer.now
    c.end-outcome.result c.close-in-End.result (closed_keeps _ _ k.reader k.conversation k.used k.count k.newest) (ap (λ x. x.sender.outbox.unsent) k.conversation) (k.inbox ∙ (ended.0 ∙ sym old_none))
    (moved_by_receive (g.L.Link.shows c.args.line.now) (g.L.Link.shows c.refill.new.line) [] (c.refill.ensures.took ∙ ap (λ x. prepend_known x (g.L.Link.shows c.refill.new.line).left) ended.0) c.refill.ensures.faults c.refill.ensures.waits c.refill.ensures.same)
    live k.closed k.result
    (cause_end c.args.self.now c.close-in-End.new.self (g.L.Link.shows c.args.line.now) (g.L.Link.shows c.refill.new.line) c.end-outcome.result live c.end-outcome.ensures.torn
    (ap (λ x. x.sender.outbox.unsent) k.conversation ∙ sent) (k.inbox ∙ ended.0) ended.1 ended.2)
    (λ e. (sent, old_none)) (λ e. absurd (torn_not_write c.end-outcome.ensures.octets.0 c.end-outcome.result c.end-outcome.ensures.octets.1 e)) (
      fails_torn c.end-outcome.ensures.octets.0 c.end-outcome.result _ _ c.end-outcome.ensures.octets.1
          (c.in-End.ensures.failed_no_other (λ e. cc)),
      c.in-End.ensures.waited_no_other (λ e. cc),
    )
