use Rattle.std.proofs.Common.{inl, inr, refl, take, subst, sym}
use Rattle.s7_dialogue.specs.Codes.{link_ended, receive_failed}
use Rattle.s7_partner.specs.Steps.{Runs}
use Rattle.s7_partner.specs.Partners.{by_end, by_receive}
use Rattle.s7_partner.proofs.ListLemmas.{some_of, empty_of}
use Rattle.s7_partner.proofs.StepLemmas.{same_end, runs_sent, runs_full, runs_unsent, runs_received, runs_empty, runs_broken}
use Rattle.s7_partner.proofs.RunLemmas.{runs_both}
use Rattle.s7_partner.proofs.partner.Partner.step.Goals as goal

pub returns-in-Bytes-clause-runs : goal.returns-in-Bytes-clause-runs
returns-in-Bytes-clause-runs g c =
    let k = g.L.Link.shows c.args.link.now in
    let k' = g.L.Link.shows c.flush.new.line in
    runs_sent c.args.self.now _ k k' (take c.in-Bytes.field-0 c.args.self.now.outbox.unsent) c.requires.live
    (record { role = refl; config = refl; reader = refl; inbox = refl })
    (record {
      stage = refl;
      sequence = refl;
      number = refl;
      sending = refl;
      receiving = refl;
      octets = refl;
      whole = refl;
      handed = refl;
    })
    c.in-Bytes.ensures.sent (c.in-Bytes.ensures.some c.in-Bytes.field-0 refl).1
    (record {
      wrote = c.in-Bytes.ensures.wrote;
      space = c.in-Bytes.ensures.space;
      same = c.flush.ensures.same;
      faults = c.flush.ensures.faults;
      waits = c.flush.ensures.waits;
    }) (
      c.in-Bytes.ensures.failed_no_other (λ e. cc),
      c.in-Bytes.ensures.waited_no_other (λ e. cc),
      same_end k k' c.flush.ensures.same,
    )

pub returns-in-NotYet-clause-runs : goal.returns-in-NotYet-clause-runs
returns-in-NotYet-clause-runs g c =
    let k = g.L.Link.shows c.args.link.now in
    let k' = g.L.Link.shows c.flush.new.line in
    runs_full c.args.self.now _ k k' c.requires.live
    (record { role = refl; config = refl; reader = refl; inbox = refl })
    (record {
      stage = refl;
      sequence = refl;
      number = refl;
      sending = refl;
      receiving = refl;
      octets = refl;
      whole = refl;
      handed = refl;
    })
    c.requires.none_whole c.requires.none_handed c.in-NotYet.ensures.sent
    (some_of c.args.self.now.outbox.unsent c.is_empty.result c.is_empty.ensures c.if-not-is_empty.true)
    (record {
      wrote = c.in-NotYet.ensures.wrote;
      space = c.in-NotYet.ensures.space;
      same = c.flush.ensures.same;
      faults = c.flush.ensures.faults;
      waits = c.flush.ensures.waits;
    })
    c.in-NotYet.ensures.no_space refl (
      c.in-NotYet.ensures.failed_no_other (λ e. cc),
      (c.in-NotYet.ensures.not_yet refl, c.flush.ensures.waits_once),
      same_end k k' c.flush.ensures.same,
    )

pub returns-in-Failed-clause-runs : goal.returns-in-Failed-clause-runs
returns-in-Failed-clause-runs g c =
    let k = g.L.Link.shows c.args.link.now in
    let k' = g.L.Link.shows c.flush.new.line in
    subst (Runs c.args.self.now k c.close.new.self k') (sym c.close.ensures.result)
    (runs_unsent c.args.self.now _ c.close.new.self k k' c.requires.live
    (record { role = refl; config = refl; reader = refl; inbox = refl }) (sym c.in-Failed.ensures.sent)
    c.close.ensures.closes c.requires.none_whole
    (some_of c.args.self.now.outbox.unsent c.is_empty.result c.is_empty.ensures c.if-not-is_empty.true)
    (record {
      wrote = c.in-Failed.ensures.wrote;
      space = c.in-Failed.ensures.space;
      same = c.flush.ensures.same;
      faults = c.flush.ensures.faults;
      waits = c.flush.ensures.waits;
    })
    (c.in-Failed.ensures.failed refl, c.flush.ensures.faults_once) (c.in-Failed.ensures.waited_no_other (λ e. cc)))

pub returns-then-not-is_empty-2-clause-runs : goal.returns-then-not-is_empty-2-clause-runs
returns-then-not-is_empty-2-clause-runs g c = c.consume.ensures.runs (g.L.Link.shows c.args.link.now)

pub returns-in-Bytes-refill-clause-runs : goal.returns-in-Bytes-refill-clause-runs
returns-in-Bytes-refill-clause-runs g c =
    let k = g.L.Link.shows c.args.link.now in
    let k' = g.L.Link.shows c.refill.new.line in
    runs_both c.args.self.now _ c.consume-in-Bytes-refill.new.self k k' k' c.consume-in-Bytes-refill.result
    (runs_received c.args.self.now _ k k' c.requires.live
    (record {
      role = refl;
      config = refl;
      reader = refl;
      outbox = refl;
      state = record {
        stage = refl;
        sequence = refl;
        number = refl;
        sending = refl;
        receiving = refl;
        octets = refl;
        whole = refl;
        handed = refl;
      };
    })
    c.requires.none_whole c.requires.none_handed
    (empty_of c.args.self.now.inbox c.is_empty-2.result c.is_empty-2.ensures c.if-not-is_empty-2.false)
    (empty_of c.args.self.now.outbox.unsent c.is_empty.result c.is_empty.ensures c.if-not-is_empty.false)
    (c.in-Bytes-refill.ensures.some c.in-Bytes-refill.field-0 refl).1
    (record {
      took = c.refill.ensures.took;
      same = c.refill.ensures.same;
      faults = c.refill.ensures.faults;
      waits = c.refill.ensures.waits;
    }) (
      c.in-Bytes-refill.ensures.failed_no_other (λ e. cc),
      c.in-Bytes-refill.ensures.waited_no_other (λ e. cc),
      c.in-Bytes-refill.ensures.stays_open (λ e. cc),
    ))
    (c.consume-in-Bytes-refill.ensures.runs k')

pub returns-in-NotYet-refill-clause-runs : goal.returns-in-NotYet-refill-clause-runs
returns-in-NotYet-refill-clause-runs g c =
    let k = g.L.Link.shows c.args.link.now in
    let k' = g.L.Link.shows c.refill.new.line in
    let met = c.in-NotYet-refill.ensures.not_yet refl in
    runs_empty c.args.self.now _ k k' c.requires.live
    (record {
      role = refl;
      config = refl;
      reader = refl;
      outbox = refl;
      state = record {
        stage = refl;
        sequence = refl;
        number = refl;
        sending = refl;
        receiving = refl;
        octets = refl;
        whole = refl;
        handed = refl;
      };
    })
    c.requires.none_whole c.requires.none_handed
    (empty_of c.args.self.now.inbox c.is_empty-2.result c.is_empty-2.ensures c.if-not-is_empty-2.false) met.0
    (empty_of c.args.self.now.outbox.unsent c.is_empty.result c.is_empty.ensures c.if-not-is_empty.false)
    (record {
      took = c.refill.ensures.took;
      same = c.refill.ensures.same;
      faults = c.refill.ensures.faults;
      waits = c.refill.ensures.waits;
    })
    (λ h. (c.in-NotYet-refill.ensures.nothing_left h).0 refl) (
      c.in-NotYet-refill.ensures.failed_no_other (λ e. cc),
      (met.1, c.refill.ensures.waits_once),
      c.in-NotYet-refill.ensures.stays_open (λ e. cc),
    )

pub returns-in-Failed-refill-clause-runs : goal.returns-in-Failed-refill-clause-runs
returns-in-Failed-refill-clause-runs g c =
    let k = g.L.Link.shows c.args.link.now in
    let k' = g.L.Link.shows c.refill.new.line in
    let met = c.in-Failed-refill.ensures.failed refl in
    subst (Runs c.args.self.now k c.close-in-Failed-refill.new.self k') (sym c.close-in-Failed-refill.ensures.result)
    (runs_broken c.args.self.now _ c.close-in-Failed-refill.new.self k k' receive_failed
    (record {
      role = refl;
      config = refl;
      reader = refl;
      outbox = refl;
      state = record {
        stage = refl;
        sequence = refl;
        number = refl;
        sending = refl;
        receiving = refl;
        octets = refl;
        whole = refl;
        handed = refl;
      };
    })
    c.close-in-Failed-refill.ensures.closes c.requires.none_whole c.requires.none_handed
    (empty_of c.args.self.now.inbox c.is_empty-2.result c.is_empty-2.ensures c.if-not-is_empty-2.false) met.0
    (empty_of c.args.self.now.outbox.unsent c.is_empty.result c.is_empty.ensures c.if-not-is_empty.false)
    (record {
      took = c.refill.ensures.took;
      same = c.refill.ensures.same;
      faults = c.refill.ensures.faults;
      waits = c.refill.ensures.waits;
    }) (
      (
        inr ((met.1, c.refill.ensures.faults_once), inr refl),
        inl (c.in-Failed-refill.ensures.stays_open (λ e. cc)),
      ),
      c.in-Failed-refill.ensures.waited_no_other (λ e. cc),
    )
    (λ s b w rest. by_receive met.1 rest refl))

pub returns-in-End-clause-runs : goal.returns-in-End-clause-runs
returns-in-End-clause-runs g c =
    let k = g.L.Link.shows c.args.link.now in
    let k' = g.L.Link.shows c.refill.new.line in
    let met = c.in-End.ensures.end refl in
    subst (Runs c.args.self.now k c.close-in-End.new.self k') (sym c.close-in-End.ensures.result)
    (runs_broken c.args.self.now _ c.close-in-End.new.self k k' link_ended
    (record {
      role = refl;
      config = refl;
      reader = refl;
      outbox = refl;
      state = record {
        stage = refl;
        sequence = refl;
        number = refl;
        sending = refl;
        receiving = refl;
        octets = refl;
        whole = refl;
        handed = refl;
      };
    })
    c.close-in-End.ensures.closes c.requires.none_whole c.requires.none_handed
    (empty_of c.args.self.now.inbox c.is_empty-2.result c.is_empty-2.ensures c.if-not-is_empty-2.false) met.0
    (empty_of c.args.self.now.outbox.unsent c.is_empty.result c.is_empty.ensures c.if-not-is_empty.false)
    (record {
      took = c.refill.ensures.took;
      same = c.refill.ensures.same;
      faults = c.refill.ensures.faults;
      waits = c.refill.ensures.waits;
    })
    ((inl (c.in-End.ensures.failed_no_other (λ e. cc)), inr refl), c.in-End.ensures.waited_no_other (λ e. cc))
    (λ s b w rest. by_end met.1 met.2 rest refl))
