use Rattle.std.proofs.Common.{refl, ap, sym, subst}
use Rattle.s7_wire.specs.Reading.{disconnected, faulted}
use Rattle.s7_wire.specs.declared.found.Found.TheVariants as finding
use Rattle.s7_dialogue.specs.Codes.{link_ended}
use Rattle.s7_partner.specs.Steps.{Runs}
use Rattle.s7_partner.proofs.ConsumeLemmas.{runs_more, runs_opened, runs_message, runs_ended}
use Rattle.s7_partner.proofs.partner.Partner.consume.Goals as goal

pub returns-in-More-clause-runs : goal.returns-in-More-clause-runs
returns-in-More-clause-runs c = λ link.
    let old = c.args.self.now in
    runs_more old _ link c.requires.live c.requires.none_whole c.requires.none_handed
    (record {
      role = refl;
      config = refl;
      octet = c.in-More.ensures;
      sent = c.requires.sent;
      none = ap (λ o. o.unsent) c.clear.ensures;
      sequence = refl;
      number = refl;
      sending = refl;
      receiving = refl;
      octets = refl;
      whole = refl;
      handed = refl;
    }) refl

pub returns-in-Opened-clause-runs : goal.returns-in-Opened-clause-runs
returns-in-Opened-clause-runs c = λ link.
    let old = c.args.self.now in
    runs_opened old _ c.open.new.self c.in-Opened.connection link c.requires.none_whole c.requires.none_handed
    (record {
      role = refl;
      config = refl;
      octet = c.in-Opened.ensures;
      sent = c.requires.sent;
      none = ap (λ o. o.unsent) c.clear.ensures;
      sequence = refl;
      number = refl;
      sending = refl;
      receiving = refl;
      octets = refl;
      whole = refl;
      handed = refl;
    }) refl c.open.ensures.keeps c.open.ensures.opens c.open.ensures.rest

pub returns-in-Message-clause-runs : goal.returns-in-Message-clause-runs
returns-in-Message-clause-runs c = λ link.
    let old = c.args.self.now in
    runs_message old _ c.take_message.new.self link c.take_message.result c.requires.none_whole c.requires.none_handed
    (record {
      role = refl;
      config = refl;
      octet = c.in-Message.ensures;
      sent = c.requires.sent;
      none = ap (λ o. o.unsent) c.clear.ensures;
      sequence = refl;
      number = refl;
      sending = refl;
      receiving = refl;
      octets = refl;
      whole = refl;
      handed = refl;
    }) refl c.take_message.ensures.reaches c.take_message.ensures.does

pub returns-in-Disconnected-clause-runs : goal.returns-in-Disconnected-clause-runs
returns-in-Disconnected-clause-runs c = λ link.
    let old = c.args.self.now in
    subst (Runs old link c.close.new.self link) (sym c.close.ensures.result)
    (runs_ended old _ c.close.new.self finding.Disconnected link_ended link c.requires.none_whole
    c.requires.none_handed
    (record {
      role = refl;
      config = refl;
      octet = c.in-Disconnected.ensures;
      sent = c.requires.sent;
      none = ap (λ o. o.unsent) c.clear.ensures;
      sequence = refl;
      number = refl;
      sending = refl;
      receiving = refl;
      octets = refl;
      whole = refl;
      handed = refl;
    }) c.close.ensures.closes (λ n. record { ending = disconnected; is = refl; code_is = refl }))

pub returns-in-Fault-clause-runs : goal.returns-in-Fault-clause-runs
returns-in-Fault-clause-runs c = λ link.
    let old = c.args.self.now in
    let fault = c.in-Fault.fault in
    subst (Runs old link c.close-in-Fault.new.self link) (sym c.close-in-Fault.ensures.result)
    (runs_ended old _ c.close-in-Fault.new.self (finding.Fault fault) c.fault_code-code.result link
    c.requires.none_whole c.requires.none_handed
    (record {
      role = refl;
      config = refl;
      octet = c.in-Fault.ensures;
      sent = c.requires.sent;
      none = ap (λ o. o.unsent) c.clear.ensures;
      sequence = refl;
      number = refl;
      sending = refl;
      receiving = refl;
      octets = refl;
      whole = refl;
      handed = refl;
    }) c.close-in-Fault.ensures.closes
    (λ n. record { ending = faulted fault n; is = refl; code_is = c.fault_code-code.ensures }))
