use Rattle.std.proofs.Common.{rules, ℕ, List, ◌≡◌, ◌<◌, ◌+◌, ◌++◌, [], length, take, refl, sym, ap, ◌∙◌, subst, arith}
use Rattle.std.proofs.lemmas.Grind.{common_steps}
use Rattle.std.proofs.lemmas.List.{take-append-drop, length-take-le}
use Rattle.s7_cotp.specs.Told.{connection_of}
use Rattle.s7_wire.specs.declared.found.Found.{Found}
use Rattle.s7_wire.specs.declared.found.Found.TheVariants as finding
use Rattle.s7_wire.specs.declared.found.Opening.TheVariants.{Request}
use Rattle.s7_wire.specs.declared.reader.Reader.{Reader}
use Rattle.s7_wire.specs.Reads.{HasRead, HasFound, opens_by, place_at}
use Rattle.s7_session.specs.declared.outcome.Turn.{Turn}
use Rattle.s7_session.specs.declared.outcome.Turn.TheVariants as turn
use Rattle.s7_session.specs.Owed.{outcome_of}
use Rattle.s7_session.specs.Stands.{Consumes}
use Rattle.s7_session.proofs.ConsumeLemmas.{IsOn, still_going, consumes_by, uses_more, uses_opened, uses_message, uses_ended, ends_disconnected, ends_faulted, torn_by_octets, fault_by_octets, IsByOctets}
use Rattle.s7_session.proofs.session.Session.consume.Goals as goal

pub returns-in-More-clause-consumes : goal.returns-in-More-clause-consumes
returns-in-More-clause-consumes g c =
    let k = g.L.Link.shows c.args.line.now in
    let t = c.read-taken in
    let used = take t.result.octets c.as_slice.result.now in
    let size : length used ≡ t.result.octets = length-take-le t.result.octets c.as_slice.result.now t.ensures.taken in
    let inbox : c.args.self.now.inbox ≡ used ++ c.advance.new.self = grind (arith, common_steps, take-append-drop) in
    let counted : c.args.self.now.used + t.result.octets ≡ c.args.self.now.used + length used = ap (λ n. c.args.self.now.used + n) (sym size) in
    let opens : opens_by t.new.self ≡ Request = t.ensures.opening ∙ c.args.self.now.opens in
    let found : (b : List ℕ) → HasRead c.args.self.now.reader b → HasFound t.new.self b used (finding.More) = λ b h. subst (λ (f : Found). HasFound t.new.self b used f) c.in-More.is (t.ensures.found b h) in
    let going = still_going _ t.result (λ end e. (t.ensures.ended end e).0) (subst IsOn (sym c.in-More.is) tt) in
    let some : 0 < length used = grind (arith, common_steps, size, t.ensures.some going (subst (λ xs. 0 < length xs) (sym c.as_slice.ensures.octets) c.requires.read)) in
    consumes_by g.D.Doer.stands g.D.Doer.is_full g.D.Doer.may_lack g.D.Doer.did g.D.Doer.keeps c.args.self.now _ k k c.args.doer.now c.args.doer.now turn.Went used [] [] c.requires.sent
    (uses_more g.D.Doer.stands g.D.Doer.is_full g.D.Doer.may_lack g.D.Doer.did g.D.Doer.keeps c.args.self.now _ k c.args.doer.now used c.requires.going opens found
    some inbox counted c.requires.sent refl refl refl c.requires.going)

pub returns-in-Opened-clause-consumes : goal.returns-in-Opened-clause-consumes
returns-in-Opened-clause-consumes g c =
    let k = g.L.Link.shows c.args.line.now in
    let t = c.read-taken in
    let used = take t.result.octets c.as_slice.result.now in
    let size : length used ≡ t.result.octets = length-take-le t.result.octets c.as_slice.result.now t.ensures.taken in
    let inbox : c.args.self.now.inbox ≡ used ++ c.advance.new.self = grind (arith, common_steps, take-append-drop) in
    let counted : c.args.self.now.used + t.result.octets ≡ c.args.self.now.used + length used = ap (λ n. c.args.self.now.used + n) (sym size) in
    let opens : opens_by t.new.self ≡ Request = t.ensures.opening ∙ c.args.self.now.opens in
    let found : (b : List ℕ) → HasRead c.args.self.now.reader b → HasFound t.new.self b used (finding.Opened c.in-Opened.request) = λ b h. subst (λ (f : Found). HasFound t.new.self b used f) c.in-Opened.is (t.ensures.found b h) in
    let going = still_going _ t.result (λ end e. (t.ensures.ended end e).0) (subst IsOn (sym c.in-Opened.is) tt) in
    let some : 0 < length used = grind (arith, common_steps, size, t.ensures.some going (subst (λ xs. 0 < length xs) (sym c.as_slice.ensures.octets) c.requires.read)) in
    consumes_by g.D.Doer.stands g.D.Doer.is_full g.D.Doer.may_lack g.D.Doer.did g.D.Doer.keeps c.args.self.now _ k k c.args.doer.now c.args.doer.now turn.Went used [] [] c.requires.sent
    (uses_opened g.D.Doer.stands g.D.Doer.is_full g.D.Doer.may_lack g.D.Doer.did g.D.Doer.keeps c.args.self.now _ k c.args.doer.now used c.in-Opened.request (connection_of c.in-Opened.request) c.requires.going opens found
    refl c.open.ensures some inbox counted refl refl c.requires.going)

pub returns-in-Message-clause-consumes : goal.returns-in-Message-clause-consumes
returns-in-Message-clause-consumes g c =
    let k = g.L.Link.shows c.args.line.now in
    let t = c.read-taken in
    let used = take t.result.octets c.as_slice.result.now in
    let size : length used ≡ t.result.octets = length-take-le t.result.octets c.as_slice.result.now t.ensures.taken in
    let inbox : c.args.self.now.inbox ≡ used ++ c.advance.new.self = grind (arith, common_steps, take-append-drop) in
    let counted : c.args.self.now.used + t.result.octets ≡ c.args.self.now.used + length used = ap (λ n. c.args.self.now.used + n) (sym size) in
    let opens : opens_by t.new.self ≡ Request = t.ensures.opening ∙ c.args.self.now.opens in
    let found : (b : List ℕ) → HasRead c.args.self.now.reader b → HasFound t.new.self b used (finding.Message) = λ b h. subst (λ (f : Found). HasFound t.new.self b used f) c.in-Message.is (t.ensures.found b h) in
    let going = still_going _ t.result (λ end e. (t.ensures.ended end e).0) (subst IsOn (sym c.in-Message.is) tt) in
    let some : 0 < length used = grind (arith, common_steps, size, t.ensures.some going (subst (λ xs. 0 < length xs) (sym c.as_slice.ensures.octets) c.requires.read)) in
    consumes_by g.D.Doer.stands g.D.Doer.is_full g.D.Doer.may_lack g.D.Doer.did g.D.Doer.keeps c.args.self.now c.handle.new.self k (g.L.Link.shows c.handle.new.line) c.args.doer.now c.handle.new.doer c.handle.result used _ _ c.requires.sent
    (uses_message g.D.Doer.stands g.D.Doer.is_full g.D.Doer.may_lack g.D.Doer.did g.D.Doer.keeps c.args.self.now _ c.handle.new.self k (g.L.Link.shows c.handle.new.line) c.args.doer.now c.handle.new.doer used c.handle.result c.handle.ensures.handles c.requires.going opens found
    refl (grind (arith, common_steps, c.args.self.now.fits)) some inbox counted refl refl)

pub returns-in-Disconnected-clause-consumes : goal.returns-in-Disconnected-clause-consumes
returns-in-Disconnected-clause-consumes g c =
    let k = g.L.Link.shows c.args.line.now in
    let t = c.read-taken in
    let used = take t.result.octets c.as_slice.result.now in
    let size : length used ≡ t.result.octets = length-take-le t.result.octets c.as_slice.result.now t.ensures.taken in
    let inbox : c.args.self.now.inbox ≡ used ++ c.advance.new.self = grind (arith, common_steps, take-append-drop) in
    let counted : c.args.self.now.used + t.result.octets ≡ c.args.self.now.used + length used = ap (λ n. c.args.self.now.used + n) (sym size) in
    let opens : opens_by t.new.self ≡ Request = t.ensures.opening ∙ c.args.self.now.opens in
    let found : (b : List ℕ) → HasRead c.args.self.now.reader b → HasFound t.new.self b used (finding.Disconnected) = λ b h. subst (λ (f : Found). HasFound t.new.self b used f) c.in-Disconnected.is (t.ensures.found b h) in
    let x = c.close.ensures in
    let end = c.end-outcome in
    subst (λ (r : Turn). Consumes g.D.Doer.stands g.D.Doer.is_full g.D.Doer.may_lack g.D.Doer.did g.D.Doer.keeps c.args.self.now k c.args.doer.now c.close.new.self k c.args.doer.now r) (sym x.result)
    (consumes_by g.D.Doer.stands g.D.Doer.is_full g.D.Doer.may_lack g.D.Doer.did g.D.Doer.keeps c.args.self.now c.close.new.self k k c.args.doer.now c.args.doer.now (turn.Closed end.result) used [] [] c.requires.sent
    (uses_ended g.D.Doer.stands g.D.Doer.is_full g.D.Doer.may_lack g.D.Doer.did g.D.Doer.keeps c.args.self.now c.close.new.self k c.args.doer.now used finding.Disconnected end.result
    (λ b f size. ends_disconnected c.close.new.self used end.result (λ d h. end.ensures.torn d (subst (λ (r : Reader). HasRead r d) x.reader h)) b f)
    c.requires.going (ap opens_by x.reader ∙ opens) (λ b h. subst (λ (r : Reader). HasFound r b used finding.Disconnected) (sym x.reader) (found b h))
    (inbox ∙ ap (λ i. used ++ i) (sym x.inbox)) (x.used ∙ counted) c.requires.sent x.conversation x.count x.newest x.closed
    (subst IsByOctets (sym end.ensures.octets.1) (torn_by_octets end.ensures.octets.0))))

pub returns-in-Fault-clause-consumes : goal.returns-in-Fault-clause-consumes
returns-in-Fault-clause-consumes g c =
    let k = g.L.Link.shows c.args.line.now in
    let t = c.read-taken in
    let used = take t.result.octets c.as_slice.result.now in
    let size : length used ≡ t.result.octets = length-take-le t.result.octets c.as_slice.result.now t.ensures.taken in
    let inbox : c.args.self.now.inbox ≡ used ++ c.advance.new.self = grind (arith, common_steps, take-append-drop) in
    let counted : c.args.self.now.used + t.result.octets ≡ c.args.self.now.used + length used = ap (λ n. c.args.self.now.used + n) (sym size) in
    let opens : opens_by t.new.self ≡ Request = t.ensures.opening ∙ c.args.self.now.opens in
    let found : (b : List ℕ) → HasRead c.args.self.now.reader b → HasFound t.new.self b used (finding.Fault c.in-Fault.fault) = λ b h. subst (λ (f : Found). HasFound t.new.self b used f) c.in-Fault.is (t.ensures.found b h) in
    let x = c.close-in-Fault.ensures in
    let end = c.of_fault.result in
    let end_is : end ≡ outcome_of c.in-Fault.fault c.place-at.result = search rules in
    subst (λ (r : Turn). Consumes g.D.Doer.stands g.D.Doer.is_full g.D.Doer.may_lack g.D.Doer.did g.D.Doer.keeps c.args.self.now k c.args.doer.now c.close-in-Fault.new.self k c.args.doer.now r) (sym x.result)
    (consumes_by g.D.Doer.stands g.D.Doer.is_full g.D.Doer.may_lack g.D.Doer.did g.D.Doer.keeps c.args.self.now c.close-in-Fault.new.self k k c.args.doer.now c.args.doer.now (turn.Closed end) used [] [] c.requires.sent
    (uses_ended g.D.Doer.stands g.D.Doer.is_full g.D.Doer.may_lack g.D.Doer.did g.D.Doer.keeps c.args.self.now c.close-in-Fault.new.self k c.args.doer.now used (finding.Fault c.in-Fault.fault) end
    (λ b f size. ends_faulted c.args.self.now c.close-in-Fault.new.self used c.in-Fault.fault end (grind (arith, common_steps, c.args.self.now.fits)) (end_is ∙ ap (outcome_of c.in-Fault.fault) (c.place-at.ensures ∙ ap place_at (sym x.reader))) b f size)
    c.requires.going (ap opens_by x.reader ∙ opens) (λ b h. subst (λ (r : Reader). HasFound r b used (finding.Fault c.in-Fault.fault)) (sym x.reader) (found b h))
    (inbox ∙ ap (λ i. used ++ i) (sym x.inbox)) (x.used ∙ counted) c.requires.sent x.conversation x.count x.newest x.closed
    (subst IsByOctets (sym end_is) (fault_by_octets c.in-Fault.fault _))))

pub handle-requires-clause-some : goal.handle-requires-clause-some
handle-requires-clause-some g c =
    let t = c.read-taken in
    let going = still_going _ t.result (λ end e. (t.ensures.ended end e).0) (subst IsOn (sym c.in-Message.is) tt) in
    let some : 0 < t.result.octets = t.ensures.some going (subst (λ xs. 0 < length xs) (sym c.as_slice.ensures.octets) c.requires.read) in
    omega (arith, some, c.args.self.now.count_fits)
