use Rattle.std.proofs.Common.{refl, sym, ap, ◌∙◌, subst}
use Rattle.s7_cotp.specs.Told.{told_of}
use Rattle.s7_wire.specs.Reading.{Progress, with_tpdu, with_told}
use Rattle.s7_wire.specs.Reads.{Finds}
use Rattle.s7_wire.proofs.ReadingLemmas.{body_at}
use Rattle.s7_wire.proofs.ReaderLemmas.{going_on}
use Rattle.s7_wire.proofs.transport.Transport.packet.Goals as goal

pub returns-in-None-clause-finds : goal.returns-in-None-clause-finds
returns-in-None-clause-finds c = λ p is.
    let o = c.args.self.now.opening in
    let body = c.args.body.now in
    let same = body_at o p body (going_on c.args.self.now p is c.requires.going)
    ∙ (ap (with_tpdu o p body) (sym c.in-Ok.ensures.told) ∙ ap (λ size. with_told o p body size (told_of c.in-Ok.tpdu)) (sym is.size ∙ c.in-None.is)) in
    subst (λ (q : Progress). Finds p q c.open.new.self c.open.result) (sym same) (c.open.ensures.finds p body is refl)

pub returns-in-Some-clause-finds : goal.returns-in-Some-clause-finds
returns-in-Some-clause-finds c = λ p is.
    let o = c.args.self.now.opening in
    let body = c.args.body.now in
    let same = body_at o p body (going_on c.args.self.now p is c.requires.going)
    ∙ (ap (with_tpdu o p body) (sym c.in-Ok.ensures.told) ∙ ap (λ size. with_told o p body size (told_of c.in-Ok.tpdu)) (sym is.size ∙ c.in-Some.is)) in
    subst (λ (q : Progress). Finds p q c.connected.new.self c.connected.result) (sym same) (c.connected.ensures.finds p body is refl)

pub returns-in_default-clause-finds : goal.returns-in_default-clause-finds
returns-in_default-clause-finds c = λ p is.
    let o = c.args.self.now.opening in
    let body = c.args.body.now in
    let same = body_at o p body (going_on c.args.self.now p is c.requires.going) ∙ ap (with_tpdu o p body) (sym c.in_default.ensures.told) in
    subst (λ (q : Progress). Finds p q c.fault.new.self c.fault.result) (sym same) (c.fault.ensures.finds p is)
