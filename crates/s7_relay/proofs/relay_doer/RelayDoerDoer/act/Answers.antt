use Rattle.std.proofs.Common.{◌∷◌, [], ◌++◌, vec_len, refl, ap, sym, ◌∙◌, arith}
use Rattle.s7_plant.specs.Replies.{Said, said_of}
use Rattle.s7_plant.specs.Requests.{kept}
use Rattle.s7_session.specs.Entry.{Entry}
use Rattle.s7_relay.specs.Doer.{doer_model, entries_of}
use Rattle.s7_relay.specs.DoerLaws.{goes_on_same}
use Rattle.s7_relay.specs.Far.{far_model}
use Rattle.s7_relay.specs.declared.passage.Relayed.{Relayed}
use Rattle.s7_relay.proofs.DoerLemmas.{entries_grow, goes_on_by_one, goes_on_lacking, relayed_as_kept}
use Rattle.s7_relay.proofs.relay_doer.RelayDoerDoer.act.Goals as goal

pub returns-then-is_full-clause-kept : goal.returns-then-is_full-clause-kept
returns-then-is_full-clause-kept g c =
    goes_on_same g.M.Link.shows (doer_model g.K.Dial.shows g.M.Link.shows c.args.self.now)

pub returns-in_default-clause-kept : goal.returns-in_default-clause-kept
returns-in_default-clause-kept g c =
    let model = doer_model g.K.Dial.shows g.M.Link.shows in
    let step = c.in_default.ensures in
    goes_on_lacking g.M.Link.shows (model c.args.self.now) (model c.relay.new.self) step.windows step.server step.limit
    step.lacks (ap (λ v. v.items) step.kept)

pub returns-clause-ok : goal.returns-clause-ok
returns-clause-ok g c = λ entries is.
    let r : Relayed = record { ask = kept c.args.ask; reply = c.in-Ok.kept; passage = c.in-Ok.passage } in
    let step = c.in-Ok.ensures in
    let old = c.args.self.now.kept.items in
    let number = c.len-number.result in
    let one : Said → Entry = λ said. record { number = number; ask = kept c.args.ask; reply = said } in
    let same = ap (λ v. v.items) step.kept in
    ap (λ es. es ++ one (said_of c.relay.new.reply) ∷ []) is
    ∙ ap (λ said. entries_of old ++ one said ∷ []) (sym step.copied)
    ∙ sym (entries_grow old r number (let long = ap vec_len step.kept in omega (arith, c.len-number.ensures, long, c.args.self.now.kept.ok.0)))
    ∙ sym (ap entries_of (c.push_reserved.ensures.items ∙ (λ i. same i ++ c.entry_of.ensures i ∷ [])))

pub returns-clause-kept : goal.returns-clause-kept
returns-clause-kept g c =
    let step = c.in-Ok.ensures in
    let same = ap (λ v. v.items) step.kept in
    goes_on_by_one g.M.Link.shows _ _
    (record { ask = kept c.args.ask; reply = c.in-Ok.kept; passage = c.in-Ok.passage })
    step.windows step.server step.limit
    (relayed_as_kept g.M.Link.shows _ _ _ _ c.args.ask c.in-Ok.kept c.in-Ok.passage step.passes (step.copied ∙ step.said))
    (c.push_reserved.ensures.items ∙ (λ i. same i ++ c.entry_of.ensures i ∷ []))

pub returns-clause-entered : goal.returns-clause-entered
returns-clause-entered g c =
    let r : Relayed = record { ask = kept c.args.ask; reply = c.in-Ok.kept; passage = c.in-Ok.passage } in
    let step = c.in-Ok.ensures in
    let same = ap (λ v. v.items) step.kept in
    let grown = c.push_reserved.ensures.items ∙ (λ i. same i ++ c.entry_of.ensures i ∷ []) in
    let far = far_model g.K.Dial.shows g.M.Link.shows c.relay.new.self.far in
    let long = ap vec_len step.kept in (
      r,
      refl,
      step.copied,
      omega (arith, c.len-number.ensures, long, c.args.self.now.kept.ok.0),
      relayed_as_kept g.M.Link.shows _ _ _ _ c.args.ask c.in-Ok.kept c.in-Ok.passage step.passes (step.copied ∙ step.said),
      (λ i. record { windows = step.windows i; server = step.server i; limit = step.limit i; far = far; kept = grown i }),
    )
