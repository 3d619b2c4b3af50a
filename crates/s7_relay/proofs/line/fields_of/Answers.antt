use Rattle.std.proofs.Common.{◌≡◌, ◌∙◌, ap, sym, Bor, List, ◌∷◌, ℕ}
use Rattle.s7_text.specs.Lines.{Text}
use Rattle.s7_relay.specs.Line.{around_sign, fields}
use Rattle.s7_relay.proofs.FieldLemmas.{on_some, too_many}
use Rattle.s7_relay.proofs.line.fields_of.Goals as goal

-- a field, and those behind it
abbrev Cuts : Text → Text → Bor (List ℕ) → Type 0
Cuts text field rest = fields text ≡ field ∷ fields rest.now

pub returns-in-Some : goal.returns-in-Some
returns-in-Some c =
    let one = on_some c.next_field.result.1 (Cuts c.args.text.now c.next_field.result.0.now) c.in_ok-rest.field-0
    c.in_ok-rest.was c.next_field.ensures.more in
    let two = on_some c.next_field-2.result.1 (Cuts c.in_ok-rest.field-0.now c.next_field-2.result.0.now) c.in_ok-rest-2.field-0
    c.in_ok-rest-2.was c.next_field-2.ensures.more in
    let three = on_some c.next_field-3.result.1 (Cuts c.in_ok-rest-2.field-0.now c.next_field-3.result.0.now) c.in_ok-rest-3.field-0
    c.in_ok-rest-3.was c.next_field-3.ensures.more in
    let four = on_some c.next_field-4.result.1 (Cuts c.in_ok-rest-3.field-0.now c.next_field-4.result.0.now) c.in_ok-rest-4.field-0
    c.in_ok-rest-4.was c.next_field-4.ensures.more in
    let five = on_some c.next_field-5.result.1 (Cuts c.in_ok-rest-4.field-0.now c.next_field-5.result.0.now) c.in-Some.field-0
    c.in-Some.is c.next_field-5.ensures.more in
    let a = c.next_field.result.0.now in
    let b = c.next_field-2.result.0.now in
    let s = c.next_field-3.result.0.now in
    let d = c.next_field-4.result.0.now in
    let e = c.next_field-5.result.0.now in
    let whole : fields c.args.text.now ≡ a ∷ b ∷ s ∷ d ∷ e ∷ fields c.in-Some.field-0.now =
    one ∙ ap (λ l. a ∷ l) (two ∙ ap (λ l. b ∷ l) (three ∙ ap (λ l. s ∷ l) (four ∙ ap (λ l. d ∷ l) five))) in
    sym (ap around_sign whole ∙ too_many a b s d e c.in-Some.field-0.now)
