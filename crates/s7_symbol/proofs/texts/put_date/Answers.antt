use Rattle.std.proofs.Common.{◌≡◌, ◌∙◌, ◌∷◌, List, ℕ, Ok, Err, Result, ap, sym, subst, refl, true, false}
use Rattle.std.specs.Str.{bytes_eq}
use Rattle.std.proofs.lemmas.Slice.Eq.{bytes_eq-Decides}
use Rattle.s7_clock.specs.Clock.{Reads, octets_of, parts_in}
use Rattle.s7_clock.specs.Moment.{moment_in}
use Rattle.s7_text.specs.Moments.{clock_values}
use Rattle.s7_symbol.specs.Values.{PutsSaid, Stands, text_said}
use Rattle.s7_symbol.specs.declared.fault.ValueFault.{ValueFault}
use Rattle.s7_symbol.specs.declared.fault.ValueFault.TheVariants as fault
use Rattle.s7_symbol.specs.declared.kind.TagKind.TheVariants as kind
use Rattle.s7_symbol.proofs.DateLemmas.{eight_of, said_date, said_no_moment, said_other_day}
use Rattle.s7_symbol.proofs.texts.put_date.Goals as goal

-- what was put for octets of which this is said
put_said : (octets text : List ℕ) (old new : List ℕ) (n : ℕ) → text_said kind.DateTime octets ≡ Ok text → Stands text old new n
    → PutsSaid (text_said kind.DateTime octets) old new (Ok n)
put_said octets text old new n said stands =
    subst (λ (r : Result (List ℕ) ValueFault). PutsSaid r old new (Ok n)) (sym said) stands

refused : (octets old : List ℕ) → text_said kind.DateTime octets ≡ Err fault.Form → PutsSaid (text_said kind.DateTime octets) old old (Err fault.Form)
refused octets old said =
    subst (λ (r : Result (List ℕ) ValueFault). PutsSaid r old old (Err fault.Form)) (sym said) (refl, refl)

abbrev clock_of : List ℕ → List ℕ
clock_of octets = 0x00 ∷ 0x19 ∷ octets

pub returns-in-Ok : goal.returns-in-Ok
returns-in-Ok c =
    let octets = c.args.octets.now in
    let eight = sym (eight_of octets c.in-len8.len_at_least c.in-len8.len_below) in
    let clock : c.as_slice.result.now ≡ clock_of octets = c.as_slice.ensures ∙ ap clock_of eight in
    let again : c.as_slice-in-Ok.result.now ≡ clock_of octets = c.as_slice-in-Ok.ensures ∙ ap clock_of eight in
    let same : bytes_eq (octets_of c.in-Ok.date) (clock_of octets) ≡ true =
    (λ i. bytes_eq (sym c.to_octets.ensures i) (clock_of (sym eight i))) ∙ sym c.eq.ensures ∙ c.if-eq.true in
    put_said octets c.clock_text.result c.args.into.now c.put.new.into c.put.result
    (said_date octets c.in-Ok.date c.clock_text.result
    (subst (λ k. Reads (parts_in k) (Ok c.in-Ok.date)) clock c.in-Ok.ensures.read) c.in-Ok.ensures.year
    (ap moment_in (sym clock) ∙ sym c.in-Ok.ensures.moment)
    ((bytes_eq-Decides (octets_of c.in-Ok.date) (clock_of octets)).0 same)
    (ap (λ k. clock_values (parts_in k)) (sym again) ∙ c.clock_text.ensures))
    (subst (λ t. Stands t c.args.into.now c.put.new.into c.put.result) c.as_slice-in-Ok-2.ensures c.put.ensures)

pub returns-in_default-from_octets : goal.returns-in_default-from_octets
returns-in_default-from_octets c =
    let octets = c.args.octets.now in
    let eight = sym (eight_of octets c.in-len8.len_at_least c.in-len8.len_below) in
    let clock : c.as_slice.result.now ≡ clock_of octets = c.as_slice.ensures ∙ ap clock_of eight in
    let other : bytes_eq (octets_of c.in-Ok.date) (clock_of octets) ≡ false =
    (λ i. bytes_eq (sym c.to_octets.ensures i) (clock_of (sym eight i))) ∙ sym c.eq.ensures ∙ c.if-eq.false in
    refused octets c.args.into.now
    (said_other_day octets c.in-Ok.date
    (subst (λ k. Reads (parts_in k) (Ok c.in-Ok.date)) clock c.in-Ok.ensures.read) c.in-Ok.ensures.year
    (ap moment_in (sym clock) ∙ sym c.in-Ok.ensures.moment) other)

pub returns-in_default-from_octets-2 : goal.returns-in_default-from_octets-2
returns-in_default-from_octets-2 c =
    let octets = c.args.octets.now in
    let clock : c.as_slice.result.now ≡ clock_of octets =
    c.as_slice.ensures ∙ ap clock_of (sym (eight_of octets c.in-len8.len_at_least c.in-len8.len_below)) in
    refused octets c.args.into.now (said_no_moment octets (ap moment_in (sym clock) ∙ sym c.in_default-from_octets.ensures.moment))
