-- Dates and times of tags.
use Rattle.std.proofs.Common.{◌<◌, ◌≤◌, length, get_or, subst, pos, arith, ◌≡◌, ◌∙◌, ℕ, Bool, true, false, cond, refl, ap, sym, List, drop, Option, Some, None, Result, Ok, Err}
use Rattle.std.specs.Prelude.{[], ◌∷◌, ◌&&◌, is_some, option_and_then, unwrap_or}
use Rattle.std.specs.Str.{bytes_eq}
use Rattle.std.proofs.lemmas.Bool.{le-leb}
use Rattle.std.proofs.lemmas.Int.{ints}
use Rattle.std.proofs.lemmas.Slice.Eq.{bytes_eq-Decides}
use Rattle.jiff.specs.Types.{DateTime}
use Rattle.s7_clock.specs.Clock.{HasParts, IsClockYear, Reads, octets_of, parts_in}
use Rattle.s7_clock.proofs.DayLemmas.{octets_are}
use Rattle.s7_symbol.specs.Meanings.{date}
use Rattle.s7_symbol.specs.Octets.{date_with}
use Rattle.s7_symbol.specs.Texts.{text_spelling}
use Rattle.s7_clock.specs.Moment.{is_date, is_time, is_within, moment_at, moment_in, moment_octets, moment_of, moment_of_parts}
use Rattle.s7_text.specs.Lines.{Text}
use Rattle.s7_text.specs.Moments.{Parts, clock_values, date_named, date_text, is_moment, moment_named, parts_named, value_at}
use Rattle.s7_symbol.specs.Values.{octets_said, spelled, text_said}
use Rattle.s7_symbol.specs.declared.fault.ValueFault.{ValueFault}
use Rattle.s7_symbol.specs.declared.fault.ValueFault.TheVariants as fault
use Rattle.s7_symbol.specs.declared.kind.TagKind.TheVariants as kind

abbrev octets_at : ℕ → List ℕ
octets_at ms = drop 2 (moment_octets ms)

-- what is said of a text by its form, its years and its calendar
abbrev said_by : Bool → Bool → Bool → ℕ → Result (List ℕ) ValueFault
said_by form years calendar ms =
    cond form (cond calendar (cond years (Ok (octets_at ms)) (Err fault.Range)) (Err fault.Form)) (Err fault.Form)

abbrev named_by : Bool → Bool → Bool → ℕ → Option ℕ
named_by form years calendar ms = cond form (cond years (cond calendar (Some ms) None) None) None

date_said : (text : Text) (a b d : Bool) → is_moment text ≡ a → is_within 1990 2089 (value_at 0 4 text) ≡ b
    → (is_date (parts_named text) && is_time (parts_named text)) ≡ d
    → (octets_said kind.DateTime text ≡ said_by a b d (moment_at (parts_named text)))
    × (moment_named text ≡ named_by a b d (moment_at (parts_named text)))
    × (is_some (date_named text) ≡ (a && d))
date_said text true true true e f g = (rw (e, g, f) refl, rw (e, f, g) refl, rw (e, g) refl)
date_said text true false true e f g = (rw (e, g, f) refl, rw (e, f) refl, rw (e, g) refl)
date_said text true true false e f g = (rw (e, g) refl, rw (e, f, g) refl, rw (e, g) refl)
date_said text true false false e f g = (rw (e, g) refl, rw (e, f) refl, rw (e, g) refl)
date_said text false b d e f g = (rw e refl, rw e refl, rw e refl)

in_some : (a b d : Bool) (ms moment : ℕ) → named_by a b d ms ≡ Some moment → said_by a b d ms ≡ Ok (octets_at moment)
in_some true true true ms moment e = let same : ms ≡ moment = cc in ap (λ m. Ok (octets_at m)) same
in_some true true false ms moment e = absurd (cc)
in_some true false d ms moment e = absurd (cc)
in_some false b d ms moment e = absurd (cc)

past_years : (a b d : Bool) (ms : ℕ) → named_by a b d ms ≡ None → (a && d) ≡ true → said_by a b d ms ≡ Err fault.Range
past_years true true true ms e f = absurd (cc)
past_years true false true ms e f = refl
past_years true b false ms e f = absurd (cc)
past_years false b d ms e f = absurd (cc)

no_date : (a b d : Bool) (ms : ℕ) → (a && d) ≡ false → said_by a b d ms ≡ Err fault.Form
no_date true b true ms e = absurd (cc)
no_date true b false ms e = refl
no_date false b d ms e = refl

module _ (text : Text) where
  abbrev form : Bool
  form = is_moment text

  abbrev years : Bool
  years = is_within 1990 2089 (value_at 0 4 text)

  abbrev calendar : Bool
  calendar = is_date (parts_named text) && is_time (parts_named text)

  abbrev moment : ℕ
  moment = moment_at (parts_named text)

  pub said_in_range : (ms : ℕ) → moment_named text ≡ Some ms → octets_said kind.DateTime text ≡ Ok (octets_at ms)
  said_in_range ms e =
      let h = date_said text form years calendar refl refl refl in
      h.0 ∙ in_some form years calendar moment ms (sym h.1 ∙ e)

  pub said_past : moment_named text ≡ None → is_some (date_named text) ≡ true → octets_said kind.DateTime text ≡ Err fault.Range
  said_past e f =
      let h = date_said text form years calendar refl refl refl in
      h.0 ∙ past_years form years calendar moment (sym h.1 ∙ e) (sym h.2 ∙ f)

  pub said_no_date : is_some (date_named text) ≡ false → octets_said kind.DateTime text ≡ Err fault.Form
  said_no_date f =
      let h = date_said text form years calendar refl refl refl in
      h.0 ∙ no_date form years calendar moment (sym h.2 ∙ f)

-- ---- dates in octets

abbrev clock_of : List ℕ → List ℕ
clock_of octets = 0x00 ∷ 0x19 ∷ octets

some_parts : (o : Option Parts) (ms : ℕ) → option_and_then moment_of_parts o ≡ Some ms
    → (p : Parts) × (o ≡ Some p) × ((is_date p && is_time p) ≡ true) × (moment_at p ≡ ms)
some_parts None ms e = absurd (cc)
some_parts (Some p) ms e = go (is_date p && is_time p) refl
  where
    go : (b : Bool) → (is_date p && is_time p) ≡ b → (q : Parts) × (Some p ≡ Some q) × ((is_date q && is_time q) ≡ true) × (moment_at q ≡ ms)
    go true h =
        let some : option_and_then moment_of_parts (Some p) ≡ Some (moment_at p) = rw h refl in
        (p, refl, h, ap (λ (o : Option ℕ). unwrap_or o 0) (sym some ∙ e))
    go false h = absurd (cc (rw h at e))

no_parts : (o : Option Parts) (octets : List ℕ) → option_and_then moment_of_parts o ≡ None
    → option_and_then (date_with octets) o ≡ None
no_parts None octets e = refl
no_parts (Some p) octets e = go (is_date p && is_time p) refl
  where
    go : (b : Bool) → (is_date p && is_time p) ≡ b → date_with octets p ≡ None
    go true h = absurd (cc (rw h at e))
    go false h = rw h refl

-- octets with no moment say no date
pub said_no_moment : (octets : List ℕ) → moment_in (clock_of octets) ≡ None → text_said kind.DateTime octets ≡ Err fault.Form
unfolding moment_in
said_no_moment octets none =
    ap (spelled kind.DateTime text_spelling) (no_parts (parts_in (clock_of octets)) octets none)

-- ---- octets that a date and time was read from

record HasRead (octets : List ℕ) (t : DateTime) : Type 0 where
  parts : Parts
  is : parts_in (clock_of octets) ≡ Some parts
  calendar : (is_date parts && is_time parts) ≡ true
  moment : moment_at parts ≡ moment_of t
  year : is_within 1990 2089 parts.year ≡ true

in_years : (p : Parts) (t : DateTime) → HasParts p t → IsClockYear t.date.year → is_within 1990 2089 p.year ≡ true
in_years p t has is =
    let year : t.date.year ≡ pos p.year = has.0.0 in
    let low : 1990 ≤ p.year = omega (arith, ints, year, is.0) in
    let high : p.year ≤ 2089 = omega (arith, ints, year, is.1) in
    rw (le-leb 1990 p.year low, le-leb p.year 2089 high) refl

has_read : (octets : List ℕ) (t : DateTime) → Reads (parts_in (clock_of octets)) (Ok t) → IsClockYear t.date.year
    → moment_in (clock_of octets) ≡ Some (moment_of t) → HasRead octets t
unfolding moment_in
has_read octets t reads year moment =
    let some = some_parts (parts_in (clock_of octets)) (moment_of t) moment in
    record {
      parts = some.0;
      is = some.1;
      calendar = some.2;
      moment = some.3;
      year = in_years some.0 t (subst (λ o. Reads o (Ok t)) some.1 reads) year;
    }

date_by : (octets : List ℕ) (p : Parts) (b : Bool) → (is_date p && is_time p) ≡ true
    → bytes_eq octets (drop 2 (moment_octets (moment_at p))) ≡ b → date_with octets p ≡ cond b (Some (date p)) None
date_by octets p true cal same = rw (cal, same) refl
date_by octets p false cal same = rw (cal, same) refl

said_by_octets : (octets : List ℕ) (t : DateTime) (h : HasRead octets t) (b : Bool)
    → bytes_eq octets (drop 2 (moment_octets (moment_at h.parts))) ≡ b
    → text_said kind.DateTime octets ≡ cond b (Ok (date_text h.parts)) (Err fault.Form)
said_by_octets octets t h true same =
    ap (λ o. spelled kind.DateTime text_spelling (option_and_then (date_with octets) o)) h.is
    ∙ ap (spelled kind.DateTime text_spelling) (date_by octets h.parts true h.calendar same)
    ∙ rw h.year refl
said_by_octets octets t h false same =
    ap (λ o. spelled kind.DateTime text_spelling (option_and_then (date_with octets) o)) h.is
    ∙ ap (spelled kind.DateTime text_spelling) (date_by octets h.parts false h.calendar same)

-- the octets are those of the date and time
pub said_date : (octets : List ℕ) (t : DateTime) (text : Text) → Reads (parts_in (clock_of octets)) (Ok t) → IsClockYear t.date.year
    → moment_in (clock_of octets) ≡ Some (moment_of t) → octets_of t ≡ clock_of octets
    → clock_values (parts_in (clock_of octets)) ≡ text ∷ [] → text_said kind.DateTime octets ≡ Ok text
said_date octets t text reads year moment same is =
    let h = has_read octets t reads year moment in
    let own : octets ≡ drop 2 (moment_octets (moment_at h.parts)) =
    ap (drop 2) (sym same ∙ octets_are t year) ∙ ap (λ m. drop 2 (moment_octets m)) (sym h.moment) in
    let written : date_text h.parts ≡ text =
    ap (λ (l : List Text). list_head l text) (sym (ap clock_values h.is) ∙ is) in
    said_by_octets octets t h true ((bytes_eq-Decides octets (drop 2 (moment_octets (moment_at h.parts)))).1 own)
    ∙ ap Ok written
  where
    list_head : List Text → Text → Text
    list_head [] d = d
    list_head (x ∷ xs) d = x

-- or those of another weekday
pub said_other_day : (octets : List ℕ) (t : DateTime) → Reads (parts_in (clock_of octets)) (Ok t) → IsClockYear t.date.year
    → moment_in (clock_of octets) ≡ Some (moment_of t) → bytes_eq (octets_of t) (clock_of octets) ≡ false
    → text_said kind.DateTime octets ≡ Err fault.Form
unfolding moment_octets
said_other_day octets t reads year moment other =
    let h = has_read octets t reads year moment in
    go h (bytes_eq octets (drop 2 (moment_octets (moment_at h.parts)))) refl
  where
    go : (h : HasRead octets t) (b : Bool) → bytes_eq octets (drop 2 (moment_octets (moment_at h.parts))) ≡ b
        → text_said kind.DateTime octets ≡ Err fault.Form
    go h true same =
        let own = (bytes_eq-Decides octets (drop 2 (moment_octets (moment_at h.parts)))).0 same in
        let whole : octets_of t ≡ clock_of octets =
        octets_are t year ∙ ap moment_octets (sym h.moment) ∙ ap clock_of (sym own) in
        absurd (cc (sym other ∙ (bytes_eq-Decides (octets_of t) (clock_of octets)).1 whole))
    go h false same = said_by_octets octets t h false same

pub eight_of : (o : List ℕ) → 8 ≤ length o → length o < 9
    → o ≡ get_or o 0 0 ∷ get_or o 1 0 ∷ get_or o 2 0 ∷ get_or o 3 0 ∷ get_or o 4 0 ∷ get_or o 5 0 ∷ get_or o 6 0 ∷ get_or o 7 0 ∷ []
eight_of [] a b = absurd (omega arith)
eight_of (x0 ∷ []) a b = absurd (omega arith)
eight_of (x0 ∷ x1 ∷ []) a b = absurd (omega arith)
eight_of (x0 ∷ x1 ∷ x2 ∷ []) a b = absurd (omega arith)
eight_of (x0 ∷ x1 ∷ x2 ∷ x3 ∷ []) a b = absurd (omega arith)
eight_of (x0 ∷ x1 ∷ x2 ∷ x3 ∷ x4 ∷ []) a b = absurd (omega arith)
eight_of (x0 ∷ x1 ∷ x2 ∷ x3 ∷ x4 ∷ x5 ∷ []) a b = absurd (omega arith)
eight_of (x0 ∷ x1 ∷ x2 ∷ x3 ∷ x4 ∷ x5 ∷ x6 ∷ []) a b = absurd (omega arith)
eight_of (x0 ∷ x1 ∷ x2 ∷ x3 ∷ x4 ∷ x5 ∷ x6 ∷ x7 ∷ []) a b = refl
eight_of (x0 ∷ x1 ∷ x2 ∷ x3 ∷ x4 ∷ x5 ∷ x6 ∷ x7 ∷ x8 ∷ xs) a b = absurd (omega arith)
