-- Parts of a date and time, and their moment.
use Rattle.std.proofs.Common.{◌≡◌, ◌∙◌, ◌≤◌, ◌+◌, ◌*◌, ℕ, ℤ, pos, true, false, ◌&&◌, leb, cond, refl, subst, arith, ◌+ℤ◌, ◌*ℤ◌, Some, None, Result, Ok, Err}
use Rattle.std.specs.Prelude.{unsigned_abs, IfOk}
use Rattle.std.specs.Int.{IsInRange}
use Rattle.std.proofs.lemmas.Bool.{and_parts, le-leb, leb-true}
use Rattle.std.proofs.lemmas.Int.{ints}
use Rattle.jiff.specs.Types.{DateTime}
use Rattle.jiff.specs.Words.{civil_nanos, days_in_month, epoch_day, time_nanos}
use Rattle.jiff_core.specs.Calendar.{days_from_civil}
use Rattle.jiff.proofs.Family.{civil_nanos-parts}
use Rattle.jiff.proofs.SpanFacts.{signed_arith}
use Rattle.s7_clock.specs.Clock.{AreDateTime, HasClockYear, HasParts, IsClockYear, IsSmall, Reads}
use Rattle.s7_clock.specs.Moment.{is_date, is_time, is_within, moment_at, moment_of, moment_of_parts, moment_read}
use Rattle.s7_clock.specs.declared.clock.Parts.{Parts}
use Rattle.s7_clock.specs.declared.faults.NotDate.{NotDate}
use Rattle.s7_clock.proofs.MomentLemmas.{clock_days, moment_is, not_negative}

-- ---- the tests

within : (low high n : ℕ) → is_within low high n ≡ true → (low ≤ n) × (n ≤ high)
within low high n h =
    let both = and_parts (leb low n) (leb n high) h in
    (leb-true low n both.0, leb-true n high both.1)

is-within : (low high n : ℕ) → low ≤ n → n ≤ high → is_within low high n ≡ true
is-within low high n a b = rw (le-leb low n a, le-leb n high b) refl

are_date_time : (p : Parts) → IsSmall p → HasClockYear p → (is_date p && is_time p) ≡ true → AreDateTime p
are_date_time p is year h =
    let both = and_parts (is_date p) (is_time p) h in
    let date = and_parts (is_within 1 12 p.month) (is_within 1 (days_in_month (pos p.year) p.month) p.day) both.0 in
    let time = and_parts (leb p.hour 23) (leb p.minute 59 && leb p.second 59) both.1 in
    let rest = and_parts (leb p.minute 59) (leb p.second 59) time.1 in
    let m = within 1 12 p.month date.0 in
    let d = within 1 (days_in_month (pos p.year) p.month) p.day date.1 in
    let h = leb-true p.hour 23 time.0 in
    let mi = leb-true p.minute 59 rest.0 in
    let s = leb-true p.second 59 rest.1 in (
      ((omega (arith, ints, year.to), omega (arith, ints, year.to)), (omega (arith, ints, m), omega (arith, ints, m)), (omega (arith, ints, d), omega (arith, ints, d))),
      (
        (omega (arith, ints), omega (arith, ints, h)),
        (omega (arith, ints), omega (arith, ints, mi)),
        (omega (arith, ints), omega (arith, ints, s)),
        (omega (arith, ints), omega (arith, ints, is.millisecond)),
      ),
    )

-- ---- of a date and time

date_is : (y m d : ℕ) (year : ℤ) (month day : ℕ) → year ≡ pos y → pos month ≡ pos m → pos day ≡ pos d → days_from_civil year month day ≡ days_from_civil (pos y) m d
date_is y m d year month day a b e =
    let f : month ≡ m = cc in
    let g : day ≡ d = cc in
    λ i. days_from_civil (a i) (f i) (g i)

pub passes_by : (p : Parts) → 1 ≤ p.month → p.month ≤ 12 → 1 ≤ p.day → p.day ≤ days_in_month (pos p.year) p.month → p.hour ≤ 23 → p.minute ≤ 59 → p.second ≤ 59
    → (is_date p && is_time p) ≡ true
passes_by p a b c d h mi s =
    rw (is-within 1 12 p.month a b, is-within 1 (days_in_month (pos p.year) p.month) p.day c d, le-leb p.hour 23 h, le-leb p.minute 59 mi, le-leb p.second 59 s) refl

passes : (p : Parts) (t : DateTime) → HasParts p t → (is_date p && is_time p) ≡ true
passes p t has =
    let month : t.date.month ≡ p.month = cc in
    let day : t.date.day ≡ p.day = cc in
    let hour : t.time.hour ≡ p.hour = cc in
    let minute : t.time.minute ≡ p.minute = cc in
    let second : t.time.second ≡ p.second = cc in
    let y = subst (λ (z : ℤ). IsInRange 1 (days_in_month z t.date.month) t.date.day) has.0.0 t.date.day_in in
    let m = subst (λ (n : ℕ). IsInRange 1 (days_in_month (pos p.year) n) t.date.day) month y in
    let d = subst (λ (n : ℕ). IsInRange 1 (days_in_month (pos p.year) p.month) n) day m in
    passes_by p (omega (arith, t.date.month_in)) (omega (arith, t.date.month_in)) d.0 (omega (arith, d)) (omega (arith, t.time.hour_in)) (omega (arith, t.time.minute_in))
    (omega (arith, t.time.second_in))

in_clock_year : (p : Parts) (t : DateTime) → HasClockYear p → HasParts p t → IsClockYear t.date.year
in_clock_year p t is has = rw (has.0.0) (omega (arith, ints, is.from), omega (arith, ints, is.to))

-- nanoseconds of a day and of its time
by_days : (z : ℤ) (day : ℕ) (c : ℤ) (time h mi s f ms : ℕ) → c ≡ z *ℤ pos 86400000000000 +ℤ pos time → z ≡ pos day → time ≡ (h * 3600 + mi * 60 + s) * 1000000000 + f → f ≡ ms * 1000000
    → c ≡ pos ((day * 86400000 + (h * 3600 + mi * 60 + s) * 1000 + ms) * 1000000)
by_days z day c time h mi s f ms e d t g = omega (arith, signed_arith)

moment_same : (p : Parts) (t : DateTime) → HasClockYear p → HasParts p t → moment_of t ≡ moment_at p
moment_same p t is has =
    let days = clock_days t.date (in_clock_year p t is has) in
    let z = days_from_civil (pos p.year) p.month p.day in
    let date : epoch_day t.date ≡ z = date_is p.year p.month p.day t.date.year t.date.month t.date.day has.0.0 has.0.1 has.0.2 in
    let day : z ≡ pos (unsigned_abs z) = not_negative z (omega (arith, signed_arith, days.0, date)) in
    let hour : t.time.hour ≡ p.hour = cc in
    let minute : t.time.minute ≡ p.minute = cc in
    let second : t.time.second ≡ p.second = cc in
    let fraction : t.time.subsec_nanosecond ≡ p.millisecond * 1000000 = cc in
    let nanos = by_days (epoch_day t.date) (unsigned_abs z) (civil_nanos t) (time_nanos t.time) p.hour p.minute p.second t.time.subsec_nanosecond p.millisecond
    (civil_nanos-parts t) (date ∙ day) (omega arith) fraction in
    moment_is t (moment_at p) nanos

pub moment_of_read : (p : Parts) (r : Result DateTime NotDate) → IsSmall p → HasClockYear p → Reads (Some p) r → moment_read r ≡ moment_of_parts p
moment_of_read p (Ok t) is year reads = rw (passes p t reads, moment_same p t year reads) refl
moment_of_read p (Err e) is year reads =
    elim (is_date p && is_time p) as (λ b. (is_date p && is_time p) ≡ b → None ≡ cond b (Some (moment_at p)) None) [
      | true ↦ λ h. absurd (reads (are_date_time p is year h))
      | false ↦ λ h. refl
    ] refl

pub in_clock_years : (p : Parts) (r : Result DateTime NotDate) → HasClockYear p → Reads (Some p) r → IfOk r (λ t. IsClockYear t.date.year)
in_clock_years p (Ok t) is reads = in_clock_year p t is reads
in_clock_years p (Err e) is reads = tt
