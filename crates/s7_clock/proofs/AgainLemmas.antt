-- The clock octets of a date and time are read as its moment.
use Rattle.std.proofs.Common.{◌≡◌, ◌∙◌, ◌≤◌, ℕ, ℤ, pos, true, ◌&&◌, sym, ap, subst, arith, Some}
use Rattle.std.specs.Prelude.{unsigned_abs, option_and_then}
use Rattle.std.specs.Int.{IsInRange}
use Rattle.jiff.specs.Types.{DateTime}
use Rattle.jiff.specs.Words.{days_in_month, epoch_day}
use Rattle.jiff_core.specs.Calendar.{days_from_civil}
use Rattle.jiff.proofs.SpanFacts.{signed_arith}
use Rattle.s7_clock.specs.Clock.{IsClockYear, octets_of, parts_in}
use Rattle.s7_clock.specs.Moment.{is_date, is_time, moment_in, moment_of, moment_of_parts}
use Rattle.s7_clock.proofs.ClockLemmas.{octets_in, parts_at, parts_in-octets}
use Rattle.s7_clock.proofs.DayLemmas.{moment_sum}
use Rattle.s7_clock.proofs.MomentLemmas.{clock_days, not_negative}
use Rattle.s7_clock.proofs.PartsLemmas.{passes_by}

are_real : (y : ℕ) (t : DateTime) → t.date.year ≡ pos y → (is_date (parts_at y t) && is_time (parts_at y t)) ≡ true
are_real y t year =
    let day = subst (λ (z : ℤ). IsInRange 1 (days_in_month z t.date.month) t.date.day) year t.date.day_in in
    passes_by (parts_at y t) (omega (arith, t.date.month_in)) (omega (arith, t.date.month_in)) day.0 (omega (arith, day)) (omega (arith, t.time.hour_in)) (omega (arith, t.time.minute_in))
    (omega (arith, t.time.second_in))

read_by : (y day : ℕ) (t : DateTime) → t.date.year ≡ pos y → 1990 ≤ y → y ≤ 2089 → epoch_day t.date ≡ pos day → moment_in (octets_of t) ≡ Some (moment_of t)
unfolding moment_in
read_by y day t year low high e =
    let octets : octets_of t ≡ octets_in y t = ap (λ (z : ℤ). octets_in (unsigned_abs z) t) year in
    let parts = ap parts_in octets ∙ parts_in-octets y t low high in
    let date : unsigned_abs (days_from_civil (pos y) t.date.month t.date.day) ≡ day =
    ap (λ (z : ℤ). unsigned_abs (days_from_civil z t.date.month t.date.day)) (sym year) ∙ ap unsigned_abs e in
    ap (option_and_then moment_of_parts) parts ∙ rw (are_real y t year, date) (ap Some (sym (moment_sum t day e)))

pub read_again : (t : DateTime) → IsClockYear t.date.year → moment_in (octets_of t) ≡ Some (moment_of t)
read_again t year =
    let days = clock_days t.date year in
    let day = not_negative (epoch_day t.date) (omega (arith, signed_arith, days.0)) in
    let y = not_negative t.date.year (omega (arith, signed_arith, year.0)) in
    read_by (unsigned_abs t.date.year) (unsigned_abs (epoch_day t.date)) t y (omega (arith, signed_arith, year.0, y)) (omega (arith, signed_arith, year.1, y)) day
