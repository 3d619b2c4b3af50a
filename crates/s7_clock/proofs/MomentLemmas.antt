-- Moments, and the dates and times that have them.
use Rattle.std.proofs.Common.{◌≡◌, ◌∙◌, ◌<◌, ◌≤◌, ◌+◌, ◌*◌, ◌/◌, ℕ, ℤ, pos, negsuc, refl, sym, ap, arith, rules, inl, ◌+ℤ◌, ◌*ℤ◌, ◌-ℤ◌, ◌≤ℤ◌, ◌<ℤ◌, int_div}
use Rattle.std.specs.Prelude.{unsigned_abs, FitsSigned}
use Rattle.std.specs.Int.{w128}
use Rattle.std.proofs.lemmas.Int.{by_lt_z}
use Rattle.jiff.specs.Types.{Date, DateTime, Time}
use Rattle.jiff.specs.Words.{civil_nanos, epoch_day, time_nanos}
use Rattle.jiff_core.specs.Time.{time_seconds}
use Rattle.jiff_core.specs.Calendar.{day_count, days_from_civil, days_of_months, days_of_years}
use Rattle.jiff_core.proofs.DateLemmas.{IsEarlier}
use Rattle.jiff_core.proofs.StandardFacts.{known_days}
use Rattle.jiff.proofs.Family.{civil_nanos-parts, epoch_day-lt, same_date, time_nanos_bound}
use Rattle.jiff.proofs.SpanFacts.{signed_arith}
use Rattle.s7_clock.specs.Clock.{IsClockYear}
use Rattle.s7_clock.specs.Moment.{HasMoment, IsCutTo, IsHeld, moment_of}

-- ---- the first and last days

eve : Date
eve = record { year = pos 1989; month = 12; day = 31; year_in = search rules; month_in = search rules; day_in = search rules }

first : Date
first = record { year = pos 1990; month = 1; day = 1; year_in = search rules; month_in = search rules; day_in = search rules }

last : Date
last = record { year = pos 2089; month = 12; day = 31; year_in = search rules; month_in = search rules; day_in = search rules }

after : Date
after = record { year = pos 2090; month = 1; day = 1; year_in = search rules; month_in = search rules; day_in = search rules }

days : (epoch_day eve ≡ pos 7304) × (epoch_day first ≡ pos 7305) × (epoch_day last ≡ pos 43829) × (epoch_day after ≡ pos 43830)
unfolding eve first last after days_from_civil day_count days_of_years days_of_months
days = (refl, refl, refl, refl)

past_eve : (d : Date) → pos 1990 ≤ℤ d.year → IsEarlier eve d
unfolding eve
past_eve d low = inl (omega (arith, signed_arith))

before_first : (d : Date) → d.year <ℤ pos 1990 → IsEarlier d first
unfolding first
before_first d low = inl low

before_after : (d : Date) → d.year ≤ℤ pos 2089 → IsEarlier d after
unfolding after
before_after d high = inl (omega (arith, signed_arith))

past_last : (d : Date) → pos 2089 <ℤ d.year → IsEarlier last d
unfolding last
past_last d high = inl high

-- the days of the years from 1990 to 2089
pub clock_days : (d : Date) → IsClockYear d.year → (pos 7305 ≤ℤ epoch_day d) × (epoch_day d ≤ℤ pos 43829)
clock_days d year =
    let low = epoch_day-lt eve d (past_eve d year.0) in
    let high = epoch_day-lt d after (before_after d year.1) in
    (omega (arith, signed_arith, low, days.0), omega (arith, signed_arith, high, days.3))

clock_year : (d : Date) → pos 7305 ≤ℤ epoch_day d → epoch_day d ≤ℤ pos 43829 → IsClockYear d.year
clock_year d from to = (
  by_lt_z d.year (pos 1990) (λ lt. absurd (omega (arith, signed_arith, epoch_day-lt d first (before_first d lt), days.1))) (λ ge. omega (arith, signed_arith)),
  by_lt_z (pos 2089) d.year (λ lt. absurd (omega (arith, signed_arith, epoch_day-lt last d (past_last d lt), days.2))) (λ ge. omega (arith, signed_arith)),
)

-- ---- nanoseconds

-- the nanoseconds of a date and time in a clock year
pub record IsNanos (t : DateTime) (n : ℕ) : Type 0 where
  pub value : civil_nanos t ≡ pos n
  pub from : 631152000000000000 ≤ n
  pub to : n < 3786912000000000000

pub not_negative : (z : ℤ) → pos 0 ≤ℤ z → z ≡ pos (unsigned_abs z)
not_negative (pos n) h = refl
not_negative (negsuc n) h = absurd (omega (arith, signed_arith))

bounds : (z : ℤ) (t : DateTime) → civil_nanos t ≡ z *ℤ pos 86400000000000 +ℤ pos (time_nanos t.time) → (time_nanos t.time < 86400000000000) → pos 7305 ≤ℤ z → z ≤ℤ pos 43829 → IsNanos t (unsigned_abs (civil_nanos t))
bounds z t e time from to =
    let value : civil_nanos t ≡ pos (unsigned_abs (civil_nanos t)) = not_negative (civil_nanos t) (omega (arith, signed_arith)) in
    record { value = value; from = omega (arith, signed_arith); to = omega (arith, signed_arith) }

pub clock_nanos : (t : DateTime) → IsClockYear t.date.year → IsNanos t (unsigned_abs (civil_nanos t))
clock_nanos t year =
    let within = clock_days t.date year in
    bounds (epoch_day t.date) t (civil_nanos-parts t) (time_nanos_bound t.time) within.0 within.1

day_of : (z : ℤ) (c : ℤ) (ms time : ℕ) → c ≡ z *ℤ pos 86400000000000 +ℤ pos time → time < 86400000000000 → c ≡ pos (ms * 1000000) → 631152000000 ≤ ms → ms ≤ 3786911999999
    → (pos 7305 ≤ℤ z) × (z ≤ℤ pos 43829)
day_of z c ms time e t h low high = (omega (arith, signed_arith), omega (arith, signed_arith))

pub has_clock_year : (t : DateTime) (ms : ℕ) → IsHeld ms → HasMoment t ms → IsClockYear t.date.year
has_clock_year t ms is has =
    let day = day_of (epoch_day t.date) (civil_nanos t) ms (time_nanos t.time) (civil_nanos-parts t) (time_nanos_bound t.time) has is.from is.to in
    clock_year t.date day.0 day.1

whole : (n : ℕ) → unsigned_abs (int_div (pos n) (pos 1000000)) ≡ n / 1000000
whole n = refl

pub moment_at : (t : DateTime) (n : ℕ) → civil_nanos t ≡ pos n → moment_of t ≡ n / 1000000
moment_at t n e = ap (λ (z : ℤ). unsigned_abs (int_div z (pos 1000000))) e ∙ whole n

pub moment_is : (t : DateTime) (ms : ℕ) → HasMoment t ms → moment_of t ≡ ms
moment_is t ms has = moment_at t (ms * 1000000) has ∙ omega arith

pub moment_held : (t : DateTime) → IsClockYear t.date.year → IsHeld (moment_of t)
moment_held t year =
    let is = clock_nanos t year in
    let e = moment_at t _ is.value in
    record { from = omega (arith, is.from); to = omega (arith, is.to) }

-- the milliseconds between the beginning of 1970 and a date and time of a clock year
pub since_epoch : (t e : DateTime) (between ms : ℤ) → IsClockYear t.date.year → civil_nanos e ≡ pos 0 → between ≡ civil_nanos t -ℤ civil_nanos e
    → ms ≡ int_div between (pos 1000000) → ms ≡ pos (moment_of t)
since_epoch t e between ms year zero is_between is =
    let nanos = clock_nanos t year in
    let n = unsigned_abs (civil_nanos t) in
    let same : between ≡ pos n = is_between ∙ less_nothing (civil_nanos t) (civil_nanos e) zero ∙ nanos.value in
    is ∙ ap (λ (z : ℤ). int_div z (pos 1000000)) same ∙ ap pos (sym (moment_at t n nanos.value))
  where
    less_nothing : (n z : ℤ) → z ≡ pos 0 → n -ℤ z ≡ n
    less_nothing n z e = omega (arith, signed_arith)

pub epoch_is : (e : DateTime) → e.date.year ≡ pos 1970 → pos e.date.month ≡ pos 1 → pos e.date.day ≡ pos 1 → pos e.time.hour ≡ pos 0 → pos e.time.minute ≡ pos 0
    → pos e.time.second ≡ pos 0 → pos e.time.subsec_nanosecond ≡ pos 0 → civil_nanos e ≡ pos 0
epoch_is e year month day hour minute second fraction =
    let m : e.date.month ≡ 1 = cc in
    let d : e.date.day ≡ 1 = cc in
    let h : e.time.hour ≡ 0 = cc in
    let mi : e.time.minute ≡ 0 = cc in
    let s : e.time.second ≡ 0 = cc in
    let f : e.time.subsec_nanosecond ≡ 0 = cc in
    let date : epoch_day e.date ≡ pos 0 = (λ i. days_from_civil (year i) (m i) (d i)) ∙ known_days.0 in
    let time : time_nanos e.time ≡ 0 = omega arith in
    civil_nanos-parts e ∙ (λ i. date i *ℤ pos 86400000000000 +ℤ pos (time i))

-- a held moment, as a signed number of 128 bits and back
pub signed_held : (n : ℕ) → IsHeld n → FitsSigned w128 (pos n)
signed_held n is = omega (arith, signed_arith, is.to)

-- ---- without what is below a millisecond

-- seconds and a fraction, of which the second are the first without what is below a millisecond
cut_time : (s r u v : ℕ) → r < 1000000000 → v < 1000000000 → u * 1000000000 + v ≡ (s * 1000000000 + r) / 1000000 * 1000000 → (u ≡ s) × (v ≡ r / 1000000 * 1000000)
cut_time s r u v a b e = (omega arith, omega arith)

parts_of_seconds : (a b : Time) → time_seconds b ≡ time_seconds a → (b.hour ≡ a.hour) × (b.minute ≡ a.minute) × (b.second ≡ a.second)
parts_of_seconds a b e = omega arith

-- days and nanoseconds of a day
cut_day : (y z : ℤ) (time later : ℕ) (n : ℕ) → time < 86400000000000 → later < 86400000000000 → pos n ≡ y *ℤ pos 86400000000000 +ℤ pos time
    → pos (n / 1000000 * 1000000) ≡ z *ℤ pos 86400000000000 +ℤ pos later → (z ≡ y) × (later ≡ time / 1000000 * 1000000)
cut_day y z time later n a b e f = (omega (arith, signed_arith), omega (arith, signed_arith))

pub moment_cut : (t u : DateTime) → IsClockYear t.date.year → HasMoment u (moment_of t) → IsCutTo t u
moment_cut t u year has =
    let is = clock_nanos t year in
    let n = unsigned_abs (civil_nanos t) in
    let moment : moment_of t ≡ n / 1000000 = moment_at t n is.value in
    let later : pos (n / 1000000 * 1000000) ≡ civil_nanos u = sym (has ∙ ap (λ (k : ℕ). pos (k * 1000000)) moment) in
    let day = cut_day (epoch_day t.date) (epoch_day u.date) (time_nanos t.time) (time_nanos u.time) n (time_nanos_bound t.time) (time_nanos_bound u.time)
    (sym is.value ∙ civil_nanos-parts t) (later ∙ civil_nanos-parts u) in
    let seconds = cut_time (time_seconds t.time) t.time.subsec_nanosecond (time_seconds u.time) u.time.subsec_nanosecond (omega (arith, t.time.subsec_in)) (omega (arith, u.time.subsec_in)) day.1 in
    let parts = parts_of_seconds t.time u.time seconds.0 in
    record {
      date = same_date u.date t.date day.0;
      hour = parts.0;
      minute = parts.1;
      second = parts.2;
      fraction = seconds.1;
    }
