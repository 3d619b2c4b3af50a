-- The date of a day, and the clock octets of a moment.
use Rattle.std.proofs.Common.{◌≡◌, ◌∙◌, ◌<◌, ◌≤◌, ◌+◌, ◌-◌, ◌*◌, ◌/◌, ◌%◌, ℕ, zero, suc, ℤ, pos, Bool, true, false, leb, sym, ap, subst, arith, rules, inl, inr, ◌+ℤ◌, ◌*ℤ◌, [], ◌∷◌}
use Rattle.std.specs.Prelude.{unsigned_abs}
use Rattle.std.proofs.lemmas.Bool.{cases_order, le-leb}
use Rattle.std.proofs.lemmas.Bool.Decides.{leb_tells}
use Rattle.jiff.specs.Types.{DateTime}
use Rattle.jiff.specs.Words.{civil_nanos, epoch_day, time_nanos}
use Rattle.jiff_core.specs.Calendar.{IsCivilDate, day_count, days_from_civil, weekday_number}
use Rattle.jiff_core.proofs.CalendarLemmas.{day_count-day, day_count-day_of_year, day_count-epoch, day_count-lt_month, day_count-lt_year, days_from_civil-day_count}
use Rattle.jiff.proofs.Family.{civil_nanos-parts}
use Rattle.jiff.proofs.SpanFacts.{signed_arith}
use Rattle.s7_clock.specs.Clock.{IsClockYear, bcd, milliseconds, octets_of}
use Rattle.s7_clock.specs.Moment.{day_on, first_day, last_of, moment_of, month_on, moment_octets, year_on}
use Rattle.s7_clock.proofs.MomentLemmas.{clock_days, moment_at, not_negative}

-- ---- the last that passes a test

last_of_is : (test : ℕ → Bool) (n k : ℕ) → k ≤ n → test k ≡ true → ((j : ℕ) → k < j → j ≤ n → test j ≡ false) → last_of test n ≡ k
unfolding last_of
last_of_is test zero k h passes fail = omega arith
last_of_is test (suc n) k h passes fail = elim (cases_order k (suc n)) [
  | inl same ↦ let passed : test (suc n) ≡ true = subst (λ (j : ℕ). test j ≡ true) same passes in rw passed (sym same)
  | inr (inl less) ↦ rw (fail (suc n) less (omega arith)) (last_of_is test n k (omega arith) passes (λ j a b. fail j a (omega arith)))
  | inr (inr more) ↦ absurd (omega arith)
]

not-leb : (a b : ℕ) → b < a → leb a b ≡ false
not-leb a b h = elim (leb_tells a b) [
  | inl low ↦ absurd (omega arith)
  | inr high ↦ high.0
]

-- ---- the first day of a month

epoch_date : IsCivilDate (pos 1970) 1 1
epoch_date = (search rules, search rules, search rules)

since_epoch_day : (y m : ℕ) → 1990 ≤ y → first_day y m + 4371953 ≡ day_count (pos y) m 1
since_epoch_day y m low =
    let later = day_count-lt_year (pos 1970) 1 1 (pos y) m 1 epoch_date (omega arith) (omega (arith, signed_arith)) in
    let count = days_from_civil-day_count (pos y) m 1 in
    let positive = not_negative (days_from_civil (pos y) m 1) (omega (arith, signed_arith, count, later, day_count-epoch)) in
    omega (arith, signed_arith, count, positive)

day_counted : (y m d day : ℕ) → days_from_civil (pos y) m d ≡ pos day → day + 4371953 ≡ day_count (pos y) m d
day_counted y m d day e = omega (arith, signed_arith, days_from_civil-day_count (pos y) m d, e)

first_of_year : (y m d : ℕ) → 1 ≤ d → day_count (pos y) 1 1 ≤ day_count (pos y) m d
first_of_year y m d low = omega (arith, day_count-day_of_year (pos y) m d low)

first_of_month : (y m d : ℕ) → 1 ≤ d → day_count (pos y) m 1 + d ≡ day_count (pos y) m d + 1
first_of_month y m d low = day_count-day (pos y) m 1 d (omega arith) low

-- ---- the date of a day

year_is : (i m d day : ℕ) → i ≤ 99 → IsCivilDate (pos (1990 + i)) m d → days_from_civil (pos (1990 + i)) m d ≡ pos day → year_on day ≡ 1990 + i
year_is i m d day high civil e =
    let count = day_counted (1990 + i) m d day e in
    let begun = first_of_year (1990 + i) m d civil.2.0 in
    let here = since_epoch_day (1990 + i) 1 (omega arith) in
    ap (λ (k : ℕ). 1990 + k) (last_of_is (λ k. leb (first_day (1990 + k) 1) day) 99 i high (le-leb (first_day (1990 + i) 1) day (omega arith))
    (λ j after within. not-leb (first_day (1990 + j) 1) day (omega (
      arith,
      since_epoch_day (1990 + j) 1 (omega arith),
      day_count-lt_year (pos (1990 + i)) m d (pos (1990 + j)) 1 1 civil (omega arith) (omega (arith, signed_arith)),
    ))))

month_is : (y j d day : ℕ) → 1990 ≤ y → j ≤ 11 → IsCivilDate (pos y) (1 + j) d → days_from_civil (pos y) (1 + j) d ≡ pos day → 1 + last_of (λ k. leb (first_day y (1 + k)) day) 11 ≡ 1 + j
month_is y j d day low high civil e =
    let count = day_counted y (1 + j) d day e in
    let begun = first_of_month y (1 + j) d civil.2.0 in
    let here = since_epoch_day y (1 + j) low in
    ap (λ (k : ℕ). 1 + k) (last_of_is (λ k. leb (first_day y (1 + k)) day) 11 j high (le-leb (first_day y (1 + j)) day (omega (arith, civil.2.0)))
    (λ k after within. not-leb (first_day y (1 + k)) day (omega (arith, since_epoch_day y (1 + k) low, day_count-lt_month (pos y) (1 + j) d (1 + k) 1 civil (omega arith) (omega arith)))))

day_is : (y m d day : ℕ) → 1990 ≤ y → 1 ≤ d → days_from_civil (pos y) m d ≡ pos day → day - first_day y m + 1 ≡ d
day_is y m d day low first e = omega (arith, day_counted y m d day e, first_of_month y m d first, since_epoch_day y m low)

record IsDate (day y m d : ℕ) : Type 0 where
  year : year_on day ≡ y
  month : month_on day ≡ m
  place : day_on day ≡ d

date_by : (i j d day : ℕ) → i ≤ 99 → j ≤ 11 → IsCivilDate (pos (1990 + i)) (1 + j) d → days_from_civil (pos (1990 + i)) (1 + j) d ≡ pos day → IsDate day (1990 + i) (1 + j) d
date_by i j d day a b civil e =
    let year = year_is i (1 + j) d day a civil e in
    let month : month_on day ≡ 1 + j = ap (λ (y : ℕ). 1 + last_of (λ k. leb (first_day y (1 + k)) day) 11) year ∙ month_is (1990 + i) j d day (omega arith) b civil e in
    record {
      year = year;
      month = month;
      place = (λ i. day - first_day (year i) (month i) + 1) ∙ day_is (1990 + i) (1 + j) d day (omega arith) civil.2.0 e;
    }

date_is : (y m d day : ℕ) → 1990 ≤ y → y ≤ 2089 → IsCivilDate (pos y) m d → days_from_civil (pos y) m d ≡ pos day → IsDate day y m d
date_is y m d day low high civil e =
    let i : 1990 + (y - 1990) ≡ y = omega arith in
    let j : 1 + (m - 1) ≡ m = omega (arith, civil.1) in
    let within : m ≤ 12 = omega (arith, civil.1) in
    let civil_here = subst (λ (k : ℕ). IsCivilDate (pos k) (1 + (m - 1)) d) (sym i) (subst (λ (k : ℕ). IsCivilDate (pos y) k d) (sym j) civil) in
    let here = subst (λ (k : ℕ). days_from_civil (pos k) (1 + (m - 1)) d ≡ pos day) (sym i) (subst (λ (k : ℕ). days_from_civil (pos y) k d ≡ pos day) (sym j) e) in
    subst (λ (k : ℕ). IsDate day k m d) i (subst (λ (k : ℕ). IsDate day (1990 + (y - 1990)) k d) j (date_by (y - 1990) (m - 1) d day (omega arith) (omega arith) civil_here here))

-- ---- the clock octets of a moment

-- the parts of a moment
record IsSplit (ms day h mi s f : ℕ) : Type 0 where
  days : ms / 86400000 ≡ day
  hour : ms / 3600000 % 24 ≡ h
  minute : ms / 60000 % 60 ≡ mi
  second : ms / 1000 % 60 ≡ s
  fraction : ms % 1000 ≡ f

split : (ms day h mi s f : ℕ) → h < 24 → mi < 60 → s < 60 → f < 1000 → ms ≡ day * 86400000 + (h * 3600 + mi * 60 + s) * 1000 + f → IsSplit ms day h mi s f
split ms day h mi s f a b c d e =
    record { days = omega arith; hour = omega arith; minute = omega arith; second = omega arith; fraction = omega arith }

last_digit : (ms f : ℕ) → ms % 1000 ≡ f → ms % 10 ≡ f % 10
last_digit ms f e = omega arith

-- the moment of a day and a time
moment_by : (z : ℤ) (day : ℕ) (c : ℤ) (time h mi s f : ℕ) → c ≡ z *ℤ pos 86400000000000 +ℤ pos time → z ≡ pos day → time ≡ (h * 3600 + mi * 60 + s) * 1000000000 + f → f < 1000000000
    → c ≡ pos ((day * 86400000 + (h * 3600 + mi * 60 + s) * 1000 + f / 1000000) * 1000000 + f % 1000000)
moment_by z day c time h mi s f e d t g = omega (arith, signed_arith)

pub moment_sum : (t : DateTime) (day : ℕ) → epoch_day t.date ≡ pos day
    → moment_of t ≡ day * 86400000 + (t.time.hour * 3600 + t.time.minute * 60 + t.time.second) * 1000 + milliseconds t
moment_sum t day e =
    let ms = day * 86400000 + (t.time.hour * 3600 + t.time.minute * 60 + t.time.second) * 1000 + milliseconds t in
    let nanos = moment_by (epoch_day t.date) day (civil_nanos t) (time_nanos t.time) t.time.hour t.time.minute t.time.second t.time.subsec_nanosecond
    (civil_nanos-parts t) e (omega arith) (omega (arith, t.time.subsec_in)) in
    moment_at t (ms * 1000000 + t.time.subsec_nanosecond % 1000000) nanos ∙ omega arith

moment_parts : (t : DateTime) (day : ℕ) → epoch_day t.date ≡ pos day → IsSplit (moment_of t) day t.time.hour t.time.minute t.time.second (milliseconds t)
moment_parts t day e =
    split (moment_of t) day t.time.hour t.time.minute t.time.second (milliseconds t) (omega (arith, t.time.hour_in)) (omega (arith, t.time.minute_in))
    (omega (arith, t.time.second_in)) (omega (arith, t.time.subsec_in)) (moment_sum t day e)

octets_by : (y day : ℕ) (t : DateTime) → t.date.year ≡ pos y → 1990 ≤ y → y ≤ 2089 → epoch_day t.date ≡ pos day → octets_of t ≡ moment_octets (moment_of t)
unfolding moment_octets
octets_by y day t year low high e =
    let civil : IsCivilDate (pos y) t.date.month t.date.day = subst (λ (z : ℤ). IsCivilDate z t.date.month t.date.day) year (t.date.year_in, t.date.month_in, t.date.day_in) in
    let here : days_from_civil (pos y) t.date.month t.date.day ≡ pos day = subst (λ (z : ℤ). days_from_civil z t.date.month t.date.day ≡ pos day) year e in
    let date = date_is y t.date.month t.date.day day low high civil here in
    let parts = moment_parts t day e in
    let days = parts.days in
    let y_is = sym (ap year_on days ∙ date.year) in
    let m_is = sym (ap month_on days ∙ date.month) in
    let d_is = sym (ap day_on days ∙ date.place) in
    let h = sym parts.hour in
    let mi = sym parts.minute in
    let s = sym parts.second in
    let f = sym parts.fraction in
    let digit = sym (last_digit (moment_of t) (milliseconds t) parts.fraction) in
    let week : epoch_day t.date ≡ pos (moment_of t / 86400000) = e ∙ ap pos (sym days) in
    let y_abs : unsigned_abs t.date.year ≡ year_on (moment_of t / 86400000) = ap unsigned_abs year ∙ y_is in (λ i.
    0x00 ∷ 0x19 ∷ bcd (y_abs i % 100) ∷ bcd (m_is i) ∷ bcd (d_is i) ∷ bcd (h i) ∷ bcd (mi i) ∷ bcd (s i) ∷ bcd (f i / 10)
    ∷ (digit i * 16 + ((weekday_number (week i) + 1) % 7 + 1)) ∷ [])

pub octets_are : (t : DateTime) → IsClockYear t.date.year → octets_of t ≡ moment_octets (moment_of t)
octets_are t year =
    let days = clock_days t.date year in
    let day = not_negative (epoch_day t.date) (omega (arith, signed_arith, days.0)) in
    let y = not_negative t.date.year (omega (arith, signed_arith, year.0)) in
    octets_by (unsigned_abs t.date.year) (unsigned_abs (epoch_day t.date)) t y (omega (arith, signed_arith, year.0, y)) (omega (arith, signed_arith, year.1, y)) day
