-- Moments: milliseconds since 1970-01-01T00:00:00, UTC. This count is this profile's own.
use Rattle.std.specs.Prelude.{◌≡◌, ◌≤◌, ◌+◌, ◌-◌, ◌*◌, ◌/◌, ◌%◌, ℕ, zero, suc, ℤ, pos, negsuc, max, min, unsigned_abs, int_div, Bool, nat_le, ◌&&◌, if◌then◌else◌, List, [], ◌∷◌, Option, Some, None, option_and_then, Result, Ok, Err}
use Rattle.jiff.specs.Types.{DateTime}
use Rattle.jiff.specs.Words.{civil_nanos, days_in_month}
use Rattle.jiff_core.specs.Calendar.{days_from_civil, weekday_number}
use Rattle.s7_clock.specs.Clock.{bcd, milliseconds, parts_in}
use Rattle.s7_clock.specs.declared.clock.Parts.{Parts}
use Rattle.s7_clock.specs.declared.faults.NotDate.{NotDate}

-- the first moment of 1990
abbrev pub first_moment : ℕ
first_moment = 631152000000

-- the last millisecond of 2089
abbrev pub last_moment : ℕ
last_moment = 3786911999999

-- a moment that clock octets can give
pub record IsHeld (ms : ℕ) : Type 0 where
  pub from : first_moment ≤ ms
  pub to : ms ≤ last_moment

-- the moment nearest to a number of milliseconds
abbrev pub held : ℤ → ℕ
held (pos n) = max first_moment (min n last_moment)
held (negsuc n) = first_moment

-- the date and time are those of the moment
abbrev pub HasMoment : DateTime → ℕ → Type 0
HasMoment t ms = civil_nanos t ≡ pos (ms * 1000000)

-- the moment of a date and time; fractions of a millisecond are dropped
abbrev pub moment_of : DateTime → ℕ
moment_of t = unsigned_abs (int_div (civil_nanos t) (pos 1000000))

-- u is t without fractions of a millisecond
pub record IsCutTo (t u : DateTime) : Type 0 where
  pub date : u.date ≡ t.date
  pub hour : u.time.hour ≡ t.time.hour
  pub minute : u.time.minute ≡ t.time.minute
  pub second : u.time.second ≡ t.time.second
  pub fraction : u.time.subsec_nanosecond ≡ milliseconds t * 1000000

-- ---- octets and moments (Snap7 1.4 sources, s7_types.h: TResDataGetTime)

-- the number of the first day of a month, from 1970-01-01
abbrev pub first_day : ℕ → ℕ → ℕ
first_day year month = unsigned_abs (days_from_civil (pos year) month 1)

-- the number is from low to high
abbrev pub is_within : ℕ → ℕ → ℕ → Bool
is_within low high n = nat_le low n && nat_le n high

-- there is such a date
abbrev pub is_date : Parts → Bool
is_date p = is_within 1 12 p.month && is_within 1 (days_in_month (pos p.year) p.month) p.day

-- there is such a time of day
abbrev pub is_time : Parts → Bool
is_time p = nat_le p.hour 23 && (nat_le p.minute 59 && nat_le p.second 59)

-- the moment of these numbers
abbrev pub moment_at : Parts → ℕ
moment_at p =
    unsigned_abs (days_from_civil (pos p.year) p.month p.day) * 86400000 + (p.hour * 3600 + p.minute * 60 + p.second) * 1000 + p.millisecond

-- the moment of numbers that are a date and time; else `None`
abbrev pub moment_of_parts : Parts → Option ℕ
moment_of_parts p = if is_date p && is_time p then Some (moment_at p) else None

-- the moment that clock octets give
unfoldable pub moment_in : List ℕ → Option ℕ
moment_in octets = option_and_then moment_of_parts (parts_in octets)

-- the moment of the date and time that was read
abbrev pub moment_read : Result DateTime NotDate → Option ℕ
moment_read (Ok t) = Some (moment_of t)
moment_read (Err e) = None

-- the greatest number up to a bound that passes a test, or 0
unfoldable pub last_of : (ℕ → Bool) → ℕ → ℕ
last_of test zero = 0
last_of test (suc n) = if test (suc n) then suc n else last_of test n

-- the year of a day: the last year from 1990 to 2089 that has begun by then
abbrev pub year_on : ℕ → ℕ
year_on day = 1990 + last_of (λ k. nat_le (first_day (1990 + k) 1) day) 99

-- the month of a day: the last month of its year that has begun by then
abbrev pub month_on : ℕ → ℕ
month_on day = 1 + last_of (λ k. nat_le (first_day (year_on day) (1 + k)) day) 11

-- the day of its month, from 1
abbrev pub day_on : ℕ → ℕ
day_on day = day - first_day (year_on day) (month_on day) + 1

-- the clock octets of a moment
unfoldable pub moment_octets : ℕ → List ℕ
moment_octets ms =
    0x00 ∷ 0x19 ∷ bcd (year_on (ms / 86400000) % 100) ∷ bcd (month_on (ms / 86400000)) ∷ bcd (day_on (ms / 86400000))
    ∷ bcd (ms / 3600000 % 24) ∷ bcd (ms / 60000 % 60) ∷ bcd (ms / 1000 % 60) ∷ bcd (ms % 1000 / 10)
    ∷ (ms % 10 * 16 + ((weekday_number (pos (ms / 86400000)) + 1) % 7 + 1)) ∷ []
