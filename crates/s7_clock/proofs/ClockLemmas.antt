-- What is read from the clock octets of a date and time.
use Rattle.std.proofs.Common.{◌≡◌, ◌∙◌, ◌<◌, ◌≤◌, ◌+◌, ◌*◌, ◌/◌, ◌%◌, ℕ, ℤ, pos, negsuc, refl, sym, ap, subst, arith, List, [], ◌∷◌, Some, Result, Ok, Err, inl, inr}
use Rattle.std.specs.Prelude.{IsOkAnd, unsigned_abs}
use Rattle.std.proofs.lemmas.Bool.{le-leb}
use Rattle.std.proofs.lemmas.Bool.Decides.{leb_tells, nat_tests}
use Rattle.std.proofs.lemmas.Int.{ints}
use Rattle.jiff.specs.Types.{DateTime}
use Rattle.std.specs.Int.{IsInRange}
use Rattle.jiff.specs.Words.{days_in_month}
use Rattle.jiff.proofs.Family.{epoch_day_same, same_date}
use Rattle.s7_clock.specs.declared.clock.Parts.{Parts}
use Rattle.s7_clock.specs.Clock.{AreDateTime, HasParts, IsClockYear, Reads, bcd, digit, milliseconds, number_in, octets_of, parts_in, weekday, year_of}
use Rattle.s7_clock.specs.Moment.{IsCutTo}
use Rattle.s7_clock.specs.declared.faults.NotDate.{NotDate}

digit-low : (d : ℕ) → d ≤ 9 → digit d ≡ Some d
digit-low d low = rw (le-leb d 9 low) refl

number_in-bcd : (n : ℕ) → n < 100 → number_in (bcd n) ≡ Some n
number_in-bcd n small =
    let high : bcd n / 16 ≡ n / 10 = omega arith in
    let low : bcd n % 16 ≡ n % 10 = omega arith in
    let whole : n / 10 * 10 + n % 10 ≡ n = omega arith in
    rw (high, low, digit-low (n / 10) (omega arith), digit-low (n % 10) (omega arith)) (ap Some whole)

year_of-year : (y : ℕ) → 1990 ≤ y → y ≤ 2089 → year_of (y % 100) ≡ y
year_of-year y low high = elim (leb_tells 90 (y % 100)) [
  | inl late ↦ rw late.0 (omega arith)
  | inr early ↦ rw early.0 (omega arith)
]

-- the parts of a moment, in a year y
abbrev pub parts_at : ℕ → DateTime → Parts
parts_at y t = record {
  year = y;
  month = t.date.month;
  day = t.date.day;
  hour = t.time.hour;
  minute = t.time.minute;
  second = t.time.second;
  millisecond = milliseconds t;
}

abbrev pub octets_in : ℕ → DateTime → List ℕ
octets_in y t = 0 ∷ 25 ∷ bcd (y % 100) ∷ bcd t.date.month ∷ bcd t.date.day ∷ bcd t.time.hour ∷ bcd t.time.minute ∷ bcd t.time.second ∷ bcd (milliseconds t / 10)
    ∷ (milliseconds t % 10 * 16 + weekday t) ∷ []

pub parts_in-octets : (y : ℕ) (t : DateTime) → 1990 ≤ y → y ≤ 2089 → parts_in (octets_in y t) ≡ Some (parts_at y t)
parts_in-octets y t low high =
    let month : t.date.month < 100 = omega (arith, t.date.month_in) in
    let day : t.date.day < 100 = day_bound t in
    let hour : t.time.hour < 100 = omega (arith, t.time.hour_in) in
    let minute : t.time.minute < 100 = omega (arith, t.time.minute_in) in
    let second : t.time.second < 100 = omega (arith, t.time.second_in) in
    let ms : milliseconds t < 1000 = omega (arith, t.time.subsec_in) in
    let week : weekday t < 16 = omega arith in
    let rest : (milliseconds t % 10 * 16 + weekday t) / 16 ≡ milliseconds t % 10 = omega arith in
    let whole : milliseconds t / 10 * 10 + milliseconds t % 10 ≡ milliseconds t = omega arith in
    rw (
      number_in-bcd (y % 100) (omega arith),
      number_in-bcd t.date.month month,
      number_in-bcd t.date.day day,
      number_in-bcd t.time.hour hour,
      number_in-bcd t.time.minute minute,
      number_in-bcd t.time.second second,
      number_in-bcd (milliseconds t / 10) (omega arith),
      rest,
      digit-low (milliseconds t % 10) (omega arith),
      year_of-year y low high,
      whole,
    ) refl
  where
    day_bound : (t : DateTime) → t.date.day < 100
    day_bound t = grind (arith, nat_tests, t.date.day_in)

are_date_time : (y : ℕ) (t : DateTime) → t.date.year ≡ pos y → 1990 ≤ y → y ≤ 2089 → AreDateTime (parts_at y t)
are_date_time y t year low high =
    let day = subst (λ (z : ℤ). IsInRange 1 (days_in_month z t.date.month) t.date.day) year t.date.day_in in (
      ((omega (arith, ints), omega (arith, ints)), (omega (arith, ints, t.date.month_in), omega (arith, ints, t.date.month_in)), (omega (arith, ints, day), omega (arith, ints, day))),
      (
        (omega (arith, ints), omega (arith, ints, t.time.hour_in)),
        (omega (arith, ints), omega (arith, ints, t.time.minute_in)),
        (omega (arith, ints), omega (arith, ints, t.time.second_in)),
        (omega (arith, ints), omega (arith, ints, t.time.subsec_in)),
      ),
    )

is_cut : (y : ℕ) (t u : DateTime) → t.date.year ≡ pos y → HasParts (parts_at y t) u → IsCutTo t u
is_cut y t u year has =
    let month : u.date.month ≡ t.date.month = cc in
    let day : u.date.day ≡ t.date.day = cc in
    let hour : u.time.hour ≡ t.time.hour = cc in
    let minute : u.time.minute ≡ t.time.minute = cc in
    let second : u.time.second ≡ t.time.second = cc in
    let fraction : u.time.subsec_nanosecond ≡ milliseconds t * 1000000 = cc in
    record {
      date = same_date u.date t.date (epoch_day_same u.date t.date (has.0.0 ∙ sym year) month day);
      hour = hour;
      minute = minute;
      second = second;
      fraction = fraction;
    }

reads_by : (y : ℕ) (t : DateTime) (read : Result DateTime NotDate) → t.date.year ≡ pos y → 1990 ≤ y → y ≤ 2089 → Reads (Some (parts_at y t)) read → IsOkAnd read (λ u. IsCutTo t u)
reads_by y t (Ok u) year low high reads = is_cut y t u year reads
reads_by y t (Err e) year low high reads = absurd (reads (are_date_time y t year low high))

reads_in : (z : ℤ) (t : DateTime) (read : Result DateTime NotDate) → t.date.year ≡ z → IsClockYear z → Reads (parts_in (octets_of t)) read → IsOkAnd read (λ u. IsCutTo t u)
reads_in (pos y) t read year range reads =
    let low : 1990 ≤ y = omega (arith, ints, range.0) in
    let high : y ≤ 2089 = omega (arith, ints, range.1) in
    let octets : octets_of t ≡ octets_in y t = ap (λ (z : ℤ). octets_in (unsigned_abs z) t) year in
    reads_by y t read year low high (subst (λ o. Reads o read) (ap parts_in octets ∙ parts_in-octets y t low high) reads)
reads_in (negsuc y) t read year range reads = absurd (omega (arith, ints, range.0))

-- whatever is read from the clock octets of t is t, cut to milliseconds
pub reads_back : (t : DateTime) (read : Result DateTime NotDate) → IsClockYear t.date.year → Reads (parts_in (octets_of t)) read → IsOkAnd read (λ u. IsCutTo t u)
reads_back t read range reads = reads_in t.date.year t read refl range reads
