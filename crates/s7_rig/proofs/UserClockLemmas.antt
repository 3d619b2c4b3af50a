-- The clock octets of a moment are read as that moment.
use Rattle.std.proofs.Common.{◌≡◌, ℕ, zero, suc, ◌+◌, ◌*◌, ◌/◌, ◌%◌, ◌<◌, ◌≤◌, ℤ, pos, ◌+ℤ◌, ◌*ℤ◌, ◌<ℤ◌, inl, inr, length, Some, refl, sym, ap, ◌∙◌, subst, arith}
use Rattle.std.proofs.lemmas.Bool.{cases_order}
use Rattle.std.proofs.lemmas.Int.{by_lt_z}
use Rattle.jiff.specs.Types.{Date, DateTime}
use Rattle.jiff.specs.Words.{civil_nanos, epoch_day, days_in_month, time_nanos}
use Rattle.jiff.proofs.Family.{civil_nanos-parts, days_from_civil-day, days_from_civil-next_month, days_from_civil-next_year, days_from_civil-max}
use Rattle.jiff.proofs.SpanFacts.{signed_arith}
use Rattle.jiff_core.specs.Calendar.{days_from_civil}
use Rattle.jiff_core.proofs.CalendarLemmas.{days_in_month_bounds}
use Rattle.jiff_core.proofs.StandardFacts.{known_days}
use Rattle.s7_clock.specs.Moment.{HasMoment, IsHeld, moment_in, moment_octets}
use Rattle.s7_clock.proofs.AgainLemmas.{read_again}
use Rattle.s7_clock.proofs.DayLemmas.{octets_are}
use Rattle.s7_clock.proofs.MomentLemmas.{has_clock_year, moment_is}

-- ---- each day has a date

record IsOn (day : ℤ) : Type 0 where
  date : Date
  is : epoch_day date ≡ day

-- the next day in the same month
later_day : (d : Date) → d.day < days_in_month d.year d.month → IsOn (epoch_day d +ℤ pos 1)
later_day d inside = record {
  date = record {
    year = d.year;
    month = d.month;
    day = d.day + 1;
    year_in = d.year_in;
    month_in = d.month_in;
    day_in = (omega arith, omega arith);
  };
  is = omega (arith, signed_arith, days_from_civil-day d.year d.month (d.day + 1) d.day (omega arith) d.day_in.0);
}

-- the first day of the next month
later_month : (d : Date) → d.month < 12 → d.day ≡ days_in_month d.year d.month → IsOn (epoch_day d +ℤ pos 1)
later_month d inside whole = record {
  date = record {
    year = d.year;
    month = d.month + 1;
    day = 1;
    year_in = d.year_in;
    month_in = (omega arith, omega arith);
    day_in = (omega arith, omega (arith, days_in_month_bounds d.year (d.month + 1)));
  };
  is = days_from_civil-next_month d.year d.month d.day d.month_in.0 whole;
}

-- the first day of the next year
later_year : (d : Date) → d.month ≡ 12 → d.day ≡ 31 → d.year <ℤ pos 9999 → IsOn (epoch_day d +ℤ pos 1)
later_year d month day before = record {
  date = record {
    year = d.year +ℤ pos 1;
    month = 1;
    day = 1;
    year_in = (omega (arith, signed_arith, d.year_in), omega (arith, signed_arith));
    month_in = (omega arith, omega arith);
    day_in = (omega arith, omega (arith, days_in_month_bounds (d.year +ℤ pos 1) 1));
  };
  is = days_from_civil-next_year d.year (d.year +ℤ pos 1) (omega (arith, signed_arith, d.year_in)) refl
      ∙ ap (λ (z : ℤ). z +ℤ pos 1)
      (ap (λ m. days_from_civil d.year m 31) (sym month) ∙ ap (days_from_civil d.year d.month) (sym day));
}

-- the last day that there is comes after this one
abbrev IsBefore : Date → Type 0
IsBefore d = epoch_day d <ℤ pos 2932896

last_day : (d : Date) → d.year ≡ pos 9999 → d.month ≡ 12 → d.day ≡ 31 → epoch_day d ≡ pos 2932896
last_day d year month day =
    ap (λ y. days_from_civil y d.month d.day) year
    ∙ (ap (λ m. days_from_civil (pos 9999) m d.day) month
    ∙ (ap (days_from_civil (pos 9999) 12) day ∙ days_from_civil-max))

not_last : (d : Date) → IsBefore d → d.month ≡ 12 → d.day ≡ 31 → d.year <ℤ pos 9999
not_last d before month day = by_lt_z d.year (pos 9999) (λ less. less)
    (λ most. absurd (omega (arith, signed_arith, last_day d (omega (arith, signed_arith, d.year_in)) month day)))

december : (d : Date) → d.month ≡ 12 → days_in_month d.year d.month ≡ 31
december d month = ap (days_in_month d.year) month

next_day : (d : Date) → IsBefore d → IsOn (epoch_day d +ℤ pos 1)
next_day d before = elim (cases_order d.day (days_in_month d.year d.month)) [
  | inr (inl inside) ↦ later_day d inside
  | inr (inr over) ↦ absurd (omega (arith, d.day_in))
  | inl whole ↦ elim (cases_order d.month 12) [
    | inr (inl inside) ↦ later_month d inside whole
    | inr (inr over) ↦ absurd (omega (arith, d.month_in))
    | inl last ↦ later_year d last (whole ∙ december d last) (not_last d before last (whole ∙ december d last))
  ]
]

first_date : Date
first_date = record {
  year = pos 1970;
  month = 1;
  day = 1;
  year_in = (omega (arith, signed_arith), omega (arith, signed_arith));
  month_in = (omega arith, omega arith);
  day_in = (omega arith, omega arith);
}

on_day : (day : ℕ) → day ≤ 2932896 → IsOn (pos day)
unfolding first_date
on_day zero most = record { date = first_date; is = known_days.0 }
on_day (suc day) most =
    let before = on_day day (omega arith) in
    let next = next_day before.date (omega (arith, signed_arith, before.is)) in
    record { date = next.date; is = next.is ∙ omega (arith, signed_arith, before.is) }

-- ---- and each moment a date and time

record IsAt (ms : ℕ) : Type 0 where
  instant : DateTime
  is : HasMoment instant ms

nanos_by : (c z : ℤ) (ms time : ℕ) → c ≡ z *ℤ pos 86400000000000 +ℤ pos time → z ≡ pos (ms / 86400000)
    → time ≡ ms % 86400000 * 1000000 → c ≡ pos (ms * 1000000)
nanos_by c z ms time sum day rest = omega (arith, signed_arith)

time_of : (ms : ℕ)
    → (ms / 3600000 % 24 * 3600 + ms / 60000 % 60 * 60 + ms / 1000 % 60) * 1000000000 + ms % 1000 * 1000000
    ≡ ms % 86400000 * 1000000
time_of ms = omega arith

at_moment : (ms : ℕ) → IsHeld ms → IsAt ms
at_moment ms held =
    let day = on_day (ms / 86400000) (omega (arith, held.to)) in
    let t : DateTime = record {
      date = day.date;
      time = record {
        hour = ms / 3600000 % 24;
        minute = ms / 60000 % 60;
        second = ms / 1000 % 60;
        subsec_nanosecond = ms % 1000 * 1000000;
        hour_in = omega arith;
        minute_in = omega arith;
        second_in = omega arith;
        subsec_in = omega arith;
      };
    } in
    record {
      instant = t;
      is = nanos_by (civil_nanos t) (epoch_day day.date) ms (time_nanos t.time) (civil_nanos-parts t) day.is
          (time_of ms);
    }

-- ---- clock octets

read_by : (t : DateTime) (ms : ℕ) → IsHeld ms → HasMoment t ms → moment_in (moment_octets ms) ≡ Some ms
read_by t ms held has =
    let year = has_clock_year t ms held has in
    subst (λ n. moment_in (moment_octets n) ≡ Some n) (moment_is t ms has)
    (ap moment_in (sym (octets_are t year)) ∙ read_again t year)

-- the clock octets of a moment are read as it
pub clock_read : (ms : ℕ) → IsHeld ms → moment_in (moment_octets ms) ≡ Some ms
clock_read ms held = let at = at_moment ms held in read_by at.instant ms held at.is

pub length-clock : (ms : ℕ) → length (moment_octets ms) ≡ 10
unfolding moment_octets
length-clock ms = refl
