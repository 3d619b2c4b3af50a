-- The ten octets of a clock (Snap7 1.4 sources, s7_types.h: TResDataGetTime, TReqDataSetTime): `00 19`, the year,
-- month, day, hour, minute and second in BCD, two BCD digits of milliseconds, and an octet with the last of them and
-- the weekday. Days are counted by jiff's calendar.
use Rattle.std.specs.Prelude.{ℕ, ℤ, pos, ◌+◌, ◌*◌, ◌/◌, ◌%◌, ◌<◌, ◌≤◌, nat_le, unsigned_abs, List, [], ◌∷◌, Option, Some, None, option_and_then, Result, Ok, Err, if◌then◌else◌}
use Rattle.jiff.specs.Types.{DateTime}
use Rattle.jiff.specs.Words.{IsDate, IsTime, IsYmd, IsHms, IsBetween, weekday_of}
use Rattle.s7_clock.specs.declared.clock.Parts.{Parts}
use Rattle.s7_clock.specs.declared.faults.NotDate.{NotDate}

infixl 10 ◌>>=◌
abbrev pub ◌>>=◌ : {A B : Type 0} → Option A → (A → Option B) → Option B
o >>= f = option_and_then f o

-- ---- one octet

-- a number below 100 in two BCD digits
abbrev pub bcd : ℕ → ℕ
bcd n = n / 10 * 16 + n % 10

-- a decimal digit
abbrev pub digit : ℕ → Option ℕ
digit d = if nat_le d 9 then Some d else None

-- the number in two BCD digits
abbrev pub number_in : ℕ → Option ℕ
number_in octet = do
  high ← digit (octet / 16)
  low ← digit (octet % 16)
  Some (high * 10 + low)

-- the year of its last two digits: 90 to 99 are 19xx, 00 to 89 are 20xx
abbrev pub year_of : ℕ → ℕ
year_of n = if nat_le 90 n then 1900 + n else 2000 + n

-- ---- reading

-- the numbers in ten octets; the first two and the weekday are ignored
abbrev pub parts_in : List ℕ → Option Parts
parts_in (_ ∷ _ ∷ year ∷ month ∷ day ∷ hour ∷ minute ∷ second ∷ hundredths ∷ last ∷ []) = do
  y ← number_in year
  mo ← number_in month
  d ← number_in day
  h ← number_in hour
  mi ← number_in minute
  s ← number_in second
  hundreds ← number_in hundredths
  rest ← digit (last / 16)
  Some (record {
    year = year_of y;
    month = mo;
    day = d;
    hour = h;
    minute = mi;
    second = s;
    millisecond = hundreds * 10 + rest;
  })
parts_in _ = None

-- the numbers that BCD digits can give
pub record IsSmall (p : Parts) : Type 0 where
  pub year : p.year < 2100
  pub month : p.month < 100
  pub day : p.day < 100
  pub hour : p.hour < 100
  pub minute : p.minute < 100
  pub second : p.second < 100
  pub millisecond : p.millisecond < 1000

-- the years that two digits can give
pub record HasClockYear (p : Parts) : Type 0 where
  pub from : 1990 ≤ p.year
  pub to : p.year ≤ 2089

-- there is such a date, and such a time of day
abbrev pub AreDateTime : Parts → Type 0
AreDateTime p = IsDate (pos p.year) (pos p.month) (pos p.day)
    × IsTime (pos p.hour) (pos p.minute) (pos p.second) (pos (p.millisecond * 1000000))

-- the date and time have these numbers
abbrev pub HasParts : Parts → DateTime → Type 0
HasParts p t = IsYmd (pos p.year) (pos p.month) (pos p.day) t.date
    × IsHms (pos p.hour) (pos p.minute) (pos p.second) (pos (p.millisecond * 1000000)) t.time

-- what is read is the date and time with these numbers; it is an error exactly if there is none
abbrev pub Reads : Option Parts → Result DateTime NotDate → Type 0
Reads None (Ok t) = ⊥
Reads None (Err e) = Unit {0}
Reads (Some p) (Ok t) = HasParts p t
Reads (Some p) (Err e) = AreDateTime p → ⊥

-- ---- writing

-- a year that two digits can give
abbrev pub IsClockYear : ℤ → Type 0
IsClockYear y = IsBetween (pos 1990) (pos 2089) y

-- the whole milliseconds within the second
abbrev pub milliseconds : DateTime → ℕ
milliseconds t = t.time.subsec_nanosecond / 1000000

-- the weekday from 1 for Sunday to 7 for Saturday; jiff counts from 0 for Monday
abbrev pub weekday : DateTime → ℕ
weekday t = (weekday_of t.date + 1) % 7 + 1

-- the clock octets of a date and time
abbrev pub octets_of : DateTime → List ℕ
octets_of t = 0x00 ∷ 0x19 ∷ bcd (unsigned_abs t.date.year % 100) ∷ bcd t.date.month ∷ bcd t.date.day
    ∷ bcd t.time.hour ∷ bcd t.time.minute ∷ bcd t.time.second ∷ bcd (milliseconds t / 10)
    ∷ (milliseconds t % 10 * 16 + weekday t) ∷ []
