-- Dates and times of tags: their octets say them, their texts do, and no other texts.
use Rattle.std.proofs.Common.{◌≡◌, ◌∙◌, ◌<◌, ◌≤◌, ◌+◌, ◌-◌, ◌*◌, ◌/◌, ◌%◌, ℕ, zero, suc, pos, Bool, true, false, refl, ap, sym, subst, arith, List, [], ◌∷◌, ◌++◌, length, drop, get_or, Option, Some, None}
use Rattle.std.specs.Prelude.{◌&&◌, nat_le, option_and_then, unsigned_abs}
use Rattle.std.specs.Int.{IsInRange}
use Rattle.std.specs.Char.{digit_value, is_ascii_digit}
use Rattle.std.specs.Str.{bytes_eq}
use Rattle.std.specs.Str.Parse.{digits_value}
use Rattle.std.proofs.lemmas.Bool.{and_parts, eqb-true, leb-true}
use Rattle.std.proofs.lemmas.Bool.Decides.{nat_tests}
use Rattle.std.proofs.lemmas.Int.{ints}
use Rattle.std.proofs.lemmas.Slice.Eq.{bytes_eq-Decides}
use Rattle.jiff.specs.Types.{Date, DateTime, Time}
use Rattle.jiff.specs.Words.{days_in_month, epoch_day}
use Rattle.jiff.proofs.SpanFacts.{signed_arith}
use Rattle.s7_clock.specs.Clock.{IsClockYear, digit, number_in, octets_of, parts_in}
use Rattle.s7_clock.specs.Moment.{is_date, is_time, is_within, moment_at, moment_octets, moment_of}
use Rattle.s7_clock.proofs.ClockLemmas.{parts_in-octets}
use Rattle.s7_clock.proofs.DayLemmas.{moment_sum, octets_are}
use Rattle.s7_clock.proofs.MomentLemmas.{clock_days, not_negative}
use Rattle.s7_text.specs.Lines.{Text}
use Rattle.s7_text.specs.Moments.{Parts, are_digits, date_named, date_text, digit_of, four_digits, is_moment, parts_named, three_digits, two_digits, value_at}
use Rattle.s7_text.proofs.MomentLemmas.{IsDigit, are_milliseconds, are_two, is_placed, is_year}
use Rattle.s7_symbol.specs.Meanings.{Meaning, date}
use Rattle.s7_symbol.specs.Octets.{date_in, date_with}
use Rattle.s7_symbol.proofs.DigitLemmas.{digit_small, number_small}

-- ---- a date and time of the calendar

-- what the tests of a date and time say
pub record IsCalendar (p : Parts) : Type 0 where
  pub month : IsInRange 1 12 p.month
  pub day : IsInRange 1 (days_in_month (pos p.year) p.month) p.day
  pub hour : p.hour < 24
  pub minute : p.minute < 60
  pub second : p.second < 60

range_is : (low high n : ℕ) → is_within low high n ≡ true → IsInRange low high n
range_is low high n is =
    let both = and_parts (nat_le low n) (nat_le n high) is in
    (leb-true low n both.0, leb-true n high both.1)

pub calendar_is : (p : Parts) → (is_date p && is_time p) ≡ true → IsCalendar p
calendar_is p is =
    let both = and_parts (is_date p) (is_time p) is in
    let days = and_parts (is_within 1 12 p.month) (is_within 1 (days_in_month (pos p.year) p.month) p.day) both.0 in
    let time = and_parts (nat_le p.hour 23) (nat_le p.minute 59 && nat_le p.second 59) both.1 in
    let rest = and_parts (nat_le p.minute 59) (nat_le p.second 59) time.1 in
    let hour = leb-true p.hour 23 time.0 in
    let minute = leb-true p.minute 59 rest.0 in
    let second = leb-true p.second 59 rest.1 in
    record {
      month = range_is 1 12 p.month days.0;
      day = range_is 1 (days_in_month (pos p.year) p.month) p.day days.1;
      hour = omega (arith, hour);
      minute = omega (arith, minute);
      second = omega (arith, second);
    }

date_of : (p : Parts) → IsCalendar p → p.year ≤ 2089 → Date
date_of p is late = record {
  year = pos p.year;
  month = p.month;
  day = p.day;
  year_in = (omega (arith, ints), omega (arith, ints));
  month_in = is.month;
  day_in = is.day;
}

time_of : (p : Parts) → IsCalendar p → p.millisecond < 1000 → Time
time_of p is small = record {
  hour = p.hour;
  minute = p.minute;
  second = p.second;
  subsec_nanosecond = p.millisecond * 1000000;
  hour_in = is.hour;
  minute_in = is.minute;
  second_in = is.second;
  subsec_in = omega arith;
}

date_time_of : (p : Parts) → IsCalendar p → p.year ≤ 2089 → p.millisecond < 1000 → DateTime
date_time_of p is late small = record { date = date_of p is late; time = time_of p is small }

-- ---- octets

pub record IsTagDate (p : Parts) : Type 0 where
  pub from : 1990 ≤ p.year
  pub to : p.year ≤ 2089
  pub calendar : (is_date p && is_time p) ≡ true
  pub millisecond : p.millisecond < 1000

whole_ms : (ms : ℕ) → ms * 1000000 / 1000000 ≡ ms
whole_ms ms = omega arith

-- the clock octets of its moment have its parts
pub octets_have : (p : Parts) → IsTagDate p → parts_in (moment_octets (moment_at p)) ≡ Some p
unfolding date_of time_of date_time_of
octets_have p is =
    let calendar = calendar_is p is.calendar in
    let t : DateTime = date_time_of p calendar is.to is.millisecond in
    let year : IsClockYear t.date.year = (omega (arith, ints, is.from), omega (arith, ints, is.to)) in
    let days = clock_days t.date year in
    let day = not_negative (epoch_day t.date) (omega (arith, signed_arith, days.0)) in
    let ms = whole_ms p.millisecond in
    let moment : moment_of t ≡ moment_at p =
    moment_sum t (unsigned_abs (epoch_day t.date)) day
    ∙ ap (λ (k : ℕ). unsigned_abs (epoch_day t.date) * 86400000 + (p.hour * 3600 + p.minute * 60 + p.second) * 1000 + k) ms in
    let octets : octets_of t ≡ moment_octets (moment_at p) = octets_are t year ∙ ap moment_octets moment in
    ap parts_in (sym octets) ∙ parts_in-octets p.year t is.from is.to
    ∙ (λ i. Some (record {
      year = p.year;
      month = p.month;
      day = p.day;
      hour = p.hour;
      minute = p.minute;
      second = p.second;
      millisecond = ms i;
    }))

-- ten octets of a moment are its first two and the others
all_ten : (ms : ℕ) → 0x00 ∷ 0x19 ∷ drop 2 (moment_octets ms) ≡ moment_octets ms
unfolding moment_octets
all_ten ms = refl

date_again : (octets : List ℕ) (p : Parts) → (is_date p && is_time p) ≡ true → octets ≡ drop 2 (moment_octets (moment_at p))
    → date_with octets p ≡ Some (date p)
date_again octets p calendar same =
    let equal = (bytes_eq-Decides octets (drop 2 (moment_octets (moment_at p)))).1 same in
    rw (calendar, equal) refl

pub date_read : (p : Parts) → IsTagDate p → date_in (drop 2 (moment_octets (moment_at p))) ≡ Some (date p)
date_read p is =
    let parts = ap parts_in (all_ten (moment_at p)) ∙ octets_have p is in
    rw parts (date_again (drop 2 (moment_octets (moment_at p))) p is.calendar refl)

pub record IsDateOf (octets : List ℕ) (p : Parts) : Type 0 where
  pub parts : parts_in (0x00 ∷ 0x19 ∷ octets) ≡ Some p
  pub calendar : (is_date p && is_time p) ≡ true
  pub is : octets ≡ drop 2 (moment_octets (moment_at p))

pub date_is : (octets : List ℕ) (p : Parts) → date_in octets ≡ Some (date p) → IsDateOf octets p
date_is octets p said = go (parts_in (0x00 ∷ 0x19 ∷ octets)) refl
  where
    here : (q : Parts) → parts_in (0x00 ∷ 0x19 ∷ octets) ≡ Some q → date_with octets q ≡ Some (date p)
        → (a : Bool) → (is_date q && is_time q) ≡ a → (b : Bool) → bytes_eq octets (drop 2 (moment_octets (moment_at q))) ≡ b
        → IsDateOf octets p
    here q parts with_it false e b f = absurd (cc (rw e at with_it))
    here q parts with_it true e false f = absurd (cc (rw (e, f) at with_it))
    here q parts with_it true e true f =
        let some : ◌≡◌ {A = Option Meaning} (Some (date q)) (Some (date p)) = rw (e, f) at with_it in
        let same : q ≡ p = cc in
        record {
          parts = parts ∙ ap Some same;
          calendar = ap (λ (r : Parts). is_date r && is_time r) (sym same) ∙ e;
          is = (bytes_eq-Decides octets (drop 2 (moment_octets (moment_at q)))).0 f ∙ ap (λ (r : Parts). drop 2 (moment_octets (moment_at r))) same;
        }

    go : (o : Option Parts) → parts_in (0x00 ∷ 0x19 ∷ octets) ≡ o → IsDateOf octets p
    go None e = absurd (cc (rw e at said))
    go (Some q) e =
        here q e (rw e at said) (is_date q && is_time q) refl (bytes_eq octets (drop 2 (moment_octets (moment_at q)))) refl

-- ---- texts

digit_passes : (n : ℕ) → is_ascii_digit (digit_of n) ≡ true
digit_passes n = grind (arith, nat_tests)

digit_back : (n : ℕ) → digit_value (digit_of n) ≡ n % 10
digit_back n = grind (arith, nat_tests)

-- 17 digits and what stands between them
abbrev placed : (a b c d e f g h i j k l m n o p q : ℕ) → Text
placed a b c d e f g h i j k l m n o p q =
    a ∷ b ∷ c ∷ d ∷ 45 ∷ e ∷ f ∷ 45 ∷ g ∷ h ∷ 84 ∷ i ∷ j ∷ 58 ∷ k ∷ l ∷ 58 ∷ m ∷ n ∷ 46 ∷ o ∷ p ∷ q ∷ []

digits_pass : (a b c d e f g h i j k l m n o p q : ℕ)
    → is_moment (placed (digit_of a) (digit_of b) (digit_of c) (digit_of d) (digit_of e) (digit_of f) (digit_of g) (digit_of h) (digit_of i) (digit_of j)
    (digit_of k) (digit_of l) (digit_of m) (digit_of n) (digit_of o) (digit_of p) (digit_of q)) ≡ true
digits_pass a b c d e f g h i j k l m n o p q =
    rw (
      digit_passes a,
      digit_passes b,
      digit_passes c,
      digit_passes d,
      digit_passes e,
      digit_passes f,
      digit_passes g,
      digit_passes h,
      digit_passes i,
      digit_passes j,
      digit_passes k,
      digit_passes l,
      digit_passes m,
      digit_passes n,
      digit_passes o,
      digit_passes p,
      digit_passes q,
    ) refl

text_is_moment : (p : Parts) → is_moment (date_text p) ≡ true
text_is_moment p =
    digits_pass (p.year / 1000) (p.year / 100) (p.year / 10) p.year (p.month / 10) p.month (p.day / 10) p.day (p.hour / 10) p.hour (p.minute / 10) p.minute
    (p.second / 10) p.second (p.millisecond / 100) (p.millisecond / 10) p.millisecond

two_value : (n : ℕ) → n < 100 → digits_value 10 (two_digits n) ≡ n
two_value n small = omega (arith, digit_back (n / 10), digit_back n)

three_value : (n : ℕ) → n < 1000 → digits_value 10 (three_digits n) ≡ n
three_value n small = omega (arith, digit_back (n / 100), digit_back (n / 10), digit_back n)

four_value : (n : ℕ) → n < 10000 → digits_value 10 (four_digits n) ≡ n
four_value n small = omega (arith, digit_back (n / 1000), digit_back (n / 100), digit_back (n / 10), digit_back n)

text_names : (p : Parts) → p.year < 10000 → p.month < 100 → p.day < 100 → p.hour < 100 → p.minute < 100 → p.second < 100 → p.millisecond < 1000
    → parts_named (date_text p) ≡ p
text_names p y mo d h mi s f =
    λ i. record {
      year = four_value p.year y i;
      month = two_value p.month mo i;
      day = two_value p.day d i;
      hour = two_value p.hour h i;
      minute = two_value p.minute mi i;
      second = two_value p.second s i;
      millisecond = three_value p.millisecond f i;
    }

days_few : (p : Parts) → IsCalendar p → p.day < 100
days_few p is = grind (arith, nat_tests, is.day)

-- the text of a date and time names it
pub text_named : (p : Parts) → IsTagDate p → date_named (date_text p) ≡ Some p
text_named p is =
    let calendar = calendar_is p is.calendar in
    let parts = text_names p (omega (arith, is.to)) (omega (arith, calendar.month)) (days_few p calendar) (omega (arith, calendar.hour))
    (omega (arith, calendar.minute)) (omega (arith, calendar.second)) is.millisecond in
    let passes : (is_date (parts_named (date_text p)) && is_time (parts_named (date_text p))) ≡ true =
    ap (λ (q : Parts). is_date q && is_time q) parts ∙ is.calendar in
    named (date_text p) p (text_is_moment p) passes parts
  where
    named : (text : Text) (p : Parts) → is_moment text ≡ true → (is_date (parts_named text) && is_time (parts_named text)) ≡ true → parts_named text ≡ p
        → date_named text ≡ Some p
    named text p form calendar same = rw (form, calendar) (ap Some same)

-- ---- a text at its places

abbrev tab : ℕ → (ℕ → ℕ) → List ℕ
tab zero f = []
tab (suc n) f = f 0 ∷ tab n (λ k. f (suc k))

listed : (t : List ℕ) → t ≡ tab (length t) (λ k. get_or t k 0)
listed [] = refl
listed (x ∷ xs) = ap (λ l. x ∷ l) (listed xs)

digit_same : (b n : ℕ) → IsDigit b → n % 10 ≡ b - 48 → digit_of n ≡ b
digit_same b n is same = omega (arith, is.low, is.high)

two_same : (t : Text) (i : ℕ) → i + 2 ≤ length t → are_digits i 2 t ≡ true → get_or t i 0 ∷ get_or t (i + 1) 0 ∷ [] ≡ two_digits (value_at i 2 t)
two_same t i within are =
    let two = are_two t i within are in
    let tens = digit_same (get_or t i 0) (value_at i 2 t / 10) two.tens (omega (arith, two.value, two.tens.low, two.tens.high, two.ones.low, two.ones.high)) in
    let ones = digit_same (get_or t (i + 1) 0) (value_at i 2 t) two.ones (omega (arith, two.value, two.tens.low, two.tens.high, two.ones.low, two.ones.high)) in
    sym (λ j. tens j ∷ ones j ∷ [])

-- what stands between the digits
record AreMarks (t : Text) : Type 0 where
  year : get_or t 4 0 ≡ 45
  month : get_or t 7 0 ≡ 45
  day : get_or t 10 0 ≡ 84
  hour : get_or t 13 0 ≡ 58
  minute : get_or t 16 0 ≡ 58
  second : get_or t 19 0 ≡ 46

marks_are : (t : Text) → is_moment t ≡ true → AreMarks t
marks_are t is =
    let h = and_parts _ (are_digits 20 3 t) is in
    let g = and_parts _ _ h.0 in
    let f = and_parts _ _ g.0 in
    let e = and_parts _ _ f.0 in
    let d = and_parts _ _ e.0 in
    let c = and_parts _ _ d.0 in
    let b = and_parts _ _ c.0 in
    record {
      year = eqb-true (get_or t 4 0) 45 (and_parts _ _ b.1).1;
      month = eqb-true (get_or t 7 0) 45 (and_parts _ _ c.1).1;
      day = eqb-true (get_or t 10 0) 84 (and_parts _ _ d.1).1;
      hour = eqb-true (get_or t 13 0) 58 (and_parts _ _ e.1).1;
      minute = eqb-true (get_or t 16 0) 58 (and_parts _ _ f.1).1;
      second = eqb-true (get_or t 19 0) 46 (and_parts _ _ g.1).1;
    }

first_two : (t : Text) → 4 ≤ length t → are_digits 0 4 t ≡ true → are_digits 0 2 t ≡ true
first_two [] long are = absurd (omega arith)
first_two (a ∷ []) long are = absurd (omega arith)
first_two (a ∷ b ∷ t) long are =
    let one = and_parts (is_ascii_digit a) _ are in
    let two = and_parts (is_ascii_digit b) _ one.1 in
    rw (one.0, two.0) refl

year_same : (t : Text) → 4 ≤ length t → are_digits 0 4 t ≡ true
    → get_or t 0 0 ∷ get_or t 1 0 ∷ get_or t 2 0 ∷ get_or t 3 0 ∷ [] ≡ four_digits (value_at 0 4 t)
year_same t long are =
    let is = is_year t long are in
    let century = are_two t 0 (omega arith) (first_two t long are) in
    let year = are_two t 2 (omega arith) is.digits in
    by (get_or t 0 0) (get_or t 1 0) (get_or t 2 0) (get_or t 3 0) (value_at 0 4 t) century.tens century.ones year.tens year.ones
    (omega (arith, is.value, century.value, year.value))
  where
    by : (a b c d n : ℕ) → IsDigit a → IsDigit b → IsDigit c → IsDigit d
        → n ≡ ((a - 48) * 10 + (b - 48)) * 100 + ((c - 48) * 10 + (d - 48)) → a ∷ b ∷ c ∷ d ∷ [] ≡ four_digits n
    by a b c d n da db dc dd is =
        let one = digit_same a (n / 1000) da (omega (arith, da.low, da.high, db.low, db.high, dc.low, dc.high, dd.low, dd.high)) in
        let two = digit_same b (n / 100) db (omega (arith, da.low, da.high, db.low, db.high, dc.low, dc.high, dd.low, dd.high)) in
        let three = digit_same c (n / 10) dc (omega (arith, da.low, da.high, db.low, db.high, dc.low, dc.high, dd.low, dd.high)) in
        let four = digit_same d n dd (omega (arith, da.low, da.high, db.low, db.high, dc.low, dc.high, dd.low, dd.high)) in
        sym (λ j. one j ∷ two j ∷ three j ∷ four j ∷ [])

millisecond_same : (t : Text) → 23 ≤ length t → are_digits 20 3 t ≡ true
    → get_or t 20 0 ∷ get_or t 21 0 ∷ get_or t 22 0 ∷ [] ≡ three_digits (value_at 20 3 t)
millisecond_same t long are =
    let is = are_milliseconds t long are in
    let front = are_two t 20 (omega arith) is.digits in
    by (get_or t 20 0) (get_or t 21 0) (get_or t 22 0) (value_at 20 3 t) front.tens front.ones is.last (omega (arith, is.value, front.value))
  where
    by : (a b c n : ℕ) → IsDigit a → IsDigit b → IsDigit c → n ≡ ((a - 48) * 10 + (b - 48)) * 10 + (c - 48) → a ∷ b ∷ c ∷ [] ≡ three_digits n
    by a b c n da db dc is =
        let one = digit_same a (n / 100) da (omega (arith, da.low, da.high, db.low, db.high, dc.low, dc.high)) in
        let two = digit_same b (n / 10) db (omega (arith, da.low, da.high, db.low, db.high, dc.low, dc.high)) in
        let three = digit_same c n dc (omega (arith, da.low, da.high, db.low, db.high, dc.low, dc.high)) in
        sym (λ j. one j ∷ two j ∷ three j ∷ [])

millisecond_few : (t : Text) → 23 ≤ length t → are_digits 20 3 t ≡ true → value_at 20 3 t < 1000
millisecond_few t long are =
    let is = are_milliseconds t long are in
    let front = are_two t 20 (omega arith) is.digits in
    omega (arith, is.value, front.value, front.tens.low, front.tens.high, front.ones.low, front.ones.high, is.last.low, is.last.high)

-- a text with its digits at their places is that of what it names
text_is : (t : Text) → is_moment t ≡ true → t ≡ date_text (parts_named t)
text_is t form =
    let placed = is_placed t form in
    let marks = marks_are t form in
    let long : 23 ≤ length t = omega (arith, placed.long) in
    let year = year_same t (omega (arith, long)) placed.year in
    let month = two_same t 5 (omega (arith, long)) placed.month in
    let day = two_same t 8 (omega (arith, long)) placed.day in
    let hour = two_same t 11 (omega (arith, long)) placed.hour in
    let minute = two_same t 14 (omega (arith, long)) placed.minute in
    let second = two_same t 17 (omega (arith, long)) placed.second in
    let millisecond = millisecond_same t long placed.millisecond in
    listed t ∙ ap (λ (n : ℕ). tab n (λ k. get_or t k 0)) placed.long
    ∙ (λ j. year j ++ marks.year j ∷ month j ++ marks.month j ∷ day j ++ marks.day j ∷ hour j ++ marks.hour j ∷ minute j ++ marks.minute j ∷ second j ++ marks.second j ∷ millisecond j)

pub record IsDateText (text : Text) (p : Parts) : Type 0 where
  pub is : text ≡ date_text p
  pub calendar : (is_date p && is_time p) ≡ true
  pub millisecond : p.millisecond < 1000

pub date_text_is : (text : Text) (p : Parts) → date_named text ≡ Some p → IsDateText text p
date_text_is text p said = go (is_moment text) refl (is_date (parts_named text) && is_time (parts_named text)) refl
  where
    go : (a : Bool) → is_moment text ≡ a → (b : Bool) → (is_date (parts_named text) && is_time (parts_named text)) ≡ b → IsDateText text p
    go false e b f = absurd (cc (rw e at said))
    go true e false f = absurd (cc (rw (e, f) at said))
    go true e true f =
        let some : ◌≡◌ {A = Option Parts} (Some (parts_named text)) (Some p) = rw (e, f) at said in
        let same : parts_named text ≡ p = cc in
        let placed = is_placed text e in
        record {
          is = text_is text e ∙ ap date_text same;
          calendar = ap (λ (r : Parts). is_date r && is_time r) (sym same) ∙ f;
          millisecond = subst (λ (r : Parts). r.millisecond < 1000) same (millisecond_few text (omega (arith, placed.long)) placed.millisecond);
        }

-- ---- milliseconds of octets

bind_some : {A B : Type 0} (o : Option A) (f : A → Option B) (y : B) → option_and_then f o ≡ Some y → (x : A) × (o ≡ Some x) × (f x ≡ Some y)
bind_some None f y said = absurd (cc said)
bind_some (Some x) f y said = (x, refl, said)

pub few_milliseconds : (octets : List ℕ) (p : Parts) → parts_in (0x00 ∷ 0x19 ∷ octets) ≡ Some p → p.millisecond < 1000
few_milliseconds [] p said = absurd (cc)
few_milliseconds (a ∷ []) p said = absurd (cc)
few_milliseconds (a ∷ b ∷ []) p said = absurd (cc)
few_milliseconds (a ∷ b ∷ c ∷ []) p said = absurd (cc)
few_milliseconds (a ∷ b ∷ c ∷ d ∷ []) p said = absurd (cc)
few_milliseconds (a ∷ b ∷ c ∷ d ∷ e ∷ []) p said = absurd (cc)
few_milliseconds (a ∷ b ∷ c ∷ d ∷ e ∷ f ∷ []) p said = absurd (cc)
few_milliseconds (a ∷ b ∷ c ∷ d ∷ e ∷ f ∷ g ∷ []) p said = absurd (cc)
few_milliseconds (y ∷ mo ∷ d ∷ h ∷ mi ∷ s ∷ f ∷ l ∷ []) p said =
    let year = bind_some (number_in y) _ p said in
    let month = bind_some (number_in mo) _ p year.2 in
    let day = bind_some (number_in d) _ p month.2 in
    let hour = bind_some (number_in h) _ p day.2 in
    let minute = bind_some (number_in mi) _ p hour.2 in
    let second = bind_some (number_in s) _ p minute.2 in
    let hundredths = bind_some (number_in f) _ p second.2 in
    let last = bind_some (digit (l / 16)) _ p hundredths.2 in
    let high = number_small f hundredths.0 hundredths.1 in
    let low = digit_small (l / 16) last.0 last.1 in
    let same : hundredths.0 * 10 + last.0 ≡ p.millisecond = ap (λ (o : Option Parts). milliseconds_of o) last.2 in
    omega (arith, high, low, same)
  where
    milliseconds_of : Option Parts → ℕ
    milliseconds_of None = 0
    milliseconds_of (Some q) = q.millisecond
few_milliseconds (a ∷ b ∷ c ∷ d ∷ e ∷ f ∷ g ∷ h ∷ k ∷ ks) p said = absurd (cc)
