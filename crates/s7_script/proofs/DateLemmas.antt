-- The dates and times of moments, written and read.
use Rattle.std.proofs.Common.{◌≡◌, ◌≢◌, ◌∙◌, ◌<◌, ◌≤◌, ◌+◌, ◌-◌, ◌*◌, ◌/◌, ◌%◌, ℕ, zero, suc, pos, Bool, true, false, cond, refl, sym, ap}
use Rattle.std.proofs.Common.{subst, arith, rules, inl, inr, ◌&&◌, ◌||◌, nat_le, le-leb, Some, None}
use Rattle.std.specs.Prelude.{unsigned_abs, ◌==◌, IfSome, Option}
use Rattle.std.specs.Char.{digit_value, is_ascii_digit}
use Rattle.std.specs.Str.Parse.{digits_value}
use Rattle.std.proofs.lemmas.Bool.{and_parts, cases_order, leb-true}
use Rattle.std.proofs.lemmas.Bool.Decides.{nat_tests}
use Rattle.jiff.specs.Types.{Date}
use Rattle.jiff.specs.Words.{days_in_month}
use Rattle.jiff.proofs.SpanFacts.{signed_arith}
use Rattle.jiff_core.specs.Calendar.{IsCivilDate, day_count, days_from_civil, days_in_year, days_of_months, days_of_years, is_leap_year}
use Rattle.jiff_core.proofs.CalendarLemmas.{day_count-day, day_count-epoch, day_count-last_of_year, day_count-lt_year, day_count-next_month}
use Rattle.jiff_core.proofs.CalendarLemmas.{day_count-next_year, days_from_civil-day_count}
use Rattle.s7_clock.specs.Moment.{IsHeld, day_on, first_day, is_date, is_time, is_within, last_of, moment_at}
use Rattle.s7_clock.specs.Moment.{moment_of_parts, month_on, year_on}
use Rattle.s7_clock.proofs.MomentLemmas.{clock_days, not_negative}
use Rattle.s7_clock.proofs.PartsLemmas.{passes_by}
use Rattle.s7_text.specs.Lines.{Text}
use Rattle.s7_text.specs.Moments.{Parts, date_text, digit_of, is_moment, moment_by, moment_named, parts_named, two_digits, three_digits, four_digits, value_at}
use Rattle.s7_text.proofs.MomentLemmas.{are_milliseconds, are_two, is_placed}
use Rattle.s7_script.specs.ScriptSpelling.{parts_of}

-- ---- the last number that passes a test

passes_step : (test : ℕ → Bool) (n : ℕ) (b : Bool) → test (suc n) ≡ b → test (last_of test n) ≡ true
    → test (cond b (suc n) (last_of test n)) ≡ true
passes_step test n true is rest = is
passes_step test n false is rest = rest

passes : (test : ℕ → Bool) (n : ℕ) → test 0 ≡ true → test (last_of test n) ≡ true
unfolding last_of
passes test zero first = first
passes test (suc n) first = passes_step test n (test (suc n)) refl (passes test n first)

low_step : (n k : ℕ) (b : Bool) → k ≤ n → cond b (suc n) k ≤ suc n
low_step n k true low = omega arith
low_step n k false low = omega arith

last_low : (test : ℕ → Bool) (n : ℕ) → last_of test n ≤ n
unfolding last_of
last_low test zero = omega arith
last_low test (suc n) = low_step n (last_of test n) (test (suc n)) (last_low test n)

fails_step : (test : ℕ → Bool) (n k j : ℕ) (b : Bool) → test (suc n) ≡ b → cond b (suc n) k < j → j ≤ suc n
    → (k < j → j ≤ n → test j ≡ false) → test j ≡ false
fails_step test n k j true is above below rest = absurd (omega arith)
fails_step test n k j false is above below rest = elim (cases_order j (suc n)) [
  | inl same ↦ subst (λ (x : ℕ). test x ≡ false) (sym same) is
  | inr (inl less) ↦ rest above (omega arith)
  | inr (inr more) ↦ absurd (omega arith)
]

fails : (test : ℕ → Bool) (n j : ℕ) → last_of test n < j → j ≤ n → test j ≡ false
unfolding last_of
fails test zero j above below = absurd (omega arith)
fails test (suc n) j above below =
    fails_step test n (last_of test n) j (test (suc n)) refl above below (λ a b. fails test n j a b)

not_le : (a b : ℕ) → nat_le a b ≡ false → b < a
not_le a b e = grind (arith, nat_tests)

-- ---- first days

epoch_date : IsCivilDate (pos 1970) 1 1
epoch_date = (search rules, search rules, search rules)

since_epoch_day : (y m : ℕ) → 1990 ≤ y → first_day y m + 4371953 ≡ day_count (pos y) m 1
since_epoch_day y m low =
    let later = day_count-lt_year (pos 1970) 1 1 (pos y) m 1 epoch_date (omega arith) (omega (arith, signed_arith)) in
    let count = days_from_civil-day_count (pos y) m 1 in
    let positive = not_negative (days_from_civil (pos y) m 1) (omega (arith, signed_arith, count, later, day_count-epoch)) in
    omega (arith, signed_arith, count, positive)

first_days : (first_day 1990 1 ≡ 7305) × (first_day 2090 1 ≡ 43830)
unfolding days_from_civil day_count days_of_years days_of_months
first_days = (refl, refl)

-- ---- the date of a day

-- the day is that of this date
record IsDateOf (day y m d : ℕ) : Type 0 where
  from : 1990 ≤ y
  to : y ≤ 2089
  month_from : 1 ≤ m
  month_to : m ≤ 12
  day_from : 1 ≤ d
  day_to : d ≤ days_in_month (pos y) m
  is : unsigned_abs (days_from_civil (pos y) m d) ≡ day

year_ends : (day k : ℕ) → day ≤ 43829 → k ≤ 99 → ((j : ℕ) → k < j → j ≤ 99 → nat_le (first_day (1990 + j) 1) day ≡ false)
    → day < first_day (1990 + (k + 1)) 1
year_ends day k most low fail = elim (cases_order k 99) [
  | inl same ↦ subst (λ (n : ℕ). day < first_day (1990 + (n + 1)) 1) (sym same) (omega (arith, first_days.1))
  | inr (inl less) ↦ not_le (first_day (1990 + (k + 1)) 1) day (fail (k + 1) (omega arith) (omega arith))
  | inr (inr more) ↦ absurd (omega arith)
]

-- the day lies in the year
record IsInYear (day y : ℕ) : Type 0 where
  from : 1990 ≤ y
  to : y ≤ 2089
  begun : first_day y 1 ≤ day
  ends : day + 4371953 < day_count (pos y) 1 1 + days_in_year (pos y)

year_by : (day k : ℕ) → k ≤ 99 → first_day (1990 + k) 1 ≤ day → day < first_day (1990 + (k + 1)) 1 → IsInYear day (1990 + k)
year_by day k low begun ends =
    let next = day_count-next_year (pos (1990 + k)) (pos (1990 + (k + 1))) (omega (arith, signed_arith)) (omega (arith, signed_arith)) in
    let there = since_epoch_day (1990 + (k + 1)) 1 (omega arith) in
    record { from = omega arith; to = omega arith; begun = begun; ends = omega (arith, next, there, ends) }

year_is : (day : ℕ) → 7305 ≤ day → day ≤ 43829 → IsInYear day (year_on day)
year_is day least most =
    let test : ℕ → Bool = λ (k : ℕ). nat_le (first_day (1990 + k) 1) day in
    let k : ℕ = last_of test 99 in
    let first : test 0 ≡ true = le-leb (first_day 1990 1) day (omega (arith, first_days.0)) in
    let low : k ≤ 99 = last_low test 99 in
    year_by day k low (leb-true (first_day (1990 + k) 1) day (passes test 99 first))
    (year_ends day k most low (λ j above below. fails test 99 j above below))

month_ends : (day y j : ℕ) → IsInYear day y → j ≤ 11 → ((k : ℕ) → j < k → k ≤ 11 → nat_le (first_day y (1 + k)) day ≡ false)
    → day + 4371953 < day_count (pos y) (1 + j) 1 + days_in_month (pos y) (1 + j)
month_ends day y j is low fail = elim (cases_order j 11) [
  | inl same ↦
      subst (λ (n : ℕ). day + 4371953 < day_count (pos y) (1 + n) 1 + days_in_month (pos y) (1 + n)) (sym same)
      (omega (arith, is.ends, day_count-last_of_year (pos y), day_count-day (pos y) 12 1 31 (omega arith) (omega arith)))
  | inr (inl less) ↦
      let before : day < first_day y (1 + (j + 1)) = not_le (first_day y (1 + (j + 1))) day (fail (j + 1) (omega arith) (omega arith)) in
      let there = since_epoch_day y (1 + (j + 1)) is.from in
      let next : day_count (pos y) (1 + j + 1) 1 ≡ day_count (pos y) (1 + j) 1 + days_in_month (pos y) (1 + j) =
      day_count-next_month (pos y) (1 + j) (omega arith) in
      let same : 1 + j + 1 ≡ 1 + (j + 1) = omega arith in
      let moved : day_count (pos y) (1 + j + 1) 1 ≡ day_count (pos y) (1 + (j + 1)) 1 = ap (λ (n : ℕ). day_count (pos y) n 1) same in
      omega (arith, before, there, next, moved)
  | inr (inr more) ↦ absurd (omega arith)
]

date_by : (day y j : ℕ) → IsInYear day y → j ≤ 11 → first_day y (1 + j) ≤ day
    → day + 4371953 < day_count (pos y) (1 + j) 1 + days_in_month (pos y) (1 + j)
    → IsDateOf day y (1 + j) (day - first_day y (1 + j) + 1)
date_by day y j is low begun ends =
    let d : ℕ = day - first_day y (1 + j) + 1 in
    let here = since_epoch_day y (1 + j) is.from in
    let place = day_count-day (pos y) (1 + j) 1 d (omega arith) (omega arith) in
    let count = days_from_civil-day_count (pos y) (1 + j) d in
    let d_is : d + first_day y (1 + j) ≡ day + 1 = omega arith in
    let positive = not_negative (days_from_civil (pos y) (1 + j) d) (omega (arith, signed_arith, count, place, here, d_is)) in
    record {
      from = is.from;
      to = is.to;
      month_from = omega arith;
      month_to = omega arith;
      day_from = omega arith;
      day_to = omega (arith, here, ends, d_is);
      is = omega (arith, signed_arith, count, place, here, d_is, positive);
    }

date_is : (day : ℕ) → 7305 ≤ day → day ≤ 43829 → IsDateOf day (year_on day) (month_on day) (day_on day)
date_is day least most =
    let y : ℕ = year_on day in
    let is = year_is day least most in
    let test : ℕ → Bool = λ (k : ℕ). nat_le (first_day y (1 + k)) day in
    let j : ℕ = last_of test 11 in
    let first : test 0 ≡ true = le-leb (first_day y 1) day is.begun in
    let low : j ≤ 11 = last_low test 11 in
    date_by day y j is low (leb-true (first_day y (1 + j)) day (passes test 11 first))
    (month_ends day y j is low (λ k above below. fails test 11 k above below))

-- ---- the moment of the parts

whole_moment : (m : ℕ)
    → m / 86400000 * 86400000 + (m / 3600000 % 24 * 3600 + m / 60000 % 60 * 60 + m / 1000 % 60) * 1000 + m % 1000 ≡ m
whole_moment m = omega arith

parts_real : (m : ℕ) → IsHeld m → moment_of_parts (parts_of m) ≡ Some m
parts_real m held =
    let day : ℕ = m / 86400000 in
    let date = date_is day (omega (arith, held.from)) (omega (arith, held.to)) in
    let real = passes_by (parts_of m) date.month_from date.month_to date.day_from date.day_to (omega arith) (omega arith) (omega arith) in
    ap (λ (t : Bool). cond t (Some (moment_at (parts_of m))) None) real
    ∙ ap (λ (n : ℕ). Some (n * 86400000 + (m / 3600000 % 24 * 3600 + m / 60000 % 60 * 60 + m / 1000 % 60) * 1000 + m % 1000)) date.is
    ∙ ap Some (whole_moment m)

-- ---- the text of the parts

ascii : (n : ℕ) → is_ascii_digit (digit_of n) ≡ true
ascii n = let low : n % 10 < 10 = omega arith in grind (arith, nat_tests)

value_is : (n : ℕ) → digit_value (digit_of n) ≡ n % 10
value_is n = let low : n % 10 < 10 = omega arith in grind (arith, nat_tests)

two_value : (n : ℕ) → n < 100 → digits_value 10 (two_digits n) ≡ n
two_value n low = omega (arith, value_is (n / 10), value_is n)

three_value : (n : ℕ) → n < 1000 → digits_value 10 (three_digits n) ≡ n
three_value n low = omega (arith, value_is (n / 100), value_is (n / 10), value_is n)

four_value : (n : ℕ) → n < 10000 → digits_value 10 (four_digits n) ≡ n
four_value n low = omega (arith, value_is (n / 1000), value_is (n / 100), value_is (n / 10), value_is n)

text_is_moment : (p : Parts) → is_moment (date_text p) ≡ true
text_is_moment p = simp ascii

-- parts whose numbers fit their digits
record AreShort (p : Parts) : Type 0 where
  year : p.year < 10000
  month : p.month < 100
  day : p.day < 100
  hour : p.hour < 100
  minute : p.minute < 100
  second : p.second < 100
  millisecond : p.millisecond < 1000

parts_back : (p : Parts) → AreShort p → parts_named (date_text p) ≡ p
parts_back p short = λ i. record {
  year = four_value p.year short.year i;
  month = two_value p.month short.month i;
  day = two_value p.day short.day i;
  hour = two_value p.hour short.hour i;
  minute = two_value p.minute short.minute i;
  second = two_value p.second short.second i;
  millisecond = three_value p.millisecond short.millisecond i;
}

few_by : (a b c : Bool) → cond a (cond b 29 28) (cond c 30 31) < 100
few_by true true c = omega arith
few_by true false c = omega arith
few_by false b true = omega arith
few_by false b false = omega arith

few_days : (y m : ℕ) → days_in_month (pos y) m < 100
few_days y m = few_by (m == 2) (is_leap_year (pos y)) (m == 4 || m == 6 || m == 9 || m == 11)

pub moment_back : (m : ℕ) → IsHeld m → moment_named (date_text (parts_of m)) ≡ Some m
moment_back m held =
    let p : Parts = parts_of m in
    let date = date_is (m / 86400000) (omega (arith, held.from)) (omega (arith, held.to)) in
    let short : AreShort p = record {
      year = omega (arith, date.to);
      month = omega (arith, date.month_to);
      day = omega (arith, date.day_to, few_days p.year p.month);
      hour = omega arith;
      minute = omega arith;
      second = omega arith;
      millisecond = omega arith;
    } in
    let within : is_within 1990 2089 p.year ≡ true = rw (le-leb 1990 p.year date.from, le-leb p.year 2089 date.to) refl in
    ap (λ (t : Bool). cond t (moment_by (parts_named (date_text p))) None) (text_is_moment p)
    ∙ (ap moment_by (parts_back p short)
    ∙ (ap (λ (t : Bool). cond t (moment_of_parts p) None) within ∙ parts_real m held))

-- ---- a moment that a text names is one of a clock

if_some : {X : Type 0} (P : X → Type 0) (b : Bool) (o : Option X) → (b ≡ true → IfSome o P) → IfSome (cond b o None) P
if_some P true o h = h refl
if_some P false o h = tt

within_is : (low high n : ℕ) → is_within low high n ≡ true → (low ≤ n) × (n ≤ high)
within_is low high n e =
    let both = and_parts (nat_le low n) (nat_le n high) e in
    (leb-true low n both.0, leb-true n high both.1)

day_bounds : (y m d : ℕ) → 1990 ≤ y → y ≤ 2089 → 1 ≤ m → m ≤ 12 → 1 ≤ d → d ≤ days_in_month (pos y) m
    → (7305 ≤ unsigned_abs (days_from_civil (pos y) m d)) × (unsigned_abs (days_from_civil (pos y) m d) ≤ 43829)
day_bounds y m d from to month most least last =
    let date : Date = record {
      year = pos y;
      month = m;
      day = d;
      year_in = (omega (arith, signed_arith, to), omega (arith, signed_arith, to));
      month_in = (month, most);
      day_in = (least, last);
    } in
    let days = clock_days date (omega (arith, signed_arith, from), omega (arith, signed_arith, to)) in
    let is = not_negative (days_from_civil (pos y) m d) (omega (arith, signed_arith, days.0)) in
    (omega (arith, signed_arith, days.0, is), omega (arith, signed_arith, days.1, is))

held_by : (n h mi s f : ℕ) → 7305 ≤ n → n ≤ 43829 → h ≤ 23 → mi ≤ 59 → s ≤ 59 → f < 1000
    → IsHeld (n * 86400000 + (h * 3600 + mi * 60 + s) * 1000 + f)
held_by n h mi s f low high hour minute second fraction = record { from = omega arith; to = omega arith }

few_milliseconds : (text : Text) → is_moment text ≡ true → value_at 20 3 text < 1000
few_milliseconds text is =
    let placed = is_placed text is in
    let last = are_milliseconds text (omega (arith, placed.long)) placed.millisecond in
    let two = are_two text 20 (omega (arith, placed.long)) last.digits in
    omega (arith, last.value, last.last.high, two.value, two.tens.high, two.ones.high)

real_held : (text : Text) → is_moment text ≡ true → is_within 1990 2089 (parts_named text).year ≡ true
    → (is_date (parts_named text) && is_time (parts_named text)) ≡ true → IsHeld (moment_at (parts_named text))
real_held text is years real =
    let p : Parts = parts_named text in
    let both = and_parts (is_date p) (is_time p) real in
    let date = and_parts (is_within 1 12 p.month) (is_within 1 (days_in_month (pos p.year) p.month) p.day) both.0 in
    let time = and_parts (nat_le p.hour 23) (nat_le p.minute 59 && nat_le p.second 59) both.1 in
    let rest = and_parts (nat_le p.minute 59) (nat_le p.second 59) time.1 in
    let y = within_is 1990 2089 p.year years in
    let m = within_is 1 12 p.month date.0 in
    let d = within_is 1 (days_in_month (pos p.year) p.month) p.day date.1 in
    let day = day_bounds p.year p.month p.day y.0 y.1 m.0 m.1 d.0 d.1 in
    held_by (unsigned_abs (days_from_civil (pos p.year) p.month p.day)) p.hour p.minute p.second p.millisecond day.0 day.1
    (leb-true p.hour 23 time.0) (leb-true p.minute 59 rest.0) (leb-true p.second 59 rest.1) (few_milliseconds text is)

pub named_held : (text : Text) → IfSome (moment_named text) IsHeld
named_held text =
    let p : Parts = parts_named text in
    if_some IsHeld (is_moment text) (moment_by p) (λ is.
    if_some IsHeld (is_within 1990 2089 p.year) (moment_of_parts p) (λ years.
    if_some IsHeld (is_date p && is_time p) (Some (moment_at p)) (λ real. real_held text is years real)))

-- ---- the octets of the text

pub no_space : (n : ℕ) → digit_of n ≢ 32
no_space n = λ e. omega (arith, e)

pub no_semicolon : (n : ℕ) → digit_of n ≢ 59
no_semicolon n = λ e. omega (arith, e)

pub no_feed : (n : ℕ) → digit_of n ≢ 10
no_feed n = λ e. omega (arith, e)

pub no_return : (n : ℕ) → digit_of n ≢ 13
no_return n = λ e. omega (arith, e)
