-- What is said and how it is spelled, of each type: both ways.
use Rattle.std.proofs.Common.{◌≡◌, ◌∙◌, ◌<◌, ◌≤◌, ◌+◌, ◌-◌, ◌*◌, ◌^◌, ℕ, zero, suc, Bool, true, false, refl, ap, sym, subst, arith, List, [], ◌∷◌, length, take, replicate, Option, Some, None}
use Rattle.std.specs.Prelude.{◌==◌, ◌&&◌, nat_le, option_map}
use Rattle.std.proofs.lemmas.Bool.{and_parts, eqb-true, leb-true, ltb-true}
use Rattle.std.proofs.lemmas.List.{length-replicate}
use Rattle.hex.specs.Hex.{IsBytes}
use Rattle.s7_outer.specs.Numbers.{AreOctets}
use Rattle.s7_clock.specs.Moment.{is_date, is_time}
use Rattle.s7_text.specs.Lines.{Text}
use Rattle.s7_text.specs.Moments.{Parts, date_named}
use Rattle.s7_symbol.specs.Meanings.{Meaning, date, duration, has_room, is_in_range, number, signed, string}
use Rattle.s7_symbol.specs.Numbers.{fits_half, plain_number, signed_by, signed_number}
use Rattle.s7_symbol.specs.Octets.{number_of_four, octets_meaning, octets_spelling, signed_of_four, signed_of_two}
use Rattle.s7_symbol.specs.Texts.{characters_in, string_for, text_meaning, text_spelling}
use Rattle.s7_symbol.specs.Values.{unused, used}
use Rattle.s7_symbol.specs.declared.kind.TagKind.{TagKind}
use Rattle.s7_symbol.specs.declared.kind.TagKind.TheVariants as kind
use Rattle.s7_symbol.specs.declared.numbers.Signed.{Signed}
use Rattle.s7_symbol.proofs.CalendarLemmas.{IsTagDate, date_is, date_read, date_text_is, few_milliseconds, text_named}
use Rattle.s7_symbol.proofs.CharacterLemmas.{characters_are, characters_read, string_count, string_is, string_read, string_unused, string_used}
use Rattle.s7_symbol.proofs.DigitLemmas.{bcd_is, bcd_read, duration_is, duration_read, duration_text_is, duration_text_read}
use Rattle.s7_symbol.proofs.PlainLemmas.{plain_decimal, plain_is}
use Rattle.s7_symbol.proofs.SignedLemmas.{four_is, four_read, negative_some, signed_is, signed_some, signed_text_read, two_is, two_read}

-- what holds of all that texts and octets say
abbrev pub IsSound : Meaning → Type 0
IsSound (number n) = Unit {0}
IsSound (signed z) = z.is_negative ≡ true → 0 < z.size
IsSound (duration count unit) = Unit {0}
IsSound (string room count characters) = (count ≡ length characters) × IsBytes characters
IsSound (date p) = ((is_date p && is_time p) ≡ true) × (p.millisecond < 1000)

-- ---- ranges

record IsTimeRange (count unit : ℕ) : Type 0 where
  most : count ≤ 999
  few : unit ≤ 3

time_range : (count unit : ℕ) → (nat_le count 999 && nat_le unit 3) ≡ true → IsTimeRange count unit
time_range count unit range =
    let both = and_parts (nat_le count 999) (nat_le unit 3) range in
    record { most = leb-true count 999 both.0; few = leb-true unit 3 both.1 }

record IsRoom (most room count : ℕ) : Type 0 where
  same : room ≡ most
  few : count ≤ room

room_range : (most room count : ℕ) → (room == most && (nat_le count most && has_room most)) ≡ true → IsRoom most room count
room_range most room count range =
    let both = and_parts (room == most) (nat_le count most && has_room most) range in
    let same = eqb-true room most both.0 in
    let few = leb-true count most (and_parts (nat_le count most) (has_room most) both.1).0 in
    record { same = same; few = omega arith }

date_range : (p : Parts) → (nat_le 1990 p.year && nat_le p.year 2089) ≡ true → IsSound (date p) → IsTagDate p
date_range p range sound =
    let both = and_parts (nat_le 1990 p.year) (nat_le p.year 2089) range in
    record { from = leb-true 1990 p.year both.0; to = leb-true p.year 2089 both.1; calendar = sound.0; millisecond = sound.1 }

size_small : (half : ℕ) (z : Signed) → half ≤ 2147483648 → fits_half half z ≡ true → z.size < 2 ^ 64
size_small half z few fits = by z.is_negative z.size fits
  where
    by : (b : Bool) (n : ℕ) → fits_half half (record { is_negative = b; size = n }) ≡ true → n < 2 ^ 64
    by true n fits = let most = leb-true n half fits in omega arith
    by false n fits = let low = ltb-true n half fits in omega arith

-- ---- what a spelling says

pub stored_again : (of : TagKind) (m : Meaning) → is_in_range of m ≡ true → IsSound m → octets_meaning of (octets_spelling of m) ≡ Some m
stored_again kind.Bool (number n) range sound = refl
stored_again kind.Int (signed z) range sound = two_read z range
stored_again kind.Dint (signed z) range sound = four_read z range
stored_again kind.Bcd (number n) range sound = bcd_read n (leb-true n 9999 range)
stored_again kind.S5Time (duration count unit) range sound = duration_read count unit (time_range count unit range).most
stored_again (kind.Text most) (string room count cs) range sound = string_read room count cs sound.0 (room_range most room count range).few
stored_again kind.DateTime (date p) range sound = date_read p (date_range p range sound)
stored_again of m range sound = absurd (cc)

pub written_again : (of : TagKind) (m : Meaning) → is_in_range of m ≡ true → IsSound m → text_meaning of (text_spelling m) ≡ Some m
written_again kind.Bool (number n) range sound =
    let most = leb-true n 1 range in ap (option_map number) (plain_decimal n (omega arith))
written_again kind.Int (signed z) range sound = ap (option_map signed) (signed_text_read z (size_small 32768 z (omega arith) range) sound)
written_again kind.Dint (signed z) range sound = ap (option_map signed) (signed_text_read z (size_small 2147483648 z (omega arith) range) sound)
written_again kind.Bcd (number n) range sound =
    let most = leb-true n 9999 range in ap (option_map number) (plain_decimal n (omega arith))
written_again kind.S5Time (duration count unit) range sound =
    let within = time_range count unit range in duration_text_read count unit within.most within.few
written_again (kind.Text most) (string room count cs) range sound =
    let is = room_range most room count range in
    ap (option_map (string_for most)) (characters_read cs sound.1) ∙ (λ i. Some (string (sym is.same i) (sym sound.0 i) cs))
written_again kind.DateTime (date p) range sound = ap (option_map date) (text_named p (date_range p range sound))
written_again of m range sound = absurd (cc)

-- ---- what was mapped

number_said : (o : Option ℕ) (n : ℕ) → option_map number o ≡ Some (number n) → o ≡ Some n
number_said None n said = absurd (cc)
number_said (Some k) n said = let same : k ≡ n = cc in ap Some same

signed_said : (o : Option Signed) (z : Signed) → option_map signed o ≡ Some (signed z) → o ≡ Some z
signed_said None z said = absurd (cc)
signed_said (Some y) z said = let same : y ≡ z = cc in ap Some same

date_said : (o : Option Parts) (p : Parts) → option_map date o ≡ Some (date p) → o ≡ Some p
date_said None p said = absurd (cc)
date_said (Some q) p said = let same : q ≡ p = cc in ap Some same

record IsStringSaid (o : Option (List ℕ)) (count : ℕ) (cs : List ℕ) : Type 0 where
  said : o ≡ Some cs
  long : length cs ≡ count

string_said : (most : ℕ) (o : Option (List ℕ)) (room count : ℕ) (cs : List ℕ) → option_map (string_for most) o ≡ Some (string room count cs)
    → IsStringSaid o count cs
string_said most None room count cs said = absurd (cc)
string_said most (Some ds) room count cs said =
    let same : ds ≡ cs = cc in
    let long : length ds ≡ count = cc in
    record { said = ap Some same; long = ap length (sym same) ∙ long }

-- ---- what says it is its spelling

pub text_one : (of : TagKind) (text : Text) (m : Meaning) → text_meaning of text ≡ Some m → is_in_range of m ≡ true → text ≡ text_spelling m
text_one kind.Bool text (number n) said range =
    let most = leb-true n 1 range in plain_is text n (number_said (plain_number text) n said) (omega arith)
text_one kind.Int text (signed z) said range = signed_is text z (signed_said (signed_number text) z said) (size_small 32768 z (omega arith) range)
text_one kind.Dint text (signed z) said range = signed_is text z (signed_said (signed_number text) z said) (size_small 2147483648 z (omega arith) range)
text_one kind.Bcd text (number n) said range =
    let most = leb-true n 9999 range in plain_is text n (number_said (plain_number text) n said) (omega arith)
text_one kind.S5Time text (duration count unit) said range =
    let within = time_range count unit range in duration_text_is text count unit within.most within.few said
text_one (kind.Text most) text (string room count cs) said range =
    (characters_are text cs (string_said most (characters_in text) room count cs said).said).is
text_one kind.DateTime text (date p) said range = (date_text_is text p (date_said (date_named text) p said)).is
text_one of text m said range = absurd (cc)

pub sound_text : (of : TagKind) (text : Text) (m : Meaning) → text_meaning of text ≡ Some m → is_in_range of m ≡ true → IsSound m
sound_text kind.Bool text (number n) said range = tt
sound_text kind.Int text (signed z) said range = negative_some text z (signed_said (signed_number text) z said)
sound_text kind.Dint text (signed z) said range = negative_some text z (signed_said (signed_number text) z said)
sound_text kind.Bcd text (number n) said range = tt
sound_text kind.S5Time text (duration count unit) said range = tt
sound_text (kind.Text most) text (string room count cs) said range =
    let is = string_said most (characters_in text) room count cs said in
    (sym is.long, (characters_are text cs is.said).bytes)
sound_text kind.DateTime text (date p) said range =
    let is = date_text_is text p (date_said (date_named text) p said) in (is.calendar, is.millisecond)
sound_text of text m said range = absurd (cc)

-- ---- octets

record AreTwo (octets : List ℕ) (z : Signed) : Type 0 where
  a : ℕ
  b : ℕ
  is : octets ≡ a ∷ b ∷ []
  high : a < 256
  low : b < 256
  said : signed_by 32768 (a * 256 + b) ≡ z

two_are : (octets : List ℕ) (z : Signed) → AreOctets octets → signed_of_two octets ≡ Some (signed z) → AreTwo octets z
two_are [] z are said = absurd (cc)
two_are (a ∷ []) z are said = absurd (cc)
two_are (a ∷ b ∷ []) z are said =
    let same : signed_by 32768 (a * 256 + b) ≡ z = cc in
    record { a = a; b = b; is = refl; high = are 0; low = are 1; said = same }
two_are (a ∷ b ∷ c ∷ cs) z are said = absurd (cc)

record AreFour (octets : List ℕ) (z : Signed) : Type 0 where
  a : ℕ
  b : ℕ
  c : ℕ
  d : ℕ
  is : octets ≡ a ∷ b ∷ c ∷ d ∷ []
  first : a < 256
  second : b < 256
  third : c < 256
  last : d < 256
  said : signed_by 2147483648 (number_of_four a b c d) ≡ z

four_are : (octets : List ℕ) (z : Signed) → AreOctets octets → signed_of_four octets ≡ Some (signed z) → AreFour octets z
four_are [] z are said = absurd (cc)
four_are (a ∷ []) z are said = absurd (cc)
four_are (a ∷ b ∷ []) z are said = absurd (cc)
four_are (a ∷ b ∷ c ∷ []) z are said = absurd (cc)
four_are (a ∷ b ∷ c ∷ d ∷ []) z are said =
    let same : signed_by 2147483648 (number_of_four a b c d) ≡ z = cc in
    record { a = a; b = b; c = c; d = d; is = refl; first = are 0; second = are 1; third = are 2; last = are 3; said = same }
four_are (a ∷ b ∷ c ∷ d ∷ e ∷ es) z are said = absurd (cc)

octets_bytes : (octets : List ℕ) (room count : ℕ) (cs : List ℕ) → AreOctets octets → (rest : List ℕ) → octets ≡ room ∷ count ∷ rest → take count rest ≡ cs → IsBytes cs
octets_bytes octets room count cs are rest is front = subst IsBytes front (taken count rest (λ k. subst AreOctets is are (suc (suc k))))
  where
    taken : (n : ℕ) (xs : List ℕ) → AreOctets xs → IsBytes (take n xs)
    taken zero xs are k = omega arith
    taken (suc n) [] are k = omega arith
    taken (suc n) (x ∷ xs) are zero = are 0
    taken (suc n) (x ∷ xs) are (suc k) = taken n xs (λ j. are (suc j)) k

pub sound_octets : (of : TagKind) (octets : List ℕ) (m : Meaning) → AreOctets octets → octets_meaning of octets ≡ Some m → is_in_range of m ≡ true → IsSound m
sound_octets kind.Bool octets (number n) are said range = tt
sound_octets kind.Int octets (signed z) are said range =
    let is = two_are octets z are said in
    subst (λ (y : Signed). y.is_negative ≡ true → 0 < y.size) is.said
    (signed_some 32768 (is.a * 256 + is.b) (omega (arith, is.high, is.low)))
sound_octets kind.Dint octets (signed z) are said range =
    let is = four_are octets z are said in
    subst (λ (y : Signed). y.is_negative ≡ true → 0 < y.size) is.said
    (signed_some 2147483648 (number_of_four is.a is.b is.c is.d) (omega (arith, is.first, is.second, is.third, is.last)))
sound_octets kind.Bcd octets (number n) are said range = tt
sound_octets kind.S5Time octets (duration count unit) are said range = tt
sound_octets (kind.Text most) octets (string room count cs) are said range =
    let is = string_is octets room count cs said in
    (sym (string_count octets room count cs is (room_range most room count range).few), octets_bytes octets room count cs are is.rest is.is is.characters)
sound_octets kind.DateTime octets (date p) are said range =
    let is = date_is octets p said in (is.calendar, few_milliseconds octets p is.parts)
sound_octets of octets m are said range = absurd (cc)

one_is : (octets : List ℕ) (n : ℕ) → octets_meaning kind.Bool octets ≡ Some (number n) → octets ≡ n ∷ []
one_is [] n said = absurd (cc)
one_is (a ∷ []) n said = let same : a ≡ n = cc in ap (λ (k : ℕ). k ∷ []) same
one_is (a ∷ b ∷ bs) n said = absurd (cc)

-- the octets in use are those of the spelling
pub octets_one : (of : TagKind) (octets : List ℕ) (m : Meaning) → AreOctets octets → octets_meaning of octets ≡ Some m → is_in_range of m ≡ true
    → used of octets ≡ used of (octets_spelling of m)
octets_one kind.Bool octets (number n) are said range = ap (used kind.Bool) (one_is octets n said)
octets_one kind.Int octets (signed z) are said range =
    let is = two_are octets z are said in
    ap (used kind.Int) (is.is ∙ two_is is.a is.b z is.high is.low is.said)
octets_one kind.Dint octets (signed z) are said range =
    let is = four_are octets z are said in
    ap (used kind.Dint) (is.is ∙ four_is is.a is.b is.c is.d z is.first is.second is.third is.last is.said)
octets_one kind.Bcd octets (number n) are said range = ap (used kind.Bcd) (bcd_is octets n said)
octets_one kind.S5Time octets (duration count unit) are said range = ap (used kind.S5Time) (duration_is octets count unit said)
octets_one (kind.Text most) octets (string room count cs) are said range =
    let few = (room_range most room count range).few in
    let is = string_is octets room count cs said in
    let same = sym (string_count octets room count cs is few) in
    let spelled = string_is (octets_spelling (kind.Text most) (string room count cs)) room count cs (string_read room count cs same few) in
    string_used octets room count cs is few
    ∙ sym (string_used (octets_spelling (kind.Text most) (string room count cs)) room count cs spelled few)
octets_one kind.DateTime octets (date p) are said range = ap (used kind.DateTime) (date_is octets p said).is
octets_one of octets m are said range = absurd (cc)

-- what a spelling leaves unused is 00
pub blank : (of : TagKind) (m : Meaning) → is_in_range of m ≡ true → IsSound m
    → unused of (octets_spelling of m) ≡ replicate (length (unused of (octets_spelling of m))) 0x00
blank kind.Bool m range sound = refl
blank kind.Int m range sound = refl
blank kind.Dint m range sound = refl
blank kind.Bcd m range sound = refl
blank kind.S5Time m range sound = refl
blank (kind.Text most) (string room count cs) range sound =
    zeros (unused (kind.Text most) (octets_spelling (kind.Text most) (string room count cs))) (room - length cs) (string_unused room count cs sound.0)
  where
    zeros : (xs : List ℕ) (n : ℕ) → xs ≡ replicate n 0x00 → xs ≡ replicate (length xs) 0x00
    zeros xs n is = is ∙ ap (λ (k : ℕ). replicate k 0x00) (sym (ap length is ∙ length-replicate {A = ℕ} n 0x00))
blank kind.DateTime m range sound = refl
blank of m range sound = absurd (cc)
