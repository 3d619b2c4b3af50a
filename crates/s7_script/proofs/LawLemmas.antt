-- The fields that are written are read again.
use Rattle.std.proofs.Common.{◌≡◌, ◌≢◌, ◌∙◌, ◌<◌, ◌≤◌, ◌+◌, ◌^◌, ◌&&◌, ℕ, Bool, true, false, not, zero, suc, refl, sym, ap, subst, arith, List, [], ◌∷◌, ◌++◌, length, take, drop, codes, Option, Some, None, Ok, eq-eqb, lt-ltb, le-ltb, true≢false, length-append}
use Rattle.std.specs.Prelude.{◌==◌}
use Rattle.std.specs.List.{list_all, position, prefix_len}
use Rattle.std.specs.Char.{digit_value, is_ascii_digit}
use Rattle.std.specs.Str.{bytes_eq}
use Rattle.std.specs.Str.Parse.{AllDigits}
use Rattle.std.specs.Fmt.{decimal}
use Rattle.std.proofs.lemmas.Bool.{le-leb}
use Rattle.std.proofs.lemmas.Bool.Decides.{nat_tests}
use Rattle.std.proofs.lemmas.Fmt.{decimal_is_IsNumeral, length-decimal-le}
use Rattle.s7_area.specs.Memory.{Memory}
use Rattle.s7_area.specs.Registers.{most_octets, is_wrong_size}
use Rattle.s7_area.specs.declared.key.AreaKey.{AreaKey}
use Rattle.s7_text.specs.Lines.{Text, lines, with_first, is_passed}
use Rattle.s7_text.specs.Fields.{fields_after, first_field, is_space, number_of, parts_around, parts_at}
use Rattle.s7_script.specs.Reading.{State, area_line, area_named, block_line, is_guard_line, named_line, with_line, with_size}
use Rattle.s7_script.specs.Spelling.{head_text}
use Rattle.s7_script.specs.declared.areas.version.Version.TheVariants.{Two}
use Rattle.s7_text.proofs.LineLemmas.{isn't}

-- ---- lines

abbrev pub AllPlain : Text → Type 0
AllPlain [] = Unit {0}
AllPlain (b ∷ bs) = (b ≢ 10) × (b ≢ 13) × AllPlain bs

pub plain-append : (a b : Text) → AllPlain a → AllPlain b → AllPlain (a ++ b)
plain-append [] b p q = q
plain-append (x ∷ a) b p q = (p.0, p.1, plain-append a b p.2 q)

pub line_then : (line rest : Text) → AllPlain line → lines (line ++ 10 ∷ rest) ≡ line ∷ lines rest
line_then [] rest plain = refl
line_then (b ∷ line) rest plain =
    rw (isn't b 10 plain.0, isn't b 13 plain.1) (ap (with_first b) (line_then line rest plain.2))

abbrev pub is_plain : ℕ → Bool
is_plain b = not (b == 10) && not (b == 13)

pub plain_by_test : (l : Text) → list_all is_plain l ≡ true → AllPlain l
plain_by_test [] h = tt
plain_by_test (b ∷ bs) h = (
  λ e. true≢false (sym (rw (eq-eqb b 10 e) at h)),
  λ e. true≢false (sym (second b e h)),
  plain_by_test bs (rest (is_plain b) (list_all is_plain bs) h),
)
  where
    rest : (x y : Bool) → (x && y) ≡ true → y ≡ true
    rest true y e = e
    rest false y e = absurd (true≢false (sym e))

    second : (b : ℕ) → b ≡ 13 → (is_plain b && list_all is_plain bs) ≡ true → false ≡ true
    second b e h = rw e at h

-- ---- numbers

pub digit_range : (d : ℕ) → digit_value d < 10 → is_ascii_digit d ≡ true
digit_range d low = grind (arith, nat_tests)

all_ascii : (ds : Text) → AllDigits 10 ds → list_all is_ascii_digit ds ≡ true
all_ascii [] h = refl
all_ascii (d ∷ ds) h = rw (digit_range d h.0) (all_ascii ds h.1)

pub digit_plain : (d : ℕ) → is_ascii_digit d ≡ true → (d ≢ 10) × (d ≢ 13) × (d ≢ 32)
digit_plain d is = (λ e. grind (arith, nat_tests), λ e. grind (arith, nat_tests), λ e. grind (arith, nat_tests))

pub digits_plain : (ds : Text) → AllDigits 10 ds → AllPlain ds
digits_plain [] h = tt
digits_plain (d ∷ ds) h = let p = digit_plain d (digit_range d h.0) in (p.0, p.1, digits_plain ds h.1)

pub number_of-decimal : (n : ℕ) → n < 10 ^ 10 → number_of (decimal n) ≡ Some n
number_of-decimal n small =
    let is = decimal_is_IsNumeral n (omega arith) in
    let len = length-decimal-le 10 n (omega arith) small (omega arith) in
    rw (lt-ltb 0 (length (decimal n)) is.0.0, le-leb (length (decimal n)) 10 len, all_ascii (decimal n) is.0.1, is.1) refl

-- ---- marks

-- no octet is of this kind
abbrev pub Lacks : ℕ → Text → Type 0
Lacks mark [] = Unit {0}
Lacks mark (b ∷ bs) = (b ≢ mark) × Lacks mark bs

pub lacks_by_test : (mark : ℕ) (l : Text) → list_all (λ b. not (b == mark)) l ≡ true → Lacks mark l
lacks_by_test mark [] h = tt
lacks_by_test mark (b ∷ bs) h = (
  λ e. true≢false (sym (rw (eq-eqb b mark e) at h)),
  lacks_by_test mark bs (rest (not (b == mark)) (list_all (λ x. not (x == mark)) bs) h),
)
  where
    rest : (x y : Bool) → (x && y) ≡ true → y ≡ true
    rest true y e = e
    rest false y e = absurd (true≢false (sym e))

pub digits_lack : (mark : ℕ) → ((d : ℕ) → is_ascii_digit d ≡ true → d ≢ mark) → (ds : Text) → AllDigits 10 ds → Lacks mark ds
digits_lack mark other [] h = tt
digits_lack mark other (d ∷ ds) h = (other d (digit_range d h.0), digits_lack mark other ds h.1)

pub spaceless : (ds : Text) → AllDigits 10 ds → Lacks 32 ds
spaceless ds h = digits_lack 32 (λ d is. (digit_plain d is).2) ds h

before_mark : (mark : ℕ) (front rest : Text) → Lacks mark front → prefix_len (λ b. not (b == mark)) (front ++ mark ∷ rest) ≡ length front
before_mark mark [] rest h = rw (eq-eqb mark mark refl) refl
before_mark mark (b ∷ front) rest h = rw (isn't b mark h.0, before_mark mark front rest h.1) (omega arith)

pub position_at : (mark : ℕ) (front rest : Text) → Lacks mark front → position (λ b. b == mark) (front ++ mark ∷ rest) ≡ Some (length front)
position_at mark front rest h =
    let within : length front < length (front ++ mark ∷ rest) = omega (arith, length-append front (mark ∷ rest)) in
    rw (before_mark mark front rest h, lt-ltb (length front) (length (front ++ mark ∷ rest)) within) refl

no_mark : (mark : ℕ) (text : Text) → Lacks mark text → prefix_len (λ b. not (b == mark)) text ≡ length text
no_mark mark [] h = refl
no_mark mark (b ∷ bs) h = rw (isn't b mark h.0, no_mark mark bs h.1) (omega arith)

pub position_none : (mark : ℕ) (text : Text) → Lacks mark text → position (λ b. b == mark) text ≡ None
position_none mark text h = rw (no_mark mark text h, le-ltb (length text) (length text) (omega arith)) refl

pub take_front : (a b : Text) → take (length a) (a ++ b) ≡ a
take_front [] b = refl
take_front (x ∷ a) b = ap (λ t. x ∷ t) (take_front a b)

pub drop_front : (a : Text) (x : ℕ) (b : Text) → drop (length a + 1) (a ++ x ∷ b) ≡ b
drop_front [] x b = refl
drop_front (y ∷ a) x b = let same : suc (length a) + 1 ≡ suc (length a + 1) = omega arith in rw same (drop_front a x b)

pub parts_split : (mark : ℕ) (front rest : Text) → Lacks mark front → parts_around mark (front ++ mark ∷ rest) ≡ Some (front, rest)
parts_split mark front rest h =
    ap (parts_at (front ++ mark ∷ rest)) (position_at mark front rest h)
    ∙ rw (take_front front (mark ∷ rest), drop_front front mark rest) refl

pub parts_none : (mark : ℕ) (text : Text) → Lacks mark text → parts_around mark text ≡ None
parts_none mark text h = ap (parts_at text) (position_none mark text h)

-- ---- an area line

-- the last field of a line is the length
size-written : (line : ℕ) (key : AreaKey) (n : ℕ) → n ≤ most_octets → with_size line key (Some (decimal n)) ≡ Ok (key, n)
size-written line key n most =
    let num = decimal_is_IsNumeral n (omega arith) in
    let below : n < 10 ^ 10 = omega arith in
    rw (position_none 32 (decimal n) (spaceless (decimal n) num.0.1)) (rw (number_of-decimal n below, le-leb 0 n (omega arith), le-leb n 9999999999 (omega arith)) refl)

block-written : (line number n : ℕ) → 0 < number → number < 65536 → n ≤ most_octets → block_line line (Some (decimal number ++ 32 ∷ decimal n)) ≡ Ok (record { area = 0x84; number = number }, n)
block-written line number n some few most =
    let num = decimal_is_IsNumeral number (omega arith) in
    let below : number < 10 ^ 10 = omega arith in
    rw (
      position_at 32 (decimal number) (decimal n) (spaceless (decimal number) num.0.1),
      take_front (decimal number) (32 ∷ decimal n),
      drop_front (decimal number) 32 (decimal n),
    ) (rw (
      number_of-decimal number below,
      le-leb 1 number some,
      le-leb number 65535 (omega arith),
    ) (size-written line (record { area = 0x84; number = number }) n most))

-- a line that begins with another octet than a p gives no guard
pub no_guard : (b : ℕ) (bs : Text) → (b == 112) ≡ false → is_guard_line (b ∷ bs) ≡ false
no_guard b bs other = go (position is_space (b ∷ bs))
  where
    go : (o : Option ℕ) → bytes_eq (first_field (b ∷ bs) o) (codes "protect") ≡ false
    go None = rw other refl
    go (Some zero) = refl
    go (Some (suc n)) = rw other refl

-- a line that begins with a name of two octets
named : (line a b : ℕ) (rest : Text) → is_space a ≡ false → is_space b ≡ false → area_line line (a ∷ b ∷ 32 ∷ rest) ≡ named_line line (area_named (a ∷ b ∷ [])) (Some rest)
named line a b rest p q =
    let at : position is_space (a ∷ b ∷ 32 ∷ rest) ≡ Some 2 = rw (p, q, lt-ltb 2 (length (a ∷ b ∷ 32 ∷ rest)) (omega arith)) refl in
    ap (λ o. named_line line (area_named (first_field (a ∷ b ∷ 32 ∷ rest) o)) (fields_after (a ∷ b ∷ 32 ∷ rest) o)) at

-- a name that may stand in an area line
pub record IsWritten (key : AreaKey) : Type 0 where
  pub reads : (line n : ℕ) → n ≤ most_octets → area_line line (head_text key n) ≡ Ok (key, n)
  pub plain : (n : ℕ) → n ≤ most_octets → AllPlain (head_text key n)
  pub begins : (n : ℕ) → is_passed (head_text key n) ≡ false
  pub names : (n : ℕ) → is_guard_line (head_text key n) ≡ false

size_plain : (n : ℕ) → n ≤ most_octets → AllPlain (decimal n)
size_plain n most = digits_plain (decimal n) (decimal_is_IsNumeral n (omega arith)).0.1

pub block_written : (number : ℕ) → 0 < number → number < 65536 → IsWritten (record { area = 0x84; number = number })
block_written number some few = record {
  reads = λ line n most. named line 68 66 (decimal number ++ 32 ∷ decimal n) refl refl ∙ block-written line number n some few most;
  plain = λ n most. plain-append (codes "DB ") (decimal number ++ 32 ∷ decimal n) (plain_by_test (codes "DB ") refl)
      (plain-append (decimal number) (32 ∷ decimal n) (digits_plain (decimal number) (decimal_is_IsNumeral number (omega arith)).0.1)
      (λ e. cc, λ e. cc, size_plain n most));
  begins = λ n. refl;
  names = λ n. no_guard 68 (66 ∷ 32 ∷ (decimal number ++ 32 ∷ decimal n)) refl;
}

-- an area of which there is one, with a name of two octets
single_written : (area a b : ℕ) → list_all is_plain (a ∷ b ∷ 32 ∷ []) ≡ true → (a == 35) ≡ false → (a == 112) ≡ false → is_space a ≡ false → is_space b ≡ false
    → ((n : ℕ) → head_text (record { area = area; number = 0 }) n ≡ a ∷ b ∷ 32 ∷ decimal n)
    → ((line : ℕ) (rest : Text) → named_line line (area_named (a ∷ b ∷ [])) (Some rest) ≡ with_size line (record { area = area; number = 0 }) (Some rest))
    → IsWritten (record { area = area; number = 0 })
single_written area a b plain begins other first second head name = record {
  reads = λ line n most. ap (area_line line) (head n) ∙ named line a b (decimal n) first second ∙ name line (decimal n) ∙ size-written line (record { area = area; number = 0 }) n most;
  plain = λ n most. subst AllPlain (sym (head n)) (plain-append (a ∷ b ∷ 32 ∷ []) (decimal n) (plain_by_test (a ∷ b ∷ 32 ∷ []) plain) (size_plain n most));
  begins = λ n. ap is_passed (head n) ∙ begins;
  names = λ n. ap is_guard_line (head n) ∙ no_guard a (b ∷ 32 ∷ decimal n) other;
}

pub inputs_written : IsWritten (record { area = 0x81; number = 0 })
inputs_written = single_written 0x81 80 69 refl refl refl refl refl (λ n. refl) (λ line rest. refl)

pub outputs_written : IsWritten (record { area = 0x82; number = 0 })
outputs_written = single_written 0x82 80 65 refl refl refl refl refl (λ n. refl) (λ line rest. refl)

pub flags_written : IsWritten (record { area = 0x83; number = 0 })
flags_written = single_written 0x83 77 75 refl refl refl refl refl (λ n. refl) (λ line rest. refl)

pub counters_written : IsWritten (record { area = 0x1C; number = 0 })
counters_written = single_written 0x1C 67 84 refl refl refl refl refl (λ n. refl) (λ line rest. refl)

pub timers_written : IsWritten (record { area = 0x1D; number = 0 })
timers_written = single_written 0x1D 84 77 refl refl refl refl refl (λ n. refl) (λ line rest. refl)

-- ---- states

abbrev pub between : Bool → Memory → State
between may m = record { version = Two; may_guard = may; areas = m; current = None }

abbrev pub inside : Memory → ℕ → AreaKey × List ℕ → List ℕ → State
inside m line a octets = record {
  version = Two;
  may_guard = false;
  areas = m;
  current = Some (record { line = line; key = a.0; size = length a.1; octets = octets });
}

pub opens : (line : ℕ) (may : Bool) (m : Memory) (a : AreaKey × List ℕ) → IsWritten a.0 → length a.1 ≤ most_octets → is_wrong_size m a.0 (length a.1) ≡ false
    → with_line line (between may m) (head_text a.0 (length a.1)) ≡ Ok (inside m line a [])
unfolding with_line
opens line may m a is most fits = rw (is.begins (length a.1), is.names (length a.1), is.reads line (length a.1) most, fits) refl
