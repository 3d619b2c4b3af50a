-- Each guard that is read has its form, and the line that is written for one is read again.
use Rattle.std.proofs.Common.{◌≡◌, ◌∙◌, ◌<◌, ◌≤◌, ◌-◌, ◌^◌, ℕ, Bool, true, false, cond, zero, suc, refl, sym, ap, subst, arith, List, [], ◌∷◌, ◌++◌, length, drop, ◌+◌, replicate, codes, Option, Some, None, Result, Ok, Err, append_assoc, append-nil}
use Rattle.std.specs.Prelude.{◌==◌, ◌&&◌, ◌||◌, nat_le, IfSome, IsTrue, if◌then◌else◌}
use Rattle.std.specs.List.{AllByRecursion, list_all, position}
use Rattle.std.specs.Str.{bytes_eq}
use Rattle.std.specs.Fmt.{decimal}
use Rattle.std.proofs.lemmas.Bool.{and_parts, le-leb, leb-true}
use Rattle.std.proofs.lemmas.Bool.Decides.{nat_tests}
use Rattle.std.proofs.lemmas.Fmt.{decimal_is_IsNumeral}
use Rattle.s7_area.specs.Guards.{IsGuard, IsPassword}
use Rattle.s7_area.specs.Memory.{Memory, no_areas}
use Rattle.s7_area.specs.declared.guard.Guard.{Guard}
use Rattle.s7_text.specs.Lines.{Text, lines, next_line}
use Rattle.s7_text.specs.Fields.{fields_after, first_field, is_space, number_of}
use Rattle.s7_script.specs.Reading.{State, ◌>>=◌, by_current, guard_line, guarded, is_graphic, is_word, nothing_read, number_within, password_of, read_lines, with_guard, with_line, with_word}
use Rattle.s7_script.specs.Spelling.{guard_head, guard_text, word_of}
use Rattle.s7_script.specs.declared.areas.fault.AreasFault.{AreasFault}
use Rattle.s7_script.specs.declared.areas.fault.AreasKind.TheVariants as kind
use Rattle.s7_script.specs.declared.areas.version.Version.TheVariants.{Two}
use Rattle.s7_script.proofs.LawLemmas.{AllPlain, Lacks, between, digits_plain, drop_front, lacks_by_test, line_then, number_of-decimal, plain-append, plain_by_test, position_at, position_none, spaceless, take_front}
use Rattle.s7_script.proofs.ReadLemmas.{line_passes}

-- ---- what is read

-- what an Ok after a step tells
pub bind_ok : {A B : Type 0} (r : Result A AreasFault) (f : A → Result B AreasFault) (y : B) → (r >>= f) ≡ Ok y → (x : A) × (r ≡ Ok x) × (f x ≡ Ok y)
bind_ok (Ok x) f y h = (x, refl, h)
bind_ok (Err e) f y h = cc

pub cond_ok : {A : Type 0} (t : Bool) (e : AreasFault) (r : Result A AreasFault) (y : A) → cond t r (Err e) ≡ Ok y → (t ≡ true) × (r ≡ Ok y)
cond_ok true e r y h = (refl, h)
cond_ok false e r y h = cc

pub number_ok : (low high : ℕ) (o : Option ℕ) (line n : ℕ) → number_within low high o line ≡ Ok n → (low ≤ n) × (n ≤ high)
number_ok low high None line n h = cc
number_ok low high (Some m) line n h =
    let parts = cond_ok (nat_le low m && nat_le m high) (record { line = line; kind = kind.Number }) (Ok m) n h in
    let tests = and_parts (nat_le low m) (nat_le m high) parts.0 in
    let same : m ≡ n = cc in
    subst (λ k. (low ≤ k) × (k ≤ high)) same (leb-true low m tests.0, leb-true m high tests.1)

abbrev IsGraphic : ℕ → Type 0
IsGraphic b = (0x21 ≤ b) × (b ≤ 0x7E)

passes_graphic : (word : Text) → list_all is_graphic word ≡ true → AllByRecursion IsGraphic word
passes_graphic [] h = tt
passes_graphic (b ∷ bs) h =
    let parts = and_parts (is_graphic b) (list_all is_graphic bs) h in
    let tests = and_parts (nat_le 0x21 b) (nat_le b 0x7E) parts.0 in
    ((leb-true 0x21 b tests.0, leb-true b 0x7E tests.1), passes_graphic bs parts.1)

word_guards : (line level : ℕ) (o : Option Text) (g : Guard) → 2 ≤ level → level ≤ 3 → with_word line level o ≡ Ok g → IsGuard g
word_guards line level None g low high h = cc
word_guards line level (Some text) g low high h =
    let parts = cond_ok (is_word text) (record { line = line; kind = kind.Line }) (Ok (record { level = level; password = password_of text })) g h in
    let tests = and_parts (nat_le 1 (length text) && nat_le (length text) 8) (list_all is_graphic text) parts.0 in
    let sizes = and_parts (nat_le 1 (length text)) (nat_le (length text) 8) tests.0 in
    let made : Guard = record { level = level; password = password_of text } in
    let same : made ≡ g = cc in
    subst IsGuard same (record {
      level = grind (arith, nat_tests);
      password = record {
        word = text;
        some = leb-true 1 (length text) sizes.0;
        most = leb-true (length text) 8 sizes.1;
        printable = passes_graphic text tests.1;
        filled = refl;
      };
    })

pub line_guards : (line : ℕ) (rest : Option Text) (g : Guard) → guard_line line rest ≡ Ok g → IsGuard g
line_guards line None g h = cc
line_guards line (Some text) g h =
    let level = number_within 2 3 (number_of (first_field text (position is_space text))) line in
    let rest = fields_after text (position is_space text) in
    let read = bind_ok level (λ n. with_word line n rest) g h in
    let within = number_ok 2 3 (number_of (first_field text (position is_space text))) line read.0 read.1 in
    word_guards line read.0 rest g within.0 within.1 read.2

-- ---- words

graphic_lacks : (word : Text) → AllByRecursion IsGraphic word → Lacks 32 word
graphic_lacks [] h = tt
graphic_lacks (b ∷ bs) h = (λ e. omega arith, graphic_lacks bs h.1)

graphic_plain : (word : Text) → AllByRecursion IsGraphic word → AllPlain word
graphic_plain [] h = tt
graphic_plain (b ∷ bs) h = (λ e. omega arith, λ e. omega arith, graphic_plain bs h.1)

graphic_passes : (word : Text) → AllByRecursion IsGraphic word → list_all is_graphic word ≡ true
graphic_passes [] h = refl
graphic_passes (b ∷ bs) h = rw (le-leb 0x21 b h.0.0, le-leb b 0x7E h.0.1) (graphic_passes bs h.1)

word_filled : (word : Text) (n : ℕ) → Lacks 32 word → word_of (word ++ replicate n 0x20) ≡ word
word_filled word zero h = rw (append-nil word, position_none 32 word h) refl
word_filled word (suc n) h = rw (position_at 32 word (replicate n 0x20) h) (take_front word (32 ∷ replicate n 0x20))

word_is : (g : Guard) (p : IsPassword g.password) → word_of g.password ≡ p.word
word_is g p = ap word_of p.filled ∙ word_filled p.word (8 - length p.word) (graphic_lacks p.word p.printable)

-- ---- the line

word_reads : (line : ℕ) (g : Guard) (p : IsPassword g.password) → with_word line g.level (Some p.word) ≡ Ok g
word_reads line g p =
    let made : List ℕ → Result Guard AreasFault = λ x. Ok (record { level = g.level; password = x }) in
    rw (le-leb 1 (length p.word) p.some, le-leb (length p.word) 8 p.most, graphic_passes p.word p.printable) (ap made (sym p.filled))

level_within : (level : ℕ) → IsTrue (level == 2 || level == 3) → (2 ≤ level) × (level ≤ 3)
level_within level is = (grind (arith, nat_tests), grind (arith, nat_tests))

level_reads : (line level : ℕ) → 2 ≤ level → level ≤ 3 → number_within 2 3 (number_of (decimal level)) line ≡ Ok level
level_reads line level low high =
    let below : level < 10 ^ 10 = omega arith in
    rw (number_of-decimal level below, le-leb 2 level low, le-leb level 3 high) refl

abbrev fields_of : Guard → Text
fields_of g = decimal g.level ++ 32 ∷ word_of g.password

fields_read : (line : ℕ) (g : Guard) → IsGuard g → guard_line line (Some (fields_of g)) ≡ Ok g
fields_read line g is =
    let within = level_within g.level is.level in
    let num = decimal_is_IsNumeral g.level (omega arith) in
    let at : position is_space (fields_of g) ≡ Some (length (decimal g.level)) =
    position_at 32 (decimal g.level) (word_of g.password) (spaceless (decimal g.level) num.0.1) in
    let by_place : Option ℕ → Result Guard AreasFault =
    λ o. number_within 2 3 (number_of (first_field (fields_of g) o)) line >>= (λ level. with_word line level (fields_after (fields_of g) o)) in
    let by_fields : Text → Text → Result Guard AreasFault =
    λ level word. number_within 2 3 (number_of level) line >>= (λ n. with_word line n (Some word)) in
    let by_level : Result ℕ AreasFault → Result Guard AreasFault = λ r. r >>= (λ n. with_word line n (Some (word_of g.password))) in
    ap by_place at
    ∙ ap (λ level. by_fields level (drop (length (decimal g.level) + 1) (fields_of g))) (take_front (decimal g.level) (32 ∷ word_of g.password))
    ∙ ap (by_fields (decimal g.level)) (drop_front (decimal g.level) 32 (word_of g.password))
    ∙ ap by_level (level_reads line g.level within.0 within.1)
    ∙ ap (λ word. with_word line g.level (Some word)) (word_is g is.password)
    ∙ word_reads line g is.password

guard_plain : (g : Guard) → IsGuard g → AllPlain (guard_head g)
guard_plain g is =
    let within = level_within g.level is.level in
    let num = decimal_is_IsNumeral g.level (omega arith) in
    let word : AllPlain (word_of g.password) = subst AllPlain (sym (word_is g is.password)) (graphic_plain is.password.word is.password.printable) in
    plain-append (codes "protect ") (fields_of g) (plain_by_test (codes "protect ") refl)
    (plain-append (decimal g.level) (32 ∷ word_of g.password) (digits_plain (decimal g.level) num.0.1) (λ e. cc, λ e. cc, word))

guard_opens : (line : ℕ) (m : Memory) (g : Guard) → IsGuard g → with_line line (between true m) (guard_head g) ≡ Ok (between false (with_guard m g))
unfolding with_line
guard_opens line m g is =
    let at : position is_space (guard_head g) ≡ Some 7 = position_at 32 (codes "protect") (fields_of g) (lacks_by_test 32 (codes "protect") refl) in
    let by_place : Option ℕ → Result State AreasFault =
    λ o. if bytes_eq (first_field (guard_head g) o) (codes "protect") then guarded line (between true m) (fields_after (guard_head g) o)
    else by_current line (between true m) None (guard_head g) in
    let by_guard : Result Guard AreasFault → Result State AreasFault = λ r. r >>= (λ guard. Ok (between false (with_guard m guard))) in
    ap by_place at ∙ ap by_guard (fields_read line g is)

-- what stands at the head of a text that is written
pub record Starts (o : Option Guard) (text : Text) : Type 0 where
  pub next : ℕ
  pub may : Bool
  pub reads : read_lines 2 (nothing_read Two) (lines (guard_text o ++ text)) ≡ read_lines next (between may (record { areas = []; guard = o })) (lines text)

pub starts : (o : Option Guard) (text : Text) → IfSome o IsGuard → Starts o text
starts None text is = record { next = 2; may = true; reads = refl }
starts (Some g) text is = record {
  next = next_line 2;
  may = false;
  reads =
      ap (λ t. read_lines 2 (between true no_areas) (lines t)) (append_assoc (guard_head g) (10 ∷ []) text)
      ∙ ap (λ ls. read_lines 2 (between true no_areas) ls) (line_then (guard_head g) text (guard_plain g is))
      ∙ line_passes 2 (between true no_areas) (between false (with_guard no_areas g)) (guard_head g) (lines text) (guard_opens 2 no_areas g is);
}
