-- Parameters, and the controls that they spell.
use Rattle.std.proofs.Common.{◌≡◌, ◌≢◌, ◌∙◌, ◌<◌, ◌+◌, ◌*◌, ◌/◌, ◌%◌, ◌-◌, ℕ, Bool, true, false, ◌&&◌, cond, nat_lt, refl, sym, ap, subst, arith, inl, inr, ◌⊎◌, List, length, slice_index, Result, Ok, Err}
use Rattle.std.specs.Str.{bytes_eq}
use Rattle.std.proofs.lemmas.Bool.{and_parts, ltb-true, lt-ltb}
use Rattle.std.proofs.lemmas.Bool.Decides.{nat_tests}
use Rattle.std.proofs.lemmas.Slice.Eq.{bytes_eq-Decides}
use Rattle.s7_clock.specs.declared.control.Control.{Control}
use Rattle.s7_clock.specs.declared.control.Control.TheVariants.{Start, ColdStart, Stop, Compress, CopyRam, Insert, Delete}
use Rattle.s7_clock.specs.declared.faults.BadParams.{BadParams}
use Rattle.s7_clock.specs.Control.{SpellsControl, block_control_of, control_of, control_spelling, if_spelled, is_block, is_control, is_kind, number_named}

-- ---- one control

-- parameters that are the control's
pub if_spelled-is : (params : List ℕ) (c : Control) (other : Result Control BadParams) → is_control c ≡ true → params ≡ control_spelling c → if_spelled params c other ≡ Ok c
if_spelled-is params c other is e = rw (is, (bytes_eq-Decides params (control_spelling c)).1 e) refl

-- no control
pub if_spelled-none : (params : List ℕ) (c : Control) (other : Result Control BadParams) → is_control c ≡ false → if_spelled params c other ≡ other
if_spelled-none params c other is = rw is refl

-- parameters that aren't the control's
pub if_spelled-not : (params : List ℕ) (c : Control) (other : Result Control BadParams) → params ≢ control_spelling c → if_spelled params c other ≡ other
if_spelled-not params c other apart =
    let decides = bytes_eq-Decides params (control_spelling c) in
    let E : Bool → Bool → Result Control BadParams = λ is same. cond (is && same) (Ok c) other in
    elim (bytes_eq params (control_spelling c)) as (λ same. bytes_eq params (control_spelling c) ≡ same → E (is_control c) same ≡ other) [
      | true ↦ λ e. absurd (apart (decides.0 e))
      | false ↦ λ e. elim (is_control c) as (λ is. E is false ≡ other) [
        | true ↦ refl
        | false ↦ refl
      ]
    ] refl

-- what is read is the control, or the other
pub if_spelled-cases : (params : List ℕ) (c d : Control) (other : Result Control BadParams) → if_spelled params c other ≡ Ok d → SpellsControl params d ⊎ (other ≡ Ok d)
if_spelled-cases params c d other r =
    let T : Bool = is_control c && bytes_eq params (control_spelling c) in
    elim T as (λ t. T ≡ t → cond t (Ok c) other ≡ Ok d → SpellsControl params d ⊎ (other ≡ Ok d)) [
      | true ↦ λ e q.
          let both = and_parts (is_control c) (bytes_eq params (control_spelling c)) e in
          let same : c ≡ d = cc in
          let P : Control → Type 0 = λ x. SpellsControl params x in
          let spells : SpellsControl params c = record { octets = (bytes_eq-Decides params (control_spelling c)).0 both.1; is = both.0 } in
          inl (subst P same spells)
      | false ↦ λ e q. inr q
    ] refl r

-- ---- a control that names a block

pub block_is : (kind number : ℕ) → is_kind kind ≡ true → number < 65536 → is_block kind number ≡ true
block_is kind number is low = rw (is, lt-ltb number 65536 low) refl

pub no_kind : (kind number : ℕ) → is_kind kind ≡ false → is_block kind number ≡ false
no_kind kind number is = rw is refl

pub no_number : (kind number : ℕ) → ¬ (number < 65536) → is_block kind number ≡ false
no_number kind number h = grind (arith, nat_tests)

not_by_len : (params octets : List ℕ) → length params ≢ 26 → length octets ≡ 26 → params ≢ octets
not_by_len params octets h e same = h (ap length same ∙ e)

pub none_by_len : (params : List ℕ) → length params ≢ 26 → block_control_of params ≡ Err (record {})
unfolding block_control_of
none_by_len params h =
    let kind = slice_index params 13 in
    let number = number_named params in
    let delete = if_spelled-not params (Delete kind number) (Err (record {})) (not_by_len params (control_spelling (Delete kind number)) h refl) in
    if_spelled-not params (Insert kind number) _ (not_by_len params (control_spelling (Insert kind number)) h refl) ∙ delete

pub none_by_block : (params : List ℕ) → is_block (slice_index params 13) (number_named params) ≡ false → block_control_of params ≡ Err (record {})
unfolding block_control_of
none_by_block params h =
    let kind = slice_index params 13 in
    let number = number_named params in
    if_spelled-none params (Insert kind number) _ h ∙ if_spelled-none params (Delete kind number) (Err (record {})) h

pub insert_read : (params : List ℕ) (kind number : ℕ) → kind ≡ slice_index params 13 → number ≡ number_named params → is_block kind number ≡ true
    → params ≡ control_spelling (Insert kind number) → block_control_of params ≡ Ok (Insert kind number)
unfolding block_control_of
insert_read params kind number k n is e = rw (← k, ← n) (if_spelled-is params (Insert kind number) _ is e)

pub delete_read : (params : List ℕ) (kind number : ℕ) → kind ≡ slice_index params 13 → number ≡ number_named params → is_block kind number ≡ true
    → params ≢ control_spelling (Insert kind number) → params ≡ control_spelling (Delete kind number) → block_control_of params ≡ Ok (Delete kind number)
unfolding block_control_of
delete_read params kind number k n is apart e =
    rw (← k, ← n) (if_spelled-not params (Insert kind number) _ apart ∙ if_spelled-is params (Delete kind number) (Err (record {})) is e)

pub none_read : (params : List ℕ) (kind number : ℕ) → kind ≡ slice_index params 13 → number ≡ number_named params
    → params ≢ control_spelling (Insert kind number) → params ≢ control_spelling (Delete kind number) → block_control_of params ≡ Err (record {})
unfolding block_control_of
none_read params kind number k n insert delete =
    rw (← k, ← n) (if_spelled-not params (Insert kind number) _ insert ∙ if_spelled-not params (Delete kind number) (Err (record {})) delete)

-- ---- laws

number_again : (n : ℕ) → n < 65536
    → (0x30 + n / 10000 - 0x30) * 10000 + (0x30 + n / 1000 % 10 - 0x30) * 1000 + (0x30 + n / 100 % 10 - 0x30) * 100 + (0x30 + n / 10 % 10 - 0x30) * 10 + (0x30 + n % 10 - 0x30) ≡ n
number_again n h = omega arith

small : (kind number : ℕ) → is_block kind number ≡ true → number < 65536
small kind number is = ltb-true number 65536 (and_parts (is_kind kind) (nat_lt number 65536) is).1

insert_again : (kind number : ℕ) → is_block kind number ≡ true → block_control_of (control_spelling (Insert kind number)) ≡ Ok (Insert kind number)
insert_again kind number is =
    insert_read (control_spelling (Insert kind number)) kind number refl (sym (number_again number (small kind number is))) is refl

insert_not_delete : (kind number : ℕ) → control_spelling (Delete kind number) ≢ control_spelling (Insert kind number)
insert_not_delete kind number e = let place : ◌≡◌ {A = ℕ} 0x42 0x50 = ap (λ (octets : List ℕ). slice_index octets 19) e in absurd (omega arith)

delete_again : (kind number : ℕ) → is_block kind number ≡ true → block_control_of (control_spelling (Delete kind number)) ≡ Ok (Delete kind number)
delete_again kind number is =
    delete_read (control_spelling (Delete kind number)) kind number refl (sym (number_again number (small kind number is))) is (insert_not_delete kind number) refl

-- what is spelled is read
pub control_again : (c : Control) → is_control c ≡ true → control_of (control_spelling c) ≡ Ok c
unfolding control_of
control_again Start is = refl
control_again ColdStart is = refl
control_again Stop is = refl
control_again Compress is = refl
control_again CopyRam is = refl
control_again (Insert kind number) is = insert_again kind number is
control_again (Delete kind number) is = delete_again kind number is

refused : (c : Control) (r : Result Control BadParams) → r ≡ Err (record {}) → r ≡ Ok c → ⊥
refused c r e f = cc

pub block_spells : (params : List ℕ) (c : Control) → block_control_of params ≡ Ok c → SpellsControl params c
unfolding block_control_of
block_spells params c r =
    let kind = slice_index params 13 in
    let number = number_named params in
    let none : Result Control BadParams = Err (record {}) in
    let delete = if_spelled params (Delete kind number) none in
    elim (if_spelled-cases params (Insert kind number) c delete r) [
      | inl is ↦ is
      | inr e ↦ elim (if_spelled-cases params (Delete kind number) c none e) [
        | inl is ↦ is
        | inr f ↦ absurd (refused c none refl f)
      ]
    ]

-- what is read is spelled
pub spells_control : (params : List ℕ) (c : Control) → control_of params ≡ Ok c → SpellsControl params c
unfolding control_of
spells_control params c r = elim (if_spelled-cases params Start c _ r) [
  | inl is ↦ is
  | inr r₁ ↦ elim (if_spelled-cases params ColdStart c _ r₁) [
    | inl is ↦ is
    | inr r₂ ↦ elim (if_spelled-cases params Stop c _ r₂) [
      | inl is ↦ is
      | inr r₃ ↦ elim (if_spelled-cases params Compress c _ r₃) [
        | inl is ↦ is
        | inr r₄ ↦ elim (if_spelled-cases params CopyRam c _ r₄) [
          | inl is ↦ is
          | inr r₅ ↦ block_spells params c r₅
        ]
      ]
    ]
  ]
]

pub read_of_control : (params : List ℕ) (c : Control) → SpellsControl params c → control_of params ≡ Ok c
read_of_control params c s = ap control_of s.octets ∙ control_again c s.is
