-- What the calls answer, as values.
use Rattle.std.proofs.Common.{◌≡◌, ◌∙◌, ℕ, Bool, true, false, cond, refl, ap, sym, subst, List, Option, Some, None, Result, Ok, Err}
use Rattle.std.specs.Prelude.{IsOk}
use Rattle.s7_outer.specs.Numbers.{AreOctets}
use Rattle.s7_text.specs.Lines.{Text}
use Rattle.s7_symbol.specs.Meanings.{Meaning, is_in_range}
use Rattle.s7_symbol.specs.Octets.{octets_meaning, octets_spelling}
use Rattle.s7_symbol.specs.Texts.{text_meaning, text_spelling}
use Rattle.s7_symbol.specs.Values.{AnswersOctets, AnswersText, IsRefused, PutsSaid, Stands, Value, octets_said, spelled, text_said, used}
use Rattle.s7_symbol.specs.declared.fault.ValueFault.{ValueFault}
use Rattle.s7_symbol.specs.declared.fault.ValueFault.TheVariants as fault
use Rattle.s7_symbol.specs.declared.kind.TagKind.{TagKind}
use Rattle.s7_symbol.proofs.MeaningLemmas.{blank, octets_one, sound_octets, sound_text, stored_again, text_one, written_again}

-- ---- refusals

record IsRefusal (of : TagKind) (o : Option Meaning) (old new : List ℕ) (e : ValueFault) : Type 0 where
  refused : IsRefused of o e
  same : new ≡ old

no_meaning : (of : TagKind) (old new : List ℕ) (e : ValueFault) → (e ≡ fault.Form) × (new ≡ old) → IsRefusal of None old new e
no_meaning of old new e told = record { refused = subst (λ (f : ValueFault). IsRefused of None f) (sym told.0) tt; same = told.1 }

past_range : (of : TagKind) (m : Meaning) (old new : List ℕ) (e : ValueFault) → is_in_range of m ≡ false → (e ≡ fault.Range) × (new ≡ old)
    → IsRefusal of (Some m) old new e
past_range of m old new e out told =
    record { refused = subst (λ (f : ValueFault). IsRefused of (Some m) f) (sym told.0) out; same = told.1 }

-- ---- what was put

abbrev put_by : Bool → List ℕ → Result (List ℕ) ValueFault
put_by in_range said = cond in_range (Ok said) (Err fault.Range)

-- what a call puts of a meaning: its spelling, or nothing
record IsPut (of : TagKind) (m : Meaning) (said old new : List ℕ) (n : ℕ) : Type 0 where
  in_range : is_in_range of m ≡ true
  stands : Stands said old new n

is_put : (of : TagKind) (m : Meaning) (said old new : List ℕ) (n : ℕ) (b : Bool) → is_in_range of m ≡ b → PutsSaid (put_by b said) old new (Ok n)
    → IsPut of m said old new n
is_put of m said old new n true range puts = record { in_range = range; stands = puts }
is_put of m said old new n false range puts = absurd puts

is_past : (of : TagKind) (m : Meaning) (said old new : List ℕ) (e : ValueFault) (b : Bool) → is_in_range of m ≡ b → PutsSaid (put_by b said) old new (Err e)
    → IsRefusal of (Some m) old new e
is_past of m said old new e true range puts = absurd puts
is_past of m said old new e false range puts = past_range of m old new e range puts

refused_at : (of : TagKind) (spell : Meaning → List ℕ) (o : Option Meaning) (old new : List ℕ) (e : ValueFault) → PutsSaid (spelled of spell o) old new (Err e)
    → IsRefusal of o old new e
refused_at of spell None old new e puts = no_meaning of old new e puts
refused_at of spell (Some m) old new e puts = is_past of m (spell m) old new e (is_in_range of m) refl puts

-- ---- the octets of a text

pub octets_answer : (of : TagKind) (text : Text) (old new : List ℕ) (told : Result ℕ ValueFault)
    → PutsSaid (octets_said of text) old new told → AnswersOctets of text old new told
octets_answer of text old new (Err e) puts =
    let is = refused_at of (octets_spelling of) (text_meaning of text) old new e puts in (is.refused, is.same)
octets_answer of text old new (Ok n) puts = go (text_meaning of text) refl puts
  where
    go : (o : Option Meaning) → text_meaning of text ≡ o → PutsSaid (spelled of (octets_spelling of) o) old new (Ok n) → AnswersOctets of text old new (Ok n)
    go None said puts = absurd puts
    go (Some m) said puts =
        let put = is_put of m (octets_spelling of m) old new n (is_in_range of m) refl puts in
        let sound = sound_text of text m said put.in_range in
        record {
          octets = octets_spelling of m;
          value = record { meaning = m; written = said; stored = stored_again of m put.in_range sound; in_range = put.in_range };
          blank = blank of m put.in_range sound;
          stands = put.stands;
        }

-- ---- the text of octets

pub text_answer : (of : TagKind) (octets old new : List ℕ) (told : Result ℕ ValueFault) → AreOctets octets
    → PutsSaid (text_said of octets) old new told → AnswersText of octets old new told
text_answer of octets old new (Err e) are puts =
    let is = refused_at of text_spelling (octets_meaning of octets) old new e puts in (is.refused, is.same)
text_answer of octets old new (Ok n) are puts = go (octets_meaning of octets) refl puts
  where
    go : (o : Option Meaning) → octets_meaning of octets ≡ o → PutsSaid (spelled of text_spelling o) old new (Ok n) → AnswersText of octets old new (Ok n)
    go None said puts = absurd puts
    go (Some m) said puts =
        let put = is_put of m (text_spelling m) old new n (is_in_range of m) refl puts in
        let sound = sound_octets of octets m are said put.in_range in
        record {
          text = text_spelling m;
          value = record { meaning = m; written = written_again of m put.in_range sound; stored = said; in_range = put.in_range };
          stands = put.stands;
        }

-- ---- a value

pub value_answer : (of : TagKind) (text : Text) (octets : List ℕ) → Value of text octets → IsOk (octets_said of text) × IsOk (text_said of octets)
value_answer of text octets v = (
  is_said of (octets_spelling of) (text_meaning of text) v.meaning v.written v.in_range,
  is_said of text_spelling (octets_meaning of octets) v.meaning v.stored v.in_range,
)
  where
    is_said : (of : TagKind) (spell : Meaning → List ℕ) (o : Option Meaning) (m : Meaning) → o ≡ Some m → is_in_range of m ≡ true → IsOk (spelled of spell o)
    is_said of spell o m is range =
        let said : spelled of spell o ≡ Ok (spell m) = ap (spelled of spell) is ∙ rw range refl in
        rw said refl

-- ---- one of each

same_meaning : (o : Option Meaning) (a b : Meaning) → o ≡ Some a → o ≡ Some b → a ≡ b
same_meaning o a b one other = cc

pub one_text : (of : TagKind) (one other : Text) (octets : List ℕ) → Value of one octets → Value of other octets → one ≡ other
one_text of one other octets a b =
    let same = same_meaning (octets_meaning of octets) a.meaning b.meaning a.stored b.stored in
    text_one of one a.meaning a.written a.in_range ∙ ap text_spelling same ∙ sym (text_one of other b.meaning b.written b.in_range)

pub one_octets : (of : TagKind) (text : Text) (one other : List ℕ) → AreOctets one → AreOctets other → Value of text one → Value of text other
    → used of one ≡ used of other
one_octets of text one other are are_other a b =
    let same = same_meaning (text_meaning of text) a.meaning b.meaning a.written b.written in
    octets_one of one a.meaning are a.stored a.in_range ∙ ap (λ (m : Meaning). used of (octets_spelling of m)) same
    ∙ sym (octets_one of other b.meaning are_other b.stored b.in_range)
