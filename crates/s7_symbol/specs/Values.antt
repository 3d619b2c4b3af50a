-- THE VALUES of tags: how their texts and their octets belong together.
use Rattle.std.specs.Prelude.{◌≡◌, ℕ, true, false, ◌+◌, ◌-◌, if◌then◌else◌, List, [], ◌++◌, length, take, drop, replicate, slice_index, Option, None, Some, Result, Ok, Err, IsOk}
use Rattle.s7_outer.specs.Numbers.{AreOctets}
use Rattle.s7_text.specs.Lines.{Text}
use Rattle.s7_symbol.specs.Meanings.{Meaning, is_in_range}
use Rattle.s7_symbol.specs.Texts.{text_meaning, text_spelling}
use Rattle.s7_symbol.specs.Octets.{octets_meaning, octets_spelling}
use Rattle.s7_symbol.specs.declared.fault.ValueFault.{ValueFault}
use Rattle.s7_symbol.specs.declared.fault.ValueFault.TheVariants as fault
use Rattle.s7_symbol.specs.declared.kind.TagKind.{TagKind}
use Rattle.s7_symbol.specs.declared.kind.TagKind.TheVariants as kind

-- A VALUE of a type: a text and octets with the same meaning, which is in the type's range
pub record Value (of : TagKind) (text : Text) (octets : List ℕ) : Type 0 where
  pub meaning : Meaning
  pub written : text_meaning of text ≡ Some meaning
  pub stored : octets_meaning of octets ≡ Some meaning
  pub in_range : is_in_range of meaning ≡ true

-- the octets of a string after its characters
abbrev pub unused : TagKind → List ℕ → List ℕ
unused (kind.Text most) octets = drop (2 + slice_index octets 1) octets
unused _ octets = []

-- the octets before the unused ones
abbrev pub used : TagKind → List ℕ → List ℕ
used of octets = take (length octets - length (unused of octets)) octets

-- ---- what the calls return

-- these octets are at the beginning of a buffer, and the octets after them are as before
pub record Stands (said : List ℕ) (old new : List ℕ) (n : ℕ) : Type 0 where
  pub count : n ≡ length said
  pub room : new ≡ said ++ drop (length said) old

-- the fault of something without a value of the type, and of something with a value outside its range
abbrev pub IsRefused : TagKind → Option Meaning → ValueFault → Type 0
IsRefused of None fault.Form = Unit {0}
IsRefused of None fault.Range = ⊥
IsRefused of (Some meaning) fault.Form = ⊥
IsRefused of (Some meaning) fault.Range = is_in_range of meaning ≡ false

-- octets with the value of a text, whose unused octets are 00
pub record AreOctetsOf (of : TagKind) (text : Text) (old new : List ℕ) (n : ℕ) : Type 0 where
  pub octets : List ℕ
  pub value : Value of text octets
  pub blank : unused of octets ≡ replicate (length (unused of octets)) 0x00
  pub stands : Stands octets old new n

-- WHAT `octets_of` RETURNS
abbrev pub AnswersOctets : TagKind → Text → List ℕ → List ℕ → Result ℕ ValueFault → Type 0
AnswersOctets of text old new (Ok n) = AreOctetsOf of text old new n
AnswersOctets of text old new (Err e) = IsRefused of (text_meaning of text) e × (new ≡ old)

pub record IsTextOf (of : TagKind) (octets : List ℕ) (old new : List ℕ) (n : ℕ) : Type 0 where
  pub text : Text
  pub value : Value of text octets
  pub stands : Stands text old new n

-- WHAT `text_of` RETURNS
abbrev pub AnswersText : TagKind → List ℕ → List ℕ → List ℕ → Result ℕ ValueFault → Type 0
AnswersText of octets old new (Ok n) = IsTextOf of octets old new n
AnswersText of octets old new (Err e) = IsRefused of (octets_meaning of octets) e × (new ≡ old)

-- ---- the same step by step

-- the octets or the text of a meaning, or the fault
abbrev pub spelled : TagKind → (Meaning → List ℕ) → Option Meaning → Result (List ℕ) ValueFault
spelled of spell None = Err fault.Form
spelled of spell (Some meaning) = if is_in_range of meaning then Ok (spell meaning) else Err fault.Range

-- the octets of a text, and the text of octets
abbrev pub octets_said : TagKind → Text → Result (List ℕ) ValueFault
octets_said of text = spelled of (octets_spelling of) (text_meaning of text)

abbrev pub text_said : TagKind → List ℕ → Result Text ValueFault
text_said of octets = spelled of text_spelling (octets_meaning of octets)

-- what a call returns that writes such a list to a buffer
abbrev pub PutsSaid : Result (List ℕ) ValueFault → List ℕ → List ℕ → Result ℕ ValueFault → Type 0
PutsSaid (Ok said) old new (Ok n) = Stands said old new n
PutsSaid (Ok said) old new (Err e) = ⊥
PutsSaid (Err e) old new (Ok n) = ⊥
PutsSaid (Err e) old new (Err f) = (f ≡ e) × (new ≡ old)

-- ---- laws, for octets below 256

-- THE STEPS GIVE WHAT `AnswersOctets` and `AnswersText` require: Ok exactly for a `Value`, and otherwise the fault that
-- the meaning has.
pub record ValuesAnswer : Type 0 where
  pub octets : (of : TagKind) (text : Text) (old new : List ℕ) (told : Result ℕ ValueFault)
      → PutsSaid (octets_said of text) old new told → AnswersOctets of text old new told
  pub text : (of : TagKind) (octets old new : List ℕ) (told : Result ℕ ValueFault) → AreOctets octets
      → PutsSaid (text_said of octets) old new told → AnswersText of octets old new told
  -- a value's text has octets, and its octets have a text
  pub both : (of : TagKind) (text : Text) (octets : List ℕ) → Value of text octets
      → IsOk (octets_said of text) × IsOk (text_said of octets)

-- A VALUE HAS ONE TEXT and, apart from the unused octets of a string, one list of octets.
pub record ValuesAreOne : Type 0 where
  pub text : (of : TagKind) (one other : Text) (octets : List ℕ) → Value of one octets → Value of other octets → one ≡ other
  pub octets : (of : TagKind) (text : Text) (one other : List ℕ) → AreOctets one → AreOctets other
      → Value of text one → Value of text other → used of one ≡ used of other
