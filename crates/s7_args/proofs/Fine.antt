-- Each value that a line gives is one that its field takes.
use Rattle.std.proofs.Common.{◌≡◌, ◌∙◌, ◌<◌, ◌^◌, ◌&&◌, ℕ, Bool, cond, true, false, not, refl, sym, ap, subst, List, [], ◌∷◌, ◌++◌, Option, Some, None, Result, Ok, Err, is_some, nat_lt, ltb-true, true≢false}
use Rattle.std.specs.Prelude.{option_and_then, option_map, find}
use Rattle.std.specs.List.{list_all}
use Rattle.std.specs.Char.{digit_value}
use Rattle.std.specs.Str.{bytes_eq}
use Rattle.std.specs.Str.Parse.{AllDigits, ParsesUnsigned, digits_value, without_leading_plus}
use Rattle.std.proofs.lemmas.Bool.{leb-true}
use Rattle.std.proofs.Math.Nat.{lt_of_le_of_lt}
use Rattle.std.proofs.lemmas.Slice.Eq.{bytes_eq-Decides}
use Rattle.clap.specs.Matches.{ReadsOne}
use Rattle.s7_args.specs.CommandLine.{Text, Kind, ends, named, dashed, plain, Field, CommandLine, Given, Reading, kind_of_word, is_number_between, range_takes, is_given, value_of, added, with_operand, with_value, with_named, option_of, left_after, with_kind, with_word, read, has_required, start, given_by}

pub record IsFine (all : List Field) (g : Field × Text) : Type 0 where
  pub known : option_of all g.0.name ≡ Some g.0
  pub taken : range_takes g.0.range g.1 ≡ true

abbrev pub AllFine : List Field → Given → Type 0
AllFine all [] = Unit {0}
AllFine all (g ∷ gs) = IsFine all g × AllFine all gs

abbrev pub AllNamed : List Field → List Field → Type 0
AllNamed all [] = Unit {0}
AllNamed all (f ∷ fs) = (option_of all f.name ≡ Some f) × AllNamed all fs

abbrev pub IsNamed : List Field → Option Field → Type 0
IsNamed all None = Unit {0}
IsNamed all (Some f) = option_of all f.name ≡ Some f

pub record IsFineReading (all : List Field) (r : Reading) : Type 0 where
  pub waiting : IsNamed all r.waiting
  pub left : AllNamed all r.left
  pub given : AllFine all r.given

pushed_fine : (all : List Field) (gs : Given) (g : Field × Text) → AllFine all gs → IsFine all g → AllFine all (gs ++ g ∷ [])
pushed_fine all [] g h k = (k, tt)
pushed_fine all (x ∷ gs) g h k = (h.0, pushed_fine all gs g h.1 k)

module _ (all : List Field) where
  abbrev AfterFine : Option Reading → Type 0
  AfterFine None = Unit {0}
  AfterFine (Some r) = IsFineReading all r

  -- a value that is added to what is fine
  with_added : (f : Field) (text : Text) (gs : Given) (make : Given → Reading) → option_of all f.name ≡ Some f → AllFine all gs
      → ((now : Given) → AllFine all now → IsFineReading all (make now)) → AfterFine (option_map make (added f text gs))
  with_added f text gs make known fine next = go (is_given gs f.name && not f.is_many) (range_takes f.range text) refl
    where
      go : (has takes : Bool) → range_takes f.range text ≡ takes → AfterFine (option_map make (cond has None (cond takes (Some (gs ++ (f, text) ∷ [])) None)))
      go true takes is = tt
      go false false is = tt
      go false true is = next _ (pushed_fine all gs (f, text) fine (record { known = known; taken = is }))

  value_fine : (r : Reading) (f : Field) (text : Text) → IsFineReading all r → option_of all f.name ≡ Some f → AfterFine (with_value r f text)
  value_fine r f text fine known = with_added f text r.given _ known fine.given (λ now h. record { waiting = tt; left = fine.left; given = h })

  left_fine : (f : Field) (fs : List Field) → AllNamed all (f ∷ fs) → AllNamed all (left_after f fs)
  left_fine f fs known = go f.is_many
    where
      go : (b : Bool) → AllNamed all (cond b (f ∷ fs) fs)
      go true = known
      go false = known.1

  operand_fine : (left : List Field) (r : Reading) (word : Text) → AllNamed all left → IsFineReading all r → AfterFine (with_operand left r word)
  operand_fine [] r word known fine = tt
  operand_fine (f ∷ fs) r word known fine =
      with_added f word r.given _ known.0 fine.given (λ now h. record { waiting = fine.waiting; left = left_fine f fs known; given = h })

  named_fine : (r : Reading) (value : Option Text) (o : Option Field) → IsFineReading all r → IsNamed all o → AfterFine (with_named r value o)
  named_fine r value None fine known = tt
  named_fine r None (Some f) fine known = record { waiting = known; left = fine.left; given = fine.given }
  named_fine r (Some text) (Some f) fine known = value_fine r f text fine known

  kind_fine : (options : List Field) (r : Reading) (o : Option Field) (k : Kind) (word : Text) → ((name : Text) → IsNamed all (option_of options name)) → IsNamed all o
      → IsFineReading all r → AfterFine (with_kind options r o k word)
  kind_fine options r None ends word every known fine = record { waiting = fine.waiting; left = fine.left; given = fine.given }
  kind_fine options r None (named name value) word every known fine = named_fine r value (option_of options name) fine (every name)
  kind_fine options r None dashed word every known fine = tt
  kind_fine options r None plain word every known fine = operand_fine r.left r word fine.left fine
  kind_fine options r (Some f) ends word every known fine = tt
  kind_fine options r (Some f) (named name value) word every known fine = tt
  kind_fine options r (Some f) dashed word every known fine = tt
  kind_fine options r (Some f) plain word every known fine = value_fine r f word fine known

  word_fine : (options : List Field) (r : Reading) (word : Text) → ((name : Text) → IsNamed all (option_of options name)) → IsFineReading all r → AfterFine (with_word options r word)
  word_fine options r word every fine = go r.is_ended
    where
      go : (b : Bool) → AfterFine (cond b (with_operand r.left r word) (with_kind options r r.waiting (kind_of_word word) word))
      go true = operand_fine r.left r word fine.left fine
      go false = kind_fine options r r.waiting (kind_of_word word) word every fine.waiting fine

  abbrev pub GivenFine : Option Given → Type 0
  GivenFine None = Unit {0}
  GivenFine (Some gs) = AllFine all gs

  closed_fine : (b : Bool) (gs : Given) → AllFine all gs → GivenFine (cond b None (Some gs))
  closed_fine true gs h = tt
  closed_fine false gs h = h

  onward_fine : (options : List Field) (words : List Text) (o : Option Reading) → AfterFine o
      → ((next : Reading) → IsFineReading all next → GivenFine (read options next words)) → GivenFine (option_and_then (λ next. read options next words) o)
  onward_fine options words None fine rest = tt
  onward_fine options words (Some next) fine rest = rest next fine

  pub read_fine : (options : List Field) (words : List Text) (r : Reading) → ((name : Text) → IsNamed all (option_of options name)) → IsFineReading all r → GivenFine (read options r words)
  unfolding read
  read_fine options [] r every fine = closed_fine (is_some r.waiting) r.given fine.given
  read_fine options (word ∷ words) r every fine =
      onward_fine options words (with_word options r word) (word_fine options r word every fine) (λ next h. read_fine options words next every h)

  required_fine : (line : CommandLine) (o : Option Given) → GivenFine o → GivenFine (option_and_then (λ gs. cond (has_required line gs) (Some gs) None) o)
  required_fine line None h = tt
  required_fine line (Some gs) h = go (has_required line gs)
    where
      go : (b : Bool) → GivenFine (cond b (Some gs) None)
      go true = h
      go false = tt

each_named : (all options : List Field) → AllNamed all options → (name : Text) → IsNamed all (option_of options name)
each_named all [] known name = tt
each_named all (f ∷ fs) known name = go (bytes_eq f.name name) (each_named all fs known.1 name)
  where
    go : (b : Bool) → IsNamed all (option_of fs name) → IsNamed all (cond b (Some f) (option_of fs name))
    go true rest = known.0
    go false rest = rest

-- what a line gives is fine, where no two fields have one name
pub line_fine : (line : CommandLine) → AllNamed (line.operands ++ line.options) line.operands → AllNamed (line.operands ++ line.options) line.options → (words : List Text)
    → GivenFine (line.operands ++ line.options) (given_by line words)
line_fine line operands options words =
    let all = line.operands ++ line.options in
    required_fine all line _ (read_fine all line.options words (start line) (each_named all line.options options) (record { waiting = tt; left = operands; given = tt }))

-- the value of a name is one that its field takes
pub value_taken : (all : List Field) (gs : Given) (name : Text) (f : Field) (text : Text) → AllFine all gs → option_of all name ≡ Some f → value_of gs name ≡ Some text
    → range_takes f.range text ≡ true
value_taken all [] name f text fine known is = cc
value_taken all (g ∷ gs) name f text fine known is = go (bytes_eq g.0.name name) refl is (value_taken all gs name f text fine.1 known)
  where
    go : (b : Bool) → bytes_eq g.0.name name ≡ b → option_map (λ (x : Field × Text). x.1) (cond b (Some g) (find (λ (x : Field × Text). bytes_eq x.0.name name) gs)) ≡ Some text
        → (value_of gs name ≡ Some text → range_takes f.range text ≡ true) → range_takes f.range text ≡ true
    go true same e rest =
        let named_so : g.0.name ≡ name = (bytes_eq-Decides g.0.name name).0 same in
        let found : Some g.0 ≡ Some f = sym fine.0.known ∙ ap (option_of all) named_so ∙ known in
        let field : g.0 ≡ f = cc in
        let value : g.1 ≡ text = cc in
        subst (λ t. range_takes f.range t ≡ true) value (subst (λ (h : Field). range_takes h.range g.1 ≡ true) field fine.0.taken)
    go false same e rest = rest e

-- ---- numbers

pub both_true : (a b : Bool) → (a && b) ≡ true → (a ≡ true) × (b ≡ true)
both_true true b e = (refl, e)
both_true false b e = absurd (true≢false (sym e))

pub digits_from : (ds : Text) → list_all (λ d. nat_lt (digit_value d) 10) ds ≡ true → AllDigits 10 ds
digits_from [] e = tt
digits_from (d ∷ ds) e =
    let parts = both_true _ _ e in
    (ltb-true _ _ parts.0, digits_from ds parts.1)

-- a text that a range takes is read as its number
pub number_read : (k low high : ℕ) (text : Text) {E : Type 0} (gives : Text → Result ℕ E → Type 0) (r : Option ℕ) → high < 2 ^ k
    → ((t : Text) (x : Result ℕ E) → gives t x → ParsesUnsigned k 10 t x) → is_number_between low high text ≡ true → ReadsOne gives text r
    → r ≡ Some (digits_value 10 (without_leading_plus text))
number_read k low high text gives (Some n) fits parses taken reads = ap Some (parses text (Ok n) reads).1
number_read k low high text gives None fits parses taken reads =
    let parts = both_true _ _ taken in
    let numeral = both_true _ _ parts.0 in
    let bounds = both_true _ _ parts.1 in
    absurd (parses text (Err reads.0) reads.1
    ((ltb-true _ _ numeral.0, digits_from _ numeral.1), lt_of_le_of_lt (leb-true _ _ bounds.1) fits))
