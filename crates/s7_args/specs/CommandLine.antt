-- The words of one command, in GNU form: options `--name VALUE` or `--name=VALUE`, at most once each, before, between
-- or after the operands, and `--`, after which each word is an operand.
use Rattle.std.specs.Prelude.{ℕ, Bool, true, false, not, ◌&&◌, ◌||◌, ◌==◌, nat_lt, nat_le, length}
use Rattle.std.specs.Prelude.{List, [], ◌∷◌, ◌++◌, map, filter, find}
use Rattle.std.specs.Prelude.{Option, Some, None, is_some, option_map}
use Rattle.std.specs.Prelude.{option_and_then, if◌then◌else◌, slice_get}
use Rattle.std.specs.List.{before_first, after_first, list_any, list_all}
use Rattle.std.specs.Char.{digit_value}
use Rattle.std.specs.Str.{bytes_eq, chars}
use Rattle.std.specs.Str.Parse.{digits_value, without_leading_plus}

abbrev pub Text : Type 0
Text = List ℕ

-- ---- one word

-- `--`, `--name` with the value after its first `=`, another word of two or more characters that
-- begins with `-`, and every other word
pub data Kind : Type 0 where
  ends : Kind
  named : Text → Option Text → Kind
  dashed : Kind
  plain : Kind

abbrev pub is_equals : ℕ → Bool
is_equals b = b == 61

abbrev pub value_in : Text → Option Text
value_in text = if list_any is_equals text then Some (after_first is_equals text) else None

abbrev pub after_two_dashes : Text → Kind
after_two_dashes [] = ends
after_two_dashes (z ∷ zs) = named (before_first is_equals (z ∷ zs)) (value_in (z ∷ zs))

abbrev pub after_dash : Text → Kind
after_dash [] = plain
after_dash (y ∷ ys) = if y == 45 then after_two_dashes ys
    else (if is_some (slice_get (chars (y ∷ ys)) 0) then dashed else plain)

abbrev pub kind_of_word : Text → Kind
kind_of_word [] = plain
kind_of_word (x ∷ xs) = if x == 45 then after_dash xs else plain

-- ---- what a command takes

-- an option or an operand: of a number in a range or of any text, with one value or with many
pub record Field : Type 0 where
  pub name : Text
  pub range : Option (ℕ × ℕ)
  pub is_required : Bool
  pub is_many : Bool

pub record CommandLine : Type 0 where
  pub operands : List Field
  pub options : List Field

abbrev pub is_between : ℕ → ℕ → ℕ → Bool
is_between low high n = nat_le low n && nat_le n high

-- decimal digits, with or without a plus before them
abbrev pub is_number : Text → Bool
is_number text =
    let digits = without_leading_plus text in
    nat_lt 0 (length digits) && list_all (λ d. nat_lt (digit_value d) 10) digits

abbrev pub number_of : Text → ℕ
number_of text = digits_value 10 (without_leading_plus text)

abbrev pub is_number_between : ℕ → ℕ → Text → Bool
is_number_between low high text = is_number text && is_between low high (number_of text)

abbrev pub range_takes : Option (ℕ × ℕ) → Text → Bool
range_takes None text = true
range_takes (Some r) text = is_number_between r.0 r.1 text

-- the values that were given, in order, each with its field
abbrev pub Given : Type 0
Given = List (Field × Text)

abbrev pub is_given : Given → Text → Bool
is_given given name = list_any (λ g. bytes_eq g.0.name name) given

abbrev pub value_of : Given → Text → Option Text
value_of given name = option_map (λ g. g.1) (find (λ g. bytes_eq g.0.name name) given)

abbrev pub values_of : Given → Text → List Text
values_of given name = map (λ g. g.1) (filter (λ g. bytes_eq g.0.name name) given)

-- one more value, for a field that accepts the text, and that takes many values or has none yet
abbrev pub added : Field → Text → Given → Option Given
added f text given = if is_given given f.name && not f.is_many then None
    else (if range_takes f.range text then Some (given ++ (f, text) ∷ []) else None)

-- ---- the words in order

-- the state between two words: the option that waits for its value, whether `--` has come, the operands that are still
-- to come, and what was given
pub record Reading : Type 0 where
  pub waiting : Option Field
  pub is_ended : Bool
  pub left : List Field
  pub given : Given

-- the operands to come after a value of the first one, which stays if it takes many values
abbrev pub left_after : Field → List Field → List Field
left_after f fs = if f.is_many then f ∷ fs else fs

abbrev pub with_operand : List Field → Reading → Text → Option Reading
with_operand [] r word = None
with_operand (f ∷ fs) r word = option_map
    (λ given. record r { left = left_after f fs; given = given }) (added f word r.given)

abbrev pub with_value : Reading → Field → Text → Option Reading
with_value r f text =
    option_map (λ given. record r { waiting = None; given = given }) (added f text r.given)

-- `--name`, alone or with its value
abbrev pub with_named : Reading → Option Text → Option Field → Option Reading
with_named r value None = None
with_named r None (Some f) = Some (record r { waiting = Some f })
with_named r (Some text) (Some f) = with_value r f text

abbrev pub option_of : List Field → Text → Option Field
option_of options name = find (λ f. bytes_eq f.name name) options

-- if an option waits, the word must be its value
abbrev pub with_kind : List Field → Reading → Option Field → Kind → Text → Option Reading
with_kind options r None ends word = Some (record r { is_ended = true })
with_kind options r None (named name value) word = with_named r value (option_of options name)
with_kind options r None dashed word = None
with_kind options r None plain word = with_operand r.left r word
with_kind options r (Some f) plain word = with_value r f word
with_kind options r (Some f) _ word = None

abbrev pub with_word : List Field → Reading → Text → Option Reading
with_word options r word = if r.is_ended then with_operand r.left r word
    else with_kind options r r.waiting (kind_of_word word) word

-- what the words give, or `None` if they are usage
unfoldable pub read : List Field → Reading → List Text → Option Given
read options r [] = if is_some r.waiting then None else Some r.given
read options r (word ∷ words) =
    option_and_then (λ next. read options next words) (with_word options r word)

abbrev pub has_required : CommandLine → Given → Bool
has_required line given =
    list_all (λ f. not f.is_required || is_given given f.name) (line.operands ++ line.options)

abbrev pub start : CommandLine → Reading
start line = record { waiting = None; is_ended = false; left = line.operands; given = [] }

abbrev pub given_by : CommandLine → List Text → Option Given
given_by line words = option_and_then (λ given. if has_required line given then Some given else None)
    (read line.options (start line) words)
