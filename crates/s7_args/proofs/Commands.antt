-- What a parse by `clap` gives, for a command that is built by a line.
use Rattle.std.proofs.Common.{◌≡◌, ◌∙◌, ◌≤◌, ◌^◌, inl, inr, nat_lt, ltb-true, leb-true, ℕ, Bool, cond, true, false, refl, sym, ap, ap₂, subst, List, [], ◌∷◌, ◌++◌, map, drop, Option, Some, None, Result, Ok, Err}
use Rattle.std.specs.Prelude.{◌≢◌, IsErrAnd, IfOk, option_and_then, option_map, unwrap_or, if◌then◌else◌}
use Rattle.std.specs.Borrow.{Bor}
use Rattle.std.specs.Str.Parse.{ParsesUnsigned, ExplainsUnsignedError, HasUnsignedDigitsIfOk}
use Rattle.std.specs.declared.num.ParseIntError.{ParseIntError}
use Rattle.clap.specs.Words.{App, FailsBy, HasKind, HasMatchesOf, IsAmong, Kinds, built, fault_of, found_of, first_value, is_simple, is_simple_and_free, kind_of, matches_of, matched_of, one_text, raw_values, rows_of, all_of, first_of, one_of}
use Rattle.clap.specs.Simple.{argument_words, names_of}
use Rattle.clap.specs.Matches.{ReadsOne}
use Rattle.clap.specs.Walk.{Row, Rule, arg_by_id, nothing_held, rows_after}
use Rattle.clap.specs.Faults.{built_fault}
use Rattle.clap.specs.declared.error.Error.{Error}
use Rattle.clap.specs.declared.error.kind.ErrorKind.TheVariants.{OutOfMemory}
use Rattle.clap.specs.declared.parser.matches.ArgMatches.{ArgMatches}
use Rattle.clap.proofs.WalkLemmas.{first_value-rows, one_text-rows, raw_values-rows}
use Rattle.s7_args.specs.CommandLine.{Text, Field, CommandLine, Given, given_by, has_required, number_of, read, start, value_of, values_of, is_between, is_number_between, range_takes, option_of}
use Rattle.s7_args.specs.Fields.{number_given, number_or}
use Rattle.s7_args.specs.Built.{app_by}
use Rattle.s7_args.proofs.ClapLine.{AreKnown, ArePlaced, Fails, Gives, IsKnown, is_bounded, is_built_by, places, reads_line, rule, rule_at, shape}
use Rattle.s7_args.proofs.Rows.{all_of-rows, first_of-rows, one_of-rows, rows_by}
use Rattle.s7_args.proofs.Fine.{AllFine, AllNamed, GivenFine, both_true, line_fine, number_read, value_taken}

-- an option is known by a rule with its name
pub long_known : (c : List Rule) (f : Field) → arg_by_id c f.name ≡ Some (rule f (Some f.name) None) → is_bounded f.range ≡ true → IsKnown c f
long_known c f found small = record { long = Some f.name; index = None; found = found; small = small }

-- what a parse of an unsigned number of k bits says
abbrev pub GivesUnsigned : ℕ → Text → Result ℕ ParseIntError → Type 0
GivesUnsigned k text r = ParsesUnsigned k 10 text r × ExplainsUnsignedError 10 text r × HasUnsignedDigitsIfOk text r

-- n is the number that was given for a field, or the default, and is in the field's range
pub record IsNumberOr (given : Given) (f : Field) (low high default n : ℕ) : Type 0 where
  pub same : n ≡ number_or given f default
  pub least : low ≤ n
  pub most : n ≤ high

in_range : (low high default n : ℕ) (o : Option Text) → n ≡ unwrap_or (option_map number_of o) default → is_between low high default ≡ true
    → ((t : Text) → o ≡ Some t → is_number_between low high t ≡ true) → is_between low high n ≡ true
in_range low high default n None is between taken = rw is between
in_range low high default n (Some t) is between taken = rw is (both_true _ _ (taken t refl)).1

abbrev pub rules_by : CommandLine → List Rule
rules_by line = map rule_at (places line)

abbrev pub built_app : Text → CommandLine → App
built_app name line = record { top = shape name (rules_by line); subs = [] }

-- the command of a line is simple, is built as the line's rules, and its fields have names of their own
pub record IsCommand (name : Text) (line : CommandLine) : Type 0 where
  pub is_built : built (app_by name line) ≡ built_app name line
  pub is_free : is_simple_and_free (app_by name line) ≡ true
  pub is_simple_too : is_simple (app_by name line) ≡ true
  pub has_name : (app_by name line).top.no_binary_name ≡ false
  pub fields : map (λ (p : Field × Option Text × Option ℕ). p.0) (places line) ≡ line.operands ++ line.options
  pub known : AreKnown (rules_by line) line.options
  pub placed : ArePlaced (rules_by line) line.operands 1
  pub operands : AllNamed (line.operands ++ line.options) line.operands
  pub options : AllNamed (line.operands ++ line.options) line.options

abbrev Reads : Kinds → List Row → Option Given → Type 0
Reads kinds rows None = Fails kinds
Reads kinds rows (Some gs) = (kinds ≡ []) × (rows ≡ rows_by gs)

as_reads : (name : Text) (line : CommandLine) (is : IsCommand name line) (kinds : Kinds) (rows : List Row) (o : Option Given) → Gives name (places line) line is.fields kinds rows o → Reads kinds rows o
as_reads name line is kinds rows None h = h
as_reads name line is kinds rows (Some gs) h = h

module _ (name : Text) (line : CommandLine) (is : IsCommand name line) where
  words_after : (words : List Text) → argument_words (app_by name line) words ≡ drop 1 words
  words_after words = rw is.has_name refl

  -- the kinds and the matches of a parse, by the line
  parse_reads : (words : List Text) → Reads (fault_of (app_by name line) words) (matches_of (app_by name line) words) (given_by line (drop 1 words))
  parse_reads words =
      let fault_is : fault_of (app_by name line) words ≡ built_fault (built_app name line) nothing_held (drop 1 words) =
      ap₂ (λ (a : App) (ws : List Text). built_fault a nothing_held ws) is.is_built (words_after words) in
      let rows_are : matches_of (app_by name line) words ≡ rows_after (rules_by line) [] (drop 1 words) =
      ap₂ (λ (a : App) (ws : List Text). rows_after a.top.rules (names_of a) ws) is.is_built (words_after words) in
      rw (fault_is, rows_are) (as_reads name line is _ _ _ (reads_line name (places line) line is.fields (is_built_by line is.known is.placed) (drop 1 words)))

  -- a parse that fails, but for want of memory, means usage
  pub refused : (a : App) (words : List Text) (r : Result ArgMatches Error) → a ≡ app_by name line → FailsBy (fault_of a words) r
      → IsErrAnd r (λ e. kind_of e ≢ OutOfMemory) → given_by line (drop 1 words) ≡ None
  refused a words (Ok m) made fails wrong = absurd wrong
  refused a words (Err e) made fails wrong = go (given_by line (drop 1 words)) (parse_reads words) (subst (λ (b : App). HasKind (fault_of b words) e) made fails)
    where
      among : (kinds : Kinds) → kinds ≡ [] → IsAmong (kind_of e) kinds → ⊥
      among [] none h = h
      among (k ∷ ks) none h = cc

      go : (o : Option Given) → Reads (fault_of (app_by name line) words) (matches_of (app_by name line) words) o → HasKind (fault_of (app_by name line) words) e → o ≡ None
      go None h kind = refl
      go (Some gs) h (inl memory) = absurd (wrong memory)
      go (Some gs) h (inr kind) = absurd (among _ h.0 kind)

  pub record IsRead (words : List Text) (m : ArgMatches) : Type 0 where
    pub given : Given
    pub by_line : given_by line (drop 1 words) ≡ Some given
    pub rows : rows_of (found_of m) ≡ rows_by given
    pub required : has_required line given ≡ true
    pub fine : AllFine (line.operands ++ line.options) given

  -- a parse that succeeds has the rows of what the line gives
  pub accepted : (a : App) (words : List Text) (r : Result ArgMatches Error) (m : ArgMatches) → r ≡ Ok m → a ≡ app_by name line → FailsBy (fault_of a words) r
      → IfOk r (HasMatchesOf a words) → IsRead words m
  accepted a words (Err e) m is_ok made fails matches = cc
  accepted a words (Ok n) m is_ok made fails matches =
      let same : n ≡ m = cc in
      let none : fault_of (app_by name line) words ≡ [] = ap (λ (b : App). fault_of b words) (sym made) ∙ fails in
      let found : rows_of (found_of m) ≡ matches_of (app_by name line) words =
      ap (λ (x : ArgMatches). rows_of (found_of x)) (sym same) ∙ (matches (ap is_simple made ∙ is.is_simple_too)).0 ∙ ap (λ (b : App). matches_of b words) made in
      go (given_by line (drop 1 words)) refl (parse_reads words) none found (line_fine line is.operands is.options (drop 1 words))
    where
      is_required : (o : Option Given) (gs : Given) → option_and_then (λ given. if has_required line given then Some given else None) o ≡ Some gs → has_required line gs ≡ true
      is_required None gs by = cc
      is_required (Some given) gs by = kept (has_required line given) refl by
        where
          kept : (b : Bool) → has_required line given ≡ b → cond b (Some given) None ≡ Some gs → has_required line gs ≡ true
          kept true has is = let same : given ≡ gs = cc in subst (λ (g : Given). has_required line g ≡ true) same has
          kept false has is = cc

      empty_fails : (kinds : Kinds) → kinds ≡ [] → Fails kinds → ⊥
      empty_fails [] e h = elim h [ ]
      empty_fails (k ∷ ks) e h = cc

      go : (o : Option Given) → given_by line (drop 1 words) ≡ o → Reads (fault_of (app_by name line) words) (matches_of (app_by name line) words) o
          → fault_of (app_by name line) words ≡ [] → rows_of (found_of m) ≡ matches_of (app_by name line) words
          → GivenFine (line.operands ++ line.options) o → IsRead words m
      go None by h none found fine = absurd (empty_fails _ none h)
      go (Some gs) by h none found fine =
          record { given = gs; by_line = by; rows = found ∙ h.1; required = is_required (read line.options (start line) (drop 1 words)) gs by; fine = fine }

  -- `get_str` and `get_one` give what the line gives
  pub text_read : (words : List Text) (m : ArgMatches) (read : IsRead words m) (id : Text) (r : Option (Bor Text)) → option_map (λ s. s.now) r ≡ first_value (found_of m) id
      → option_map (λ s. s.now) r ≡ value_of read.given id
  text_read words m read id r got = got ∙ first_value-rows (found_of m) id ∙ ap (first_of id) read.rows ∙ first_of-rows read.given id

  -- `get_raw` gives all values that the line gives
  pub texts_read : (words : List Text) (m : ArgMatches) (read : IsRead words m) (id : Text) (r : Option (Bor (List (Bor Text))))
      → option_map (λ s. map (λ v. v.now) s.now) r ≡ option_map raw_values (matched_of (found_of m) id)
      → unwrap_or (option_map (λ s. map (λ v. v.now) s.now) r) [] ≡ values_of read.given id
  texts_read words m read id r got =
      ap (λ o. unwrap_or o []) (got ∙ raw_values-rows (found_of m) id ∙ ap (all_of id) read.rows) ∙ all_of-rows read.given id

  one_is : (words : List Text) (m : ArgMatches) (read : IsRead words m) (id : Text) → one_text (found_of m) id ≡ value_of read.given id
  one_is words m read id = one_text-rows (found_of m) id ∙ ap (one_of id) read.rows ∙ one_of-rows read.given id

  -- what `get_one` reads of a number of k bits that may be left out
  abbrev pub ReadsOption : (f : Field) (k : ℕ) → Type 0
  ReadsOption f k = (words : List Text) (m : ArgMatches) (read : IsRead words m) (r : Option ℕ)
      → (one_text (found_of m) f.name ≡ None → r ≡ None) → ((t : Text) → one_text (found_of m) f.name ≡ Some t → ReadsOne (GivesUnsigned k) t r)
      → r ≡ number_given read.given f

  pub number_is : (f : Field) (k low high : ℕ) → f.range ≡ Some (low, high) → option_of (line.operands ++ line.options) f.name ≡ Some f
      → nat_lt high (2 ^ k) ≡ true → ReadsOption f k
  number_is f k low high range known fits words m read r at_none at_some = go (value_of read.given f.name) refl
    where
      taken : (t : Text) → value_of read.given f.name ≡ Some t → is_number_between low high t ≡ true
      taken t is_some = subst (λ o. range_takes o t ≡ true) range (value_taken (line.operands ++ line.options) read.given f.name f t read.fine known is_some)

      go : (o : Option Text) → value_of read.given f.name ≡ o → r ≡ option_map number_of o
      go None is_none = at_none (one_is words m read f.name ∙ is_none)
      go (Some t) is_some = number_read k low high t (GivesUnsigned k) r (ltb-true _ _ fits) (λ t x h. h.0) (taken t is_some) (at_some t (one_is words m read f.name ∙ is_some))

  -- what `get_one` reads of a number of k bits, or the default
  abbrev pub ReadsNumber : (f : Field) (k low high default : ℕ) → Type 0
  ReadsNumber f k low high default = (words : List Text) (m : ArgMatches) (read : IsRead words m) (r : Option ℕ) (n : ℕ) → n ≡ unwrap_or r default
      → (one_text (found_of m) f.name ≡ None → r ≡ None) → ((t : Text) → one_text (found_of m) f.name ≡ Some t → ReadsOne (GivesUnsigned k) t r)
      → IsNumberOr read.given f low high default n

  pub number_or_is : (f : Field) (k low high default : ℕ) → f.range ≡ Some (low, high) → option_of (line.operands ++ line.options) f.name ≡ Some f
      → nat_lt high (2 ^ k) ≡ true → is_between low high default ≡ true → ReadsNumber f k low high default
  number_or_is f k low high default range known fits between words m read r n is at_none at_some =
      let given_is : n ≡ number_or read.given f default = is ∙ ap (λ o. unwrap_or o default) (number_is f k low high range known fits words m read r at_none at_some) in
      let bounds = both_true _ _ (in_range low high default n (value_of read.given f.name) given_is between taken) in
      record { same = given_is; least = leb-true _ _ bounds.0; most = leb-true _ _ bounds.1 }
    where
      taken : (t : Text) → value_of read.given f.name ≡ Some t → is_number_between low high t ≡ true
      taken t is_some = subst (λ o. range_takes o t ≡ true) range (value_taken (line.operands ++ line.options) read.given f.name f t read.fine known is_some)

-- a text that was given, or the default
pub text_or_is : (o : Option (Bor Text)) (default r : Bor Text) (v : Option Text) (t : Text) → r ≡ unwrap_or o default → option_map (λ s. s.now) o ≡ v → default.now ≡ t
    → r.now ≡ unwrap_or v t
text_or_is None default r v t is got same = ap (λ (b : Bor Text). b.now) is ∙ same ∙ ap (λ w. unwrap_or w t) got
text_or_is (Some s) default r v t is got same = ap (λ (b : Bor Text). b.now) is ∙ ap (λ w. unwrap_or w t) got
