-- `clap` reads a simple command by the rules of `specs/CommandLine.antt`.
use Rattle.std.proofs.Common.{◌≡◌, ◌∙◌, ◌<◌, ◌+◌, ◌^◌, ◌&&◌, ◌||◌, ◌⊎◌, ℕ, Bool, cond, true, false, not, refl, sym, ap, subst, List, [], ◌∷◌, ◌++◌, map, length, min, Option, Some, None, is_some, nat_lt, nat_le, inl, inr, true≢false}
use Rattle.std.specs.Prelude.{◌==◌, if◌then◌else◌, slice_get, option_and_then, option_map, fold}
use Rattle.std.specs.List.{list_any, list_all}
use Rattle.std.specs.Option.{option_map_or}
use Rattle.std.specs.Str.{bytes_eq, chars}
use Rattle.std.proofs.lemmas.List.Sums.{fold-append}
use Rattle.std.proofs.lemmas.Slice.Eq.{bytes_eq-Decides}
use Rattle.std.proofs.Common.{ltb-true, lt-ltb}
use Rattle.std.proofs.Math.Nat.{lt_of_le_of_lt}
use Rattle.std.proofs.lemmas.Bool.Decides.{leb_tells}
use Rattle.clap.specs.Lexer.{usize_max, long_of, short_of}
use Rattle.clap.specs.Values.{reading_of}
use Rattle.clap.specs.ValueTests.{accepts}
use Rattle.clap.specs.Kinds.{Kinds, or_else}
use Rattle.clap.specs.Walk.{Held, Row, Rule, Walk, Waiting, idle, option, positional, value as to_operand, is_append, used_as, used, without, has_row, settled, arg_by_id, arg_by_long, arg_by_short, arg_by_index, walked, to_positional, nothing_held, with_default, finished, rows_after, subcommand_met, plain_word, after_step, bundle_met}
use Rattle.clap.specs.declared.error.kind.ErrorKind.TheVariants.{UnknownArgument}
use Rattle.clap.specs.Faults.{entered_fault, built_fault, positional_fault, use_fault, settle_fault, turn_fault, walk_fault, step_fault, flags_fault, defaults_fault, check_fault}
use Rattle.clap.specs.Simple.{App, Shape, new_shape, new_rule, entered}
use Rattle.clap.specs.Takes.{is_given as given_row}
use Rattle.clap.specs.declared.builder.action.ArgAction.{ArgAction}
use Rattle.clap.specs.declared.builder.action.ArgAction.TheVariants.{Set, Append}
use Rattle.s7_args.proofs.Rows.{parser_in, rows_with, rows_by, or-false, has-rows, was_given}
use Rattle.s7_args.specs.CommandLine.{Text, Kind, ends, named, dashed, plain, Field, CommandLine, Given, Reading, after_two_dashes, after_dash, kind_of_word, range_takes, is_given, added, with_operand, with_value, with_named, option_of, left_after, with_kind, read, has_required, start, given_by}

-- ---- the rules that a line is built as

abbrev pub action_in : Bool → ArgAction
action_in true = Append
action_in false = Set

abbrev pub rule : Field → Option Text → Option ℕ → Rule
rule f long index = record (new_rule f.name) {
  long = long;
  index = index;
  action = Some (action_in f.is_many);
  range = Some (record { start_inclusive = 1; end_inclusive = 1 });
  parser = Some (parser_in f.range);
  required = f.is_required;
}

abbrev pub is_bounded : Option (ℕ × ℕ) → Bool
is_bounded None = true
is_bounded (Some r) = nat_lt r.1 (2 ^ 64)

abbrev pub shape : Text → List Rule → Shape
shape name rules = record (new_shape name) {
  rules = rules;
  disable_help_flag = true;
  disable_help_subcommand = true;
  is_built = true;
}

-- ---- small tools

pub is_empty : {X : Type 0} → List X → Bool
is_empty xs = length xs == 0

pub data Fails {X : Type 0} : List X → Type 0 where
  fails : (x : X) (xs : List X) → Fails (x ∷ xs)

pub fails_first : (a b : Kinds) → Fails a → Fails (or_else a b)
fails_first (k ∷ ks) b h = fails k ks
fails_first [] b h = elim h [ ]

pub passes_first : (a b : Kinds) → a ≡ [] → Fails b → Fails (or_else a b)
passes_first a b none h = rw none h

or_else-nil : (a : Kinds) → or_else a [] ≡ a
or_else-nil [] = refl
or_else-nil (k ∷ ks) = refl

and-false : (b : Bool) → (b && false) ≡ false
and-false true = refl
and-false false = refl

pub bytes_eq-refl : (t : Text) → bytes_eq t t ≡ true
bytes_eq-refl t = (bytes_eq-Decides t t).1 refl

is_appending : (is_many : Bool) → is_append (action_in is_many) ≡ is_many
is_appending true = refl
is_appending false = refl

without-none : (name : Text) (rs : List Row) → has_row name rs ≡ false → without name rs ≡ rs
without-none name [] none = refl
without-none name (r ∷ rs) none = go (bytes_eq r.id name) (without-none name rs) none
  where
    go : (b : Bool) → (has_row name rs ≡ false → without name rs ≡ rs) → (b || has_row name rs) ≡ false → cond b rs (r ∷ without name rs) ≡ r ∷ rs
    go true rest e = absurd (true≢false e)
    go false rest e = ap (λ xs. r ∷ xs) (rest e)

-- the number tests agree below 2 ^ 64
within : (d a : Bool) (n high : ℕ) → nat_lt high (2 ^ 64) ≡ true → (d && (nat_lt n (2 ^ 64) && (a && nat_le n high))) ≡ (d && (a && nat_le n high))
within false a n high small = refl
within true false n high small = and-false (nat_lt n (2 ^ 64))
within true true n high small = elim (leb_tells n high) [
  | inl low ↦ let less : n < 2 ^ 64 = lt_of_le_of_lt low.1 (ltb-true _ _ small) in rw (lt-ltb n (2 ^ 64) less) refl
  | inr high' ↦ rw high'.0 (and-false (nat_lt n (2 ^ 64)))
]

accepts-range : (range : Option (ℕ × ℕ)) (text : Text) → is_bounded range ≡ true → accepts false (parser_in range) text ≡ range_takes range text
accepts-range None text h = refl
accepts-range (Some r) text h = within _ _ _ _ h

-- ---- one value

-- what a step's kinds and rows say of what was given after it
abbrev pub Tells : Kinds → List Row → Option Given → Type 0
Tells kinds rows None = Fails kinds
Tells kinds rows (Some gs) = (kinds ≡ []) × (rows ≡ rows_by gs)

-- a field of one value has no row yet
used_with : (many : Bool) (f : Field) (text : Text) (rows : List Row) → (many ≡ false → has_row f.name rows ≡ false)
    → used_as (action_in many) f.name (reading_of (parser_in f.range)) (text ∷ []) rows ≡ rows_with rows (f, text)
used_with true f text rows none = refl
used_with false f text rows none = ap (λ rs. rows_with rs (f, text)) (without-none f.name rows (none refl))

uses_by : (f : Field) (long : Option Text) (index : Option ℕ) (text : Text) (gs : Given) (many has takes : Bool) → f.is_many ≡ many → has_row f.name (rows_by gs) ≡ has
    → accepts false (parser_in f.range) text ≡ takes
    → Tells (use_fault false (rule f long index) (text ∷ []) (rows_by gs)) (used (rule f long index) (text ∷ []) (rows_by gs))
    (cond (has && not many) None (cond takes (Some (gs ++ (f, text) ∷ [])) None))
uses_by f long index text gs false true takes many had took = rw (many, had) (fails _ _)
uses_by f long index text gs false false false many had took = rw (many, had, took) (fails _ _)
uses_by f long index text gs false false true many had took =
    (rw (many, had, took) refl, used_with f.is_many f text (rows_by gs) (λ one. had) ∙ sym (fold-append rows_with [] gs ((f, text) ∷ [])))
uses_by f long index text gs true true false many had took = rw (many, took) (fails _ _)
uses_by f long index text gs true false false many had took = rw (many, took) (fails _ _)
uses_by f long index text gs true true true many had took =
    (rw (many, took) refl, used_with f.is_many f text (rows_by gs) (λ one. absurd (true≢false (sym many ∙ one))) ∙ sym (fold-append rows_with [] gs ((f, text) ∷ [])))
uses_by f long index text gs true false true many had took =
    (rw (many, took) refl, used_with f.is_many f text (rows_by gs) (λ one. had) ∙ sym (fold-append rows_with [] gs ((f, text) ∷ [])))

pub uses : (f : Field) (long : Option Text) (index : Option ℕ) (text : Text) (gs : Given) → is_bounded f.range ≡ true
    → Tells (use_fault false (rule f long index) (text ∷ []) (rows_by gs)) (used (rule f long index) (text ∷ []) (rows_by gs)) (added f text gs)
uses f long index text gs small = uses_by f long index text gs _ _ _ refl (has-rows gs f.name) (accepts-range f.range text small)

-- ---- what waits to be used

pub data Pend : Type 0 where
  nothing : Pend
  one : Field → Text → Pend
  open_for : Field → Pend

abbrev pub pending_by : Pend → Option (Text × List Text)
pending_by nothing = None
pending_by (one f text) = Some (f.name, text ∷ [])
pending_by (open_for f) = Some (f.name, [])

abbrev pub held_by : Given → Pend → Held
held_by gs p = record { rows = rows_by gs; pending = pending_by p; skip = 0 }

-- what was given once the pending value is used
abbrev pub given_after : Given → Pend → Option Given
given_after gs nothing = Some gs
given_after gs (one f text) = added f text gs
given_after gs (open_for f) = None

-- ---- a command that is built by a line

-- where the next operand stands after a value of this field
abbrev pub position_after : Field → ℕ → ℕ
position_after f position = if f.is_many then position else min (position + 1) usize_max

abbrev pub waiting_after : Field → Waiting
waiting_after f = if f.is_many then positional else idle

-- the argument of this field is found by its name
pub record IsKnown (c : List Rule) (f : Field) : Type 0 where
  pub long : Option Text
  pub index : Option ℕ
  pub found : arg_by_id c f.name ≡ Some (rule f long index)
  pub small : is_bounded f.range ≡ true

abbrev pub ArePlaced : List Rule → List Field → ℕ → Type 0
ArePlaced c [] position = arg_by_index c position ≡ None
ArePlaced c (f ∷ fs) position = (arg_by_index c position ≡ Some (rule f None (Some position))) × IsKnown c f × ArePlaced c fs (min (position + 1) usize_max)

placed_after : (c : List Rule) (f : Field) (fs : List Field) (position : ℕ) → ArePlaced c (f ∷ fs) position → ArePlaced c (left_after f fs) (position_after f position)
placed_after c f fs position placed = go f.is_many
  where
    go : (b : Bool) → ArePlaced c (cond b (f ∷ fs) fs) (cond b position (min (position + 1) usize_max))
    go true = placed
    go false = placed.2

abbrev pub AreKnown : List Rule → List Field → Type 0
AreKnown c [] = Unit {0}
AreKnown c (f ∷ fs) = IsKnown c f × AreKnown c fs

pub record IsBuiltBy (c : List Rule) (line : CommandLine) : Type 0 where
  pub by_long : (name : Text) → arg_by_long c name ≡ option_map (λ f. rule f (Some f.name) None) (option_of line.options name)
  pub by_short : (x : ℕ) → arg_by_short c x ≡ None
  pub known : AreKnown c line.options
  pub placed : ArePlaced c line.operands 1

abbrev pub KnowsPend : List Rule → Pend → Type 0
KnowsPend c nothing = Unit {0}
KnowsPend c (one f text) = IsKnown c f
KnowsPend c (open_for f) = IsKnown c f

known_option : (c : List Rule) (options : List Field) (name : Text) (f : Field) → AreKnown c options → option_of options name ≡ Some f → IsKnown c f
known_option c [] name f known found = absurd (true≢false (ap is_some (sym found)))
known_option c (g ∷ gs) name f known found = go (bytes_eq g.name name) (known_option c gs name f known.1) found
  where
    go : (b : Bool) → (option_of gs name ≡ Some f → IsKnown c f) → cond b (Some g) (option_of gs name) ≡ Some f → IsKnown c f
    go true rest e = let same : g ≡ f = cc in subst (IsKnown c) same known.0
    go false rest e = rest e

module _ (c : List Rule) where
  pub settles : (gs : Given) (p : Pend) → KnowsPend c p → Tells (settle_fault c false (held_by gs p)) (settled c (held_by gs p)).rows (given_after gs p)
  settles gs nothing known = (refl, refl)
  settles gs (one f text) known = rw known.found (uses f known.long known.index text gs known.small)
  settles gs (open_for f) known = rw known.found (fails _ _)

-- ---- what a word is

abbrev dashes : Text
dashes = 45 ∷ 45 ∷ []

-- a flag stands after the dash
pub record HasFlag (word : Text) : Type 0 where
  pub first : ℕ
  pub rest : Text
  pub char : ℕ
  pub is_short : short_of word ≡ Some (first ∷ rest)
  pub begins : slice_get (chars (first ∷ rest)) 0 ≡ Some char

abbrev pub HasNoFlag : Text → Type 0
HasNoFlag word = (short_of word ≡ None) ⊎ ((flags : Text) × (short_of word ≡ Some flags) × (slice_get (chars flags) 0 ≡ None))

-- what the code reads of a word of each kind
abbrev pub Looks : Text → Kind → Type 0
Looks word ends = bytes_eq word dashes ≡ true
Looks word (named name value) = (bytes_eq word dashes ≡ false) × (long_of word ≡ Some (name, value))
Looks word dashed = (bytes_eq word dashes ≡ false) × (long_of word ≡ None) × HasFlag word
Looks word plain = (bytes_eq word dashes ≡ false) × (long_of word ≡ None) × HasNoFlag word

looks_char : (x y : ℕ) (ys : Text) (o : Option ℕ) → (x == 45) ≡ true → (y == 45) ≡ false → slice_get (chars (y ∷ ys)) 0 ≡ o
    → Looks (x ∷ y ∷ ys) (cond (is_some o) dashed plain)
looks_char x y ys (Some c) first second is = (
  rw (first, second) refl,
  rw (first, second) refl,
  record { first = y; rest = ys; char = c; is_short = rw (first, second) refl; begins = is },
)
looks_char x y ys None first second is = (rw (first, second) refl, rw (first, second) refl, inr (y ∷ ys, rw (first, second) refl, is))

looks_third : (x y : ℕ) (ys : Text) → (x == 45) ≡ true → (y == 45) ≡ true → Looks (x ∷ y ∷ ys) (after_two_dashes ys)
looks_third x y [] first second = rw (first, second) refl
looks_third x y (z ∷ zs) first second = (rw (first, second) refl, rw (first, second) refl)

looks_second : (x y : ℕ) (ys : Text) (b : Bool) → (x == 45) ≡ true → (y == 45) ≡ b
    → Looks (x ∷ y ∷ ys) (cond b (after_two_dashes ys) (cond (is_some (slice_get (chars (y ∷ ys)) 0)) dashed plain))
looks_second x y ys true first second = looks_third x y ys first second
looks_second x y ys false first second = looks_char x y ys _ first second refl

looks_first : (x : ℕ) (xs : Text) (b : Bool) → (x == 45) ≡ b → Looks (x ∷ xs) (cond b (after_dash xs) plain)
looks_first x xs false first = (rw first refl, rw first refl, inl (rw first refl))
looks_first x [] true first = (rw first refl, rw first refl, inl (rw first refl))
looks_first x (y ∷ ys) true first = looks_second x y ys _ first refl

looks : (word : Text) → Looks word (kind_of_word word)
looks [] = (refl, refl, inl refl)
looks (x ∷ xs) = looks_first x xs _ refl

-- ---- one word of the walk

then_map : {X Y Z : Type 0} (g : Y → Option Z) (h : X → Y) (o : Option X) → option_and_then g (option_map h o) ≡ option_and_then (λ x. g (h x)) o
then_map g h None = refl
then_map g h (Some x) = refl

then_none : {X Y : Type 0} (o : Option X) (f : X → Option Y) → ((x : X) → f x ≡ None) → option_and_then f o ≡ None
then_none None f h = refl
then_none (Some x) f h = h x

abbrev pub reading : List Field → Bool → Given → Reading
reading left is_ended gs = record { waiting = None; is_ended = is_ended; left = left; given = gs }

-- no option waits for its value
abbrev pub IsFree : Waiting → Type 0
IsFree idle = Unit {0}
IsFree (option name) = ⊥
IsFree positional = Unit {0}

names_none : (waiting : Waiting) (word : Text) → IsFree waiting → subcommand_met [] waiting word ≡ None
names_none idle word free = refl
names_none (option name) word free = absurd free
names_none positional word free = refl

is_value : (c : List Rule) (waiting : Waiting) (word : Text) (h : Held) → IsFree waiting → plain_word c waiting word h ≡ (h, to_operand)
is_value c idle word h free = refl
is_value c (option name) word h free = absurd free
is_value c positional word h free = refl

free_after : (f : Field) → IsFree (waiting_after f)
free_after f = go f.is_many
  where
    go : (b : Bool) → IsFree (cond b positional idle)
    go true = tt
    go false = tt

abbrev pub walk_of : Given → Pend → Waiting → ℕ → Bool → Walk
walk_of gs p waiting position is_ended =
    record { held = held_by gs p; waiting = waiting; position = position; is_trailing = is_ended; stopped = None }

module _ (name : Text) (c : List Rule) (options : List Field) where
  abbrev turn : Walk → Text → Kinds
  turn w word = turn_fault (shape name c) [] w word

  abbrev pub Ends : Kinds → Walk → Option Given → Type 0
  Ends kinds end None = Fails kinds
  Ends kinds end (Some gs) = (kinds ≡ []) × ((settled c end.held).rows ≡ rows_by gs) × (end.stopped ≡ None)

  -- the kinds and the end of a walk from w, and what the line says of these words
  abbrev pub Agrees : Walk → List Text → Option Given → Type 0
  Agrees w words given =
      let end = fold (walked c []) w words in
      Ends (or_else (walk_fault (shape name c) [] w words) (settle_fault c false end.held)) end given

  -- what the line says of the words from here on
  abbrev pub says : Given → Pend → List Field → Bool → List Text → Option Given
  says gs p left is_ended words = option_and_then (λ now. read options (reading left is_ended now) words) (given_after gs p)

  stops : (w : Walk) (word : Text) (words : List Text) (given : Option Given) → given ≡ None → Fails (turn w word) → Agrees w (word ∷ words) given
  unfolding walk_fault
  stops w word words given none h = rw none (fails_first _ _ (fails_first _ _ h))

  one_more : (w : Walk) (word : Text) (words : List Text)
      → walk_fault (shape name c) [] w (word ∷ words) ≡ or_else (turn w word) (walk_fault (shape name c) [] (walked c [] w word) words)
  unfolding walk_fault
  one_more w word words = refl

  steps : (w next : Walk) (word : Text) (words : List Text) (given : Option Given) → turn w word ≡ [] → walked c [] w word ≡ next → Agrees next words given
      → Agrees w (word ∷ words) given
  steps w next word words given passes is h =
      let onto : Walk → Type 0 = λ v. Ends (or_else (walk_fault (shape name c) [] v words) (settle_fault c false (fold (walked c []) v words).held)) (fold (walked c []) v words) given in
      let kinds : walk_fault (shape name c) [] w (word ∷ words) ≡ walk_fault (shape name c) [] (walked c [] w word) words = one_more w word words ∙ ap (λ k. or_else k (walk_fault (shape name c) [] (walked c [] w word) words)) passes in
      let end = fold (walked c []) (walked c [] w word) words in
      subst (λ k. Ends (or_else k (settle_fault c false end.held)) end given) (sym kinds) (subst onto (sym is) h)

  ends_here : (gs : Given) (p : Pend) (waiting : Waiting) (position : ℕ) (is_ended : Bool) (o : Option Given)
      → Tells (settle_fault c false (held_by gs p)) (settled c (held_by gs p)).rows o
      → Ends (settle_fault c false (held_by gs p)) (walk_of gs p waiting position is_ended) (option_and_then (λ now. Some now) o)
  ends_here gs p waiting position is_ended None h = h
  ends_here gs p waiting position is_ended (Some now) h = (h.0, h.1, refl)

  -- a word that goes to an operand
  operand_at : (gs : Given) (p : Pend) (waiting : Waiting) (position : ℕ) (is_ended : Bool) (f : Field) (word : Text) (words : List Text) (o : Option Given) (next : Given → Option Given)
      → Tells (settle_fault c false (held_by gs p)) (settled c (held_by gs p)).rows o
      → turn (walk_of gs p waiting position is_ended) word ≡ settle_fault c false (held_by gs p)
      → walked c [] (walk_of gs p waiting position is_ended) word
      ≡ record {
        held = record { rows = (settled c (held_by gs p)).rows; pending = Some (f.name, word ∷ []); skip = 0 };
        waiting = waiting_after f;
        position = position_after f position;
        is_trailing = is_ended;
        stopped = None;
      }
      → ((now : Given) → Agrees (walk_of now (one f word) (waiting_after f) (position_after f position) is_ended) words (next now))
      → Agrees (walk_of gs p waiting position is_ended) (word ∷ words) (option_and_then next o)
  operand_at gs p waiting position is_ended f word words None next settle turn_is walk_is rest =
      stops _ word words _ refl (rw turn_is settle)
  operand_at gs p waiting position is_ended f word words (Some now) next settle turn_is walk_is rest =
      steps _ (walk_of now (one f word) (waiting_after f) (position_after f position) is_ended) word words _ (turn_is ∙ settle.0)
      (walk_is ∙ ap (λ (rows : List Row). record {
        held = record { rows = rows; pending = Some (f.name, word ∷ []); skip = 0 };
        waiting = waiting_after f;
        position = position_after f position;
        is_trailing = is_ended;
        stopped = None;
      }) settle.1) (rest now)

  -- what the line says once one more word made this of the reading
  abbrev pub onward : List Text → Option Reading → Option Given
  onward words o = option_and_then (λ next. read options next words) o

  operand : (gs : Given) (p : Pend) (waiting : Waiting) (position : ℕ) (is_ended : Bool) (left : List Field) (word : Text) (words : List Text)
      → KnowsPend c p → ArePlaced c left position
      → turn (walk_of gs p waiting position is_ended) word
      ≡ option_map_or (λ a. positional_fault c false a (held_by gs p)) (arg_by_index c position) (UnknownArgument ∷ [])
      → walked c [] (walk_of gs p waiting position is_ended) word
      ≡ to_positional c (arg_by_index c position) word (walk_of gs p waiting position is_ended) (held_by gs p)
      → ((now : Given) (f : Field) (fs : List Field) → IsKnown c f → ArePlaced c (left_after f fs) (position_after f position)
      → Agrees (walk_of now (one f word) (waiting_after f) (position_after f position) is_ended) words (says now (one f word) (left_after f fs) is_ended words))
      → Agrees (walk_of gs p waiting position is_ended) (word ∷ words)
      (option_and_then (λ now. onward words (with_operand left (reading left is_ended now) word)) (given_after gs p))
  operand gs p waiting position is_ended [] word words known placed turn_is walk_is rest =
      stops _ word words _ (then_none (given_after gs p) _ (λ now. refl)) (rw (turn_is, placed) (fails _ _))
  operand gs p waiting position is_ended (f ∷ fs) word words known placed turn_is walk_is rest =
      operand_at gs p waiting position is_ended f word words (given_after gs p) _ (settles c gs p known)
      (turn_is ∙ rw (placed.0, and-false) refl)
      (walk_is ∙ rw (placed.0, and-false, or-false, is_appending f.is_many) refl)
      (λ now. rw (then_map (λ next. read options next words) (λ given. reading (left_after f fs) is_ended given) (added f word now))
      (rest now f fs placed.1 (placed_after c f fs position placed)))

  -- after `--`
  ended : (words : List Text) (gs : Given) (p : Pend) (waiting : Waiting) (position : ℕ) (left : List Field) → KnowsPend c p → ArePlaced c left position
      → Agrees (walk_of gs p waiting position true) words (says gs p left true words)
  unfolding walk_fault walked read
  ended [] gs p waiting position left known placed = ends_here gs p waiting position true (given_after gs p) (settles c gs p known)
  ended (word ∷ words) gs p waiting position left known placed =
      operand gs p waiting position true left word words known placed refl refl
      (λ now f fs known' placed'. ended words now (one f word) (waiting_after f) (position_after f position) (left_after f fs) known' placed')

  -- what the words say where no option waits, and where one does
  abbrev pub Closed : List Text → Type 0
  Closed words = (gs : Given) (p : Pend) (waiting : Waiting) (position : ℕ) (left : List Field) → IsFree waiting → KnowsPend c p → ArePlaced c left position
      → Agrees (walk_of gs p waiting position false) words (says gs p left false words)

  abbrev pub waits : Field → List Field → Given → Reading
  waits f left gs = record { waiting = Some f; is_ended = false; left = left; given = gs }

  abbrev pub Open : List Text → Type 0
  Open words = (gs : Given) (f : Field) (position : ℕ) (left : List Field) → IsKnown c f → ArePlaced c left position
      → Agrees (walk_of gs (open_for f) (option f.name) position false) words (read options (waits f left gs) words)

  module _ (by_long : (text : Text) → arg_by_long c text ≡ option_map (λ f. rule f (Some f.name) None) (option_of options text))
      (by_short : (x : ℕ) → arg_by_short c x ≡ None) (known : AreKnown c options) where
    -- a word of a kind that is refused whatever waits
    dashed_fails : (gs : Given) (p : Pend) (waiting : Waiting) (position : ℕ) (word : Text) → subcommand_met [] waiting word ≡ None → Looks word dashed
        → Fails (turn (walk_of gs p waiting position false) word)
    unfolding flags_fault
    dashed_fails gs p waiting position word top (two, none, flag) =
        rw (top, two, none, flag.is_short, flag.begins, by_short flag.char) (fails _ _)

    unknown_fails : (gs : Given) (p : Pend) (waiting : Waiting) (position : ℕ) (word : Text) (text : Text) (value : Option Text) → subcommand_met [] waiting word ≡ None
        → Looks word (named text value) → option_of options text ≡ None → Fails (turn (walk_of gs p waiting position false) word)
    unknown_fails gs p waiting position word text value top (two, long) none =
        rw (top, two, long, by_long text, none) (fails _ _)

    named_turn : (gs : Given) (p : Pend) (waiting : Waiting) (position : ℕ) (word : Text) (text : Text) (f : Field) → subcommand_met [] waiting word ≡ None
        → Looks word (named text None) → option_of options text ≡ Some f → turn (walk_of gs p waiting position false) word ≡ settle_fault c false (held_by gs p)
    named_turn gs p waiting position word text f top (two, long) is =
        rw (top, two, long, by_long text, is, or_else-nil) refl

    valued_turn : (gs : Given) (p : Pend) (waiting : Waiting) (position : ℕ) (word : Text) (text value : Text) (f : Field) → subcommand_met [] waiting word ≡ None
        → Looks word (named text (Some value)) → option_of options text ≡ Some f
        → turn (walk_of gs p waiting position false) word
        ≡ or_else (settle_fault c false (held_by gs p)) (use_fault false (rule f (Some f.name) None) (value ∷ []) (settled c (held_by gs p)).rows)
    valued_turn gs p waiting position word text value f top (two, long) is =
        rw (top, two, long, by_long text, is, or_else-nil) refl

    named_walk : (gs : Given) (p : Pend) (waiting : Waiting) (position : ℕ) (word : Text) (text : Text) (f : Field) → subcommand_met [] waiting word ≡ None
        → Looks word (named text None) → option_of options text ≡ Some f
        → walked c [] (walk_of gs p waiting position false) word
        ≡ record {
          held = record { rows = (settled c (held_by gs p)).rows; pending = Some (f.name, []); skip = 0 };
          waiting = option f.name;
          position = position;
          is_trailing = false;
          stopped = None;
        }
    unfolding walked
    named_walk gs p waiting position word text f top (two, long) is = rw (top, two, long, by_long text, is) refl

    valued_walk : (gs : Given) (p : Pend) (waiting : Waiting) (position : ℕ) (word : Text) (text value : Text) (f : Field) → subcommand_met [] waiting word ≡ None
        → Looks word (named text (Some value)) → option_of options text ≡ Some f
        → walked c [] (walk_of gs p waiting position false) word
        ≡ record {
          held = record { rows = used (rule f (Some f.name) None) (value ∷ []) (settled c (held_by gs p)).rows; pending = None; skip = 0 };
          waiting = idle;
          position = position;
          is_trailing = false;
          stopped = None;
        }
    unfolding walked
    valued_walk gs p waiting position word text value f top (two, long) is = rw (top, two, long, by_long text, is) refl

    -- `--`
    ends_turn : (gs : Given) (p : Pend) (waiting : Waiting) (position : ℕ) (word : Text) → subcommand_met [] waiting word ≡ None → Looks word ends
        → turn (walk_of gs p waiting position false) word ≡ []
    ends_turn gs p waiting position word top two = rw (top, two) refl

    ends_walk : (gs : Given) (p : Pend) (waiting : Waiting) (position : ℕ) (word : Text) → subcommand_met [] waiting word ≡ None → Looks word ends
        → walked c [] (walk_of gs p waiting position false) word ≡ walk_of gs p waiting position true
    unfolding walked
    ends_walk gs p waiting position word top two = rw (top, two) refl

    -- a word that is no flag
    plain_turn : (gs : Given) (p : Pend) (waiting : Waiting) (position : ℕ) (word : Text) → subcommand_met [] waiting word ≡ None → Looks word plain
        → turn (walk_of gs p waiting position false) word
        ≡ step_fault (shape name c) position (plain_word c waiting word (held_by gs p)).0 (plain_word c waiting word (held_by gs p)).1
    unfolding flags_fault bundle_met
    plain_turn gs p waiting position word top (two, long, inl short) = rw (top, two, long, short) refl
    plain_turn gs p waiting position word top (two, long, inr ([], short, empty)) = rw (top, two, long, short) refl
    plain_turn gs p waiting position word top (two, long, inr (x ∷ xs, short, empty)) = rw (top, two, long, short, empty) refl

    plain_walk : (gs : Given) (p : Pend) (waiting : Waiting) (position : ℕ) (word : Text) → subcommand_met [] waiting word ≡ None → Looks word plain
        → walked c [] (walk_of gs p waiting position false) word
        ≡ after_step c word (walk_of gs p waiting position false) (plain_word c waiting word (held_by gs p)).0 (plain_word c waiting word (held_by gs p)).1
    unfolding walked bundle_met
    plain_walk gs p waiting position word top (two, long, inl short) = rw (top, two, long, short) refl
    plain_walk gs p waiting position word top (two, long, inr ([], short, empty)) = rw (top, two, long, short) refl
    plain_walk gs p waiting position word top (two, long, inr (x ∷ xs, short, empty)) = rw (top, two, long, short, empty) refl

    -- a value given with its name
    valued_by : (gs : Given) (p : Pend) (waiting : Waiting) (position : ℕ) (left : List Field) (word : Text) (words : List Text) (text value : Text) (f : Field) (o : Option Given)
        → IsFree waiting → Looks word (named text (Some value)) → option_of options text ≡ Some f
        → Tells (settle_fault c false (held_by gs p)) (settled c (held_by gs p)).rows o → IsKnown c f
        → ((now : Given) → Agrees (walk_of now nothing idle position false) words (says now nothing left false words))
        → Agrees (walk_of gs p waiting position false) (word ∷ words) (option_and_then (λ now. onward words (with_value (reading left false now) f value)) o)
    valued_by gs p waiting position left word words text value f None free look is settle fits rest =
        stops _ word words _ refl (rw (valued_turn gs p waiting position word text value f (names_none waiting word free) look is) (fails_first _ _ settle))
    valued_by gs p waiting position left word words text value f (Some now) free look is settle fits rest =
        rw (then_map (λ next. read options next words) (λ given. reading left false given) (added f value now))
        (uses_next (added f value now) (uses f (Some f.name) None value now fits.small))
      where
        top : subcommand_met [] waiting word ≡ None
        top = names_none waiting word free

        uses_next : (o : Option Given) → Tells (use_fault false (rule f (Some f.name) None) (value ∷ []) (rows_by now)) (used (rule f (Some f.name) None) (value ∷ []) (rows_by now)) o
            → Agrees (walk_of gs p waiting position false) (word ∷ words) (option_and_then (λ given. read options (reading left false given) words) o)
        uses_next None told = stops _ word words _ refl (rw (valued_turn gs p waiting position word text value f top look is, settle.1) (passes_first _ _ settle.0 told))
        uses_next (Some given) told =
            steps _ (walk_of given nothing idle position false) word words _
            (valued_turn gs p waiting position word text value f top look is ∙ rw (settle.0, settle.1) told.0)
            (valued_walk gs p waiting position word text value f top look is
            ∙ rw (settle.1, told.1) refl)
            (rest given)

    -- a name alone
    named_by : (gs : Given) (p : Pend) (waiting : Waiting) (position : ℕ) (left : List Field) (word : Text) (words : List Text) (text : Text) (f : Field) (o : Option Given)
        → IsFree waiting → Looks word (named text None) → option_of options text ≡ Some f
        → Tells (settle_fault c false (held_by gs p)) (settled c (held_by gs p)).rows o
        → ((now : Given) → Agrees (walk_of now (open_for f) (option f.name) position false) words (read options (waits f left now) words))
        → Agrees (walk_of gs p waiting position false) (word ∷ words) (option_and_then (λ now. read options (waits f left now) words) o)
    named_by gs p waiting position left word words text f None free look is settle rest =
        stops _ word words _ refl (rw (named_turn gs p waiting position word text f (names_none waiting word free) look is) settle)
    named_by gs p waiting position left word words text f (Some now) free look is settle rest =
        steps _ (walk_of now (open_for f) (option f.name) position false) word words _
        (named_turn gs p waiting position word text f (names_none waiting word free) look is ∙ settle.0)
        (named_walk gs p waiting position word text f (names_none waiting word free) look is ∙ rw (settle.1) refl)
        (rest now)

    by_value : (gs : Given) (p : Pend) (waiting : Waiting) (position : ℕ) (left : List Field) (word : Text) (words : List Text) (text : Text) (value : Option Text) (o : Option Field)
        → IsFree waiting → Looks word (named text value) → option_of options text ≡ o → KnowsPend c p → ArePlaced c left position → Closed words → Open words
        → Agrees (walk_of gs p waiting position false) (word ∷ words)
        (option_and_then (λ now. onward words (with_named (reading left false now) value o)) (given_after gs p))
    by_value gs p waiting position left word words text value None free look is knows placed closed opened =
        stops _ word words _ (then_none (given_after gs p) _ (λ now. refl)) (unknown_fails gs p waiting position word text value (names_none waiting word free) look is)
    by_value gs p waiting position left word words text None (Some f) free look is knows placed closed opened =
        named_by gs p waiting position left word words text f (given_after gs p) free look is (settles c gs p knows)
        (λ now. opened now f position left (known_option c options text f known is) placed)
    by_value gs p waiting position left word words text (Some value) (Some f) free look is knows placed closed opened =
        valued_by gs p waiting position left word words text value f (given_after gs p) free look is (settles c gs p knows) (known_option c options text f known is)
        (λ now. closed now nothing idle position left tt tt placed)

    closed_by : (gs : Given) (p : Pend) (waiting : Waiting) (position : ℕ) (left : List Field) (word : Text) (words : List Text) (k : Kind) → IsFree waiting → Looks word k
        → KnowsPend c p → ArePlaced c left position → Closed words → Open words
        → Agrees (walk_of gs p waiting position false) (word ∷ words)
        (option_and_then (λ now. onward words (with_kind options (reading left false now) None k word)) (given_after gs p))
    closed_by gs p waiting position left word words ends free look knows placed closed opened =
        steps _ (walk_of gs p waiting position true) word words _ (ends_turn gs p waiting position word (names_none waiting word free) look)
        (ends_walk gs p waiting position word (names_none waiting word free) look)
        (ended words gs p waiting position left knows placed)
    closed_by gs p waiting position left word words (named text value) free look knows placed closed opened =
        by_value gs p waiting position left word words text value (option_of options text) free look refl knows placed closed opened
    closed_by gs p waiting position left word words dashed free look knows placed closed opened =
        stops _ word words _ (then_none (given_after gs p) _ (λ now. refl)) (dashed_fails gs p waiting position word (names_none waiting word free) look)
    closed_by gs p waiting position left word words plain free look knows placed closed opened =
        operand gs p waiting position false left word words knows placed
        (plain_turn gs p waiting position word (names_none waiting word free) look ∙ ap (λ s. step_fault (shape name c) position s.0 s.1) (is_value c waiting word (held_by gs p) free))
        (plain_walk gs p waiting position word (names_none waiting word free) look
        ∙ ap (λ s. after_step c word (walk_of gs p waiting position false) s.0 s.1) (is_value c waiting word (held_by gs p) free))
        (λ now f fs known' placed'. closed now (one f word) (waiting_after f) (position_after f position) (left_after f fs) (free_after f) known' placed')

    -- an option that waits has no value
    open_named : (gs : Given) (f : Field) (position : ℕ) (word : Text) (text : Text) (value : Option Text) (o : Option Field) → IsKnown c f
        → Looks word (named text value) → option_of options text ≡ o → Fails (turn (walk_of gs (open_for f) (option f.name) position false) word)
    open_named gs f position word text value None fits look is = unknown_fails gs (open_for f) (option f.name) position word text value refl look is
    open_named gs f position word text None (Some g) fits look is =
        rw (named_turn gs (open_for f) (option f.name) position word text g refl look is) (settles c gs (open_for f) fits)
    open_named gs f position word text (Some value) (Some g) fits look is =
        rw (valued_turn gs (open_for f) (option f.name) position word text value g refl look is) (fails_first _ _ (settles c gs (open_for f) fits))

    value_walk : (gs : Given) (f : Field) (position : ℕ) (word : Text) → IsKnown c f
        → after_step c word (walk_of gs (open_for f) (option f.name) position false) (plain_word c (option f.name) word (held_by gs (open_for f))).0
        (plain_word c (option f.name) word (held_by gs (open_for f))).1
        ≡ walk_of gs (one f word) idle position false
    value_walk gs f position word fits = rw (fits.found, bytes_eq-refl f.name) refl

    open_by : (gs : Given) (f : Field) (position : ℕ) (left : List Field) (word : Text) (words : List Text) (k : Kind) → Looks word k
        → IsKnown c f → ArePlaced c left position → Closed words
        → Agrees (walk_of gs (open_for f) (option f.name) position false) (word ∷ words)
        (onward words (with_kind options (waits f left gs) (Some f) k word))
    open_by gs f position left word words ends look fits placed closed =
        steps _ (walk_of gs (open_for f) (option f.name) position true) word words None (ends_turn gs (open_for f) (option f.name) position word refl look)
        (ends_walk gs (open_for f) (option f.name) position word refl look)
        (ended words gs (open_for f) (option f.name) position left fits placed)
    open_by gs f position left word words (named text value) look fits placed closed =
        stops _ word words None refl (open_named gs f position word text value (option_of options text) fits look refl)
    open_by gs f position left word words dashed look fits placed closed =
        stops _ word words None refl (dashed_fails gs (open_for f) (option f.name) position word refl look)
    open_by gs f position left word words plain look fits placed closed =
        steps _ (walk_of gs (one f word) idle position false) word words _
        (plain_turn gs (open_for f) (option f.name) position word refl look)
        (plain_walk gs (open_for f) (option f.name) position word refl look ∙ value_walk gs f position word fits)
        (rw (then_map (λ next. read options next words) (λ given. reading left false given) (added f word gs)) (closed gs (one f word) idle position left tt fits placed))

    both : (words : List Text) → Closed words × Open words
    unfolding walk_fault read
    both [] = (
      λ gs p waiting position left free knows placed. ends_here gs p waiting position false (given_after gs p) (settles c gs p knows),
      λ gs f position left fits placed. settles c gs (open_for f) fits,
    )
    both (word ∷ words) =
        let rest = both words in (
          λ gs p waiting position left free knows placed. closed_by gs p waiting position left word words (kind_of_word word) free (looks word) knows placed rest.0 rest.1,
          λ gs f position left fits placed. open_by gs f position left word words (kind_of_word word) (looks word) fits placed rest.0,
        )

-- the walk over the words of a line
pub walk_agrees : (name : Text) (c : List Rule) (line : CommandLine) → IsBuiltBy c line → (words : List Text)
    → Agrees name c line.options (walk_of [] nothing idle 1 false) words (read line.options (start line) words)
walk_agrees name c line is words =
    (both name c line.options is.by_long is.by_short is.known words).0 [] nothing idle 1 line.operands tt tt is.placed

-- ---- a whole command

abbrev pub Placed : Type 0
Placed = Field × Option Text × Option ℕ

abbrev pub rule_at : Placed → Rule
rule_at p = rule p.0 p.1 p.2

or-true : (b : Bool) → (b || true) ≡ true
or-true true = refl
or-true false = refl

same-cond : {X : Type 0} (b : Bool) (x : X) → cond b x x ≡ x
same-cond true x = refl
same-cond false x = refl

no_defaults : (gs : Given) (ps : List Placed) → fold with_default (rows_by gs) (map rule_at ps) ≡ rows_by gs
no_defaults gs [] = refl
no_defaults gs (p ∷ ps) = ap (λ rows. fold with_default rows (map rule_at ps)) (same-cond (has_row p.0.name (rows_by gs)) (rows_by gs)) ∙ no_defaults gs ps

no_default_faults : (gs : Given) (ps : List Placed) → defaults_fault (rows_by gs) (map rule_at ps) ≡ []
unfolding defaults_fault
no_default_faults gs [] = refl
no_default_faults gs (p ∷ ps) = rw (or-true (has_row p.0.name (rows_by gs)), same-cond (has_row p.0.name (rows_by gs)) (rows_by gs)) (no_default_faults gs ps)

-- a required field is missing
missing : (gs : Given) (ps : List Placed) → list_any (λ (a : Rule). a.required && not (given_row a.id (rows_by gs))) (map rule_at ps)
    ≡ not (list_all (λ (f : Field). not f.is_required || is_given gs f.name) (map (λ (p : Placed). p.0) ps))
missing gs [] = refl
missing gs (p ∷ ps) = rw (was_given gs p.0.name, missing gs ps) (go p.0.is_required (is_given gs p.0.name) _)
  where
    go : (r g rest : Bool) → ((r && not g) || not rest) ≡ not ((not r || g) && rest)
    go true true rest = refl
    go true false rest = refl
    go false g rest = refl

both_pass : (a b : Kinds) → or_else a b ≡ [] → (a ≡ []) × (b ≡ [])
both_pass [] b e = (refl, e)
both_pass (k ∷ ks) b e = cc

level_fails : (a x b y : Kinds) → Fails (or_else a b) → Fails (or_else a (or_else x (or_else b y)))
level_fails (k ∷ ks) x b y h = fails _ _
level_fails [] (k ∷ ks) b y h = fails _ _
level_fails [] [] b y h = fails_first b y h

module _ (name : Text) (ps : List Placed) (line : CommandLine) (fields : map (λ (p : Placed). p.0) ps ≡ line.operands ++ line.options) where
  abbrev pub rules_at : List Rule
  rules_at = map rule_at ps

  abbrev pub command : App
  command = record { top = shape name rules_at; subs = [] }

  -- no kind of fault and these rows, or some fault
  abbrev pub Gives : Kinds → List Row → Option Given → Type 0
  Gives kinds rows None = Fails kinds
  Gives kinds rows (Some gs) = (kinds ≡ []) × (rows ≡ rows_by gs)

  abbrev level : Kinds → Walk → Kinds
  level kinds end = or_else kinds
      (or_else (entered_fault command end.stopped)
      (or_else (settle_fault rules_at false end.held)
      (or_else (defaults_fault (settled rules_at end.held).rows rules_at)
      (check_fault command.top (finished rules_at end.held) (is_some (entered command end.stopped))))))

  none_missing : (gs : Given) (b : Bool) → has_required line gs ≡ b
      → list_any (λ (a : Rule). a.required && not (given_row a.id (rows_by gs))) rules_at ≡ not b
  none_missing gs b has = missing gs ps ∙ ap (λ fs. not (list_all (λ (f : Field). not f.is_required || is_given gs f.name) fs)) fields ∙ ap not has

  at_end : (gs : Given) (b : Bool) → has_required line gs ≡ b
      → Gives (check_fault command.top (rows_by gs) false) (rows_by gs) (cond b (Some gs) None)
  at_end gs true has = (rw (none_missing gs true has) refl, refl)
  at_end gs false has = rw (none_missing gs false has) (fails _ _)

  finishes : (kinds : Kinds) (end : Walk) (o : Option Given) → Ends name rules_at line.options (or_else kinds (settle_fault rules_at false end.held)) end o
      → Gives (level kinds end) (finished rules_at end.held) (option_and_then (λ gs. if has_required line gs then Some gs else None) o)
  finishes kinds end None h = level_fails kinds _ _ _ h
  finishes kinds end (Some gs) h =
      let parts = both_pass kinds (settle_fault rules_at false end.held) h.0 in
      let same : finished rules_at end.held ≡ rows_by gs = ap (λ rs. fold with_default rs rules_at) h.1 ∙ no_defaults gs ps in
      let level_of : Kinds → Option (Text × List Text) → Kinds → List Row → List Row → Kinds =
      λ k stop settle rs all. or_else k (or_else (entered_fault command stop) (or_else settle
      (or_else (defaults_fault rs rules_at) (check_fault command.top all (is_some (entered command stop)))))) in
      let begun : level kinds end ≡ level_of [] None [] (rows_by gs) (rows_by gs) = λ i. level_of (parts.0 i) (h.2 i) (parts.1 i) (h.1 i) (same i) in
      let kinds_are : level kinds end ≡ check_fault command.top (rows_by gs) false =
      begun ∙ ap (λ k. or_else k (check_fault command.top (rows_by gs) false)) (no_default_faults gs ps) in
      rw (kinds_are, same) (at_end gs (has_required line gs) refl)

  -- a built command that takes a line reads words as the line says
  pub reads_line : IsBuiltBy rules_at line → (words : List Text)
      → Gives (built_fault command nothing_held words) (rows_after rules_at [] words) (given_by line words)
  reads_line is words =
      finishes (walk_fault (shape name rules_at) [] (walk_of [] nothing idle 1 false) words) (fold (walked rules_at []) (walk_of [] nothing idle 1 false) words)
      (read line.options (start line) words) (walk_agrees name rules_at line is words)

-- ---- the rules of a line, in its order

abbrev pub option_place : Field → Placed
option_place f = (f, Some f.name, None)

abbrev pub operand_places : ℕ → List Field → List Placed
operand_places i [] = []
operand_places i (f ∷ fs) = (f, None, Some i) ∷ operand_places (min (i + 1) usize_max) fs

abbrev pub places : CommandLine → List Placed
places line = operand_places 1 line.operands ++ map option_place line.options

by_long_options : (options : List Field) (text : Text)
    → arg_by_long (map rule_at (map option_place options)) text ≡ option_map (λ (f : Field). rule f (Some f.name) None) (option_of options text)
by_long_options [] text = refl
by_long_options (f ∷ fs) text = go (bytes_eq f.name text) (by_long_options fs text)
  where
    go : (b : Bool) → arg_by_long (map rule_at (map option_place fs)) text ≡ option_map (λ (f : Field). rule f (Some f.name) None) (option_of fs text)
        → cond (b || false) (Some (rule f (Some f.name) None)) (arg_by_long (map rule_at (map option_place fs)) text)
        ≡ option_map (λ (f : Field). rule f (Some f.name) None) (cond b (Some f) (option_of fs text))
    go true rest = refl
    go false rest = rest

by_long_operands : (i : ℕ) (fs : List Field) (ps : List Placed) (text : Text) → arg_by_long (map rule_at (operand_places i fs ++ ps)) text ≡ arg_by_long (map rule_at ps) text
by_long_operands i [] ps text = refl
by_long_operands i (f ∷ fs) ps text = by_long_operands (min (i + 1) usize_max) fs ps text

by_short_options : (options : List Field) (x : ℕ) → arg_by_short (map rule_at (map option_place options)) x ≡ None
by_short_options [] x = refl
by_short_options (f ∷ fs) x = by_short_options fs x

by_short_operands : (i : ℕ) (fs : List Field) (ps : List Placed) (x : ℕ) → arg_by_short (map rule_at (operand_places i fs ++ ps)) x ≡ arg_by_short (map rule_at ps) x
by_short_operands i [] ps x = refl
by_short_operands i (f ∷ fs) ps x = by_short_operands (min (i + 1) usize_max) fs ps x

pub is_built_by : (line : CommandLine) → AreKnown (map rule_at (places line)) line.options → ArePlaced (map rule_at (places line)) line.operands 1
    → IsBuiltBy (map rule_at (places line)) line
is_built_by line known placed = record {
  by_long = λ text. by_long_operands 1 line.operands (map option_place line.options) text ∙ by_long_options line.options text;
  by_short = λ x. by_short_operands 1 line.operands (map option_place line.options) x ∙ by_short_options line.options x;
  known = known;
  placed = placed;
}
