-- The rows that `clap` holds of the values that were given: one for each field, with its values in
-- order.
use Rattle.std.proofs.Common.{◌≡◌, ◌∙◌, ◌||◌, ℕ, Bool, cond, true, false, refl, sym, ap, subst, List, [], ◌∷◌, ◌++◌, map, filter, Option, Some, None, true≢false}
use Rattle.std.specs.Prelude.{slice_get, option_and_then, option_map, find, fold, unwrap_or}
use Rattle.std.specs.Option.{option_map_or}
use Rattle.std.specs.Str.{bytes_eq}
use Rattle.std.proofs.lemmas.List.{append-nil, append_assoc}
use Rattle.std.proofs.lemmas.Slice.Eq.{bytes_eq-Decides}
use Rattle.clap.specs.Values.{reading_of, read_as}
use Rattle.clap.specs.Facts.{explicit_source}
use Rattle.clap.specs.Walk.{Row, all_of, first_of, has_row, more_values, one_of, row_text, stronger, with_values}
use Rattle.clap.specs.Takes.{is_given as given_row}
use Rattle.clap.specs.declared.builder.value_parser.ValueParser.{ValueParser}
use Rattle.clap.specs.declared.builder.value_parser.ValueParser.TheVariants as vp
use Rattle.clap.specs.declared.parser.matches.ValueSource.TheVariants.{CommandLine}
use Rattle.s7_args.specs.CommandLine.{Text, Field, Given, is_given, value_of, values_of}

abbrev pub parser_in : Option (ℕ × ℕ) → ValueParser
parser_in None = vp.String
parser_in (Some r) = vp.Unsigned r.0 r.1

-- the rows with one more value that was given
abbrev pub rows_with : List Row → Field × Text → List Row
rows_with rows g = with_values g.0.name (reading_of (parser_in g.0.range)) CommandLine (g.1 ∷ []) rows

abbrev pub rows_by : Given → List Row
rows_by gs = fold rows_with [] gs

-- ---- whether a field has a row

pub or-false : (b : Bool) → (b || false) ≡ b
or-false true = refl
or-false false = refl

or_assoc : (a b c : Bool) → ((a || b) || c) ≡ (a || (b || c))
or_assoc true b c = refl
or_assoc false b c = refl

or_again : (a b : Bool) → (a || b) ≡ ((a || b) || a)
or_again true b = refl
or_again false true = refl
or_again false false = refl

has-with : (name : Text) (g : Field × Text) (rows : List Row) → has_row name (rows_with rows g) ≡ (has_row name rows || bytes_eq g.0.name name)
has-with name g [] = or-false (bytes_eq g.0.name name)
has-with name g (r ∷ rs) = go (bytes_eq r.id g.0.name) refl (has-with name g rs)
  where
    go : (b : Bool) → bytes_eq r.id g.0.name ≡ b → has_row name (rows_with rs g) ≡ (has_row name rs || bytes_eq g.0.name name)
        → has_row name (cond b (more_values CommandLine (g.1 ∷ []) r ++ rs) (r ∷ rows_with rs g)) ≡ ((bytes_eq r.id name || has_row name rs) || bytes_eq g.0.name name)
    go true same rest =
        or_again (bytes_eq r.id name) (has_row name rs) ∙ ap (λ (t : Text). (bytes_eq r.id name || has_row name rs) || bytes_eq t name) ((bytes_eq-Decides r.id g.0.name).0 same)
    go false other rest = ap (λ a. bytes_eq r.id name || a) rest ∙ sym (or_assoc (bytes_eq r.id name) (has_row name rs) (bytes_eq g.0.name name))

has-onto : (gs : Given) (rows : List Row) (name : Text) → has_row name (fold rows_with rows gs) ≡ (has_row name rows || is_given gs name)
has-onto [] rows name = sym (or-false (has_row name rows))
has-onto (g ∷ gs) rows name =
    has-onto gs (rows_with rows g) name ∙ ap (λ b. b || is_given gs name) (has-with name g rows) ∙ or_assoc (has_row name rows) (bytes_eq g.0.name name) (is_given gs name)

pub has-rows : (gs : Given) (name : Text) → has_row name (rows_by gs) ≡ is_given gs name
has-rows gs name = has-onto gs [] name

-- ---- the row of a name

abbrev row_named : Text → List Row → Option Row
row_named id rows = find (λ r. bytes_eq r.id id) rows

-- the row of a field with one more value
abbrev grown : Field × Text → Option Row → Row
grown g None = record {
  id = g.0.name;
  values = g.1 ∷ [];
  count = None;
  source = Some CommandLine;
  reading = reading_of (parser_in g.0.range);
}
grown g (Some r) = record r { values = r.values ++ g.1 ∷ []; source = Some (stronger r.source CommandLine) }

found_with : (id : Text) (g : Field × Text) (rows : List Row)
    → row_named id (rows_with rows g) ≡ cond (bytes_eq g.0.name id) (Some (grown g (row_named id rows))) (row_named id rows)
found_with id g [] = refl
found_with id g (r ∷ rs) = go (bytes_eq r.id g.0.name) refl (found_with id g rs)
  where
    mine : (b : Bool) → cond b (Some (grown g (Some r))) (row_named id rs)
        ≡ cond b (Some (grown g (cond b (Some r) (row_named id rs)))) (cond b (Some r) (row_named id rs))
    mine true = refl
    mine false = refl

    first : bytes_eq r.id g.0.name ≡ false → bytes_eq r.id id ≡ true → (c : Bool) → bytes_eq g.0.name id ≡ c
        → ◌≡◌ {A = Option Row} (Some r) (cond c (Some (grown g (Some r))) (Some r))
    first other is true named =
        let same : r.id ≡ g.0.name = (bytes_eq-Decides r.id id).0 is ∙ sym ((bytes_eq-Decides g.0.name id).0 named) in
        absurd (true≢false (sym ((bytes_eq-Decides r.id g.0.name).1 same) ∙ other))
    first other is false named = refl

    later : bytes_eq r.id g.0.name ≡ false → row_named id (rows_with rs g) ≡ cond (bytes_eq g.0.name id) (Some (grown g (row_named id rs))) (row_named id rs)
        → (b : Bool) → bytes_eq r.id id ≡ b
        → cond b (Some r) (row_named id (rows_with rs g))
        ≡ cond (bytes_eq g.0.name id) (Some (grown g (cond b (Some r) (row_named id rs)))) (cond b (Some r) (row_named id rs))
    later other rest true is = first other is (bytes_eq g.0.name id) refl
    later other rest false is = rest

    go : (b : Bool) → bytes_eq r.id g.0.name ≡ b
        → row_named id (rows_with rs g) ≡ cond (bytes_eq g.0.name id) (Some (grown g (row_named id rs))) (row_named id rs)
        → row_named id (cond b (more_values CommandLine (g.1 ∷ []) r ++ rs) (r ∷ rows_with rs g))
        ≡ cond (bytes_eq g.0.name id) (Some (grown g (cond (bytes_eq r.id id) (Some r) (row_named id rs)))) (cond (bytes_eq r.id id) (Some r) (row_named id rs))
    go true same rest = subst (λ (t : Text). cond (bytes_eq r.id id) (Some (grown g (Some r))) (row_named id rs)
        ≡ cond (bytes_eq t id) (Some (grown g (cond (bytes_eq r.id id) (Some r) (row_named id rs)))) (cond (bytes_eq r.id id) (Some r) (row_named id rs)))
        ((bytes_eq-Decides r.id g.0.name).0 same) (mine (bytes_eq r.id id))
    go false other rest = later other rest (bytes_eq r.id id) refl

as_written : (range : Option (ℕ × ℕ)) (text : Text) → read_as (reading_of (parser_in range)) text ≡ text
as_written None text = refl
as_written (Some r) text = refl

-- a row has these values, and there is none where there are no values
abbrev Shows : List Text → Option Row → Type 0
Shows [] None = Unit {0}
Shows [] (Some r) = ⊥
Shows (v ∷ vs) None = ⊥
Shows (v ∷ vs) (Some r) = (r.values ≡ v ∷ vs) × (r.source ≡ Some CommandLine) × ((t : Text) → read_as r.reading t ≡ t)

abbrev texts_of : Given → List Text
texts_of gs = map (λ (g : Field × Text). g.1) gs

shows_with : (id : Text) (g : Field × Text) (rows : List Row) (vs : List Text) → Shows vs (row_named id rows)
    → Shows (vs ++ values_of (g ∷ []) id) (row_named id (rows_with rows g))
shows_with id g rows vs h = subst (Shows (vs ++ values_of (g ∷ []) id)) (sym (found_with id g rows)) (go (bytes_eq g.0.name id) (row_named id rows) vs h)
  where
    go : (b : Bool) (o : Option Row) (vs : List Text) → Shows vs o → Shows (vs ++ texts_of (cond b (g ∷ []) [])) (cond b (Some (grown g o)) o)
    go true None [] h = (refl, refl, as_written g.0.range)
    go true (Some r) [] h = absurd h
    go true None (v ∷ vs) h = absurd h
    go true (Some r) (v ∷ vs) h = (ap (λ ws. ws ++ g.1 ∷ []) h.0, ap (λ s. Some (stronger s CommandLine)) h.1, h.2)
    go false o vs h = subst (λ ws. Shows ws o) (sym (append-nil vs)) h

one_more_value : (id : Text) (g : Field × Text) (gs : Given) → values_of (g ∷ []) id ++ values_of gs id ≡ values_of (g ∷ gs) id
one_more_value id g gs = go (bytes_eq g.0.name id)
  where
    go : (b : Bool) → texts_of (cond b (g ∷ []) []) ++ values_of gs id ≡ texts_of (cond b (g ∷ filter (λ (x : Field × Text). bytes_eq x.0.name id) gs) (filter (λ (x : Field × Text). bytes_eq x.0.name id) gs))
    go true = refl
    go false = refl

shows_onto : (id : Text) (gs : Given) (rows : List Row) (vs : List Text) → Shows vs (row_named id rows)
    → Shows (vs ++ values_of gs id) (row_named id (fold rows_with rows gs))
shows_onto id [] rows vs h = subst (λ ws. Shows ws (row_named id rows)) (sym (append-nil vs)) h
shows_onto id (g ∷ gs) rows vs h =
    let all : (vs ++ values_of (g ∷ []) id) ++ values_of gs id ≡ vs ++ values_of (g ∷ gs) id =
    append_assoc vs (values_of (g ∷ []) id) (values_of gs id) ∙ ap (λ ws. vs ++ ws) (one_more_value id g gs) in
    subst (λ ws. Shows ws (row_named id (fold rows_with (rows_with rows g) gs))) all
    (shows_onto id gs (rows_with rows g) (vs ++ values_of (g ∷ []) id) (shows_with id g rows vs h))

shows : (id : Text) (gs : Given) → Shows (values_of gs id) (row_named id (rows_by gs))
shows id gs = shows_onto id gs [] [] tt

-- ---- what the getters read

abbrev pub has_some : {X : Type 0} → List X → Bool
has_some [] = false
has_some (x ∷ xs) = true

pub given-values : (gs : Given) (name : Text) → is_given gs name ≡ has_some (values_of gs name)
given-values [] name = refl
given-values (g ∷ gs) name = go (bytes_eq g.0.name name) (given-values gs name)
  where
    go : (b : Bool) → is_given gs name ≡ has_some (values_of gs name)
        → (b || is_given gs name) ≡ has_some (texts_of (cond b (g ∷ filter (λ (x : Field × Text). bytes_eq x.0.name name) gs) (filter (λ (x : Field × Text). bytes_eq x.0.name name) gs)))
    go true rest = refl
    go false rest = rest

value-values : (gs : Given) (name : Text) → value_of gs name ≡ slice_get (values_of gs name) 0
value-values [] name = refl
value-values (g ∷ gs) name = go (bytes_eq g.0.name name) (value-values gs name)
  where
    go : (b : Bool) → value_of gs name ≡ slice_get (values_of gs name) 0
        → option_map (λ (x : Field × Text). x.1) (cond b (Some g) (find (λ (x : Field × Text). bytes_eq x.0.name name) gs))
        ≡ slice_get (texts_of (cond b (g ∷ filter (λ (x : Field × Text). bytes_eq x.0.name name) gs) (filter (λ (x : Field × Text). bytes_eq x.0.name name) gs))) 0
    go true rest = refl
    go false rest = rest

pub was_given : (gs : Given) (name : Text) → given_row name (rows_by gs) ≡ is_given gs name
was_given gs name = go (values_of gs name) (row_named name (rows_by gs)) (shows name gs) ∙ sym (given-values gs name)
  where
    go : (vs : List Text) (o : Option Row) → Shows vs o → option_map_or (λ (r : Row). explicit_source r.source) o false ≡ has_some vs
    go [] None h = refl
    go [] (Some r) h = absurd h
    go (v ∷ vs) None h = absurd h
    go (v ∷ vs) (Some r) h = ap explicit_source h.1

pub first_of-rows : (gs : Given) (id : Text) → first_of id (rows_by gs) ≡ value_of gs id
first_of-rows gs id = go (values_of gs id) (row_named id (rows_by gs)) (shows id gs) ∙ sym (value-values gs id)
  where
    go : (vs : List Text) (o : Option Row) → Shows vs o → option_and_then (λ (r : Row). slice_get r.values 0) o ≡ slice_get vs 0
    go [] None h = refl
    go [] (Some r) h = absurd h
    go (v ∷ vs) None h = absurd h
    go (v ∷ vs) (Some r) h = ap (λ ws. slice_get ws 0) h.0

pub one_of-rows : (gs : Given) (id : Text) → one_of id (rows_by gs) ≡ value_of gs id
one_of-rows gs id = go (values_of gs id) (row_named id (rows_by gs)) (shows id gs) ∙ sym (value-values gs id)
  where
    go : (vs : List Text) (o : Option Row) → Shows vs o → option_and_then row_text o ≡ slice_get vs 0
    go [] None h = refl
    go [] (Some r) h = absurd h
    go (v ∷ vs) None h = absurd h
    go (v ∷ vs) (Some r) h = ap (λ ws. option_map (read_as r.reading) (slice_get ws 0)) h.0 ∙ ap Some (h.2 v)

pub all_of-rows : (gs : Given) (id : Text) → unwrap_or (all_of id (rows_by gs)) [] ≡ values_of gs id
all_of-rows gs id = go (values_of gs id) (row_named id (rows_by gs)) (shows id gs)
  where
    go : (vs : List Text) (o : Option Row) → Shows vs o → unwrap_or (option_map (λ (r : Row). r.values) o) [] ≡ vs
    go [] None h = refl
    go [] (Some r) h = absurd h
    go (v ∷ vs) None h = absurd h
    go (v ∷ vs) (Some r) h = h.0
