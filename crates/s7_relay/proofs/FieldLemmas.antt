-- The first field of a line.
use Rattle.std.proofs.Common.{◌≡◌, ◌∙◌, ◌+◌, ℕ, suc, Bool, true, false, refl, ap, sym, subst, arith, List, [], ◌∷◌, length, take, drop, Option, Some, None, inl, inr, cond}
use Rattle.std.specs.Prelude.{◌==◌, IfNone, IfSome, nat_lt, option_map}
use Rattle.std.specs.List.{position, position_or_len}
use Rattle.std.proofs.lemmas.Bool.{lt-ltb}
use Rattle.std.proofs.lemmas.Bool.Decides.{eqb_tells}
use Rattle.s7_text.specs.Fields.{fields_after, first_field, is_space}
use Rattle.s7_text.specs.Lines.{Text, with_first}
use Rattle.s7_relay.specs.Line.{around_sign, fields}

-- the fields of what follows the first space
abbrev more : Option Text → List Text
more None = []
more (Some rest) = fields rest

abbrev cut : Text → Option ℕ → List Text
cut text end = first_field text end ∷ more (fields_after text end)

-- the first space is one further on behind another octet
moved : (n m : ℕ) → (cond (nat_lt (1 + n) (suc m)) (Some (1 + n)) None) ≡ option_map suc (cond (nat_lt n m) (Some n) None)
moved n m = by (nat_lt n m) (cond_same n m)
  where
    cond_same : (n m : ℕ) → nat_lt (1 + n) (suc m) ≡ nat_lt n m
    cond_same n m = grind arith

    by : (b : Bool) → nat_lt (1 + n) (suc m) ≡ b → (cond (nat_lt (1 + n) (suc m)) (Some (1 + n)) None) ≡ option_map suc (cond b (Some n) None)
    by true is = rw is (ap Some (omega arith))
    by false is = rw is refl

place_on : (b : ℕ) (bs : Text) → (b == 32) ≡ false → position is_space (b ∷ bs) ≡ option_map suc (position is_space bs)
place_on b bs other = rw other (moved (position_or_len is_space bs) (length bs))

joined : (b : ℕ) (bs : Text) (end : Option ℕ) → with_first b (cut bs end) ≡ cut (b ∷ bs) (option_map suc end)
joined b bs None = refl
joined b bs (Some n) =
    let on : suc (n + 1) ≡ suc n + 1 = omega arith in
    (λ i. (b ∷ take n bs) ∷ fields (drop (on i) (b ∷ bs)))

cut_first : (text : Text) → fields text ≡ cut text (position is_space text)
cut_first [] = refl
cut_first (b ∷ bs) = elim (eqb_tells b 32) [
  | inl is ↦
      let here : position is_space (b ∷ bs) ≡ Some 0 = rw (is.0, lt-ltb 0 (suc (length bs)) (omega arith)) refl in
      let on : fields (b ∷ bs) ≡ [] ∷ fields bs = rw is.0 refl in
      on ∙ ap (cut (b ∷ bs)) (sym here)
  | inr other ↦
      let on : fields (b ∷ bs) ≡ with_first b (fields bs) = rw other.0 refl in
      on ∙ ap (with_first b) (cut_first bs) ∙ joined b bs (position is_space bs) ∙ ap (cut (b ∷ bs)) (sym (place_on b bs other.0))
]

-- a field before others
field_more : (text near rest : Text) (after : Option Text) → near ≡ first_field text (position is_space text)
    → after ≡ fields_after text (position is_space text) → after ≡ Some rest → fields text ≡ near ∷ fields rest
field_more text near rest after first behind is =
    cut_first text ∙ (λ i. sym first i ∷ more ((sym behind ∙ is) i))

-- the last field
field_last : (text near : Text) (after : Option Text) → near ≡ first_field text (position is_space text)
    → after ≡ fields_after text (position is_space text) → after ≡ None → fields text ≡ near ∷ []
field_last text near after first behind is =
    cut_first text ∙ (λ i. sym first i ∷ more ((sym behind ∙ is) i))

-- what stands behind a field, where something does
pub rest_more : {B : Type 0} (now : B → Text) (text near : Text) (o : Option B) → near ≡ first_field text (position is_space text)
    → option_map now o ≡ fields_after text (position is_space text) → IfSome o (λ t. fields text ≡ near ∷ fields (now t))
rest_more now text near None first behind = tt
rest_more now text near (Some t) first behind = field_more text near (now t) (Some (now t)) first behind refl

pub rest_last : {B : Type 0} (now : B → Text) (text near : Text) (o : Option B) → near ≡ first_field text (position is_space text)
    → option_map now o ≡ fields_after text (position is_space text) → IfNone o (fields text ≡ near ∷ [])
rest_last now text near None first behind = field_last text near None first behind refl
rest_last now text near (Some t) first behind = tt

-- what holds of what is there
pub on_some : {B : Type 0} (o : Option B) (P : B → Type 0) (x : B) → o ≡ Some x → IfSome o P → P x
on_some o P x is holds = subst (λ (q : Option _). IfSome q P) is holds

-- ---- the fields are too many

record IsMore (texts : List Text) : Type 0 where
  first : Text
  others : List Text
  whole : texts ≡ first ∷ others

with_more : (b : ℕ) (texts : List Text) → IsMore texts → IsMore (with_first b texts)
with_more b texts is = record { first = b ∷ is.first; others = is.others; whole = ap (with_first b) is.whole }

some_field : (text : Text) → IsMore (fields text)
some_field [] = record { first = []; others = []; whole = refl }
some_field (b ∷ bs) = by (b == 32) (some_field bs)
  where
    by : (is : Bool) → IsMore (fields bs) → IsMore (cond is ([] ∷ fields bs) (with_first b (fields bs)))
    by true more = record { first = []; others = fields bs; whole = refl }
    by false more = with_more b (fields bs) more

pub too_many : (a b c d e text : Text) → around_sign (a ∷ b ∷ c ∷ d ∷ e ∷ fields text) ≡ None
too_many a b c d e text =
    let is = some_field text in
    ap (λ l. around_sign (a ∷ b ∷ c ∷ d ∷ e ∷ l)) is.whole
