-- The lines of a windows file one after another.
use Rattle.std.proofs.Common.{◌≡◌, ◌∙◌, ◌+◌, ℕ, Bool, true, false, refl, ap, sym, subst, arith, List, [], ◌∷◌, ◌++◌, length, get_or, map, min, Some, None, Result, Ok, Err, append-nil, append_assoc}
use Rattle.std.specs.Prelude.{◌==◌, ◌||◌, not}
use Rattle.std.specs.Cmp.{IsEquivalence}
use Rattle.std.specs.List.{IsDistinct, list_any}
use Rattle.std.proofs.lemmas.Bool.{and_parts, eqb-true, ne_eqb}
use Rattle.std.proofs.lemmas.Bool.Decides.{nat_tests}
use Rattle.std.proofs.lemmas.List.{length-append, map-append}
use Rattle.std.proofs.lemmas.List.Elements.{filter-append}
use Rattle.std.proofs.lemmas.Map.Keys.{IsDistinct-push}
use Rattle.s7_area.specs.declared.key.AreaKey.{AreaKey}
use Rattle.s7_text.specs.Lines.{Text, is_passed}
use Rattle.s7_relay.specs.File.{FailsBy, IsFirstFault, Say, fault_behind, fault_in, is_met, near_of, said_by, spoken, terms_in}
use Rattle.s7_relay.specs.Keys.{same_key}
use Rattle.s7_relay.specs.Line.{Terms, line_said}
use Rattle.s7_relay.specs.LineShown.{Adds, FailsLine}
use Rattle.s7_relay.specs.declared.fault.WindowKind.{WindowKind}
use Rattle.s7_relay.specs.declared.fault.WindowKind.TheVariants as fault
use Rattle.s7_relay.specs.declared.windows.Window.{Window}

-- ---- names

same_symm : (x y : AreaKey) → same_key x y ≡ same_key y x
same_symm x y = grind (arith, nat_tests)

same_congr : (x y z : AreaKey) → same_key x y ≡ true → same_key x z ≡ same_key y z
same_congr x y z is =
    let both = and_parts (x.area == y.area) (x.number == y.number) is in
    let area = eqb-true x.area y.area both.0 in
    let number = eqb-true x.number y.number both.1 in
    rw (area, number) refl

pub keys_are_equal : IsEquivalence same_key
keys_are_equal = record {
  refl = λ (x : AreaKey). grind (arith, nat_tests);
  symm = same_symm;
  congr = same_congr;
}

-- the name is met among windows, and among what lines say of them
pub met_is : (key : AreaKey) (ws : List Window) → list_any (λ (w : Window). same_key w.near key) ws ≡ is_met key (map terms_in ws)
met_is key [] = refl
met_is key (w ∷ ws) = ap (λ b. same_key w.near key || b) (met_is key ws)

pub met_any : (key : AreaKey) (ws : List Terms) → list_any (same_key key) (map near_of ws) ≡ is_met key ws
met_any key [] = refl
met_any key (w ∷ ws) = (λ i. same_symm key w.near i || met_any key ws i)

-- ---- one line more

-- a window of a new name
pub adds_one : (ws : List Window) (w : Window) (text : Text) → is_passed text ≡ false → line_said text ≡ Ok (terms_in w)
    → is_met w.near (map terms_in ws) ≡ false → Adds (map terms_in ws) text (map terms_in (ws ++ w ∷ []))
adds_one ws w text spoken said new = record {
  faultless = rw (spoken, said, new) refl;
  said = map-append terms_in ws (w ∷ []) ∙ sym (rw (spoken, said) refl);
}

-- a name that was met
pub doubles : (ws : List Window) (w : Window) (text : Text) → is_passed text ≡ false → line_said text ≡ Ok (terms_in w)
    → is_met w.near (map terms_in ws) ≡ true → fault_behind (map terms_in ws) text ≡ Some fault.Double
doubles ws w text spoken said met = rw (spoken, said, met) refl

-- a line that isn't passed over
pub heard : (text : Text) → (length text == 0) ≡ false → (get_or text 0 0 ≡ 35 → ⊥) → is_passed text ≡ false
heard [] some other = absurd (cc some)
heard (b ∷ bs) some other = ne_eqb b 35 other

-- a line that is passed over
pub adds_none : (ws : List Terms) (text : Text) → is_passed text ≡ true → Adds ws text ws
adds_none ws text passed = record {
  faultless = rw passed refl;
  said = sym (rw passed (append-nil ws));
}

double_by : (ws : List Terms) (terms : Terms) (b : Bool) → is_met terms.near ws ≡ b → fault_in ws (Ok terms) ≡ None → b ≡ false
double_by ws terms true is none = absurd (cc (rw is at none))
double_by ws terms false is none = refl

each_more : (texts : List Text) (ws : List Terms) (text : Text) (more : List Terms) → Say texts ws
    → map line_said (spoken (text ∷ [])) ≡ map Ok more → map line_said (spoken (texts ++ text ∷ [])) ≡ map Ok (ws ++ more)
each_more texts ws text more say last =
    ap (map line_said) (filter-append (λ t. not (is_passed t)) texts (text ∷ []))
    ∙ map-append line_said (spoken texts) (spoken (text ∷ []))
    ∙ (λ i. say.each i ++ last i) ∙ sym (map-append Ok ws more)

pub say_more : (texts : List Text) (ws more : List Terms) (text : Text) → Say texts ws → Adds ws text more → Say (texts ++ text ∷ []) more
say_more texts ws more text say adds = subst (Say (texts ++ text ∷ [])) (sym adds.said) (by (is_passed text) refl (line_said text) refl)
  where
    by : (b : Bool) → is_passed text ≡ b → (r : Result Terms WindowKind) → line_said text ≡ r → Say (texts ++ text ∷ []) (ws ++ said_by text)
    by true passed r is =
        let none : [] ≡ said_by text = sym (rw passed refl) in
        subst (λ l. Say (texts ++ text ∷ []) (ws ++ l)) none (record {
          each = each_more texts ws text [] say (rw passed refl);
          apart = subst (λ l. IsDistinct same_key (map near_of l)) (sym (append-nil ws)) say.apart;
        })
    by false heard (Ok terms) is =
        let one : terms ∷ [] ≡ said_by text = sym (rw (heard, is) refl) in
        let new = double_by ws terms (is_met terms.near ws) refl (rw (heard, is) at adds.faultless) in
        subst (λ l. Say (texts ++ text ∷ []) (ws ++ l)) one (record {
          each = each_more texts ws text (terms ∷ []) say (rw heard (rw is refl));
          apart = subst (IsDistinct same_key) (sym (map-append near_of ws (terms ∷ [])))
              (IsDistinct-push keys_are_equal (map near_of ws) terms.near say.apart (met_any terms.near ws ∙ new));
        })
    by false heard (Err kind) is = absurd (cc (rw (heard, is) at adds.faultless))

-- ---- the lines so far

-- those before say these windows, and the next has this number
pub record HasRead (texts rest : List Text) (number : ℕ) (ws : List Terms) : Type 0 where
  pub before : List Text
  pub lines : texts ≡ before ++ rest
  pub said : Say before ws
  pub line : number ≡ min (length before + 1) 4294967295

pub nothing_read : (texts : List Text) → HasRead texts texts 1 []
unfolding IsDistinct
nothing_read texts = record { before = []; lines = refl; said = record { each = refl; apart = tt }; line = refl }

next_number : (n : ℕ) → min (min (n + 1) 4294967295 + 1) 4294967295 ≡ min (n + 1 + 1) 4294967295
next_number n = grind arith

pub one_read : (texts rest : List Text) (text : Text) (line : ℕ) (ws more : List Terms) → HasRead texts (text ∷ rest) line ws
    → Adds ws text more → HasRead texts rest (min (line + 1) 4294967295) more
one_read texts rest text line ws more has adds =
    let count : length (has.before ++ text ∷ []) ≡ length has.before + 1 = length-append has.before (text ∷ []) in
    record {
      before = has.before ++ text ∷ [];
      lines = has.lines ∙ sym (append_assoc has.before (text ∷ []) rest);
      said = say_more has.before ws more text has.said adds;
      line = ap (λ (n : ℕ). min (n + 1) 4294967295) has.line ∙ next_number (length has.before)
          ∙ ap (λ (n : ℕ). min (n + 1) 4294967295) (sym count);
    }

pub all_read : (texts : List Text) (line : ℕ) (ws : List Terms) → HasRead texts [] line ws → Say texts ws
all_read texts line ws has = subst (λ l. Say l ws) (sym (has.lines ∙ append-nil has.before)) has.said

first_by : (texts rest : List Text) (text : Text) (line : ℕ) (ws : List Terms) (kind : WindowKind) → HasRead texts (text ∷ rest) line ws
    → fault_behind ws text ≡ Some kind → IsFirstFault texts (record { line = line; kind = kind })
first_by texts rest text line ws kind has is = record {
  before = has.before;
  text = text;
  after = rest;
  windows = ws;
  lines = has.lines;
  said = has.said;
  kind = is;
  line = has.line;
}

pub one_fails : (texts rest : List Text) (text : Text) (line : ℕ) (ws : List Terms) (kind : WindowKind) → HasRead texts (text ∷ rest) line ws
    → FailsLine ws text kind → FailsBy kind (IsFirstFault texts (record { line = line; kind = kind }))
one_fails texts rest text line ws fault.Fields has is = first_by texts rest text line ws fault.Fields has is
one_fails texts rest text line ws fault.Word has is = first_by texts rest text line ws fault.Word has is
one_fails texts rest text line ws fault.Number has is = first_by texts rest text line ws fault.Number has is
one_fails texts rest text line ws fault.Double has is = first_by texts rest text line ws fault.Double has is
one_fails texts rest text line ws fault.Memory has is = tt
