-- Lines say one list of windows or have one first fault, and not both.
use Rattle.std.proofs.Common.{◌≡◌, ◌∙◌, ◌+◌, Bool, true, false, refl, ap, sym, subst, List, [], ◌∷◌, ◌++◌, length, map, min, Option, Some, None, Result, Ok}
use Rattle.std.specs.Prelude.{not}
use Rattle.std.specs.List.{AllByRecursion, IsDistinct}
use Rattle.std.proofs.lemmas.List.{map-append}
use Rattle.std.proofs.lemmas.List.Elements.{filter-append}
use Rattle.s7_area.specs.declared.key.AreaKey.{AreaKey}
use Rattle.s7_text.specs.Lines.{Text, is_passed}
use Rattle.s7_relay.specs.File.{IsFirstFault, Say, fault_behind, is_met, near_of, spoken}
use Rattle.s7_relay.specs.Keys.{same_key}
use Rattle.s7_relay.specs.Laws.{FilesAreOne}
use Rattle.s7_relay.specs.Line.{Terms, line_said}
use Rattle.s7_relay.specs.declared.fault.WindowFault.{WindowFault}
use Rattle.s7_relay.specs.declared.fault.WindowKind.{WindowKind}

abbrev Answers : Type 0
Answers = List (Result Terms WindowKind)

-- ---- windows

oks : List Terms → Answers
oks ws = map Ok ws

one_list : (ws vs : List Terms) → ◌≡◌ {A = Answers} (map Ok ws) (map Ok vs) → ws ≡ vs
one_list [] [] same = refl
one_list [] (v ∷ vs) same = absurd (cc same)
one_list (w ∷ ws) [] same = absurd (cc same)
one_list (w ∷ ws) (v ∷ vs) same =
    let first : w ≡ v = cc same in
    let rest : ◌≡◌ {A = Answers} (map Ok ws) (map Ok vs) = cc same in
    (λ i. first i ∷ one_list ws vs rest i)

-- a list of windows that begins with these
record Begins (us ws : List Terms) (rest : Answers) : Type 0 where
  behind : List Terms
  whole : ws ≡ us ++ behind
  said : rest ≡ map Ok behind

begins : (us ws : List Terms) (rest : Answers) → ◌≡◌ {A = Answers} (map Ok us ++ rest) (map Ok ws) → Begins us ws rest
begins [] ws rest same = record { behind = ws; whole = refl; said = same }
begins (u ∷ us) [] rest same = absurd (cc same)
begins (u ∷ us) (w ∷ ws) rest same =
    let first : u ≡ w = cc same in
    let more : ◌≡◌ {A = Answers} (map Ok us ++ rest) (map Ok ws) = cc same in
    let next = begins us ws rest more in
    record { behind = next.behind; whole = (λ i. sym first i ∷ next.whole i); said = next.said }

-- ---- a line that is in windows' lines has no fault behind the ones before

at_place : (P : AreaKey → Type 0) (xs ys : List AreaKey) (y : AreaKey) → AllByRecursion P (xs ++ y ∷ ys) → P y
at_place P [] ys y all = all.0
at_place P (x ∷ xs) ys y all = at_place P xs ys y all.1

apart_before : (us vs : List Terms) (v : Terms) → IsDistinct same_key (map near_of (us ++ v ∷ vs)) → is_met v.near us ≡ false
unfolding IsDistinct
apart_before [] vs v apart = refl
apart_before (u ∷ us) vs v apart =
    let whole = map-append near_of us (v ∷ vs) in
    let here = at_place (λ (k : AreaKey). same_key u.near k ≡ false) (map near_of us) (map near_of vs) v.near
    (subst (AllByRecursion (λ (k : AreaKey). same_key u.near k ≡ false)) whole apart.0) in
    rw (here, apart_before us vs v apart.1) refl

spoken_by : (before after : List Text) (text : Text) → is_passed text ≡ false
    → map line_said (spoken (before ++ text ∷ after)) ≡ map line_said (spoken before) ++ line_said text ∷ map line_said (spoken after)
spoken_by before after text heard =
    let here : spoken (text ∷ after) ≡ text ∷ spoken after = rw heard refl in
    ap (map line_said) (filter-append (λ t. not (is_passed t)) before (text ∷ after))
    ∙ map-append line_said (spoken before) (spoken (text ∷ after))
    ∙ ap (λ l. map line_said (spoken before) ++ map line_said l) here

no_fault : (before after : List Text) (text : Text) (us ws : List Terms) → Say before us → Say (before ++ text ∷ after) ws
    → fault_behind us text ≡ None
no_fault before after text us ws first whole = by (is_passed text) refl
  where
    said_by : is_passed text ≡ false → (vs : List Terms) → ws ≡ us ++ vs
        → ◌≡◌ {A = Answers} (line_said text ∷ map line_said (spoken after)) (map Ok vs) → fault_behind us text ≡ None
    said_by heard [] all said = absurd (cc said)
    said_by heard (v ∷ vs) all said =
        let this : line_said text ≡ Ok v = cc said in
        let new = apart_before us vs v (subst (λ l. IsDistinct same_key (map near_of l)) all whole.apart) in
        rw (heard, this, new) refl

    by : (b : Bool) → is_passed text ≡ b → fault_behind us text ≡ None
    by true passed = rw passed refl
    by false heard =
        let same : ◌≡◌ {A = Answers} (map Ok us ++ line_said text ∷ map line_said (spoken after)) (map Ok ws) =
        ap (λ l. l ++ line_said text ∷ map line_said (spoken after)) (sym first.each) ∙ sym (spoken_by before after text heard) ∙ whole.each in
        let is = begins us ws (line_said text ∷ map line_said (spoken after)) same in
        said_by heard is.behind is.whole is.said

either : (texts : List Text) (ws : List Terms) (e : WindowFault) → Say texts ws → IsFirstFault texts e → ⊥
either texts ws e say fails =
    let none = no_fault fails.before fails.after fails.text fails.windows ws fails.said (subst (λ l. Say l ws) fails.lines say) in
    cc (sym none ∙ fails.kind)

-- ---- one first fault

-- where two places of a list are
data Places (a : List Text) (x : Text) (b : List Text) (y : Text) : Type 0 where
  Same : a ≡ b → x ≡ y → Places a x b y
  Sooner : (m : List Text) → b ≡ a ++ x ∷ m → Places a x b y
  Later : (m : List Text) → a ≡ b ++ y ∷ m → Places a x b y

one_on : (t : Text) (a b : List Text) (x y : Text) → Places a x b y → Places (t ∷ a) x (t ∷ b) y
one_on t a b x y (Same p q) = Same (ap (λ l. t ∷ l) p) q
one_on t a b x y (Sooner m p) = Sooner m (ap (λ l. t ∷ l) p)
one_on t a b x y (Later m p) = Later m (ap (λ l. t ∷ l) p)

places : (a b c d : List Text) (x y : Text) → a ++ x ∷ c ≡ b ++ y ∷ d → Places a x b y
places [] [] c d x y same = Same refl (cc same)
places [] (t ∷ b) c d x y same =
    let first : x ≡ t = cc same in
    Sooner b (λ i. sym first i ∷ b)
places (t ∷ a) [] c d x y same =
    let first : t ≡ y = cc same in
    Later a (λ i. first i ∷ a)
places (t ∷ a) (u ∷ b) c d x y same =
    let first : t ≡ u = cc same in
    let rest : a ++ x ∷ c ≡ b ++ y ∷ d = cc same in
    subst (λ (v : Text). Places (t ∷ a) x (v ∷ b) y) first (one_on t a b x y (places a b c d x y rest))

-- no fault comes in lines that say windows
not_in : (before middle : List Text) (text : Text) (us ws : List Terms) (kind : WindowKind) → Say before us → fault_behind us text ≡ Some kind
    → Say (before ++ text ∷ middle) ws → ⊥
not_in before middle text us ws kind first is whole = cc (sym (no_fault before middle text us ws first whole) ∙ is)

one_fault : (texts : List Text) (e d : WindowFault) → IsFirstFault texts e → IsFirstFault texts d → e ≡ d
one_fault texts e d a b = by (places a.before b.before a.after b.after a.text b.text (sym a.lines ∙ b.lines))
  where
    by : Places a.before a.text b.before b.text → e ≡ d
    by (Same before text) =
        let windows = one_list a.windows b.windows (sym a.said.each ∙ ap (λ l. map line_said (spoken l)) before ∙ b.said.each) in
        let kinds : ◌≡◌ {A = Option WindowKind} (Some e.kind) (Some d.kind) = sym a.kind ∙ (λ i. fault_behind (windows i) (text i)) ∙ b.kind in
        let kind : e.kind ≡ d.kind = cc kinds in
        let line : e.line ≡ d.line = a.line ∙ ap (λ (l : List Text). min (length l + 1) 4294967295) before ∙ sym b.line in
        (λ i. record { line = line i; kind = kind i })
    by (Sooner m before) =
        absurd (not_in a.before m a.text a.windows b.windows e.kind a.said a.kind (subst (λ l. Say l b.windows) before b.said))
    by (Later m before) =
        absurd (not_in b.before m b.text b.windows a.windows d.kind b.said b.kind (subst (λ l. Say l a.windows) before a.said))

pub files_one : FilesAreOne
files_one = record {
  windows = λ texts ws vs a b. one_list ws vs (sym a.each ∙ b.each);
  fault = one_fault;
  either = either;
}
