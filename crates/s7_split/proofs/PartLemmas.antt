-- Lemmas on the parts of an item: they are its parts.
use Rattle.std.proofs.Common.{◌≡◌, ℕ, zero, suc, ◌+◌, ◌-◌, ◌*◌, ◌/◌, ◌<◌, ◌≤◌, min, Bool, true, eqb, Option, Some, None, List, [], ◌∷◌, refl, sym, ap, ◌∙◌, subst, arith, add-one, mul-suc}
use Rattle.std.specs.Prelude.{is_some, unwrap_or, IfSome, IsSome}
use Rattle.std.specs.Option.{option_map}
use Rattle.std.specs.List.{AllByRecursion}
use Rattle.std.proofs.lemmas.Bool.{cond_both}
use Rattle.s7_item.specs.Word.{Row, row_of, size_of}
use Rattle.s7_item.specs.declared.item.Item.{Item}
use Rattle.s7_split.specs.Parts.{step, room_of, address_after, parts_from, parts_of, count_of, IsAlike, Adjoin, AreFilled, AreParts}

-- a row's size
abbrev IsSized : Option Row → Type 0
IsSized o = IfSome o (λ (r : Row). (0 < r.size) × (r.size ≤ 4))

rows_are_sized : (word : ℕ) → IsSized (row_of word)
rows_are_sized word =
    cond_both (eqb word 1) _ _ IsSized (λ _. (omega arith, omega arith)) (λ _.
    cond_both (eqb word 2) _ _ IsSized (λ _. (omega arith, omega arith)) (λ _.
    cond_both (eqb word 3) _ _ IsSized (λ _. (omega arith, omega arith)) (λ _.
    cond_both (eqb word 4) _ _ IsSized (λ _. (omega arith, omega arith)) (λ _.
    cond_both (eqb word 5) _ _ IsSized (λ _. (omega arith, omega arith)) (λ _.
    cond_both (eqb word 6) _ _ IsSized (λ _. (omega arith, omega arith)) (λ _.
    cond_both (eqb word 7) _ _ IsSized (λ _. (omega arith, omega arith)) (λ _.
    cond_both (eqb word 8) _ _ IsSized (λ _. (omega arith, omega arith)) (λ _.
    cond_both (eqb word 28) _ _ IsSized (λ _. (omega arith, omega arith)) (λ _.
    cond_both (eqb word 29) _ _ IsSized (λ _. (omega arith, omega arith)) (λ _. tt))))))))))

sized_row : (o : Option Row) → IsSized o → is_some (option_map (λ (r : Row). r.size) o) ≡ true → (0 < unwrap_or (option_map (λ (r : Row). r.size) o) 0) × (unwrap_or (option_map (λ (r : Row). r.size) o) 0 ≤ 4)
sized_row None sized known = absurd (cc)
sized_row (Some r) sized known = sized

-- an element of a known word has octets, at most four
pub size_some : (word : ℕ) → IsSome (size_of word) → (0 < unwrap_or (size_of word) 0) × (unwrap_or (size_of word) 0 ≤ 4)
unfolding size_of
size_some word known = sized_row (row_of word) (rows_are_sized word) known

quotient_not_zero : (m s q : ℕ) → 0 < s → s ≤ m → m / s ≡ q → 0 < q
quotient_not_zero m s zero some less is =
    let none : s * (m / s) ≡ s * 0 = ap (λ x. s * x) is in
    absurd (omega (arith, none))
quotient_not_zero m s (suc q) some less is = omega arith

-- a quotient by what is no more than the number
pub quotient_some : (m s : ℕ) → 0 < s → s ≤ m → 0 < m / s
quotient_some m s some less = quotient_not_zero m s (m / s) some less refl

alike_from : (n room : ℕ) (item : Item) (from : ℕ) → 0 < room → from + room * n < item.count → AllByRecursion (IsAlike item) (parts_from (suc n) room item from)
alike_from zero room item from some more = (record { area = refl; db = refl; word = refl; some = omega arith }, tt)
alike_from (suc n) room item from some more = (
  record { area = refl; db = refl; word = refl; some = omega (arith, mul-suc room n) },
  alike_from n room item (from + min room (item.count - from)) some (omega (arith, mul-suc room n)),
)

spread : (a f c s : ℕ) → a + (f + c) * s ≡ a + f * s + c * s
spread a f c s = omega arith

adjoin_from : (n room : ℕ) (item : Item) (from address : ℕ) → item.address + from * step item ≡ address → Adjoin address (parts_from n room item from)
adjoin_from zero room item from address is = tt
adjoin_from (suc n) room item from address is =
    let taken : ℕ = min room (item.count - from) in
    (is, adjoin_from n room item (from + taken) _ (spread item.address from taken (step item)))

whole_from : (n room : ℕ) (item : Item) (from : ℕ) → from + room * n < item.count → item.count ≤ from + room * suc n → count_of (parts_from (suc n) room item from) ≡ item.count - from
whole_from zero room item from more high = omega (arith, mul-suc room 0)
whole_from (suc n) room item from more high =
    let one = mul-suc room n in
    let two = mul-suc room (suc n) in
    let rest = whole_from n room item (from + min room (item.count - from)) (omega arith) (omega arith) in
    omega (arith, rest)

filled_from : (n room : ℕ) (item : Item) (from : ℕ) → from + room * n < item.count → AreFilled room (parts_from (suc n) room item from)
filled_from zero room item from more = omega arith
filled_from (suc n) room item from more =
    let one = mul-suc room n in
    (omega arith, filled_from n room item (from + min room (item.count - from)) (omega arith))

-- how many parts there are
pub counts_low : (count room : ℕ) → 0 < room → 0 < count → room * ((count - 1) / room) < count
counts_low count room some any = omega arith

counts_high : (count room : ℕ) → 0 < room → count ≤ room * suc ((count - 1) / room)
counts_high count room some = omega (arith, mul-suc room ((count - 1) / room))

-- the list of parts, where the room is known
pub parts_at : (item : Item) (pdu : ℕ) (write : Bool) (room : ℕ) (all : List Item) → room ≡ room_of item pdu write → all ≡ parts_from ((item.count - 1) / room + 1) room item 0 → all ≡ parts_of item pdu write
unfolding parts_of
parts_at item pdu write room all same is =
    is ∙ ap (λ x. parts_from ((item.count - 1) / x + 1) x item 0) same

-- the list of parts has the parts
pub are_parts : (item : Item) (pdu : ℕ) (write : Bool) → 0 < item.count → 0 < room_of item pdu write → AreParts item pdu write (parts_of item pdu write)
unfolding parts_of
are_parts item pdu write any some =
    let room : ℕ = room_of item pdu write in
    let n : ℕ = (item.count - 1) / room in
    let low : room * n < item.count = counts_low item.count room some any in
    let high : item.count ≤ room * suc n = counts_high item.count room some in
    subst (λ (x : ℕ). AreParts item pdu write (parts_from x room item 0)) (sym (add-one n)) (record {
      alike = alike_from n room item 0 some (omega (arith, low));
      adjoin = adjoin_from (suc n) room item 0 item.address (omega arith);
      whole = whole_from n room item 0 (omega (arith, low)) (omega (arith, high)) ∙ omega arith;
      filled = filled_from n room item 0 (omega (arith, low));
    })

abbrev item_of : ℕ → ℕ → ℕ → ℕ → ℕ → Item
item_of area db word count address =
    record { area = area; db = db; word = word; count = count; address = address }

same_item : (p q : Item) → p.area ≡ q.area → p.db ≡ q.db → p.word ≡ q.word → p.count ≡ q.count → p.address ≡ q.address → p ≡ q
same_item p q a d w c e =
    ap (λ x. item_of x p.db p.word p.count p.address) a
    ∙ (ap (λ x. item_of q.area x p.word p.count p.address) d
    ∙ (ap (λ x. item_of q.area q.db x p.count p.address) w
    ∙ (ap (λ x. item_of q.area q.db q.word x p.address) c ∙ ap (λ x. item_of q.area q.db q.word q.count x) e)))

alike_same : (item p q : Item) (address : ℕ) → IsAlike item p → IsAlike item q → p.count ≡ q.count → p.address ≡ address → q.address ≡ address → p ≡ q
alike_same item p q address h g c e f =
    same_item p q (h.area ∙ sym g.area) (h.db ∙ sym g.db) (h.word ∙ sym g.word) c (e ∙ sym f)

-- an item has parts in one way only
pub same_parts : (room : ℕ) (item : Item) (address : ℕ) (ps qs : List Item) → AllByRecursion (IsAlike item) ps → AllByRecursion (IsAlike item) qs → Adjoin address ps → Adjoin address qs → count_of ps ≡ count_of qs → AreFilled room ps → AreFilled room qs → ps ≡ qs
same_parts room item address [] [] h g a b c f e = refl
same_parts room item address [] (q ∷ qs) h g a b c f e = absurd (omega (arith, g.0.some, c))
same_parts room item address (p ∷ ps) [] h g a b c f e = absurd (omega (arith, h.0.some, c))
same_parts room item address (p ∷ []) (q ∷ []) h g a b c f e =
    ap (λ x. x ∷ []) (alike_same item p q address h.0 g.0 (omega (arith, c)) a.0 b.0)
same_parts room item address (p ∷ []) (q ∷ r ∷ qs) h g a b c f e = absurd (omega (arith, c, f, e.0, g.1.0.some))
same_parts room item address (p ∷ o ∷ ps) (q ∷ []) h g a b c f e = absurd (omega (arith, c, e, f.0, h.1.0.some))
same_parts room item address (p ∷ o ∷ ps) (q ∷ r ∷ qs) h g a b c f e =
    let first : p ≡ q = alike_same item p q address h.0 g.0 (f.0 ∙ sym e.0) a.0 b.0 in
    let next : Adjoin (address_after q) (o ∷ ps) = subst (λ (x : Item). Adjoin (address_after x) (o ∷ ps)) first a.1 in
    let left : count_of (o ∷ ps) ≡ count_of (r ∷ qs) = omega (arith, c, f.0, e.0) in
    ap (λ x. x ∷ o ∷ ps) first ∙ ap (λ x. q ∷ x) (same_parts room item (address_after q) (o ∷ ps) (r ∷ qs) h.1 g.1 next b.1 left f.1 e.1)
