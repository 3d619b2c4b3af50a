-- The pairs of a message cut it, and no others do.
use Rattle.std.proofs.Common.{◌≡◌, ℕ, zero, suc, ◌+◌, ◌-◌, ◌*◌, ◌/◌, ◌<◌, ◌≤◌, min, max, List, [], ◌∷◌, ap, subst, ◌∙◌, sym, arith, add-one, mul-suc}
use Rattle.std.specs.List.{AllByRecursion}
use Rattle.s7_cotp.specs.Pairs.{IsPart, IsCut, pairs_from, pairs_of, fragments_of}

cut_from : (n room from to : ℕ) → from ≤ to → to ≤ from + room * suc n → (0 < n → from + room * n < to) → IsCut room from to (pairs_from (suc n) room from to)
cut_from zero room from to low high more =
    let most : to ≤ from + room = omega (arith, high, mul-suc room 0) in
    let e : min (from + room) to ≡ to = omega (arith, most) in
    (ap (λ x. (from, x)) e, low, most)
cut_from (suc n) room from to low high more =
    let step : room * suc n ≡ room * n + room = mul-suc room n in
    let last : room * suc (suc n) ≡ room * suc n + room = mul-suc room (suc n) in
    let above : from + room * suc n < to = more (omega arith) in
    let passes : from + room < to = omega (arith, step, above) in
    let e : min (from + room) to ≡ from + room = omega (arith, passes) in (
      ap (λ x. (from, x)) e,
      passes,
      subst (λ (x : ℕ). IsCut room (from + room) to (pairs_from (suc n) room x to)) (sym e)
          (cut_from n room (from + room) to (omega (arith, passes)) (omega (arith, high, last)) (λ h. omega (arith, step, above))),
    )

counts : (len room : ℕ) → 0 < room → (len ≤ room * suc ((max len 1 - 1) / room)) × (0 < (max len 1 - 1) / room → room * ((max len 1 - 1) / room) < len)
counts len room some =
    let q = (max len 1 - 1) / room in
    let s = mul-suc room q in
    (omega (arith, s), λ h. omega arith)

pub pairs_cut : (len tpdu : ℕ) → 4 ≤ tpdu → IsCut (tpdu - 3) 0 len (pairs_of len tpdu)
unfolding pairs_of
pairs_cut len tpdu least =
    let room = tpdu - 3 in
    let q = (max len 1 - 1) / room in
    let c = counts len room (omega arith) in
    subst (λ (x : ℕ). IsCut room 0 len (pairs_from x room 0 len)) (sym (add-one q))
    (cut_from q room 0 len (omega arith) (omega (arith, c.0)) (λ h. omega (arith, c.1 h)))

pub same_cut : (room from to : ℕ) (ps qs : List (ℕ × ℕ)) → IsCut room from to ps → IsCut room from to qs → ps ≡ qs
same_cut room from to [] qs h g = absurd h
same_cut room from to (p ∷ ps) [] h g = absurd g
same_cut room from to (p ∷ []) (q ∷ []) h g = ap (λ x. x ∷ []) (h.0 ∙ sym g.0)
same_cut room from to (p ∷ []) (q ∷ r ∷ qs) h g = absurd (omega (arith, h.2, g.1))
same_cut room from to (p ∷ o ∷ ps) (q ∷ []) h g = absurd (omega (arith, h.1, g.2))
same_cut room from to (p ∷ o ∷ ps) (q ∷ r ∷ qs) h g =
    ap (λ x. x ∷ o ∷ ps) (h.0 ∙ sym g.0) ∙ ap (λ x. q ∷ x) (same_cut room (from + room) to (o ∷ ps) (r ∷ qs) h.2 g.2)

pub cut_at : (len tpdu : ℕ) (ps : List (ℕ × ℕ)) → 4 ≤ tpdu → ps ≡ pairs_from (fragments_of len (tpdu - 3)) (tpdu - 3) 0 len → IsCut (tpdu - 3) 0 len ps
unfolding pairs_of
cut_at len tpdu ps least e = subst (λ (x : List (ℕ × ℕ)). IsCut (tpdu - 3) 0 len x) (sym e) (pairs_cut len tpdu least)

pub cut_parts : (room from to : ℕ) (ps : List (ℕ × ℕ)) → IsCut room from to ps → AllByRecursion (IsPart room to) ps
cut_parts room from to [] h = absurd h
cut_parts room from to (p ∷ []) h =
    let P : ℕ × ℕ → Type 0 = IsPart room to in
    (subst P (sym h.0) (record { order = h.1; fits = h.2; within = omega arith }), tt)
cut_parts room from to (p ∷ q ∷ ps) h =
    let P : ℕ × ℕ → Type 0 = IsPart room to in
    (subst P (sym h.0) (record { order = omega arith; fits = omega arith; within = omega (arith, h.1) }), cut_parts room (from + room) to (q ∷ ps) h.2)
