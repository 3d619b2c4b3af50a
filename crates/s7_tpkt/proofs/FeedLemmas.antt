-- How a cutter takes octets.
use Rattle.std.proofs.Common.{◌≡◌, ◌≢◌, ℕ, zero, suc, ◌+◌, ◌-◌, ◌*◌, ◌<◌, ◌≤◌, ◌⊎◌, inl, inr, true, false, cond, ◌==◌, nat_lt, List, [], ◌∷◌, ◌++◌, length, take, drop, get_or, refl, ap, sym, ◌∙◌, subst, append_assoc, arith, length-append, take-add, length-take-le}
use Rattle.std.proofs.lemmas.List.{append-nil, take_more}
use Rattle.std.proofs.lemmas.Slice.{take-put_mid}
use borrow.Rule.Slice.PartMut.{put_mid}
use Rattle.std.proofs.lemmas.Bool.{cases_lt}
use Rattle.std.proofs.lemmas.Bool.Decides.{nat_tests}
use Rattle.s7_tpkt.specs.declared.state.FedState.{FedState}
use Rattle.s7_tpkt.specs.declared.state.FedState.TheVariants.{Whole, More, BadVersion, BadLength, TooLong}
use Rattle.s7_tpkt.specs.Packets.{IsPacket, state_of, state_by, if_begun}
use Rattle.s7_tpkt.specs.Front.{wanted, IsShownAt}
use Rattle.s7_tpkt.specs.Cut.{Cut}

more_by : (limit size held : ℕ) → state_by limit size held ≡ More → (held < size) × (size ≤ limit) × (7 ≤ size) × ((more : ℕ) → more < size → state_by limit size more ≡ More)
more_by limit size held h = (grind (arith, nat_tests), grind (arith, nat_tests), grind (arith, nat_tests), λ more lt. grind (arith, nat_tests))

begun_open : (v : ℕ) (s : FedState) → if_begun v s ≡ More → (v ≡ 3) × (s ≡ More)
begun_open v s h = grind (arith, nat_tests)

more_is : (limit size held : ℕ) → 7 ≤ size → size ≤ limit → held < size → state_by limit size held ≡ More
more_is limit size held least most lt = grind (arith, nat_tests)

whole_is : (limit size held : ℕ) → 7 ≤ size → size ≤ limit → size ≤ held → state_by limit size held ≡ Whole
whole_is limit size held least most le = grind (arith, nat_tests)

whole_of : (limit size held : ℕ) → state_by limit size held ≡ Whole → (7 ≤ size) × (size ≤ limit) × (size ≤ held)
whole_of limit size held h = (grind (arith, nat_tests), grind (arith, nat_tests), grind (arith, nat_tests))

begun_whole : (v : ℕ) (s : FedState) → if_begun v s ≡ Whole → (v ≡ 3) × (s ≡ Whole)
begun_whole v s h = grind (arith, nat_tests)

-- something is wanted, and there is room for it
pub wanted_some : (limit : ℕ) (held : List ℕ) → state_of limit held ≡ More → 0 < wanted held
wanted_some limit [] h = omega arith
wanted_some limit (v ∷ []) h = omega arith
wanted_some limit (v ∷ r ∷ []) h = omega arith
wanted_some limit (v ∷ r ∷ hi ∷ []) h = omega arith
wanted_some limit (v ∷ r ∷ hi ∷ lo ∷ body) h =
    let e = begun_open v (state_by limit (256 * hi + lo) (length body + 4)) h in
    let m = more_by limit (256 * hi + lo) (length body + 4) e.1 in
    omega (arith, m.0)

pub wanted_room : (limit : ℕ) (held : List ℕ) → state_of limit held ≡ More → 7 ≤ limit → length held + wanted held ≤ limit
wanted_room limit [] h l = omega arith
wanted_room limit (v ∷ []) h l = omega arith
wanted_room limit (v ∷ r ∷ []) h l = omega arith
wanted_room limit (v ∷ r ∷ hi ∷ []) h l = omega arith
wanted_room limit (v ∷ r ∷ hi ∷ lo ∷ body) h l =
    let e = begun_open v (state_by limit (256 * hi + lo) (length body + 4)) h in
    let m = more_by limit (256 * hi + lo) (length body + 4) e.1 in
    omega (arith, m.0, m.1)

-- fewer octets than are wanted show nothing
pub wanted_more : (limit : ℕ) (held octets : List ℕ) → state_of limit held ≡ More → length octets < wanted held → state_of limit (held ++ octets) ≡ More
wanted_more limit [] [] h l = h
wanted_more limit [] (x ∷ octets) h l = absurd (omega (arith, l))
wanted_more limit (v ∷ []) [] h l = h
wanted_more limit (v ∷ []) (x ∷ octets) h l = absurd (omega (arith, l))
wanted_more limit (v ∷ r ∷ []) [] h l = h
wanted_more limit (v ∷ r ∷ []) (x ∷ octets) h l = absurd (omega (arith, l))
wanted_more limit (v ∷ r ∷ hi ∷ []) [] h l = h
wanted_more limit (v ∷ r ∷ hi ∷ []) (x ∷ octets) h l = absurd (omega (arith, l))
wanted_more limit (v ∷ r ∷ hi ∷ lo ∷ body) octets h l =
    let e = begun_open v (state_by limit (256 * hi + lo) (length body + 4)) h in
    let m = more_by limit (256 * hi + lo) (length body + 4) e.1 in
    ap (λ n. if_begun n (state_by limit (256 * hi + lo) (length (body ++ octets) + 4))) e.0
    ∙ m.3 (length (body ++ octets) + 4) (omega (arith, l, length-append body octets))

-- what is whole when no more than is wanted was added is a packet, and not more
whole_short : (limit : ℕ) (v : ℕ) → if_begun v More ≡ Whole → ⊥
whole_short limit v h = let e = (begun_whole v More h).1 in cc

pub wanted_whole : (limit : ℕ) (held octets : List ℕ) → state_of limit held ≡ More → length octets ≤ wanted held → state_of limit (held ++ octets) ≡ Whole → IsPacket limit (held ++ octets)
wanted_whole limit [] [] h l w = cc
wanted_whole limit [] (x ∷ []) h l w = absurd (whole_short limit x w)
wanted_whole limit [] (x ∷ y ∷ octets) h l w = absurd (omega (arith, l))
wanted_whole limit (v ∷ []) [] h l w = absurd (whole_short limit v w)
wanted_whole limit (v ∷ []) (x ∷ []) h l w = absurd (whole_short limit v w)
wanted_whole limit (v ∷ []) (x ∷ y ∷ octets) h l w = absurd (omega (arith, l))
wanted_whole limit (v ∷ r ∷ []) [] h l w = absurd (whole_short limit v w)
wanted_whole limit (v ∷ r ∷ []) (x ∷ []) h l w = absurd (whole_short limit v w)
wanted_whole limit (v ∷ r ∷ []) (x ∷ y ∷ octets) h l w = absurd (omega (arith, l))
wanted_whole limit (v ∷ r ∷ hi ∷ []) [] h l w = absurd (whole_short limit v w)
wanted_whole limit (v ∷ r ∷ hi ∷ []) (x ∷ []) h l w =
    let e = begun_whole v (state_by limit (256 * hi + x) 4) w in
    let f = whole_of limit (256 * hi + x) 4 e.1 in
    absurd (omega (arith, f.0, f.2))
wanted_whole limit (v ∷ r ∷ hi ∷ []) (x ∷ y ∷ octets) h l w = absurd (omega (arith, l))
wanted_whole limit (v ∷ r ∷ hi ∷ lo ∷ body) octets h l w =
    let e = begun_whole v (state_by limit (256 * hi + lo) (length (body ++ octets) + 4)) w in
    let f = whole_of limit (256 * hi + lo) (length (body ++ octets) + 4) e.1 in
    let o = begun_open v (state_by limit (256 * hi + lo) (length body + 4)) h in
    let m = more_by limit (256 * hi + lo) (length body + 4) o.1 in
    let s : 256 * hi + lo ≡ length (body ++ octets) + 4 = omega (arith, f.2, m.0, l, length-append body octets) in
    (e.0, s, omega (arith, f.0, s), omega (arith, f.1, s))

-- the same, where the octets are what is taken of a piece
pub fill_earliest : (limit : ℕ) (held piece : List ℕ) (taken : ℕ) → state_of limit held ≡ More → taken ≤ wanted held → taken ≤ length piece
    → (k : ℕ) → k < taken → state_of limit (held ++ take k piece) ≡ More
fill_earliest limit held piece taken h w l k lt =
    wanted_more limit held (take k piece) h (omega (arith, length-take-le k piece (omega (arith, l, lt)), w, lt))

-- earliest in one piece, and then in what stands behind it
pub earliest_both : (limit : ℕ) (held now piece : List ℕ) (taken more : ℕ) → now ≡ held ++ take taken piece
    → ((k : ℕ) → k < taken → state_of limit (held ++ take k piece) ≡ More)
    → ((k : ℕ) → k < more → state_of limit (now ++ take k (drop taken piece)) ≡ More)
    → (k : ℕ) → k < taken + more → state_of limit (held ++ take k piece) ≡ More
earliest_both limit held now piece taken more is first second k lt =
    elim (cases_lt k taken) [
      | inl l ↦ first k l
      | inr l ↦
          let j = k - taken in
          let at : k ≡ taken + j = omega (arith, l) in
          let shown : held ++ take k piece ≡ now ++ take j (drop taken piece) =
          ap (λ n. held ++ take n piece) at ∙ ap (λ x. held ++ x) (take-add taken j piece)
          ∙ sym (append_assoc held (take taken piece) (take j (drop taken piece)))
          ∙ ap (λ x. x ++ take j (drop taken piece)) (sym is) in
          ap (state_of limit) shown ∙ second j (omega (arith, l, lt))
    ]

-- nothing is taken where more isn't wanted
pub none_taken : (limit : ℕ) (held piece : List ℕ) (taken : ℕ) → ((k : ℕ) → k < taken → state_of limit (held ++ take k piece) ≡ More)
    → state_of limit held ≢ More → taken ≡ 0
none_taken limit held piece zero earliest h = refl
none_taken limit held piece (suc taken) earliest h =
    absurd (h (ap (state_of limit) (sym (append-nil held)) ∙ earliest 0 (omega arith)))

-- where a fault shows
shown_calm : (s : FedState) (n : ℕ) → (s ≡ More) ⊎ (s ≡ Whole) → IsShownAt s n
shown_calm s n (inl e) = subst (λ (x : FedState). IsShownAt x n) (sym e) tt
shown_calm s n (inr e) = subst (λ (x : FedState). IsShownAt x n) (sym e) tt

shown_begun : (v : ℕ) → IsShownAt (if_begun v More) 1
shown_begun v = elim (v == 3) as (λ t. IsShownAt (cond t More BadVersion) 1) [ true ↦ tt | false ↦ refl ]

shown_by : (limit size held : ℕ) → IsShownAt (state_by limit size held) 4
shown_by limit size held =
    elim (nat_lt size 7) as (λ t. IsShownAt (cond t BadLength (cond (nat_lt limit size) TooLong (cond (nat_lt held size) More Whole))) 4) [
      | true ↦ refl
      | false ↦ elim (nat_lt limit size) as (λ t. IsShownAt (cond t TooLong (cond (nat_lt held size) More Whole)) 4) [
        | true ↦ refl
        | false ↦ elim (nat_lt held size) as (λ t. IsShownAt (cond t More Whole) 4) [ true ↦ tt | false ↦ tt ]
      ]
    ]

calm_by : (limit size held : ℕ) → 7 ≤ size → size ≤ limit → (state_by limit size held ≡ More) ⊎ (state_by limit size held ≡ Whole)
calm_by limit size held least most =
    elim (cases_lt held size) [
      | inl l ↦ inl (more_is limit size held least most l)
      | inr l ↦ inr (whole_is limit size held least most l)
    ]

shown_open : (v : ℕ) (s : FedState) (n : ℕ) → v ≡ 3 → IsShownAt s n → IsShownAt (if_begun v s) n
shown_open v s n e h = subst (λ (x : ℕ). IsShownAt (if_begun x s) n) (sym e) h

shown_next : (limit : ℕ) (held : List ℕ) (x : ℕ) → state_of limit held ≡ More → IsShownAt (state_of limit (held ++ x ∷ [])) (length (held ++ x ∷ []))
shown_next limit [] x h = shown_begun x
shown_next limit (v ∷ []) x h = shown_open v More 2 (begun_open v More h).0 tt
shown_next limit (v ∷ r ∷ []) x h = shown_open v More 3 (begun_open v More h).0 tt
shown_next limit (v ∷ r ∷ hi ∷ []) x h = shown_open v (state_by limit (256 * hi + x) 4) 4 (begun_open v More h).0 (shown_by limit (256 * hi + x) 4)
shown_next limit (v ∷ r ∷ hi ∷ lo ∷ body) x h =
    let e = begun_open v (state_by limit (256 * hi + lo) (length body + 4)) h in
    let m = more_by limit (256 * hi + lo) (length body + 4) e.1 in
    let now = length (body ++ x ∷ []) + 4 in
    shown_open v (state_by limit (256 * hi + lo) now) (length (v ∷ r ∷ hi ∷ lo ∷ (body ++ x ∷ []))) e.0
    (shown_calm (state_by limit (256 * hi + lo) now) _ (calm_by limit (256 * hi + lo) now m.2 m.1))

pub shown_at : (limit : ℕ) (held now piece : List ℕ) (taken : ℕ) (s : FedState) → taken ≤ length piece → now ≡ held ++ take taken piece → s ≡ state_of limit now
    → ((k : ℕ) → k < taken → state_of limit (held ++ take k piece) ≡ More) → 0 < taken → IsShownAt s (length now)
shown_at limit held now piece taken s l is e earliest some =
    let k = taken - 1 in
    let at : taken ≡ k + 1 = omega (arith, some) in
    let x = get_or piece k 0 in
    let ends : now ≡ (held ++ take k piece) ++ x ∷ [] =
    is ∙ ap (λ n. held ++ take n piece) at ∙ ap (λ t. held ++ t) (take_more piece k 0 (omega (arith, some, l)))
    ∙ sym (append_assoc held (take k piece) (x ∷ [])) in
    let P : FedState → List ℕ → Type 0 = λ t n. IsShownAt t (length n) in
    subst (λ (t : FedState). P t now) (sym e)
    (subst (λ (n : List ℕ). P (state_of limit n) n) (sym ends) (shown_next limit (held ++ take k piece) x (earliest k (omega (arith, some)))))

-- what a copy of no more than is wanted leaves
pub filled : (limit len taken part : ℕ) (octets copied : List ℕ) → len ≤ length octets → state_of limit (take len octets) ≡ More → taken ≤ wanted (take len octets) → length copied ≡ taken
    → state_of limit (take (len + taken) (put_mid len part octets copied)) ≡ Whole → IsPacket limit (take (len + taken) (put_mid len part octets copied))
filled limit len taken part octets copied l h w n =
    let e = take-put_mid len part octets copied (len + taken) (omega (arith, n)) l in
    subst (λ (x : List ℕ). state_of limit x ≡ Whole → IsPacket limit x) (sym e) (wanted_whole limit (take len octets) copied h (omega (arith, n, w)))

-- where no more was wanted, all stays
pub still_at : (limit limit' : ℕ) (held held' piece : List ℕ) (taken : ℕ) (s : FedState) → held' ≡ held ++ take taken piece → limit' ≡ limit → s ≡ state_of limit' held'
    → ((k : ℕ) → k < taken → state_of limit (held ++ take k piece) ≡ More) → state_of limit held ≢ More
    → (taken ≡ 0) × (s ≡ state_of limit held) × (held' ≡ held)
still_at limit limit' held held' piece taken s is same shows earliest h =
    let none = none_taken limit held piece taken earliest h in
    let kept : held' ≡ held = is ∙ ap (λ n. held ++ take n piece) none ∙ append-nil held in
    (none, shows ∙ ap (λ l. state_of l held') same ∙ ap (state_of limit) kept, kept)

-- what was taken in two steps
pub filled_behind : (held now next piece : List ℕ) (taken more : ℕ) → now ≡ held ++ take taken piece → next ≡ now ++ take more (drop taken piece) → next ≡ held ++ take (taken + more) piece
filled_behind held now next piece taken more first second =
    second ∙ ap (λ x. x ++ take more (drop taken piece)) first ∙ append_assoc held (take taken piece) (take more (drop taken piece))
    ∙ ap (λ x. held ++ x) (sym (take-add taken more piece))

pub same_cut : (a b : Cut) → a.held ≡ b.held → a.limit ≡ b.limit → a ≡ b
same_cut a b h l =
    let f : List ℕ → Cut = λ x. record { held = x; limit = a.limit } in
    let g : ℕ → Cut = λ x. record { held = b.held; limit = x } in
    ap f h ∙ ap g l
