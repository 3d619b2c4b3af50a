-- Slices that are joined, one by one.
use Rattle.std.proofs.Common.{◌≡◌, ℕ, ◌+◌, ◌≤◌, ◌<◌, Bool, true, false, cond, eqb, ◌||◌, ◌&&◌, not, List, [], ◌∷◌, ◌++◌, length, inl, inr, refl, ap, ◌∙◌, sym, arith, append_assoc, append-nil, length-append, Some}
use Rattle.std.specs.List.{AllByRecursion, concat}
use Rattle.std.proofs.lemmas.Bool.{cases_Bool, le-ltb, ne_eqb}
use Rattle.s7_szl.specs.Images.{image_of, adds_up}
use Rattle.s7_szl.specs.Joined.{Joined, begun, is_whole, is_bad}
use Rattle.s7_szl.specs.Joining.{Piece, most_joined, open_octets, is_refused, is_list_refused, joined_with, with_plain, tested, with_piece, with_each, fronts_of, pieces_of}
use Rattle.s7_szl.specs.declared.join.SzlAdded.{SzlAdded}
use Rattle.s7_szl.specs.declared.join.SzlAdded.TheVariants.{More, Whole, Bad}
use Rattle.s7_szl.proofs.TableLemmas.{images_add_up, images_are_short}

abbrev front_of : List ℕ → Piece
front_of front = record { octets = front; more = true }

abbrev last_of : List ℕ → Piece
last_of last = record { octets = last; more = false }

-- a slice that isn't refused is joined
takes : (j : Joined) (p : Piece) → is_bad j.state ≡ false → is_refused (open_octets j) p ≡ false
    → with_plain j p ≡ record { octets = open_octets j ++ p.octets; state = cond p.more More Whole }
takes j p b r =
    ap (λ x. cond x j (joined_with (open_octets j) p)) b
    ∙ ap (λ x. cond x (record { octets = open_octets j; state = Bad }) (record { octets = open_octets j ++ p.octets; state = cond p.more More Whole })) r

-- one that is refused is not
refuses : (j : Joined) (p : Piece) → is_bad j.state ≡ false → is_refused (open_octets j) p ≡ true → with_plain j p ≡ record { octets = open_octets j; state = Bad }
refuses j p b r =
    ap (λ x. cond x j (joined_with (open_octets j) p)) b
    ∙ ap (λ x. cond x (record { octets = open_octets j; state = Bad }) (record { octets = open_octets j ++ p.octets; state = cond p.more More Whole })) r

front_fits : (octets front : List ℕ) → 0 < length front → length octets + length front ≤ 8448 → is_refused octets (front_of front) ≡ false
front_fits octets front h f =
    ap (λ b. b || eqb (length front) 0) (le-ltb most_joined (length octets + length front) f)
    ∙ ne_eqb (length front) 0 (λ e. absurd (omega arith))

last_fits : (octets last : List ℕ) → length octets + length last ≤ 8448 → is_refused octets (last_of last) ≡ false
last_fits octets last f = ap (λ b. b || false) (le-ltb most_joined (length octets + length last) f)

one_more : (octets front last : List ℕ) (fronts : List (List ℕ)) → (octets ++ front) ++ (concat fronts ++ last) ≡ octets ++ (concat (front ∷ fronts) ++ last)
one_more octets front last fronts = simp append_assoc

pub joins : (j : Joined) (fronts : List (List ℕ)) (last : List ℕ) → is_bad j.state ≡ false → AllByRecursion (λ front. 0 < length front) fronts
    → length (open_octets j ++ (concat fronts ++ last)) ≤ 8448
    → with_each with_plain j (pieces_of fronts last) ≡ record { octets = open_octets j ++ (concat fronts ++ last); state = Whole }
joins j [] last b h f = takes j (last_of last) b (last_fits (open_octets j) last (omega (arith, length-append (open_octets j) last)))
joins j (front ∷ fronts) last b h f =
    let octets = open_octets j in
    let next : Joined = record { octets = octets ++ front; state = More } in
    let same = one_more octets front last fronts in
    let fits = front_fits octets front h.0 (omega (arith, ap length same, length-append (octets ++ front) (concat fronts ++ last), length-append octets front)) in
    ap (λ k. with_each with_plain k (pieces_of fronts last)) (takes j (front_of front) b fits)
    ∙ joins next fronts last refl h.1 (omega (arith, ap length same))
    ∙ ap (λ x. record { octets = x; state = Whole }) same

-- a join at fault is neither added to nor tested
bad_is_not_whole : (state : SzlAdded) → is_bad state ≡ true → is_whole state ≡ false
bad_is_not_whole More b = refl
bad_is_not_whole Whole b = cc
bad_is_not_whole Bad b = refl

pub keeps : (j : Joined) (p : Piece) → is_bad j.state ≡ true → with_plain j p ≡ j
keeps j p b = ap (λ x. cond x j (joined_with (open_octets j) p)) b

never_whole : (state : SzlAdded) → is_bad state ≡ true → state ≡ Whole → ⊥
never_whole More b w = cc
never_whole Whole b w = cc
never_whole Bad b w = cc

all_stay : (j : Joined) (ps : List Piece) → is_bad j.state ≡ true → with_each with_plain j ps ≡ j
all_stay j [] b = refl
all_stay j (p ∷ ps) b = ap (λ k. with_each with_plain k ps) (keeps j p b) ∙ all_stay j ps b

untested : (j : Joined) → is_bad j.state ≡ true → tested j ≡ j
untested j b = ap (λ w. cond (w && not (adds_up j.octets)) (record { octets = j.octets; state = Bad }) j) (bad_is_not_whole j.state b)

-- slices of which more follow
pub is_open : (j : Joined) (fronts : List (List ℕ)) → is_bad (with_each with_plain j (fronts_of fronts)).state ≡ false
    → open_octets (with_each with_plain j (fronts_of fronts)) ≡ open_octets j ++ concat fronts
is_open j [] w = sym (append-nil (open_octets j))
is_open j (front ∷ fronts) w =
    let octets = open_octets j in
    let next : Joined = record { octets = octets ++ front; state = More } in
    let ends : Joined → Joined = λ k. with_each with_plain k (fronts_of fronts) in
    elim (cases_Bool (is_bad j.state)) [
      | inl b ↦ let bad = ap (λ k. is_bad (ends k).state) (keeps j (front_of front) b) ∙ ap (λ k. is_bad k.state) (all_stay j (fronts_of fronts) b) ∙ b in cc
      | inr b ↦ elim (cases_Bool (is_refused octets (front_of front))) [
        | inl r ↦ let bad = ap (λ k. is_bad (ends k).state) (refuses j (front_of front) b r) ∙ ap (λ k. is_bad k.state) (all_stay (record { octets = octets; state = Bad }) (fronts_of fronts) refl) in cc
        | inr r ↦
            let goes = ap ends (takes j (front_of front) b r) in
            ap open_octets goes
            ∙ is_open next fronts (sym (ap (λ k. is_bad k.state) goes) ∙ w)
            ∙ append_assoc octets front (concat fronts)
      ]
    ]

-- slices up to the last one
pub is_in_order : (j : Joined) (fronts : List (List ℕ)) (last : List ℕ) → (with_each with_plain j (pieces_of fronts last)).state ≡ Whole
    → (with_each with_plain j (pieces_of fronts last)).octets ≡ open_octets j ++ (concat fronts ++ last)
is_in_order j [] last w = elim (cases_Bool (is_bad j.state)) [
  | inl b ↦ let bad : is_bad (with_plain j (last_of last)).state ≡ true = ap (λ k. is_bad k.state) (keeps j (last_of last) b) ∙ b in absurd (never_whole _ bad w)
  | inr b ↦ elim (cases_Bool (is_refused (open_octets j) (last_of last))) [
    | inl r ↦ let bad : is_bad (with_plain j (last_of last)).state ≡ true = ap (λ k. is_bad k.state) (refuses j (last_of last) b r) in absurd (never_whole _ bad w)
    | inr r ↦ ap (λ k. k.octets) (takes j (last_of last) b r)
  ]
]
is_in_order j (front ∷ fronts) last w =
    let octets = open_octets j in
    let next : Joined = record { octets = octets ++ front; state = More } in
    let ends : Joined → Joined = λ k. with_each with_plain k (pieces_of fronts last) in
    elim (cases_Bool (is_bad j.state)) [
      | inl b ↦
          let bad = ap (λ k. is_bad (ends k).state) (keeps j (front_of front) b) ∙ ap (λ k. is_bad k.state) (all_stay j (pieces_of fronts last) b) ∙ b in
          absurd (never_whole _ bad w)
      | inr b ↦ elim (cases_Bool (is_refused octets (front_of front))) [
        | inl r ↦
            let bad = ap (λ k. is_bad (ends k).state) (refuses j (front_of front) b r) ∙ ap (λ k. is_bad k.state) (all_stay (record { octets = octets; state = Bad }) (pieces_of fronts last) refl) in
            absurd (never_whole _ bad w)
        | inr r ↦
            let goes = ap ends (takes j (front_of front) b r) in
            ap (λ k. k.octets) goes
            ∙ is_in_order next fronts last (sym (ap (λ k. k.state) goes) ∙ w)
            ∙ one_more octets front last fronts
      ]
    ]

-- a slice that is not the last one isn't tested
front_untested : (j : Joined) (front : List ℕ) → tested (with_plain j (front_of front)) ≡ with_plain j (front_of front)
front_untested j front = elim (cases_Bool (is_bad j.state)) [
  | inl b ↦ ap tested (keeps j (front_of front) b) ∙ untested j b ∙ sym (keeps j (front_of front) b)
  | inr b ↦ elim (cases_Bool (is_refused (open_octets j) (front_of front))) [
    | inl r ↦ ap tested (refuses j (front_of front) b r) ∙ sym (refuses j (front_of front) b r)
    | inr r ↦ ap tested (takes j (front_of front) b r) ∙ sym (takes j (front_of front) b r)
  ]
]

pub list_is_tested : (j : Joined) (fronts : List (List ℕ)) (last : List ℕ) → with_each with_piece j (pieces_of fronts last) ≡ tested (with_each with_plain j (pieces_of fronts last))
list_is_tested j [] last = refl
list_is_tested j (front ∷ fronts) last =
    ap (λ k. with_each with_piece k (pieces_of fronts last)) (front_untested j front)
    ∙ list_is_tested (with_plain j (front_of front)) fronts last

pub open_list : (j : Joined) (fronts : List (List ℕ)) → with_each with_piece j (fronts_of fronts) ≡ with_each with_plain j (fronts_of fronts)
open_list j [] = refl
open_list j (front ∷ fronts) = ap (λ k. with_each with_piece k (fronts_of fronts)) (front_untested j front) ∙ open_list (with_plain j (front_of front)) fronts

pub joins_list : (j : Joined) (fronts : List (List ℕ)) (last : List ℕ) → is_bad j.state ≡ false → AllByRecursion (λ front. 0 < length front) fronts
    → length (open_octets j ++ (concat fronts ++ last)) ≤ 8448 → adds_up (open_octets j ++ (concat fronts ++ last)) ≡ true
    → with_each with_piece j (pieces_of fronts last) ≡ record { octets = open_octets j ++ (concat fronts ++ last); state = Whole }
joins_list j fronts last b h f a =
    let image = open_octets j ++ (concat fronts ++ last) in
    list_is_tested j fronts last
    ∙ ap tested (joins j fronts last b h f)
    ∙ ap (λ x. cond (not x) (record { octets = image; state = Bad }) (record { octets = image; state = Whole })) a

pub joins_table : (id index : ℕ) (running : Bool) (fronts : List (List ℕ)) (last : List ℕ) → AllByRecursion (λ front. 0 < length front) fronts
    → image_of id index running ≡ Some (concat fronts ++ last) → with_each with_piece begun (pieces_of fronts last) ≡ record { octets = concat fronts ++ last; state = Whole }
joins_table id index running fronts last h e =
    let short = images_are_short id index running (concat fronts ++ last) e in
    joins_list begun fronts last refl h (omega arith) (images_add_up id index running (concat fronts ++ last) e)

-- what is refused
pub refused_plain : (j : Joined) (p : Piece) → is_bad j.state ≡ false → is_bad (with_plain j p).state ≡ is_refused (open_octets j) p
refused_plain j p b = elim (cases_Bool (is_refused (open_octets j) p)) [
  | inl r ↦ ap (λ k. is_bad k.state) (refuses j p b r) ∙ sym r
  | inr r ↦ ap (λ k. is_bad k.state) (takes j p b r) ∙ state_of p.more ∙ sym r
]
  where
    state_of : (more : Bool) → is_bad (cond more More Whole) ≡ false
    state_of true = refl
    state_of false = refl

tested_is : (octets : List ℕ) (more : Bool) → is_bad (tested (record { octets = octets; state = cond more More Whole })).state ≡ not more && not (adds_up octets)
tested_is octets true = refl
tested_is octets false = elim (cases_Bool (adds_up octets)) [
  | inl a ↦ ap (λ x. is_bad (cond {A = Joined} (not x) (record { octets = octets; state = Bad }) (record { octets = octets; state = Whole })).state) a ∙ sym (ap not a)
  | inr a ↦ ap (λ x. is_bad (cond {A = Joined} (not x) (record { octets = octets; state = Bad }) (record { octets = octets; state = Whole })).state) a ∙ sym (ap not a)
]

pub refused_list : (j : Joined) (p : Piece) → is_bad j.state ≡ false → is_bad (with_piece j p).state ≡ is_list_refused (open_octets j) p
refused_list j p b = elim (cases_Bool (is_refused (open_octets j) p)) [
  | inl r ↦ ap (λ k. is_bad (tested k).state) (refuses j p b r) ∙ sym (ap (λ x. x || (not p.more && not (adds_up (open_octets j ++ p.octets)))) r)
  | inr r ↦
      ap (λ k. is_bad (tested k).state) (takes j p b r)
      ∙ tested_is (open_octets j ++ p.octets) p.more
      ∙ sym (ap (λ x. x || (not p.more && not (adds_up (open_octets j ++ p.octets)))) r)
]

pub keeps_list : (j : Joined) (p : Piece) → is_bad j.state ≡ true → with_piece j p ≡ j
keeps_list j p b = ap tested (keeps j p b) ∙ untested j b
