-- The values of several items, one after another.
use Rattle.std.proofs.Common.{◌≡◌, ◌∙◌, ◌<◌, ◌≤◌, ◌+◌, ℕ, zero, suc, refl, sym, ap, arith, List, [], ◌∷◌, ◌++◌, length, take, drop, get_or, append_assoc, append-nil}
use Rattle.std.specs.List.{flat_map}
use Rattle.hex.specs.Hex.{encode_lower}
use Rattle.s7_item.specs.declared.item.Item.{Item}
use Rattle.s7_text.specs.Lines.{Text}
use Rattle.s7_client.specs.Form.{count_read, octets_read}
use Rattle.std.specs.Fmt.{decimal}
use Rattle.s7_script.specs.Printing.{code_text, number_in, numbers_told, read_values, spaced}

abbrev value_at : ℕ → ℕ → List ℕ → Text
value_at n code octets = code_text code ++ 58 ∷ encode_lower (take n octets)

values_next : (items : List Item) (cs octets : List ℕ) (k : ℕ) (d : Item) → k < length items → length cs ≡ length items
    → read_values (drop k items) (drop k cs) octets
    ≡ value_at (count_read (get_or items k d) (get_or cs k 0)) (get_or cs k 0) octets
    ∷ read_values (drop (suc k) items) (drop (suc k) cs) (drop (count_read (get_or items k d) (get_or cs k 0)) octets)
unfolding read_values
values_next [] cs octets k d less same = absurd (omega arith)
values_next (i ∷ items) [] octets k d less same = absurd (omega arith)
values_next (i ∷ items) (c ∷ cs) octets zero d less same = refl
values_next (i ∷ items) (c ∷ cs) octets (suc k) d less same = values_next items cs octets k d (omega arith) (omega arith)

octets_next : (items : List Item) (cs : List ℕ) (k : ℕ) (d : Item) → k < length items → length cs ≡ length items
    → octets_read (drop k items) (drop k cs) ≡ count_read (get_or items k d) (get_or cs k 0) + octets_read (drop (suc k) items) (drop (suc k) cs)
unfolding octets_read
octets_next [] cs k d less same = absurd (omega arith)
octets_next (i ∷ items) [] k d less same = absurd (omega arith)
octets_next (i ∷ items) (c ∷ cs) zero d less same = refl
octets_next (i ∷ items) (c ∷ cs) (suc k) d less same = octets_next items cs k d (omega arith) (omega arith)

pub octets-at : (items : List Item) (cs : List ℕ) (k n : ℕ) (d : Item) → k < length items → length cs ≡ length items → n ≡ count_read (get_or items k d) (get_or cs k 0)
    → octets_read (drop k items) (drop k cs) ≡ n + octets_read (drop (k + 1) items) (drop (k + 1) cs)
octets-at items cs k n d less same is =
    let next : suc k ≡ k + 1 = omega arith in
    octets_next items cs k d less same
    ∙ ap (λ m. m + octets_read (drop (suc k) items) (drop (suc k) cs)) (sym is)
    ∙ ap (λ m. n + octets_read (drop m items) (drop m cs)) next

-- one more value
pub values-step : (items : List Item) (cs octets rest own text now : List ℕ) (k n : ℕ) (d : Item) → k < length items → length cs ≡ length items → n ≡ count_read (get_or items k d) (get_or cs k 0)
    → own ≡ take n octets → rest ≡ drop n octets → now ≡ text ++ spaced (code_text (get_or cs k 0) ++ 58 ∷ encode_lower own)
    → now ++ flat_map spaced (read_values (drop (k + 1) items) (drop (k + 1) cs) rest) ≡ text ++ flat_map spaced (read_values (drop k items) (drop k cs) octets)
values-step items cs octets rest own text now k n d less same is front back new =
    let next : suc k ≡ k + 1 = omega arith in
    let code = get_or cs k 0 in
    let value = value_at n code octets in
    let others = read_values (drop (suc k) items) (drop (suc k) cs) (drop n octets) in
    let first : read_values (drop k items) (drop k cs) octets ≡ value ∷ others =
    values_next items cs octets k d less same
    ∙ ap (λ m. value_at m code octets ∷ read_values (drop (suc k) items) (drop (suc k) cs) (drop m octets)) (sym is) in
    let written : now ≡ text ++ spaced value = new ∙ ap (λ o. text ++ spaced (code_text code ++ 58 ∷ encode_lower o)) front in
    ap (λ m. now ++ flat_map spaced (read_values (drop m items) (drop m cs) rest)) (sym next)
    ∙ ap (λ r. now ++ flat_map spaced (read_values (drop (suc k) items) (drop (suc k) cs) r)) back
    ∙ ap (λ t. t ++ flat_map spaced others) written
    ∙ append_assoc text (spaced value) (flat_map spaced others)
    ∙ ap (λ vs. text ++ flat_map spaced vs) (sym first)

no_values : (items : List Item) (cs octets : List ℕ) (k : ℕ) → length items ≤ k → read_values (drop k items) (drop k cs) octets ≡ []
unfolding read_values
no_values [] cs octets zero all = refl
no_values [] cs octets (suc k) all = refl
no_values (i ∷ items) cs octets zero all = absurd (omega arith)
no_values (i ∷ items) [] octets (suc k) all = no_codes (drop k items) octets
  where
    no_codes : (is : List Item) (os : List ℕ) → read_values is [] os ≡ []
    no_codes [] os = refl
    no_codes (j ∷ js) os = refl
no_values (i ∷ items) (c ∷ cs) octets (suc k) all = no_values items cs octets k (omega arith)

pub values-ended : (items : List Item) (cs octets text : List ℕ) (k : ℕ) → length items ≤ k → text ++ flat_map spaced (read_values (drop k items) (drop k cs) octets) ≡ text
values-ended items cs octets text k all = ap (λ vs. text ++ flat_map spaced vs) (no_values items cs octets k all) ∙ append-nil text

-- ---- numbers in four octets each

-- one more number
pub numbers-step : (at : ℕ) (octets own rest text now : List ℕ) → 4 ≤ length octets → own ≡ take 4 octets
    → rest ≡ drop 4 octets → now ≡ text ++ spaced (decimal (number_in own at))
    → now ++ flat_map spaced (numbers_told at rest) ≡ text ++ flat_map spaced (numbers_told at octets)
unfolding numbers_told
numbers-step at [] own rest text now long front back new = absurd (omega (arith, long))
numbers-step at (a ∷ []) own rest text now long front back new = absurd (omega (arith, long))
numbers-step at (a ∷ b ∷ []) own rest text now long front back new = absurd (omega (arith, long))
numbers-step at (a ∷ b ∷ c ∷ []) own rest text now long front back new = absurd (omega (arith, long))
numbers-step at (a ∷ b ∷ c ∷ d ∷ left) own rest text now long front back new =
    let value = decimal (number_in (a ∷ b ∷ c ∷ d ∷ []) at) in
    ap (λ r. now ++ flat_map spaced (numbers_told at r)) back
    ∙ (ap (λ t. t ++ flat_map spaced (numbers_told at left))
    (new ∙ ap (λ o. text ++ spaced (decimal (number_in o at))) front)
    ∙ append_assoc text (spaced value) (flat_map spaced (numbers_told at left)))

pub numbers-ended : (at : ℕ) (octets text : List ℕ) → length octets < 4
    → text ++ flat_map spaced (numbers_told at octets) ≡ text
unfolding numbers_told
numbers-ended at [] text few = append-nil text
numbers-ended at (a ∷ []) text few = append-nil text
numbers-ended at (a ∷ b ∷ []) text few = append-nil text
numbers-ended at (a ∷ b ∷ c ∷ []) text few = append-nil text
numbers-ended at (a ∷ b ∷ c ∷ d ∷ left) text few = absurd (omega (arith, few))
