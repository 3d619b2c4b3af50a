-- Copies of the images of blocks that requests store.
use Rattle.std.proofs.Common.{◌≡◌, ℕ, ◌+◌, ◌<◌, List, [], ◌∷◌, ◌++◌, length, take, drop, get_or, Option, None, Some}
use Rattle.std.proofs.Common.{MatchOption, sym, ap, ◌∙◌, subst, arith}
use Rattle.std.specs.List.{AllZip}
use Rattle.std.specs.Option.{option_flatten}
use Rattle.std.proofs.lemmas.Slice.Zip.{AllZip-long}
use Rattle.std.proofs.lemmas.List.{at_drop_more, length-drop, take_more}
use Rattle.s7_outer.specs.Held.{Held}
use Rattle.s7_plant.specs.declared.request.Request.TheVariants.{Insert}
use Rattle.s7_plant.specs.declared.journal.Entry.{Entry}

-- it is a copy of the image of a block that the entry stores
abbrev pub IsCopyFor : Entry → Option (List ℕ) → Type 0
IsCopyFor entry copy =
    (kind number : ℕ) (image : List ℕ) (spare : Held) → entry.ask.request ≡ Insert kind number image spare → copy ≡ Some image

zip_push : {X Y : Type 0} (R : X → Y → Type 0) (xs : List X) (ys : List Y) (x : X) (y : Y) → AllZip R xs ys → R x y → AllZip R (xs ++ x ∷ []) (ys ++ y ∷ [])
zip_push R [] [] x y all new = (new, tt)
zip_push R [] (b ∷ ys) x y all new = absurd all
zip_push R (a ∷ xs) [] x y all new = absurd all
zip_push R (a ∷ xs) (b ∷ ys) x y all new = (all.0, zip_push R xs ys x y all.1 new)

-- one more entry has its copy
pub copies_more : (entries : List Entry) (copies : List (Option (List ℕ))) (k : ℕ) (entry : Entry) (copy : Option (List ℕ)) → k < length entries → entry ≡ get_or entries k entry → AllZip IsCopyFor (take k entries) copies → IsCopyFor entry copy → AllZip IsCopyFor (take (k + 1) entries) (copies ++ copy ∷ [])
copies_more entries copies k entry copy within is all new =
    let front : take (k + 1) entries ≡ take k entries ++ entry ∷ [] = take_more entries k entry within ∙ ap (λ e. take k entries ++ e ∷ []) (sym is) in
    subst (λ es. AllZip IsCopyFor es (copies ++ copy ∷ [])) (sym front) (zip_push IsCopyFor (take k entries) copies entry copy all new)

-- where an entry and those behind it have their copies, the first copy is the entry's, and the others are the others'
pub first_copy : (entries : List Entry) (copies left : List (Option (List ℕ))) (many fewer k : ℕ) (entry : Entry) (copy : Option (Option (List ℕ))) → k < length entries → entry ≡ get_or entries k entry → AllZip IsCopyFor (drop k entries) copies → many ≡ length copies → MatchOption copy ((many ≡ 0) × (fewer ≡ 0)) (λ x. (copies ≡ x ∷ left) × (fewer + 1 ≡ many)) → IsCopyFor entry (option_flatten copy) × AllZip IsCopyFor (drop (k + 1) entries) left
first_copy entries copies left many fewer k entry None within is all len taken =
    absurd (omega (arith, AllZip-long IsCopyFor (drop k entries) copies all, length-drop k entries, taken.0))
first_copy entries copies left many fewer k entry (Some copy) within is all len taken =
    let next = subst (λ es. AllZip IsCopyFor es copies) (at_drop_more (λ es. es) entries k entry within) all in
    let both = subst (AllZip IsCopyFor (get_or entries k entry ∷ drop (k + 1) entries)) taken.0 next in
    (subst (λ e. IsCopyFor e copy) (sym is) both.0, both.1)
