-- Blocks that are made anew from where they came from.
use Rattle.std.proofs.Common.{◌≡◌, ℕ, zero, suc, ◌+◌, ◌<◌, true, false, leb, ◌&&◌, is_none, Option, None, Some, IsSome, IfNone, List, [], ◌∷◌, ◌++◌, length, take, get_or, refl, sym, ap, ◌∙◌, subst, arith}
use Rattle.std.specs.declared.cmp.Ordering.TheVariants.{Less, Greater}
use Rattle.std.specs.Ordering.{match_ordering, ordering_reverse}
use Rattle.std.specs.BTreeMap.{insert_entry}
use Rattle.std.specs.Cmp.{IsTotalOrder, eq_by_cmp_equiv, nat_cmp_total}
use Rattle.std.specs.List.{All, AllByRecursion, slice_get}
use Rattle.std.specs.List.Sorted.{IsStrictlySortedBy}
use Rattle.std.specs.Map.{keys_of}
use Rattle.std.proofs.lemmas.Bool.Decides.{nat_tests}
use Rattle.std.proofs.lemmas.Cmp.{on_total, then_total}
use Rattle.std.proofs.lemmas.List.{length-take-le, take_more}
use Rattle.std.proofs.lemmas.Map.Entries.{lookup_from_place}
use Rattle.std.proofs.lemmas.Map.Keys.{IsDistinct-from_sorted}
use Rattle.s7_block.specs.declared.block.Block.{Block}
use Rattle.s7_block.specs.declared.block.BlockFault.{BlockFault}
use Rattle.s7_block.specs.declared.block.BlockName.{BlockName}
use Rattle.s7_block.specs.Heads.{head_agrees}
use Rattle.s7_block.specs.Kinds.{is_stored_kind}
use Rattle.s7_block.specs.Marks.{Marked, MarkList, IsMarkList, unmarked}
use Rattle.s7_block.specs.Store.{Images as BlockImages, Store, fault_of, image_at, name_cmp, with_block}
use Rattle.s7_plant.specs.declared.journal.Entry.{Entry}
use Rattle.s7_plant.specs.Images.{all_there, image_of_source, sourced}
use Rattle.s7_plant.proofs.SourceLemmas.{as_many, heads}

name_cmp_total : IsTotalOrder name_cmp
name_cmp_total = then_total (on_total (λ n. n.kind) nat_cmp_total) (on_total (λ n. n.number) nat_cmp_total)

abbrev Mark : Type 0
Mark = BlockName × Option ℕ

-- what is below a name that comes at a place
key_at : (P : BlockName → Type 0) (marks : Marked) (k : ℕ) (m : Mark) → AllByRecursion P (keys_of marks) → k < length marks → m ≡ get_or marks k m → P m.0
key_at P [] k m all within is = absurd (omega arith)
key_at P (x ∷ marks) zero m all within is = subst (λ (q : Mark). P q.0) (sym is) all.0
key_at P (x ∷ marks) (suc k) m all within is = key_at P marks k m all.1 (omega arith) is

names_below : (marks : Marked) (k : ℕ) (m : Mark) → IsStrictlySortedBy name_cmp (keys_of marks) → k < length marks → m ≡ get_or marks k m → AllByRecursion (λ (f : Mark). name_cmp f.0 m.0 ≡ Less) (take k marks)
unfolding IsStrictlySortedBy
names_below [] k m sorted within is = absurd (omega arith)
names_below (x ∷ marks) zero m sorted within is = tt
names_below (x ∷ marks) (suc k) m sorted within is =
    (key_at (λ n. name_cmp x.0 n ≡ Less) marks k m sorted.0 (omega arith) is, names_below marks k m sorted.1 (omega arith) is)

module _ (opening : BlockImages) (entries : List Entry) where
  -- a block whose name is above all others goes to the end
  insert_last : (m : Mark) (image : List ℕ) (images : BlockImages) (front : Marked) → all_there images ≡ sourced opening entries front → AllByRecursion (λ (f : Mark). name_cmp f.0 m.0 ≡ Less) front → insert_entry name_cmp images m.0 image ≡ images ++ (m.0, image) ∷ []
  insert_last m image [] front is below = refl
  insert_last m image (e ∷ images) [] is below = cc
  insert_last m image (e ∷ images) (f ∷ front) is below =
      let h = heads (e.0, Some e.1) (f.0, image_of_source opening entries f.0 f.1) (all_there images) (sourced opening entries front) is in
      let above : name_cmp m.0 e.0 ≡ Greater = ap (name_cmp m.0) h.name ∙ name_cmp_total.antisymm m.0 f.0 ∙ ap ordering_reverse below.0 in
      ap (λ o. match_ordering o ((m.0, image) ∷ e ∷ images) ((e.0, image) ∷ images) (e ∷ insert_entry name_cmp images m.0 image)) above
      ∙ ap (λ l. e ∷ l) (insert_last m image images front h.rest below.1)

  there_more : (images : BlockImages) (name : BlockName) (image : List ℕ) → all_there (images ++ (name, image) ∷ []) ≡ all_there images ++ (name, Some image) ∷ []
  there_more [] name image = refl
  there_more (e ∷ images) name image = ap (λ l. (e.0, Some e.1) ∷ l) (there_more images name image)

  sourced_more : (front : Marked) (m : Mark) → sourced opening entries (front ++ m ∷ []) ≡ sourced opening entries front ++ (m.0, image_of_source opening entries m.0 m.1) ∷ []
  sourced_more [] m = refl
  sourced_more (f ∷ front) m = ap (λ l. (f.0, image_of_source opening entries f.0 f.1) ∷ l) (sourced_more front m)

  module _ (marks : Marked) (limit k : ℕ) (m : Mark) (blocks : Store) (image : List ℕ) (list : IsMarkList (record { marks = marks; limit = limit })) (within : k < length marks) (is : m ≡ get_or marks k m) (so_far : all_there blocks.images ≡ sourced opening entries (take k marks)) where
    abbrev joining : Block
    joining = record { kind = m.0.kind; number = m.0.number; image = image }

    few : length blocks.images ≡ k
    few = sym (as_many opening entries (take k marks) blocks.images (sym so_far)) ∙ length-take-le k marks (omega arith)

    not_full : (n most : ℕ) (found : Option (List ℕ)) → n < most → (leb most n && is_none found) ≡ false
    not_full n most None less = grind (arith, nat_tests)
    not_full n most (Some v) less = grind (arith, nat_tests)

    pub no_fault : limit ≡ blocks.limit → is_stored_kind m.0.kind ≡ true → head_agrees image m.0.kind m.0.number ≡ true → fault_of blocks joining ≡ None
    no_fault same kind head =
        let room : length blocks.images < blocks.limit = omega (arith, few, list.within, same) in
        rw (kind, head, not_full (length blocks.images) blocks.limit (image_at blocks.images m.0) room) refl

    pub joined : Some image ≡ image_of_source opening entries m.0 m.1 → all_there (with_block blocks joining).images ≡ sourced opening entries (take (k + 1) marks)
    joined there =
        let last = insert_last m image blocks.images (take k marks) so_far (names_below marks k m list.ordered within is) in
        let front : take (k + 1) marks ≡ take k marks ++ m ∷ [] = take_more marks k m within ∙ ap (λ e. take k marks ++ e ∷ []) (sym is) in
        ap all_there last ∙ there_more blocks.images m.0 image ∙ ap (λ l. l ++ (m.0, Some image) ∷ []) so_far ∙ ap (λ v. sourced opening entries (take k marks) ++ (m.0, v) ∷ []) there ∙ sym (sourced_more (take k marks) m) ∙ ap (sourced opening entries) (sym front)

absent : (v : Option (List ℕ)) → None ≡ v → IsSome v → ⊥
absent None is some = cc
absent (Some v) is some = cc

same_at : (marks : Marked) (k : ℕ) (d e : Mark) → k < length marks → get_or marks k d ≡ get_or marks k e
same_at [] k d e within = absurd (omega arith)
same_at (x ∷ marks) zero d e within = refl
same_at (x ∷ marks) (suc k) d e within = same_at marks k d e (omega arith)

-- each mark has a source
pub no_source : (opening : BlockImages) (entries : List Entry) (sources : MarkList) (marks : Marked) (k : ℕ) (d : Mark) → marks ≡ sources.marks → k < length marks → All (λ (e : Mark). IsSome (image_of_source opening entries e.0 e.1)) sources.marks → None ≡ image_of_source opening entries (get_or marks k d).0 (get_or marks k d).1 → ⊥
no_source opening entries sources marks k d same within all none =
    let each = subst (λ (ms : Marked). All (λ (e : Mark). IsSome (image_of_source opening entries e.0 e.1)) ms) (sym same) all in
    absent _ none (each k d within)

-- one more block joins
pub one_joined : (opening : BlockImages) (entries : List Entry) (sources : MarkList) (marks : Marked) (k : ℕ) (d : Mark) (blocks next : Store) (lent image : List ℕ) (limit : ℕ) → marks ≡ sources.marks → IsMarkList sources → sources.limit ≡ limit → blocks.limit ≡ limit → k < length marks → all_there blocks.images ≡ sourced opening entries (take k marks) → Some lent ≡ image_of_source opening entries (get_or marks k d).0 (get_or marks k d).1 → is_stored_kind (get_or marks k d).0.kind ≡ true → head_agrees lent (get_or marks k d).0.kind (get_or marks k d).0.number ≡ true → image ≡ lent → IfNone (fault_of blocks (record { kind = (get_or marks k d).0.kind; number = (get_or marks k d).0.number; image = image })) (next ≡ with_block blocks (record { kind = (get_or marks k d).0.kind; number = (get_or marks k d).0.number; image = image })) → (all_there next.images ≡ sourced opening entries (take (k + 1) marks)) × (next.limit ≡ limit)
one_joined opening entries sources marks k d blocks next lent image limit same list most few within so_far there kind head copy goes =
    let m : Mark = get_or marks k d in
    let is : m ≡ get_or marks k m = same_at marks k d m within in
    let here : IsMarkList (record { marks = marks; limit = sources.limit }) = record { ordered = subst (λ (ms : Marked). IsStrictlySortedBy name_cmp (keys_of ms)) (sym same) list.ordered; within = omega (arith, ap length same, list.within) } in
    let stored = there_by image lent copy there in
    let none = no_fault opening entries marks sources.limit k m blocks image here within is so_far (most ∙ sym few) kind (ap (λ l. head_agrees l m.0.kind m.0.number) copy ∙ head) in
    let after : next ≡ with_block blocks (record { kind = m.0.kind; number = m.0.number; image = image }) = subst (λ (f : Option BlockFault). IfNone f (next ≡ with_block blocks (record { kind = m.0.kind; number = m.0.number; image = image }))) none goes in
    (ap (λ (s : Store). all_there s.images) after ∙ joined opening entries marks sources.limit k m blocks image here within is so_far stored, ap (λ (s : Store). s.limit) after ∙ few)
  where
    there_by : {v : Option (List ℕ)} (a b : List ℕ) → a ≡ b → Some b ≡ v → Some a ≡ v
    there_by a b same is = ap (λ l. Some l) same ∙ is

-- each block is found under its name
each_found : (all es : BlockImages) → ((i : ℕ) (e : BlockName × List ℕ) → slice_get es i ≡ Some e → image_at all e.0 ≡ Some e.1) → sourced all [] (unmarked es) ≡ all_there es
each_found all [] each = refl
each_found all (e ∷ es) each =
    let here = each 0 e refl in
    let rest = each_found all es (λ i. each (suc i)) in
    λ i. (e.0, here i) ∷ rest i

pub opened : (images : BlockImages) → IsStrictlySortedBy name_cmp (keys_of images) → sourced images [] (unmarked images) ≡ all_there images
opened images sorted =
    each_found images images (λ i e at. lookup_from_place (eq_by_cmp_equiv name_cmp_total) images i e.0 e.1 (IsDistinct-from_sorted name_cmp (keys_of images) sorted) at)

-- where all images are there, each source has one
pub each_there : (opening : BlockImages) (entries : List Entry) (marks : Marked) (images : BlockImages) → sourced opening entries marks ≡ all_there images → All (λ (e : Mark). IsSome (image_of_source opening entries e.0 e.1)) marks
each_there opening entries [] images is k d within = absurd (omega arith)
each_there opening entries (m ∷ marks) [] is k d within = cc
each_there opening entries (m ∷ marks) (e ∷ images) is zero d within =
    let h = heads (m.0, image_of_source opening entries m.0 m.1) (e.0, Some e.1) (sourced opening entries marks) (all_there images) is in
    subst (λ (v : Option (List ℕ)). IsSome v) (sym h.image) refl
each_there opening entries (m ∷ marks) (e ∷ images) is (suc k) d within =
    let h = heads (m.0, image_of_source opening entries m.0 m.1) (e.0, Some e.1) (sourced opening entries marks) (all_there images) is in
    each_there opening entries marks images h.rest k d (omega arith)
