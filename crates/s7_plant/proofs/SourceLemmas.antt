-- Where blocks came from, as a journal grows and blocks are stored and deleted.
use Rattle.std.proofs.Common.{◌≡◌, ℕ, zero, suc, Bool, true, false, cond, Option, None, Some, List, [], ◌∷◌, ◌++◌, length, refl, sym, ap, ◌∙◌, subst}
use Rattle.std.specs.declared.cmp.Ordering.{Ordering}
use Rattle.std.specs.declared.cmp.Ordering.TheVariants.{Less, Equal, Greater}
use Rattle.std.specs.Ordering.{match_ordering, nat_cmp, ordering_then}
use Rattle.std.specs.BTreeMap.{insert_entry}
use Rattle.std.specs.List.{slice_get}
use Rattle.std.specs.Map.{lookup, remove_entry}
use Rattle.std.proofs.lemmas.Cmp.{ranked}
use Rattle.std.proofs.lemmas.List.{length-map}
use Rattle.s7_block.specs.declared.block.BlockName.{BlockName}
use Rattle.s7_block.specs.Marks.{Marked}
use Rattle.s7_block.specs.Store.{Images as BlockImages, name_cmp}
use Rattle.s7_plant.specs.declared.journal.Entry.{Entry}
use Rattle.s7_plant.specs.Images.{all_there, image_of_source, sourced, stored_at}

-- names that tie are the same
both_equal : (r s : Ordering) → ordering_then r s ≡ Equal → (r ≡ Equal) × (s ≡ Equal)
both_equal Less s is = cc
both_equal Equal s is = (refl, is)
both_equal Greater s is = cc

name_cmp_exact : (a b : BlockName) → name_cmp a b ≡ Equal → a ≡ b
name_cmp_exact a b tie =
    let both = both_equal (nat_cmp a.kind b.kind) (nat_cmp a.number b.number) tie in
    let kinds : a.kind ≡ b.kind = ranked a.kind b.kind Equal (sym both.0) in
    let numbers : a.number ≡ b.number = ranked a.number b.number Equal (sym both.1) in
    λ i. record { kind = kinds i; number = numbers i }

-- ---- entries are added

get_append : {X : Type 0} (xs ys : List X) (i : ℕ) (x : X) → slice_get xs i ≡ Some x → slice_get (xs ++ ys) i ≡ Some x
get_append [] ys i x is = cc
get_append (a ∷ xs) ys zero x is = is
get_append (a ∷ xs) ys (suc i) x is = get_append xs ys i x is

pub get_last : {X : Type 0} (xs : List X) (x : X) → slice_get (xs ++ x ∷ []) (length xs) ≡ Some x
get_last [] x = refl
get_last (a ∷ xs) x = get_last xs x

stored_stays : (entries more : List Entry) (name : BlockName) (n : ℕ) (found : Option Entry) (v : List ℕ) → slice_get entries n ≡ found → stored_at name found ≡ Some v → stored_at name (slice_get (entries ++ more) n) ≡ Some v
stored_stays entries more name n None v at is = cc
stored_stays entries more name n (Some e) v at is = ap (stored_at name) (get_append entries more n e at) ∙ is

source_stays : (opening : BlockImages) (entries more : List Entry) (name : BlockName) (source : Option ℕ) (v : List ℕ) → image_of_source opening entries name source ≡ Some v → image_of_source opening (entries ++ more) name source ≡ Some v
source_stays opening entries more name None v is = is
source_stays opening entries more name (Some n) v is = stored_stays entries more name n (slice_get entries n) v refl is

abbrev pub Told : Type 0
Told = BlockName × Option (List ℕ)

pub record AreHeads (a b : Told) (ts us : List Told) : Type 0 where
  pub name : a.0 ≡ b.0
  pub image : a.1 ≡ b.1
  pub rest : ts ≡ us

pub heads : (a b : Told) (ts us : List Told) → a ∷ ts ≡ b ∷ us → AreHeads a b ts us
heads a b ts us is =
    let head : a ≡ b = cc in
    let tail : ts ≡ us = cc in
    record { name = ap (λ (x : Told). x.0) head; image = ap (λ (x : Told). x.1) head; rest = tail }

module _ (opening : BlockImages) (entries : List Entry) where
  source : BlockName × Option ℕ → Option (List ℕ)
  source m = image_of_source opening entries m.0 m.1

  pub sourced_stays : (more : List Entry) (marks : Marked) (images : BlockImages) → sourced opening entries marks ≡ all_there images → sourced opening (entries ++ more) marks ≡ all_there images
  sourced_stays more [] [] is = refl
  sourced_stays more [] (e ∷ images) is = cc
  sourced_stays more (m ∷ marks) [] is = cc
  sourced_stays more (m ∷ marks) (e ∷ images) is =
      let h = heads (m.0, image_of_source opening entries m.0 m.1) (e.0, Some e.1) (sourced opening entries marks) (all_there images) is in
      let stays = source_stays opening entries more m.0 m.1 e.1 h.image in
      let rest = sourced_stays more marks images h.rest in
      λ i. (h.name i, stays i) ∷ rest i

  -- a block is stored
  insert_step : (name : BlockName) (n : ℕ) (image : List ℕ) (o : Ordering) (m : BlockName × Option ℕ) (e : BlockName × List ℕ) (marks more : Marked) (images others : BlockImages) → image_of_source opening entries name (Some n) ≡ Some image → (o ≡ Equal → name ≡ m.0) → m.0 ≡ e.0 → image_of_source opening entries m.0 m.1 ≡ Some e.1 → sourced opening entries marks ≡ all_there images → sourced opening entries more ≡ all_there others → sourced opening entries (match_ordering o ((name, Some n) ∷ m ∷ marks) ((m.0, Some n) ∷ marks) (m ∷ more)) ≡ all_there (match_ordering o ((name, image) ∷ e ∷ images) ((e.0, image) ∷ images) (e ∷ others))
  insert_step name n image Less m e marks more images others new same names head tail rest = λ i. (name, new i) ∷ (names i, head i) ∷ tail i
  insert_step name n image Equal m e marks more images others new same names head tail rest =
      let here : image_of_source opening entries m.0 (Some n) ≡ Some image = subst (λ q. image_of_source opening entries q (Some n) ≡ Some image) (same refl) new in
      λ i. (names i, here i) ∷ tail i
  insert_step name n image Greater m e marks more images others new same names head tail rest = λ i. (names i, head i) ∷ rest i

  pub sourced_insert : (name : BlockName) (n : ℕ) (image : List ℕ) → image_of_source opening entries name (Some n) ≡ Some image → (marks : Marked) (images : BlockImages) → sourced opening entries marks ≡ all_there images → sourced opening entries (insert_entry name_cmp marks name (Some n)) ≡ all_there (insert_entry name_cmp images name image)
  sourced_insert name n image new [] [] is = λ i. (name, new i) ∷ []
  sourced_insert name n image new [] (e ∷ images) is = cc
  sourced_insert name n image new (m ∷ marks) [] is = cc
  sourced_insert name n image new (m ∷ marks) (e ∷ images) is =
      let h = heads (m.0, image_of_source opening entries m.0 m.1) (e.0, Some e.1) (sourced opening entries marks) (all_there images) is in
      let rest = sourced_insert name n image new marks images h.rest in
      insert_step name n image (name_cmp name m.0) m e marks (insert_entry name_cmp marks name (Some n)) images (insert_entry name_cmp images name image) new (name_cmp_exact name m.0) h.name h.image h.rest rest
      ∙ ap (λ o. all_there (match_ordering o ((name, image) ∷ e ∷ images) ((e.0, image) ∷ images) (e ∷ insert_entry name_cmp images name image))) (ap (name_cmp name) h.name)

  -- a block is deleted
  remove_step : (b : Bool) (m : BlockName × Option ℕ) (e : BlockName × List ℕ) (marks more : Marked) (images others : BlockImages) → m.0 ≡ e.0 → image_of_source opening entries m.0 m.1 ≡ Some e.1 → sourced opening entries marks ≡ all_there images → sourced opening entries more ≡ all_there others → sourced opening entries (cond b marks (m ∷ more)) ≡ all_there (cond b images (e ∷ others))
  remove_step true m e marks more images others names head tail rest = tail
  remove_step false m e marks more images others names head tail rest = λ i. (names i, head i) ∷ rest i

  pub sourced_remove : (test : BlockName → Bool) (marks : Marked) (images : BlockImages) → sourced opening entries marks ≡ all_there images → sourced opening entries (remove_entry test marks) ≡ all_there (remove_entry test images)
  sourced_remove test [] [] is = refl
  sourced_remove test [] (e ∷ images) is = cc
  sourced_remove test (m ∷ marks) [] is = cc
  sourced_remove test (m ∷ marks) (e ∷ images) is =
      let h = heads (m.0, image_of_source opening entries m.0 m.1) (e.0, Some e.1) (sourced opening entries marks) (all_there images) is in
      let rest = sourced_remove test marks images h.rest in
      remove_step (test m.0) m e marks (remove_entry test marks) images (remove_entry test images) h.name h.image h.rest rest
      ∙ ap (λ b. all_there (cond b images (e ∷ remove_entry test images))) (ap test h.name)

  -- a name without a source has no block
  none_step : (b : Bool) (m : BlockName × Option ℕ) (e : BlockName × List ℕ) (later : Option (Option ℕ)) (image : Option (List ℕ)) → cond b (Some m.1) later ≡ None → (later ≡ None → image ≡ None) → cond b (Some e.1) image ≡ None
  none_step true m e later image none more = cc
  none_step false m e later image none more = more none

  pub none_there : (test : BlockName → Bool) (marks : Marked) (images : BlockImages) → sourced opening entries marks ≡ all_there images → lookup test marks ≡ None → lookup test images ≡ None
  none_there test [] [] is none = refl
  none_there test [] (e ∷ images) is none = cc
  none_there test (m ∷ marks) [] is none = cc
  none_there test (m ∷ marks) (e ∷ images) is none =
      let h = heads (m.0, image_of_source opening entries m.0 m.1) (e.0, Some e.1) (sourced opening entries marks) (all_there images) is in
      ap (λ b. cond b (Some e.1) (lookup test images)) (sym (ap test h.name))
      ∙ none_step (test m.0) m e (lookup test marks) (lookup test images) none (none_there test marks images h.rest)

  pub as_many : (marks : Marked) (images : BlockImages) → sourced opening entries marks ≡ all_there images → length marks ≡ length images
  as_many marks images is =
      sym (length-map marks (λ (m : BlockName × Option ℕ). (m.0, image_of_source opening entries m.0 m.1))) ∙ ap length is ∙ length-map images (λ (e : BlockName × List ℕ). (e.0, Some e.1))

-- a list without a name stays the same without it
absent_step : {K X : Type 0} (b : Bool) (e : K × X) (es rest : List (K × X)) (later : Option X) → cond b (Some e.1) later ≡ None → (later ≡ None → rest ≡ es) → cond b es (e ∷ rest) ≡ e ∷ es
absent_step true e es rest later none more = cc
absent_step false e es rest later none more = ap (λ l. e ∷ l) (more none)

pub remove_absent : {K X : Type 0} (test : K → Bool) (es : List (K × X)) → lookup test es ≡ None → remove_entry test es ≡ es
remove_absent test [] none = refl
remove_absent test (e ∷ es) none = absent_step (test e.0) e es (remove_entry test es) (lookup test es) none (remove_absent test es)

same_there : (a b : BlockImages) → all_there a ≡ all_there b → a ≡ b
same_there [] [] is = refl
same_there [] (y ∷ b) is = cc
same_there (x ∷ a) [] is = cc
same_there (x ∷ a) (y ∷ b) is =
    let h = heads (x.0, Some x.1) (y.0, Some y.1) (all_there a) (all_there b) is in
    let both : Some x.1 ≡ Some y.1 = h.image in
    let images : x.1 ≡ y.1 = cc in
    let rest = same_there a b h.rest in
    λ i. (h.name i, images i) ∷ rest i

-- images that came from the same places are the same
pub same_images : (opening : BlockImages) (entries : List Entry) (marks : Marked) (a b : BlockImages) → all_there a ≡ sourced opening entries marks → sourced opening entries marks ≡ all_there b → a ≡ b
same_images opening entries marks a b first second = same_there a b (first ∙ second)
