-- What holds of each list, and what is read from each image.
use Rattle.std.proofs.Common.{◌≡◌, ◌≢◌, ℕ, ◌≤◌, Bool, true, false, cond, List, [], ◌∷◌, length, drop, Option, None, Some, refl, ap, ◌∙◌, subst, arith}
use Rattle.std.specs.List.{AllByRecursion}
use Rattle.std.specs.Option.{option_map, option_and_then}
use Rattle.std.proofs.lemmas.Bool.{ne_eqb}
use Rattle.s7_szl.specs.Octets.{number_at}
use Rattle.s7_szl.specs.Tables.{Table, directory, identification, components, communication, protection, mode, table_of, order_code, greatest_pdu, level}
use Rattle.s7_szl.specs.Images.{image_with, image_of, adds_up}
use Rattle.s7_szl.specs.Readers.{mode_of, order_code_of, pdu_of, protection_of, first_with, component_of}

-- what holds of a list, and of those behind it in the choice
chosen : (P : Table → Type 0) (b : Bool) (x t : Table) (rest : Option Table) → P x → (rest ≡ Some t → P t) → cond b (Some x) rest ≡ Some t → P t
chosen P true x t rest p q e = let same : x ≡ t = cc in subst P same p
chosen P false x t rest p q e = q e

-- what holds of the six holds of each
each_table : (P : Table → Type 0) → P directory → P identification → P components → P communication → P protection → ((r : Bool) → P (mode r))
    → (id index : ℕ) (running : Bool) (t : Table) → table_of id index running ≡ Some t → P t
unfolding table_of
each_table P p q r s u v id index running t =
    chosen P _ directory t _ p
    (chosen P _ identification t _ q (chosen P _ components t _ r (chosen P _ communication t _ s (chosen P _ protection t _ u (chosen P _ (mode running) t None (v running) (λ e. cc))))))

-- the records have the record length
abbrev HasLength : Table → Type 0
HasLength t = AllByRecursion (λ r. length r ≡ t.record_len) t.records

mode_length : (r : Bool) → HasLength (mode r)
mode_length r = (refl, tt)

pub records_are_exact : (id index : ℕ) (running : Bool) (t : Table) → table_of id index running ≡ Some t → HasLength t
records_are_exact =
    each_table HasLength (refl, (refl, (refl, (refl, (refl, (refl, tt)))))) (refl, tt) (refl, (refl, (refl, (refl, (refl, (refl, tt)))))) (refl, tt) (refl, tt) mode_length

-- the image adds up
abbrev AddsUp : Table → Type 0
AddsUp t = (id index : ℕ) → adds_up (image_with id index t) ≡ true

mode_adds_up : (r : Bool) → AddsUp (mode r)
mode_adds_up r = λ id index. refl

tables_add_up : (id index : ℕ) (running : Bool) (t : Table) → table_of id index running ≡ Some t → AddsUp t
tables_add_up = each_table AddsUp (λ id index. refl) (λ id index. refl) (λ id index. refl) (λ id index. refl) (λ id index. refl) mode_adds_up

abbrev IsShort : Table → Type 0
IsShort t = (id index : ℕ) → length (image_with id index t) ≤ 212

mode_short : (r : Bool) → IsShort (mode r)
mode_short r = λ id index. omega arith

tables_are_short : (id index : ℕ) (running : Bool) (t : Table) → table_of id index running ≡ Some t → IsShort t
tables_are_short = each_table IsShort (λ id index. omega arith) (λ id index. omega arith) (λ id index. omega arith) (λ id index. omega arith) (λ id index. omega arith) mode_short

-- what holds of the images of lists
of_image : (P : List ℕ → Type 0) (f : Table → List ℕ) (o : Option Table) (image : List ℕ) → ((t : Table) → o ≡ Some t → P (f t)) → option_map f o ≡ Some image → P image
of_image P f None image h e = cc
of_image P f (Some t) image h e = let same : f t ≡ image = cc in subst P same (h t refl)

pub images_add_up : (id index : ℕ) (running : Bool) (image : List ℕ) → image_of id index running ≡ Some image → adds_up image ≡ true
images_add_up id index running image =
    of_image (λ x. adds_up x ≡ true) (image_with id index) (table_of id index running) image (λ t e. tables_add_up id index running t e id index)

pub images_are_short : (id index : ℕ) (running : Bool) (image : List ℕ) → image_of id index running ≡ Some image → length image ≤ 212
images_are_short id index running image =
    of_image (λ x. length x ≤ 212) (image_with id index) (table_of id index running) image (λ t e. tables_are_short id index running t e id index)

-- the fields that are read from the images
pub mode_is_read : (running : Bool) → option_and_then mode_of (image_of 0x0424 0 running) ≡ Some running
unfolding table_of
mode_is_read true = refl
mode_is_read false = refl

pub order_code_is_read : (running : Bool) → option_and_then order_code_of (image_of 0x0011 0 running) ≡ Some order_code
unfolding table_of
order_code_is_read running = refl

pub pdu_is_read : (running : Bool) → option_and_then pdu_of (image_of 0x0131 1 running) ≡ Some greatest_pdu
unfolding table_of
pdu_is_read running = refl

pub protection_is_read : (running : Bool) → option_and_then protection_of (image_of 0x0232 4 running) ≡ Some level
unfolding table_of
protection_is_read running = refl

pub components_are_read : (running : Bool) → AllByRecursion (λ r. option_and_then (component_of (number_at r 0)) (image_of 0x001C 0 running) ≡ Some (drop 2 r)) components.records
unfolding table_of
components_are_read running = (refl, (refl, (refl, (refl, (refl, (refl, tt))))))

-- no record has the index
none_with : (index : ℕ) (rs : List (List ℕ)) → AllByRecursion (λ r. number_at r 0 ≢ index) rs → first_with index rs ≡ None
none_with index [] h = refl
none_with index (r ∷ rs) h = ap (λ b. cond b (Some (drop 2 r)) (first_with index rs)) (ne_eqb (number_at r 0) index h.0) ∙ none_with index rs h.1

pub no_other_is_read : (running : Bool) (index : ℕ) → AllByRecursion (λ r. number_at r 0 ≢ index) components.records → option_and_then (component_of index) (image_of 0x001C 0 running) ≡ None
unfolding table_of
no_other_is_read running index h = none_with index components.records h
