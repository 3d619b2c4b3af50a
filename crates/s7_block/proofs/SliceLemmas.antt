-- Pieces join to what was cut, and the slices of an upload are pieces of its image.
use Rattle.std.proofs.Common.{◌≡◌, ℕ, ◌+◌, ◌-◌, Bool, true, false, cond, eqb, ltb, List, [], ◌∷◌, ◌++◌, length, take, drop, Option, None, Some, option_map, option_to_list, refl, sym, ap, ◌∙◌, subst, arith}
use Rattle.std.proofs.Math.Seq.{take-add}
use Rattle.std.proofs.lemmas.Bool.{eqb-true}
use Rattle.std.proofs.lemmas.Bool.Decides.{nat_tests}
use Rattle.std.proofs.lemmas.List.{append-nil, length-drop, take_all}
use Rattle.s7_block.specs.Slices.{Piece, first_piece, left_behind, total_of, pieces_of, joined, AreMarked}
use Rattle.s7_block.specs.Sides.{Uploads, upload_after}
use Rattle.s7_block.specs.Laws.{given, rooms_for, SlicesJoin}

not_past : (n m len : ℕ) → ltb n len ≡ false → ltb (n + m) len ≡ false
not_past n m len is = grind (arith, nat_tests)

shifted : (n m len : ℕ) → ltb m (len - n) ≡ ltb (n + m) len
shifted n m len = grind (arith, nat_tests)

all_octets : (n : ℕ) (octets : List ℕ) → ltb n (length octets) ≡ false → take n octets ≡ octets
all_octets n octets is = take_all n octets (grind (arith, nat_tests))

joined_step : (b : Bool) (room total : ℕ) (octets : List ℕ) (later : List Piece) → ltb room (length octets) ≡ b → joined later ≡ take total (drop room octets) → joined (first_piece room octets ∷ cond b later []) ≡ take (room + total) octets
joined_step true room total octets later is more = ap (λ l. take room octets ++ l) more ∙ sym (take-add room total octets)
joined_step false room total octets later is more =
    append-nil (take room octets) ∙ all_octets room octets is ∙ sym (all_octets (room + total) octets (not_past room total (length octets) is))

joins : (rooms image : List ℕ) → joined (pieces_of rooms image) ≡ take (total_of rooms) image
joins [] image = refl
joins (room ∷ rooms) image = joined_step (ltb room (length image)) room (total_of rooms) image (pieces_of rooms (drop room image)) refl (joins rooms (drop room image))

marked_step : (b : Bool) (room : ℕ) (rooms octets : List ℕ) → ltb room (length octets) ≡ b → AreMarked (ltb (total_of rooms) (length (drop room octets))) (pieces_of rooms (drop room octets)) → AreMarked (ltb (room + total_of rooms) (length octets)) (first_piece room octets ∷ cond b (pieces_of rooms (drop room octets)) [])
marked_step false room rooms octets is more = is ∙ sym (not_past room (total_of rooms) (length octets) is)
marked_step true room [] octets is more = ap (λ n. ltb n (length octets)) (omega arith)
marked_step true room (r ∷ rooms) octets is more =
    let same : ltb (r + total_of rooms) (length (drop room octets)) ≡ ltb (room + (r + total_of rooms)) (length octets) =
    ap (ltb (r + total_of rooms)) (length-drop room octets) ∙ shifted room (r + total_of rooms) (length octets) in
    (is, subst (λ m. AreMarked m (pieces_of (r ∷ rooms) (drop room octets))) same more)

marks : (rooms image : List ℕ) → AreMarked (ltb (total_of rooms) (length image)) (pieces_of rooms image)
marks [] image = tt
marks (room ∷ rooms) image = marked_step (ltb room (length image)) room rooms image refl (marks rooms (drop room image))

-- an upload of this id, of which this is left
uploading : ℕ → Option (List ℕ) → ℕ → Uploads
uploading id left room = record { upload = Some (record { id = id; left = left }); room = room }

none_step : (b : Bool) (id room : ℕ) (a : ℕ × ℕ) (asks : List (ℕ × ℕ)) → given (uploading id None room) asks ≡ [] → option_to_list (option_map (first_piece a.1) (cond b None None)) ++ given (record { upload = upload_after (Some (record { id = id; left = None })) a.0 a.1 (cond b None None); room = room }) asks ≡ []
unfolding uploading
none_step true id room a asks more = more
none_step false id room a asks more = more

none_given : (id room : ℕ) (asks : List (ℕ × ℕ)) → given (uploading id None room) asks ≡ []
unfolding uploading
none_given id room [] = refl
none_given id room (a ∷ asks) = none_step (eqb id a.0) id room a asks (none_given id room asks)

rest_step : (b : Bool) (id room : ℕ) (rest : List ℕ) (asks : List (ℕ × ℕ)) → given (uploading id (Some rest) room) asks ≡ pieces_of (rooms_for id asks) rest → given (uploading id (cond b (Some rest) None) room) asks ≡ cond b (pieces_of (rooms_for id asks) rest) []
rest_step true id room rest asks more = more
rest_step false id room rest asks more = none_given id room asks

given_step : (b : Bool) (id room : ℕ) (image : List ℕ) (a : ℕ × ℕ) (asks : List (ℕ × ℕ)) → eqb id a.0 ≡ b → ((rest : List ℕ) → given (uploading id (Some rest) room) asks ≡ pieces_of (rooms_for id asks) rest) → option_to_list (option_map (first_piece a.1) (cond b (Some image) None)) ++ given (record { upload = upload_after (Some (record { id = id; left = Some image })) a.0 a.1 (cond b (Some image) None); room = room }) asks ≡ pieces_of (cond b (a.1 ∷ rooms_for id asks) (rooms_for id asks)) image
unfolding uploading
given_step false id room image a asks is more = more image
given_step true id room image a asks is more =
    let same : id ≡ a.0 = eqb-true id a.0 is in
    let rest = rest_step (ltb a.1 (length image)) id room (drop a.1 image) asks (more (drop a.1 image)) in
    ap (λ l. first_piece a.1 image ∷ l)
    (ap (λ i. given (uploading i (left_behind a.1 image) room) asks) (sym same) ∙ rest)

gives : (id room : ℕ) (image : List ℕ) (asks : List (ℕ × ℕ)) → given (uploading id (Some image) room) asks ≡ pieces_of (rooms_for id asks) image
unfolding uploading
gives id room image [] = refl
gives id room image (a ∷ asks) = given_step (eqb id a.0) id room image a asks refl (λ rest. gives id room rest asks)

pub slices_join : SlicesJoin
unfolding uploading
slices_join = record { given = gives; joined = joins; marked = marks }
