-- What is read of data items is what was written.
use Rattle.std.proofs.Common.{◌≡◌, ℕ, zero, suc, ◌+◌, ◌/◌, ◌%◌, ◌<◌, ◌≤◌, Bool, true, false, not, ◌||◌, cond, eqb, ltb, Result, Ok, Err, List, [], ◌∷◌, ◌++◌, take, drop, get_or, length, map, refl, sym, ap, ◌∙◌, subst, append_assoc, arith}
use Rattle.std.proofs.Math.Path.{ap₂}
use Rattle.std.specs.List.{AllByRecursion}
use Rattle.std.proofs.lemmas.Bool.{eqb-true, le-ltb, ltb-false}
use Rattle.std.proofs.lemmas.Bool.Decides.{nat_tests}
use Rattle.std.proofs.lemmas.List.{append-nil, drop_all, drop_at, drop_more, drop-drop, length-append, length-drop, length-take-le, take_at, take-append-drop}
use Rattle.s7_outer.specs.Numbers.{number_of_two}
use Rattle.s7_item.proofs.WordLemmas.{is_transport-transport_of, octets_meant-stated_length}
use Rattle.s7_item.specs.Word.{transport_of, is_transport}
use Rattle.s7_item.specs.DataItem.{octets_meant, stated_length, padding_of, padding, data_item_octets, place_in, places_in, span_of, with_place, then_places, data_places_of, DataItem, data_octets, octets_at}
use Rattle.s7_item.specs.DataLaws.{HasOctets, place_of, places_of, DataItemsReadBack, Begins, SpellsData, DataItemsAreExact, AreAsMany}
use Rattle.s7_item.specs.declared.places.DataPlace.{DataPlace}
use Rattle.s7_item.specs.declared.read_data.DataFault.{DataFault}
use Rattle.s7_item.specs.declared.read_data.DataFault.TheVariants.{Transport, Short, Rest}

place_by_tests : (short known headless cut : Bool) (place : DataPlace) → short ≡ false → known ≡ true → headless ≡ false → cut ≡ false → cond {A = Result DataPlace DataFault} short (Err Short) (cond (not known) (Err Transport) (cond (headless || cut) (Err Short) (Ok place))) ≡ Ok place
place_by_tests false true false false place a b c d = refl
place_by_tests true known headless cut place a b c d = absurd (cc)
place_by_tests false false headless cut place a b c d = absurd (cc)
place_by_tests false true true cut place a b c d = absurd (cc)
place_by_tests false true false true place a b c d = absurd (cc)

-- octets that begin with a data item have its place
place_in-begun : (at : ℕ) (last : Bool) (code transport high low len : ℕ) (body pad rest : List ℕ) → is_transport transport ≡ true → octets_meant transport (number_of_two high low) ≡ len → length body ≡ len → length pad ≡ padding_of len last → place_in at last (code ∷ transport ∷ high ∷ low ∷ body ++ pad ++ rest) ≡ Ok (record { transport = transport; from = at + 4; len = len })
place_in-begun at last code transport high low len body pad rest known meant long padded =
    let octets : List ℕ = code ∷ transport ∷ high ∷ low ∷ body ++ pad ++ rest in
    let n : ℕ = octets_meant transport (number_of_two high low) in
    let size : length octets ≡ 4 + (len + padding_of len last + length rest) =
    omega (arith, length-append (body ++ pad) rest, length-append body pad, long, padded) in
    let same : padding_of n last ≡ padding_of len last = ap (λ i. padding_of i last) meant in
    let short : ltb (length octets) 2 ≡ false = grind (arith, nat_tests) in
    let headless : ltb (length octets) 4 ≡ false = grind (arith, nat_tests) in
    let cut : ltb (length octets) (4 + n + padding_of n last) ≡ false = le-ltb _ _ (omega (arith, size, same, meant)) in
    place_by_tests (ltb (length octets) 2) (is_transport transport) (ltb (length octets) 4) (ltb (length octets) (4 + n + padding_of n last)) (record { transport = transport; from = at + 4; len = n }) short known headless cut
    ∙ ap (λ i. Ok (record { transport = transport; from = at + 4; len = i })) meant

-- what follows the data item that begins the octets
drop-begun : (code transport high low len : ℕ) (last : Bool) (body pad rest : List ℕ) → length body ≡ len → length pad ≡ padding_of len last → drop (4 + len + padding_of len last) (code ∷ transport ∷ high ∷ low ∷ body ++ pad ++ rest) ≡ rest
drop-begun code transport high low len last body pad rest long padded =
    drop_at (code ∷ transport ∷ high ∷ low ∷ body ++ pad) rest (4 + len + padding_of len last) (omega (arith, length-append body pad, long, padded))

-- the same of the record of a data item that begins the octets
place_in-Begins : (at : ℕ) (last : Bool) (place : DataPlace) (octets rest : List ℕ) → Begins at last place octets rest → place_in at last octets ≡ Ok place
place_in-Begins at last place octets rest b =
    ap (place_in at last) b.spelled
    ∙ (place_in-begun at last b.code place.transport b.high b.low place.len b.body b.pad rest b.transport b.meant b.long b.padded
    ∙ ap (λ n. Ok (record { transport = place.transport; from = n; len = place.len })) (sym b.from))

drop-Begins : (at : ℕ) (last : Bool) (place : DataPlace) (octets rest : List ℕ) → Begins at last place octets rest → drop (span_of place last) octets ≡ rest
drop-Begins at last place octets rest b =
    ap (drop (span_of place last)) b.spelled ∙ drop-begun b.code place.transport b.high b.low place.len last b.body b.pad rest b.long b.padded

-- octets that spell data items are read as their places
pub places_in-spelled : (at : ℕ) (octets : List ℕ) (places : List DataPlace) → SpellsData at octets places → places_in (length places) at octets ≡ Ok places
places_in-spelled at octets [] s = rw s refl
places_in-spelled at octets (place ∷ places) s =
    let last : Bool = eqb (length places) 0 in
    let others : DataPlace → Result (List DataPlace) DataFault = λ p. places_in (length places) (at + span_of p last) (drop (span_of p last) octets) in
    ap (λ p. then_places p others) (place_in-Begins at last place octets s.0 s.1)
    ∙ ap (with_place place) (ap (places_in (length places) (at + span_of place last)) (drop-Begins at last place octets s.0 s.1) ∙ places_in-spelled (at + span_of place last) s.0 places s.2)

-- what the octets of a data item are like, from the tests
pub record Passes (octets : List ℕ) (last : Bool) (n : ℕ) (made place : DataPlace) : Type 0 where
  pub known : is_transport (get_or octets 1 0) ≡ true
  pub fits : 4 + n + padding_of n last ≤ length octets
  pub same : made ≡ place

place_parts : (octets : List ℕ) (last : Bool) (n : ℕ) (made place : DataPlace) (short known headless cut : Bool) → known ≡ is_transport (get_or octets 1 0) → cut ≡ ltb (length octets) (4 + n + padding_of n last) → cond {A = Result DataPlace DataFault} short (Err Short) (cond (not known) (Err Transport) (cond (headless || cut) (Err Short) (Ok made))) ≡ Ok place → Passes octets last n made place
place_parts octets last n made place true known headless cut k l h = absurd (cc)
place_parts octets last n made place false false headless cut k l h = absurd (cc)
place_parts octets last n made place false true true cut k l h = absurd (cc)
place_parts octets last n made place false true false true k l h = absurd (cc)
place_parts octets last n made place false true false false k l h =
    record { known = sym k; fits = ltb-false _ _ (sym l); same = cc }

-- octets as four octets, n octets, as many padding octets, and a rest
pieces : (octets : List ℕ) (n pad : ℕ) → 4 + n + pad ≤ length octets → octets ≡ get_or octets 0 0 ∷ get_or octets 1 0 ∷ get_or octets 2 0 ∷ get_or octets 3 0 ∷ take n (drop 4 octets) ++ take pad (drop (4 + n) octets) ++ drop (4 + n + pad) octets
pieces octets n pad fits =
    let head : octets ≡ get_or octets 0 0 ∷ get_or octets 1 0 ∷ get_or octets 2 0 ∷ get_or octets 3 0 ∷ drop 4 octets =
    drop_more octets 0 0 (omega arith)
    ∙ (ap (λ xs. get_or octets 0 0 ∷ xs) (drop_more octets 1 0 (omega arith))
    ∙ (ap (λ xs. get_or octets 0 0 ∷ get_or octets 1 0 ∷ xs) (drop_more octets 2 0 (omega arith))
    ∙ ap (λ xs. get_or octets 0 0 ∷ get_or octets 1 0 ∷ get_or octets 2 0 ∷ xs) (drop_more octets 3 0 (omega arith)))) in
    let body : drop 4 octets ≡ take n (drop 4 octets) ++ drop (4 + n) octets =
    sym (take-append-drop n (drop 4 octets)) ∙ ap (λ xs. take n (drop 4 octets) ++ xs) (drop-drop n 4 octets) in
    let after : drop (4 + n) octets ≡ take pad (drop (4 + n) octets) ++ drop (4 + n + pad) octets =
    sym (take-append-drop pad (drop (4 + n) octets)) ∙ ap (λ xs. take pad (drop (4 + n) octets) ++ xs) (drop-drop pad (4 + n) octets) in
    let all : drop 4 octets ≡ (take n (drop 4 octets) ++ take pad (drop (4 + n) octets)) ++ drop (4 + n + pad) octets =
    body ∙ (ap (λ xs. take n (drop 4 octets) ++ xs) after ∙ sym (append_assoc (take n (drop 4 octets)) (take pad (drop (4 + n) octets)) (drop (4 + n + pad) octets))) in
    head ∙ ap (λ xs. get_or octets 0 0 ∷ get_or octets 1 0 ∷ get_or octets 2 0 ∷ get_or octets 3 0 ∷ xs) all

-- octets with a place begin with a data item there
begins : (at : ℕ) (last : Bool) (octets : List ℕ) (place : DataPlace) → place_in at last octets ≡ Ok place → Begins at last place octets (drop (span_of place last) octets)
begins at last octets place h =
    let transport : ℕ = get_or octets 1 0 in
    let n : ℕ = octets_meant transport (number_of_two (get_or octets 2 0) (get_or octets 3 0)) in
    let made : DataPlace = record { transport = transport; from = at + 4; len = n } in
    let p = place_parts octets last n made place (ltb (length octets) 2) (is_transport transport) (ltb (length octets) 4) (ltb (length octets) (4 + n + padding_of n last)) refl refl h in
    let body : length (take n (drop 4 octets)) ≡ n = length-take-le n (drop 4 octets) (omega (arith, p.fits, length-drop 4 octets)) in
    let pad : length (take (padding_of n last) (drop (4 + n) octets)) ≡ padding_of n last =
    length-take-le (padding_of n last) (drop (4 + n) octets) (omega (arith, p.fits, length-drop (4 + n) octets)) in
    let whole : Begins at last made octets (drop (span_of made last) octets) = record {
      code = get_or octets 0 0;
      high = get_or octets 2 0;
      low = get_or octets 3 0;
      body = take n (drop 4 octets);
      pad = take (padding_of n last) (drop (4 + n) octets);
      transport = p.known;
      from = refl;
      meant = refl;
      long = body;
      padded = pad;
      spelled = pieces octets n (padding_of n last) p.fits;
    } in
    subst (λ d. Begins at last d octets (drop (span_of d last) octets)) p.same whole

-- n places, and the octets from place `at` on spell data items there
pub record AreAt (n at : ℕ) (octets : List ℕ) (places : List DataPlace) : Type 0 where
  pub many : length places ≡ n
  pub spelled : SpellsData at octets places

-- a place and the places after it
places_parts : (n at : ℕ) (octets : List ℕ) (places : List DataPlace) (first : Result DataPlace DataFault) (others : DataPlace → Result (List DataPlace) DataFault) → ((place : DataPlace) → first ≡ Ok place → Begins at (eqb n 0) place octets (drop (span_of place (eqb n 0)) octets)) → ((place : DataPlace) (more : List DataPlace) → others place ≡ Ok more → AreAt n (at + span_of place (eqb n 0)) (drop (span_of place (eqb n 0)) octets) more) → then_places first others ≡ Ok places → AreAt (suc n) at octets places
places_parts n at octets places (Err fault) others one more h = absurd (cc)
places_parts n at octets places (Ok place) others one more h = found (others place) refl h
  where
    found : (r : Result (List DataPlace) DataFault) → others place ≡ r → with_place place r ≡ Ok places → AreAt (suc n) at octets places
    found (Err fault) e w = absurd (cc)
    found (Ok rest) e w =
        let is : place ∷ rest ≡ places = cc in
        let after = more place rest e in
        let last : eqb n 0 ≡ eqb (length rest) 0 = ap (λ i. eqb i 0) (sym after.many) in
        let ended : SpellsData at octets (place ∷ rest) =
        subst (λ b. (left : List ℕ) × Begins at b place octets left × SpellsData (at + span_of place b) left rest) last
        (drop (span_of place (eqb n 0)) octets, one place refl, after.spelled) in
        subst (λ all. AreAt (suc n) at octets all) is (record { many = omega (arith, after.many); spelled = ended })

-- octets that are read as data items spell them
places_in-exact : (n at : ℕ) (octets : List ℕ) (places : List DataPlace) → places_in n at octets ≡ Ok places → AreAt n at octets places
places_in-exact zero at octets places h = end (eqb (length octets) 0) refl h
  where
    end : (b : Bool) → eqb (length octets) 0 ≡ b → cond {A = Result (List DataPlace) DataFault} b (Ok []) (Err Rest) ≡ Ok places → AreAt zero at octets places
    end false e w = absurd (cc)
    end true e w =
        let is : [] ≡ places = cc in
        let none : octets ≡ [] = drop_all 0 octets (omega (arith, eqb-true _ _ e)) in
        subst (λ all. AreAt zero at octets all) is (record { many = refl; spelled = none })
places_in-exact (suc n) at octets places h =
    places_parts n at octets places (place_in at (eqb n 0) octets) _ (λ place e. begins at (eqb n 0) octets place e)
    (λ place more e. places_in-exact n (at + span_of place (eqb n 0)) (drop (span_of place (eqb n 0)) octets) more e) h

pub data_are_exact : DataItemsAreExact
unfolding data_places_of
data_are_exact octets places =
    (λ h. (places_in-exact (length places) 0 octets places h).spelled, λ s. places_in-spelled 0 octets places s)

pub are_as_many : AreAsMany
unfolding data_places_of
are_as_many n octets places h = (places_in-exact n 0 octets places h).many

-- padding has as many octets as it says
pub length-padding : (n : ℕ) (last : Bool) → length (padding n last) ≡ padding_of n last
length-padding n true = refl
length-padding n false = tested (n % 2) (eqb (n % 2) 1) refl (omega arith)
  where
    tested : (r : ℕ) (b : Bool) → b ≡ eqb r 1 → r < 2 → length {A = ℕ} (cond b (0 ∷ []) []) ≡ r
    tested r true e less = sym (eqb-true r 1 (sym e))
    tested r false e less = grind (arith, nat_tests)

-- a data item with octets begins what is written of it and what follows
begins_written : (at : ℕ) (last : Bool) (item : DataItem) (rest : List ℕ) → HasOctets item → Begins at last (place_of at item) (data_item_octets item.code item.word item.octets last ++ rest) rest
begins_written at last item rest has =
    let stated : ℕ = stated_length (transport_of item.word) (length item.octets) in
    record {
      code = item.code;
      high = stated / 256;
      low = stated % 256;
      body = item.octets;
      pad = padding (length item.octets) last;
      transport = is_transport-transport_of item.word has.known;
      from = refl;
      meant = ap (octets_meant (transport_of item.word)) (omega arith) ∙ octets_meant-stated_length (transport_of item.word) (length item.octets);
      long = refl;
      padded = length-padding (length item.octets) last;
      spelled = rw has.carried refl;
    }

length-places_of : (at : ℕ) (items : List DataItem) → length (places_of at items) ≡ length items
length-places_of at [] = refl
length-places_of at (item ∷ items) = omega (arith, length-places_of (at + span_of (place_of at item) (eqb (length items) 0)) items)

-- what is written of data items with octets spells them
written_spells : (at : ℕ) (items : List DataItem) → AllByRecursion HasOctets items → SpellsData at (data_octets items) (places_of at items)
written_spells at [] has = refl
written_spells at (item ∷ items) has =
    let last : Bool = eqb (length items) 0 in
    let next : ℕ = at + span_of (place_of at item) last in
    subst (λ b. (rest : List ℕ) × Begins at b (place_of at item) (data_octets (item ∷ items)) rest × SpellsData (at + span_of (place_of at item) b) rest (places_of next items))
    (ap (λ n. eqb n 0) (sym (length-places_of next items)))
    (data_octets items, begins_written at last item (data_octets items) has.0, written_spells next items has.1)

-- the octets at the first place, where others are written before
octets_at-first : (before rest : List ℕ) (last : Bool) (item : DataItem) → HasOctets item → octets_at (before ++ (data_item_octets item.code item.word item.octets last ++ rest)) (place_of (length before) item) ≡ item.octets
unfolding begins_written
octets_at-first before rest last item has =
    let n : ℕ = length item.octets in
    let b = begins_written (length before) last item rest has in
    let here : List ℕ = data_item_octets item.code item.word item.octets last ++ rest in
    let head : List ℕ = b.code ∷ transport_of item.word ∷ b.high ∷ b.low ∷ [] in
    let from : drop (length before + 4) (before ++ here) ≡ drop 4 here =
    sym (drop-drop 4 (length before) (before ++ here)) ∙ ap (drop 4) (drop_at before here (length before) refl) in
    let body : drop 4 here ≡ item.octets ++ (padding n last ++ rest) =
    ap (drop 4) b.spelled ∙ (drop_at head ((item.octets ++ padding n last) ++ rest) 4 refl ∙ append_assoc item.octets (padding n last) rest) in
    ap (take n) (from ∙ body) ∙ take_at item.octets (padding n last ++ rest) n refl

-- the octets at all places
octets_at-all : (before all : List ℕ) (items : List DataItem) → AllByRecursion HasOctets items → all ≡ before ++ data_octets items → map (octets_at all) (places_of (length before) items) ≡ map (λ (item : DataItem). item.octets) items
unfolding begins_written
octets_at-all before all [] has is = refl
octets_at-all before all (item ∷ items) has is =
    let last : Bool = eqb (length items) 0 in
    let here : List ℕ = data_item_octets item.code item.word item.octets last in
    let b = begins_written (length before) last item [] has.0 in
    let size : length here ≡ span_of (place_of (length before) item) last =
    ap length (sym (append-nil here) ∙ b.spelled) ∙ omega (arith, length-append (item.octets ++ padding (length item.octets) last) [], length-append item.octets (padding (length item.octets) last), length-padding (length item.octets) last) in
    let next : length (before ++ here) ≡ length before + span_of (place_of (length before) item) last =
    length-append before here ∙ ap (λ n. length before + n) size in
    let rest : map (octets_at all) (places_of (length (before ++ here)) items) ≡ map (λ (i : DataItem). i.octets) items =
    octets_at-all (before ++ here) all items has.1 (is ∙ sym (append_assoc before here (data_octets items))) in
    ap₂ (λ x xs. x ∷ xs)
    (ap (λ o. octets_at o (place_of (length before) item)) is ∙ octets_at-first before (data_octets items) last item has.0)
    (subst (λ n. map (octets_at all) (places_of n items) ≡ map (λ (i : DataItem). i.octets) items) next rest)

pub data_reads_back : DataItemsReadBack
unfolding data_places_of
data_reads_back items has = record {
  places = ap (λ n. places_in n 0 (data_octets items)) (sym (length-places_of 0 items)) ∙ places_in-spelled 0 (data_octets items) (places_of 0 items) (written_spells 0 items has);
  octets = octets_at-all [] (data_octets items) items has refl;
}
