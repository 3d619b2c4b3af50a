-- What a client's questions ask of the plant, and what it hears of a write.
use Rattle.std.proofs.Common.{◌≡◌, ℕ, ◌+◌, ◌*◌, ◌<◌, ◌≤◌, ◌^◌, Bool, true, false, ◌&&◌, cond, eqb, Some, List, [], ◌∷◌, ◌++◌, length, map, take, drop, refl, ap, ◌∙◌, arith, length-append}
use Rattle.std.specs.List.{AllByRecursion}
use Rattle.std.proofs.Math.Path.{ap₂}
use Rattle.std.proofs.lemmas.Bool.{and_parts, eqb-true}
use Rattle.std.proofs.lemmas.List.{length-take-le, length-drop}
use Rattle.s7_item.specs.declared.item.Item.{Item}
use Rattle.s7_item.specs.declared.places.DataPlace.{DataPlace}
use Rattle.s7_item.specs.Item.{octet_count}
use Rattle.s7_item.specs.Word.{transport_of, counts_bits}
use Rattle.s7_item.specs.Params.{items_params}
use Rattle.s7_item.specs.DataItem.{DataItem, stated_length, padding, data_item_octets, octets_at}
use Rattle.s7_item.specs.DataLaws.{HasOctets}
use Rattle.s7_item.proofs.DataLaws.{data_reads_back, are_as_many}
use Rattle.s7_item.proofs.SizeLaws.{reads_sized}
use Rattle.s7_area.specs.Guards.{is_write_barred}
use Rattle.s7_area.specs.Memory.{Memory, place_code, read_code, write_code}
use Rattle.s7_header.specs.Negotiation.{most_pdu}
use Rattle.s7_plant.specs.Answers.{write_codes}
use Rattle.s7_plant.specs.Answers as plant
use Rattle.s7_plant.specs.Requests.{asked}
use Rattle.s7_plant.specs.State.{State}
use Rattle.s7_plant.proofs.CodeLemmas.{codes_in_turn}
use Rattle.s7_dialogue.specs.Question.{writes, written, question_octets}
use Rattle.s7_dialogue.specs.Answer.{ItemAnswer, notes, answer_of}
use Rattle.s7_dialogue.specs.Checks.{octet_count_of}
use Rattle.s7_session.specs.LinkState.{LinkState}
use Rattle.s7_session.specs.Judgement.{judge, asks_plainly, reply_octets}
use Rattle.s7_session.proofs.SpelledLemmas.{writes_are_asked}
use Rattle.s7_rig.specs.Heard.{told_of}
use Rattle.s7_rig.specs.Written.{own_data, own_places, own_write, own_codes}
use Rattle.s7_rig.proofs.Askable.{AreKnown}
use Rattle.s7_rig.proofs.AnsweredLemmas.{write_is_heard}
use Rattle.s7_rig.proofs.ShapeLemmas.{SameShape, read_code_same, write_code_same, write_code_placed}

-- ---- the data items of a write

-- the telegram of a write fits any PDU
abbrev pub IsShort : ℕ → List Item → List ℕ → Type 0
IsShort number items octets = length (question_octets number (writes items octets)) ≤ most_pdu

length-written : (items : List Item) (octets : List ℕ) → length (written items octets) ≡ length items
length-written [] octets = refl
length-written (item ∷ items) octets = omega (arith, length-written items (drop (octet_count item) octets))

stated_by : (one bits : Bool) (n : ℕ) → (one ≡ true → n ≡ 1) → cond one 1 (cond bits (8 * n) n) ≤ 8 * n
stated_by true bits n is = omega (arith, is refl)
stated_by false true n is = omega arith
stated_by false false n is = omega arith

stated_most : (transport n : ℕ) → stated_length transport n ≤ 8 * n
stated_most transport n =
    stated_by (eqb transport 0x03 && eqb n 1) (counts_bits transport) n
    (λ e. eqb-true n 1 (and_parts (eqb transport 0x03) (eqb n 1) e).1)

-- a data item has its octets, and others follow
length-one : (word : ℕ) (octets rest : List ℕ) (last : Bool)
    → length octets + length rest ≤ length (data_item_octets 0 word octets last ++ rest)
length-one word octets rest last =
    omega (
      arith,
      length-append (data_item_octets 0 word octets last) rest,
      length-append octets (padding (length octets) last),
    )

have_octets : (items : List Item) (octets : List ℕ) → AreKnown items → length (own_data items octets) ≤ most_pdu
    → AllByRecursion HasOctets (written items octets)
have_octets [] octets known short = tt
have_octets (item ∷ items) octets known short =
    let own = take (octet_count item) octets in
    let rest = drop (octet_count item) octets in
    let long = length-one item.word own (own_data items rest) (eqb (length (written items rest)) 0) in
    let stated = stated_most (transport_of item.word) (length own) in (
      record { carried = refl; known = known.0; fits = omega (arith, stated, long, short) },
      have_octets items rest known.1 (omega (arith, long, short)),
    )

module _ (number : ℕ) (items : List Item) (octets : List ℕ) where
  -- a telegram has ten octets of header, two of parameters and twelve for each item, and its data
  length_question :
      length (question_octets number (writes items octets)) ≡ 12 + 12 * length items + length (own_data items octets)
  length_question =
      omega (arith, reads_sized 0x05 items, length-append (items_params 0x05 items) (own_data items octets))

  have_own : AreKnown items → IsShort number items octets → AllByRecursion HasOctets (written items octets)
  have_own known short = have_octets items octets known (omega (arith, length_question, short))

  -- each item has a place
  pub as_many_places : AreKnown items → IsShort number items octets → length (own_places items octets) ≡ length items
  as_many_places known short =
      are_as_many (length (written items octets)) (own_data items octets) (own_places items octets)
      (data_reads_back (written items octets) (have_own known short)).places
      ∙ length-written items octets

  -- and its own of the octets there
  pub own_octets : AreKnown items → IsShort number items octets
      → map (octets_at (own_data items octets)) (own_places items octets)
      ≡ map (λ (item : DataItem). item.octets) (written items octets)
  own_octets known short = (data_reads_back (written items octets) (have_own known short)).octets

  -- ---- what a write asks

  -- new octets for items are asked of the plant, and never refused
  pub write_is_asked : (link : LinkState) (pdu : ℕ) → link.granted ≡ Some pdu → number < 65536 → pdu ≤ most_pdu
      → length (question_octets number (writes items octets)) ≤ pdu → 0 < length items → length items ≤ 20
      → AreKnown items
      → judge link (question_octets number (writes items octets)) ≡ asks_plainly link number (own_write items octets)
  write_is_asked link pdu granted low most fits some few known =
      writes_are_asked link pdu number items (written items octets) (record {
        granted = granted;
        pdu_is = omega (arith, most);
        numbered = low;
        some = some;
        most = few;
        fits = fits;
      }) (length-written items octets) (have_own known (omega (arith, most, fits)))
      (omega (arith, length_question, fits, some))

-- ---- what is heard of it

-- no write of an item changes the code of another one
codes_by : (m : Memory) (right : Bool) (items : List Item) (octets : List ℕ) (places : List DataPlace) (body : List ℕ)
    → map (octets_at body) places ≡ map (λ (item : DataItem). item.octets) (written items octets)
    → write_codes m right items places body ≡ own_codes m right items octets
codes_by m right [] octets places body same = refl
codes_by m right (item ∷ items) octets [] body same = absurd (cc)
codes_by m right (item ∷ items) octets (place ∷ places) body same =
    let rest = drop (octet_count item) octets in
    let first : octets_at body place ≡ take (octet_count item) octets = cc in
    let others : map (octets_at body) places ≡ map (λ (i : DataItem). i.octets) (written items rest) = cc in
    ap₂ (λ c cs. c ∷ cs) (ap (write_code m right item) first)
    (codes_in_turn m right item (octets_at body place) items places body
    ∙ codes_by m right items rest places body others)

-- a state's reply to a write is heard as the codes of its items
pub write_is_noted : (state : State) (right : Bool) (items : List Item) (octets : List ℕ) (number : ℕ)
    → number < 2 ^ 16 → length items ≤ 20 → AreKnown items → IsShort number items octets
    → answer_of (writes items octets) number
    (reply_octets number (plant.answer_of state (asked right (own_write items octets))))
    ≡ Some (notes (own_codes state.memory right items octets))
write_is_noted state right items octets number low few known short =
    let places = own_places items octets in
    let body = own_data items octets in
    write_is_heard state right items places body octets number low
    (as_many_places number items octets known short) (omega (arith, few))
    ∙ ap (λ codes. Some (notes codes))
    (codes_by state.memory right items octets places body (own_octets number items octets known short))

-- ---- these codes

pub codes_same : (m n : Memory) (right : Bool) (items : List Item) (octets : List ℕ) → SameShape m n
    → own_codes m right items octets ≡ own_codes n right items octets
codes_same m n right [] octets same = refl
codes_same m n right (item ∷ items) octets same =
    ap₂ (λ c cs. c ∷ cs) (write_code_same m n right item (take (octet_count item) octets) same)
    (codes_same m n right items (drop (octet_count item) octets) same)

-- where nothing bars them, and the octets are as many as the items have, they are those of the places
pub codes_placed : (m : Memory) (right : Bool) (items : List Item) (octets : List ℕ)
    → is_write_barred m.guard right ≡ false → length octets ≡ octet_count_of items
    → own_codes m right items octets ≡ map (place_code m) items
codes_placed m right [] octets free whole = refl
codes_placed m right (item ∷ items) octets free whole =
    let n = octet_count item in
    let own = length-take-le n octets (omega (arith, whole)) in
    ap₂ (λ c cs. c ∷ cs) (write_code_placed m right item (take n octets) free own)
    (codes_placed m right items (drop n octets) free (omega (arith, whole, length-drop n octets)))

-- the codes are all good
pub all_good : (code : Item → ℕ) (items : List Item) → AllByRecursion (λ (item : Item). code item ≡ 0xFF) items
    → map code items ≡ map (λ (item : Item). 0xFF) items
all_good code [] good = refl
all_good code (item ∷ items) good = ap₂ (λ c cs. c ∷ cs) good.0 (all_good code items good.1)

-- ---- items that stand in the first of some memories

-- a read tells the codes that the first memory gives
pub codes_told : (m n : Memory) (right : Bool) (items : List Item) → SameShape m n
    → map (λ (t : ItemAnswer). t.code) (map (told_of m right) items) ≡ map (read_code n right) items
codes_told m n right [] same = refl
codes_told m n right (item ∷ items) same =
    ap₂ (λ c cs. c ∷ cs) (read_code_same m n right item same) (codes_told m n right items same)

-- and those of a write are good where nothing bars it
pub codes_noted : (m n : Memory) (right : Bool) (items : List Item) (octets : List ℕ) → SameShape m n
    → is_write_barred n.guard right ≡ false → length octets ≡ octet_count_of items
    → AllByRecursion (λ (item : Item). place_code n item ≡ 0xFF) items
    → own_codes m right items octets ≡ map (λ (item : Item). 0xFF) items
codes_noted m n right items octets same free whole placed =
    codes_same m n right items octets same
    ∙ (codes_placed n right items octets free whole ∙ all_good (place_code n) items placed)

pub placed_write_is_noted :
    (state : State) (n : Memory) (right : Bool) (items : List Item) (octets : List ℕ) (number : ℕ)
    → number < 2 ^ 16 → length items ≤ 20 → AreKnown items → IsShort number items octets
    → SameShape state.memory n → is_write_barred n.guard right ≡ false → length octets ≡ octet_count_of items
    → AllByRecursion (λ (item : Item). place_code n item ≡ 0xFF) items
    → answer_of (writes items octets) number
    (reply_octets number (plant.answer_of state (asked right (own_write items octets))))
    ≡ Some (notes (map (λ (item : Item). 0xFF) items))
placed_write_is_noted state n right items octets number low few known short same free whole placed =
    write_is_noted state right items octets number low few known short
    ∙ ap (λ codes. Some (notes codes)) (codes_noted state.memory n right items octets same free whole placed)
