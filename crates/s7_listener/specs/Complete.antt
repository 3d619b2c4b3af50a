-- COMPLETENESS: a read or write telegram that is spelled as the standard has it, on a link that negotiated, is answered
-- item for item, if the telegram and its full answer fit the PDU (Snap7 1.4 reference manual, `Cli_ReadMultiVars`,
-- `Cli_WriteMultiVars`).
use Rattle.std.specs.Prelude.{◌≡◌, ◌≢◌, ℕ, ◌+◌, ◌<◌, ◌≤◌, Bool, true, false, List, [], ◌∷◌, ◌++◌, length, map, take}
use Rattle.std.specs.Prelude.{◌==◌, slice_get, None, Some}
use Rattle.std.specs.List.{AllByRecursion}
use Rattle.s7_item.specs.declared.item.Item.{Item}
use Rattle.s7_item.specs.Codes.{bits, read_function, write_function}
use Rattle.s7_item.specs.DataItem.{DataItem, data_octets}
use Rattle.s7_item.specs.DataLaws.{HasOctets, places_of}
use Rattle.s7_item.specs.Item.{octet_count}
use Rattle.s7_item.specs.Sizes.{answer_size}
use Rattle.s7_area.specs.Guards.{is_read_barred, is_write_barred}
use Rattle.s7_area.specs.Memory.{Memory, area_octets, read_octets, write_code, written}
use Rattle.s7_area.specs.Places.{is_misfit, is_inside, key_of, value_at}
use Rattle.s7_outer.specs.Shown.{Shown}
use Rattle.s7_header.specs.Negotiation.{most_pdu}
use Rattle.s7_wire.specs.Reading.{Event, message, reading}
use Rattle.s7_wire.specs.Sent.{sent_message}
use Rattle.s7_wire.specs.declared.found.Opening.TheVariants.{Request}
use Rattle.s7_turn.specs.Histories.{entry, replay}
use Rattle.s7_plant.specs.declared.request.Ask.{Ask}
use Rattle.s7_plant.specs.declared.request.Request.TheVariants.{Read, Write}
use Rattle.s7_plant.specs.Answers.{read_item}
use Rattle.s7_plant.specs.Journals.{after_call}
use Rattle.s7_plant.specs.Requests.{asked}
use Rattle.s7_plant.specs.State.{State}
use Rattle.s7_session.specs.declared.outcome.Outcome.TheVariants as outcome
use Rattle.s7_session.specs.Books.{History, own}
use Rattle.s7_session.specs.Entry.{answered}
use Rattle.s7_session.specs.Errors.{FULL}
use Rattle.s7_session.specs.Events.{lives}
use Rattle.s7_session.specs.Judgement.{answer_octets, refusal_octets}
use Rattle.s7_session.specs.LinkState.{LinkState}
use Rattle.s7_session.specs.Owed.{Past, start, run, owed}
use Rattle.s7_session.specs.Spelled.{read_spelled, write_spelled}
use Rattle.s7_session.specs.Telegrams.{entered_of, verdicts_of}
use Rattle.s7_session.specs.Verdict.{Verdict, Entered, Full, ClockFailed, NoMemory}
use Rattle.s7_listener.specs.Served.{ServedTold, IsServedLink}

-- ---- a telegram of a served link

-- A TELEGRAM OF A SERVED LINK: the link, the history that has its calls, the octets of the telegram, and the events
-- before and after it in the octets that were taken from the link. The link was open when it came.
pub record Telegram : Type 0 where
  pub opening : State
  pub limit : ℕ
  pub first : LinkState
  pub history : History
  pub pipe : Shown
  pub served : ServedTold
  pub line : IsServedLink opening limit first history pipe served
  pub octets : List ℕ
  pub earlier : List Event
  pub at : ℕ
  pub later : List Event
  pub events : (reading Request line.taken).events ≡ earlier ++ message octets at ∷ later
  pub living : (run (start first (verdicts_of line.mets)) earlier).standing ≡ lives

-- A LINK THAT BEGINS WITHOUT A PDU is never granted one above the greatest PDU.
abbrev pub GrantsAreBounded : Type 0
GrantsAreBounded =
    (first : LinkState) (verdicts : List Verdict) (events : List Event) (pdu : ℕ) → first.granted ≡ None
    → (run (start first verdicts) events).link.granted ≡ Some pdu → pdu ≤ most_pdu

-- the result of the events before it: among others, the link's state and the verdicts of the telegrams to come, of
-- which the first is its own
abbrev pub before : Telegram → Past
before t = run (start t.first (verdicts_of t.line.mets)) t.earlier

-- IT IS OF THESE ITEMS AND FITS THIS PDU: its link was granted the PDU, there are one to twenty items (Snap7 1.4
-- reference manual, `Cli_ReadMultiVars`), its sequence has two octets, and it isn't longer than the PDU. Only where the
-- link began with a PDU, it has to be known that this one is at most the greatest.
pub record IsFitting (t : Telegram) (pdu sequence : ℕ) (items : List Item) (telegram : List ℕ) : Type 0 where
  pub granted : (before t).link.granted ≡ Some pdu
  pub bounded : t.first.granted ≢ None → pdu ≤ most_pdu
  pub numbered : sequence < 65536
  pub some : 0 < length items
  pub most : length items ≤ 20
  pub fits : length telegram ≤ pdu

-- the right of its link
abbrev pub right_of : Telegram → Bool
right_of t = (before t).link.right

-- the state that the calls before this number left
abbrev pub state_at : Telegram → ℕ → State
state_at t number = replay after_call t.opening (take number t.history)

abbrev pub memory_at : Telegram → ℕ → Memory
memory_at t number = (state_at t number).memory

-- ITS CALL: under this number the history has a call of its link that asks this, and the link's calls before that are
-- those of its earlier telegrams
pub record IsCallOf (t : Telegram) (ask : Ask) (number : ℕ) : Type 0 where
  pub call : slice_get t.history number ≡ Some (entry t.served.link ask)
  pub earlier : map answered (own t.opening t.served.link (take number t.history)) ≡ entered_of (before t).mets

-- THIS MESSAGE ANSWERS IT: in fragments of the link's TPDU size it stands in the expected output, after the octets for
-- the earlier events. Unless a transmit failed, it was written there.
pub record Answers (t : Telegram) (m : List ℕ) : Type 0 where
  pub size : ℕ
  pub sized : (before t).size ≡ Some size
  pub after : List ℕ
  pub owed_is : owed t.first t.line.taken (verdicts_of t.line.mets) ≡ (before t).owed ++ sent_message size m ++ after
  pub sent : t.served.outcome ≢ outcome.WriteFault
      → t.line.written ≡ (before t).owed ++ sent_message size m ++ after

-- IT WAS REFUSED FOR LACK OF ROOM: the history has as many calls as it has room for, and a refusal with this error word
-- answers it
pub record IsRefusedAsFull (t : Telegram) (sequence : ℕ) : Type 0 where
  pub full : length t.history ≡ t.limit
  pub says : Answers t (refusal_octets sequence FULL)

-- ---- items

-- an item is in range: its word length and its count are those of an item of its area, the areas have this area, with
-- these octets, and the item's range lies inside them
pub record IsInRange (m : Memory) (item : Item) (area : List ℕ) : Type 0 where
  pub fits : is_misfit item ≡ false
  pub there : area_octets m (key_of item) ≡ Some area
  pub inside : is_inside item (length area) ≡ true

-- the data item that answers a read of an item has the return code and the octets that a read gives: FF and the octets
-- of its range, if the item is in range and the link may read it
pub record IsReadAs (m : Memory) (right : Bool) (item : Item) (told : DataItem) : Type 0 where
  pub told_is : told ≡ read_item m right item
  pub good : (area : List ℕ) → IsInRange m item area → is_read_barred m.guard right ≡ false
      → told ≡ record { code = 0xFF; word = item.word; octets = value_at item area }

-- the same of each item, in order
abbrev pub AreReadAs : Memory → Bool → List Item → List DataItem → Type 0
AreReadAs m right [] [] = Unit {0}
AreReadAs m right [] (told ∷ answers) = ⊥
AreReadAs m right (item ∷ items) [] = ⊥
AreReadAs m right (item ∷ items) (told ∷ answers) = IsReadAs m right item told × AreReadAs m right items answers

-- the return code of a write of these octets to an item, on these areas: FF, if the item was in range of the areas that
-- the telegram found and has as many octets, and the link may write it. After a write with FF, and before the next one,
-- the item's range has these octets, unless the item is a bit.
pub record IsPutAs (found m : Memory) (right : Bool) (item : Item) (octets : List ℕ) (code : ℕ) : Type 0 where
  pub code_is : code ≡ write_code m right item octets
  pub good : (area : List ℕ) → IsInRange found item area → length octets ≡ octet_count item
      → is_write_barred found.guard right ≡ false → code ≡ 0xFF
  pub stands : code ≡ 0xFF → (item.word == bits) ≡ false
      → read_octets (written m right item octets) right item ≡ octets

-- the return codes of these writes from left to right, each on the areas that the one before left, and the areas that
-- the last one left
abbrev pub ArePutAs : Memory → Memory → Bool → List Item → List DataItem → List ℕ → Memory → Type 0
ArePutAs found m right [] [] [] left = left ≡ m
ArePutAs found m right [] [] (code ∷ codes) left = ⊥
ArePutAs found m right [] (value ∷ values) codes left = ⊥
ArePutAs found m right (item ∷ items) [] codes left = ⊥
ArePutAs found m right (item ∷ items) (value ∷ values) [] left = ⊥
ArePutAs found m right (item ∷ items) (value ∷ values) (code ∷ codes) left =
    IsPutAs found m right item value.octets code
    × ArePutAs found (written m right item value.octets) right items values codes left

-- ---- reads

-- A READ IS ANSWERED: the history has its call, and the message that answers it has a data item for each item, in
-- order, by the areas that all calls before it left
pub record IsReadAnswered (t : Telegram) (sequence : ℕ) (items : List Item) : Type 0 where
  pub number : ℕ
  pub is_call : IsCallOf t (asked (right_of t) (Read items)) number
  pub answers : List DataItem
  pub are_read : AreReadAs (memory_at t number) (right_of t) items answers
  pub says : Answers t (answer_octets sequence (read_function ∷ length items ∷ []) (data_octets answers))

-- what becomes of a read, by the verdicts from its own on. It has none only if the link ended because a transmit
-- failed. The clock can't fail for it, and no allocation can.
abbrev pub ReadEnds : Telegram → ℕ → List Item → List Verdict → Type 0
ReadEnds t sequence items [] = t.served.outcome ≡ outcome.WriteFault
ReadEnds t sequence items (Entered reply moment ∷ verdicts) = IsReadAnswered t sequence items
ReadEnds t sequence items (Full ∷ verdicts) = IsRefusedAsFull t sequence
ReadEnds t sequence items (ClockFailed ∷ verdicts) = ⊥
ReadEnds t sequence items (NoMemory ∷ verdicts) = ⊥

-- A READ that is spelled as a client spells it, on a link that negotiated, isn't longer than the PDU and has a full
-- answer that fits it, is answered, unless the history is full or a transmit failed
abbrev pub ReadsAreAnswered : Type 0
ReadsAreAnswered =
    (t : Telegram) (pdu sequence : ℕ) (items : List Item) → t.octets ≡ read_spelled sequence items
    → IsFitting t pdu sequence items (read_spelled sequence items) → answer_size items ≤ pdu
    → ReadEnds t sequence items (before t).verdicts

-- ---- writes

-- A WRITE IS ANSWERED: the history has its call, and the message that answers it has the return code of each item, in
-- order, by the areas that all calls before it left. The areas after it are those that the writes leave.
pub record IsWriteAnswered (t : Telegram) (sequence : ℕ) (items : List Item) (values : List DataItem) : Type 0 where
  pub number : ℕ
  pub is_call : IsCallOf t (asked (right_of t) (Write items (places_of 0 values) (data_octets values))) number
  pub codes : List ℕ
  pub are_put : ArePutAs (memory_at t number) (memory_at t number) (right_of t) items values codes
      (memory_at t (number + 1))
  pub says : Answers t (answer_octets sequence (write_function ∷ length items ∷ []) codes)

-- what becomes of a write. The octets of a write are copied: if no memory is left for them, the link ends for that
-- reason.
abbrev pub WriteEnds : Telegram → ℕ → List Item → List DataItem → List Verdict → Type 0
WriteEnds t sequence items values [] = t.served.outcome ≡ outcome.WriteFault
WriteEnds t sequence items values (Entered reply moment ∷ verdicts) = IsWriteAnswered t sequence items values
WriteEnds t sequence items values (Full ∷ verdicts) = IsRefusedAsFull t sequence
WriteEnds t sequence items values (ClockFailed ∷ verdicts) = ⊥
WriteEnds t sequence items values (NoMemory ∷ verdicts) = t.served.outcome ≡ outcome.Memory

-- A WRITE that is spelled as a client spells it and has octets for each item is answered, under the same conditions and
-- unless an allocation failed
abbrev pub WritesAreAnswered : Type 0
WritesAreAnswered =
    (t : Telegram) (pdu sequence : ℕ) (items : List Item) (values : List DataItem)
    → t.octets ≡ write_spelled sequence items values
    → IsFitting t pdu sequence items (write_spelled sequence items values)
    → length values ≡ length items → AllByRecursion HasOctets values → 14 + length items ≤ pdu
    → WriteEnds t sequence items values (before t).verdicts
