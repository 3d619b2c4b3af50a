-- The acts and octets of a partner, and what its calls do.
use Rattle.std.specs.Prelude.{◌≡◌, ◌⊎◌, ℕ, ◌<◌, Bool, true, false, ◌||◌, if◌then◌else◌, List, [], ◌∷◌, ◌++◌, length}
use Rattle.std.specs.Prelude.{is_none, None, Some, Result, Ok, Err, IsTrue}
use Rattle.std.specs.Io.KnownBytes.{IsAtEnd}
use Rattle.s7_outer.specs.Shown.{Shown}
use Rattle.s7_outer.specs.Count.{Rose}
use Rattle.s7_outer.specs.declared.memory.Memory.{Memory}
use Rattle.s7_wire.specs.Reading.{Event, Ending, disconnected, faulted, reading}
use Rattle.s7_wire.specs.declared.found.Opening.{Opening}
use Rattle.s7_wire.specs.declared.found.Opening.TheVariants.{Request, Confirm}
use Rattle.s7_wire.specs.declared.found.ReadFault.{ReadFault}
use Rattle.s7_wire.specs.declared.found.ReadFault.TheVariants as fault
use Rattle.s7_dialogue.specs.declared.config.Config.{Config}
use Rattle.s7_dialogue.specs.Codes.{not_connected, link_ended, bad_packet, message_too_fragmented, message_too_long}
use Rattle.s7_dialogue.specs.Codes.{send_failed, receive_failed}
use Rattle.s7_partner.specs.declared.role.Role.{Role}
use Rattle.s7_partner.specs.declared.role.Role.TheVariants.{Active, Passive}
use Rattle.s7_partner.specs.declared.event.PartnerEvent.{PartnerEvent}
use Rattle.s7_partner.specs.declared.event.PartnerEvent.TheVariants as told
use Rattle.s7_partner.specs.States.{Stage, opening, negotiating, going, closed, State, Block, Act, reads, hands}
use Rattle.s7_partner.specs.States.{with_acts, after, read_in, is_sending}
use Rattle.s7_partner.specs.Acts.{IsOpen, AreTaken, AreQuiet, EndsSend}

abbrev pub opening_by : Role → Opening
opening_by Active = Confirm
opening_by Passive = Request

abbrev pub IsPrefixOf : List ℕ → List ℕ → Type 0
IsPrefixOf front all = (rest : List ℕ) × (all ≡ front ++ rest)

-- acts after which an octet may just have been used: none, or acts of which the last one read
abbrev pub EndInRead : List Act → Type 0
EndInRead acts = (acts ≡ []) ⊎ ((front : List Act) × (event : Event) × (acts ≡ front ++ reads event ∷ []))

-- All that could be sent was transmitted before the next event was read, and before the next octet was used.
pub record SentFirst (role : Role) (config : Config) (acts : List Act) (b written : List ℕ) : Type 0 where
  pub events : (front rest : List Act) (event : Event) → acts ≡ front ++ reads event ∷ rest
      → IsPrefixOf (after role config front).out written
  pub octets : (front rest : List Act) (used unused : List ℕ) → acts ≡ front ++ rest → EndInRead front
      → b ≡ used ++ unused → 0 < length unused → read_in front ≡ (reading (opening_by role) used).events
      → IsPrefixOf (after role config front).out written

-- THE ACTS OF A PARTNER that used these octets and transmitted those: what it read is what the octets are read as,
-- and what it transmitted is a prefix of what it may send.
pub record Course (role : Role) (config : Config) (acts : List Act) (b written : List ℕ) : Type 0 where
  pub taken : AreTaken role config (after role config []) acts
  pub events : read_in acts ≡ (reading (opening_by role) b).events
  pub owed : IsPrefixOf written (after role config acts).out
  pub sent_first : SentFirst role config acts b written

-- ---- why a partner closes

-- the error number of a packet at fault; for a TPDU that isn't allowed it is another one before the link was opened
-- than after
abbrev pub code_of_fault : Bool → ReadFault → ℕ
code_of_fault is_opened fault.BadFrame = bad_packet
code_of_fault is_opened fault.FrameTooLong = message_too_long
code_of_fault is_opened fault.BadTpdu = bad_packet
code_of_fault is_opened fault.Unexpected = if is_opened then bad_packet else not_connected
code_of_fault is_opened fault.TooManyFragments = message_too_fragmented
code_of_fault is_opened fault.TooLong = message_too_long

abbrev pub code_of_ending : Bool → Ending → ℕ
code_of_ending is_opened disconnected = link_ended
code_of_ending is_opened (faulted fault at) = code_of_fault is_opened fault

abbrev pub is_opened : Stage → Bool
is_opened opening = false
is_opened negotiating = true
is_opened (going pdu) = true
is_opened (closed code) = true

-- each block that has arrived whole was handed out, and each block handed out was acknowledged
pub record IsSettled (s : State) : Type 0 where
  pub handed : s.handed ≡ None
  pub none_whole : s.whole ≡ None

-- no octet that was used ends the link
pub record GoesOn (role : Role) (s : State) (b : List ℕ) : Type 0 where
  pub opened : IsOpen s.stage
  pub unended : (reading (opening_by role) b).ending ≡ None

-- the link goes on, all was sent, and no received octet is unused
pub record HasRest (role : Role) (s : State) (kept b written : List ℕ) : Type 0 where
  pub goes_on : GoesOn role s b
  pub settled : IsSettled s
  pub sent : written ≡ s.out
  pub none : kept ≡ []

-- Why a partner with this state closes, by the octets that it used and transmitted and those that it keeps unused.
-- The first cause counts, and no block that has arrived whole is lost.
pub data Closes (role : Role) (s : State) (link link' : Shown) (kept b written : List ℕ) (code : ℕ) : Type 0 where
  -- a message that it read
  by_message : s.stage ≡ closed code → Closes role s link link' kept b written code
  -- a packet at fault, or a disconnect request
  by_ending : (ending : Ending) → (reading (opening_by role) b).ending ≡ Some ending
      → code ≡ code_of_ending (is_opened s.stage) ending → IsOpen s.stage → IsSettled s → written ≡ s.out
      → Closes role s link link' kept b written code
  -- the end of the stream
  by_end : IsAtEnd link'.left → IsTrue link'.has_ended → HasRest role s kept b written → code ≡ link_ended
      → Closes role s link link' kept b written code
  by_receive : Rose link.faults link'.faults → HasRest role s kept b written → code ≡ receive_failed
      → Closes role s link link' kept b written code
  by_transmit : (rest : List ℕ) → GoesOn role s b → s.whole ≡ None → s.out ≡ written ++ rest → 0 < length rest
      → Rose link.faults link'.faults → code ≡ send_failed → Closes role s link link' kept b written code

-- ---- polls

-- The link wasn't ready: if it shows its space, there is none for what is still to be sent, or nothing is left to
-- receive.
pub record HasMetNotYet (s : State) (kept : List ℕ) (link link' : Shown) (written : List ℕ) : Type 0 where
  pub rose : Rose link.waits link'.waits
  pub full : (rest : List ℕ) (space : ℕ) → s.out ≡ written ++ rest → 0 < length rest → link'.space ≡ Some space
      → space ≡ 0
  pub empty : (space : ℕ) → written ≡ s.out → link'.space ≡ Some space → link'.left ≡ Some []
  pub waiting : written ≡ s.out → kept ≡ []

abbrev pub is_opening : Stage → Bool
is_opening opening = true
is_opening negotiating = true
is_opening (going pdu) = false
is_opening (closed code) = false

-- the opening is outstanding, or a send is
abbrev pub is_waiting : State → Bool
is_waiting s = is_sending s || is_opening s.stage

-- what a poll reports of its acts, from the state before it
abbrev pub Tells : Role → Config → State → List Act → Shown → Shown → List ℕ → List ℕ → List ℕ
    → Result PartnerEvent Memory → Type 0
Tells role config s acts link link' kept b written (Ok told.Sent) =
    (front : List Act) × (event : Event) × (acts ≡ front ++ reads event ∷ []) × AreQuiet role config s front
    × EndsSend role config (with_acts role config s front) (reads event)
    × IsSettled (with_acts role config s acts)
Tells role config s acts link link' kept b written (Ok (told.Received rid body)) =
    (front : List Act) × (block : Block) × (acts ≡ front ++ hands ∷ []) × AreQuiet role config s front
    × ((with_acts role config s front).whole ≡ Some block) × (rid ≡ block.rid) × (body ≡ block.octets)
Tells role config s acts link link' kept b written (Ok told.Pending) =
    AreQuiet role config s acts × IsSettled (with_acts role config s acts)
    × (is_waiting (with_acts role config s acts) ≡ true)
    × HasMetNotYet (with_acts role config s acts) kept link link' written
Tells role config s acts link link' kept b written (Ok told.Idle) =
    AreQuiet role config s acts × IsSettled (with_acts role config s acts)
    × (is_waiting (with_acts role config s acts) ≡ false)
    × HasMetNotYet (with_acts role config s acts) kept link link' written
Tells role config s acts link link' kept b written (Ok (told.Closed code)) =
    AreQuiet role config s acts × Closes role (with_acts role config s acts) link link' kept b written code
-- the block that has arrived whole is kept
Tells role config s acts link link' kept b written (Err memory) =
    AreQuiet role config s acts × (is_none (with_acts role config s acts).whole ≡ false)
