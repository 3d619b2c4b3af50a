-- What may be asked on a connected client.
use Rattle.std.specs.Prelude.{◌≡◌, ℕ, ◌<◌, ◌≤◌, true, List, [], length, IsSome}
use Rattle.std.specs.List.{AllByRecursion}
use Rattle.s7_item.specs.declared.item.Item.{Item}
use Rattle.s7_item.specs.Word.{size_of}
use Rattle.s7_item.specs.Sizes.{answer_size}
use Rattle.s7_clock.specs.declared.control.Control.{Control}
use Rattle.s7_clock.specs.declared.control.Control.TheVariants as control
use Rattle.s7_clock.specs.Moment.{moment_in}
use Rattle.s7_block.specs.Slices.{image_room}
use Rattle.s7_dialogue.specs.declared.questions.subject.Subject.{Subject}
use Rattle.s7_dialogue.specs.declared.questions.subject.Subject.TheVariants.{StatusList, RunState, Clock, ClockSetting, Password}
use Rattle.s7_dialogue.specs.declared.questions.subject.Subject.TheVariants.{PasswordClearing, BlockCounts, BlocksOfKind, BlockHead}
use Rattle.s7_dialogue.specs.declared.questions.subject.Subject.TheVariants.{DataHead}
use Rattle.s7_dialogue.specs.UserData.{comes_in_pieces}
use Rattle.s7_dialogue.specs.Question.{Question, negotiates, reads, writes, controls, asks, asks_further}
use Rattle.s7_dialogue.specs.Question.{starts_upload, slices_upload, ends_upload}
use Rattle.s7_dialogue.specs.Question.{announces, awaits_call, gives, inserts}
use Rattle.s7_dialogue.specs.Checks.{check_image}
use Rattle.s7_dialogue.specs.Codes.{no_fault}
use Rattle.s7_dialogue.specs.Dialogue.{list_octets, kind_octets, block_octets}

-- from one to twenty items
abbrev pub AreSome : List Item → Type 0
AreSome items = (0 < length items) × (length items ≤ 20)

-- the octets that go with user data about something
abbrev pub CanGoWith : Subject → List ℕ → Type 0
CanGoWith StatusList octets = length octets ≡ 4
CanGoWith RunState octets = octets ≡ list_octets 0x0424 0
CanGoWith BlockCounts octets = octets ≡ []
CanGoWith BlocksOfKind octets = (kind : ℕ) × (octets ≡ kind_octets kind)
CanGoWith BlockHead octets = length octets ≡ 8
CanGoWith DataHead octets = (number : ℕ) × (octets ≡ block_octets 0x41 number)
CanGoWith Clock octets = octets ≡ []
CanGoWith ClockSetting octets = (length octets ≡ 10) × IsSome (moment_in octets)
CanGoWith Password octets = length octets ≡ 8
CanGoWith PasswordClearing octets = octets ≡ []

-- the words of these items are known
abbrev pub AreKnown : List Item → Type 0
AreKnown items = AllByRecursion (λ (item : Item). IsSome (size_of item.word)) items

-- a control that inserts no block
abbrev pub CanCall : Control → Type 0
CanCall (control.Insert kind number) = ⊥
CanCall _ = Unit {0}

-- A question that reads items, whose answer has room in the PDU, or writes items of known words; a control; user data
-- with its octets; further octets of an answer that comes in pieces; the start of an upload, a slice or the end of one; or
-- what a download of an image with its own head goes by, in pieces that fit the PDU.
abbrev pub IsAskable : ℕ → Question → Type 0
IsAskable pdu (negotiates n) = ⊥
IsAskable pdu (reads items) = AreSome items × (answer_size items ≤ pdu)
IsAskable pdu (writes items octets) = AreSome items × AreKnown items
IsAskable pdu (controls control) = CanCall control
IsAskable pdu (asks subject octets) = CanGoWith subject octets
IsAskable pdu (asks_further subject octet so_far) = comes_in_pieces subject ≡ true
IsAskable pdu (starts_upload name) = Unit {0}
IsAskable pdu (slices_upload id size so_far) = Unit {0}
IsAskable pdu (ends_upload id) = Unit {0}
IsAskable pdu (announces image) = check_image image ≡ no_fault
IsAskable pdu (awaits_call image) = check_image image ≡ no_fault
IsAskable pdu (gives image room from call) =
    (check_image image ≡ no_fault) × (room ≡ image_room pdu) × (from < length image)
IsAskable pdu (inserts image call) = check_image image ≡ no_fault
