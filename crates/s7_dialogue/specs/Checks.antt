-- The checks of a job before anything is sent. Each gives the first error number that applies. The checks are this
-- profile's own.
use Rattle.std.specs.Prelude.{ℕ, ◌+◌, ◌^◌, Bool, not, ◌==◌, ◌||◌, ◌&&◌, nat_lt, nat_le, is_some, List, [], ◌∷◌, length, Result, Ok, Err, if◌then◌else◌}
use Rattle.std.specs.List.{list_all}
use Rattle.s7_item.specs.declared.item.Item.{Item}
use Rattle.s7_item.specs.Word.{size_of}
use Rattle.s7_item.specs.Item.{octet_count}
use Rattle.s7_split.specs.Parts.{range_end}
use Rattle.s7_split.specs.Groups.{packed_of}
use Rattle.s7_split.specs.declared.packing.PackFault.{PackFault}
use Rattle.s7_clock.specs.Moment.{first_moment, last_moment}
use Rattle.s7_block.specs.Heads.{head_agrees}
use Rattle.s7_dialogue.specs.Downloads.{name_in}
use Rattle.s7_dialogue.specs.Codes.{no_fault, invalid_parameters, too_many_items, invalid_word, over_pdu}

abbrev pub is_known : Item → Bool
is_known item = is_some (size_of item.word)

-- the item has elements, exactly one if they are bits, and its range ends inside the address field (Snap7 1.4
-- sources, s7_types.h: TReqFunReadItem)
abbrev pub is_placed : Item → Bool
is_placed item =
    (not (item.count == 0) && (not (item.word == 0x01) || item.count == 1)) && nat_le (range_end item) (2 ^ 24)

-- the number of octets of all items together
abbrev pub octet_count_of : List Item → ℕ
octet_count_of [] = 0
octet_count_of (item ∷ items) = octet_count item + octet_count_of items

abbrev pub pack_check : Result Unit PackFault → ℕ
pack_check (Ok packed) = no_fault
pack_check (Err fault) = over_pdu

-- the check of a read or write of one item
abbrev pub check_item : Item → Bool → ℕ
check_item item has_octets =
    if not (is_known item) then invalid_word
    else (if not (is_placed item && has_octets) then invalid_parameters
    else no_fault)

-- the check of a time to which a clock is to be set: clock octets can give it
abbrev pub check_moment : ℕ → ℕ
check_moment moment =
    if nat_le first_moment moment && nat_le moment last_moment then no_fault else invalid_parameters

-- the check of a password: one to eight octets (Snap7 1.4 reference manual, `Cli_SetSessionPassword`)
abbrev pub check_password : List ℕ → ℕ
check_password text =
    if nat_lt 0 (length text) && nat_le (length text) 8 then no_fault else invalid_parameters

-- the check of the image of a block: 36 to 65,536 octets, with a head that agrees with it
abbrev pub check_image : List ℕ → ℕ
check_image image =
    if head_agrees image (name_in image).kind (name_in image).number then no_fault else invalid_parameters

-- the check of a read or write of several items, at most twenty (Snap7 1.4 reference manual, `Cli_ReadMultiVars`
-- and `Cli_WriteMultiVars`)
abbrev pub check_items : List Item → Bool → ℕ → Bool → ℕ
check_items items has_octets pdu write =
    if nat_lt 20 (length items) then too_many_items
    else (if not (list_all is_known items) then invalid_word
    else (if not (list_all is_placed items && has_octets) then invalid_parameters
    else pack_check (packed_of pdu write items)))
