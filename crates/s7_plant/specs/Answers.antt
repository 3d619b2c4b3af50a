-- What a plant answers to a request, and the state that it leaves (Snap7 1.4 reference manual, `Cli_ReadMultiVars`,
-- `Cli_WriteMultiVars`, `Cli_ReadSZL`, `Cli_GetPlcDateTime`, `Cli_SetPlcDateTime`, `Cli_PlcHotStart`,
-- `Cli_PlcColdStart`, `Cli_PlcStop`, `Cli_Compress`, `Cli_CopyRamToRom`, `Cli_ListBlocks`, `Cli_ListBlocksOfType`,
-- `Cli_GetAgBlockInfo`, `Cli_FullUpload`, `Cli_Download` and `Cli_Delete`).
use Rattle.std.specs.Prelude.{◌≡◌, ℕ, ◌+◌, pos, ◌-ℤ◌, Bool, true, false, not, ◌&&◌, ◌||◌, ◌==◌, nat_lt}
use Rattle.std.specs.Prelude.{is_some}
use Rattle.std.specs.Prelude.{if◌then◌else◌, List, [], ◌∷◌, ◌++◌, length, take, drop, map, Option, None, Some}
use Rattle.std.specs.Prelude.{option_map, unwrap_or}
use Rattle.s7_item.specs.Codes.{read_function, write_function}
use Rattle.s7_item.specs.DataItem.{DataItem, padding_of, data_octets, octets_at}
use Rattle.s7_item.specs.declared.item.Item.{Item}
use Rattle.s7_item.specs.declared.places.DataPlace.{DataPlace}
use Rattle.s7_clock.specs.Moment.{held, moment_octets}
use Rattle.s7_szl.specs.Images.{image_of}
use Rattle.std.specs.List.{flat_map}
use Rattle.std.specs.Map.{keys_of}
use Rattle.s7_outer.specs.Numbers.{two_octets}
use Rattle.s7_block.specs.Heads.{db_head, spelling_of_head}
use Rattle.s7_block.specs.Names.{digits}
use Rattle.s7_block.specs.Store.{image_at as image_of_block, numbers_of, with_block, without_block}
use Rattle.s7_area.specs.Guards.{is_read_barred}
use Rattle.s7_item.specs.Codes.{data_blocks}
use Rattle.s7_area.specs.Registers.{db_numbers}
use Rattle.s7_area.specs.Memory.{area_octets, Memory, read_code, read_octets, write_code, written}
use Rattle.s7_plant.specs.declared.request.Ask.{Ask}
use Rattle.s7_plant.specs.declared.request.Request.{Request}
use Rattle.s7_plant.specs.declared.request.Request.TheVariants.{Read, Write, Szl, ClockRead, ClockSet}
use Rattle.s7_plant.specs.declared.request.Request.TheVariants.{Start, Stop, Compress, CopyRam, ListAll, ListOf, Info}
use Rattle.s7_plant.specs.declared.request.Request.TheVariants.{StartUpload, Insert, Delete}
use Rattle.s7_plant.specs.declared.reply.Reply.{Reply}
use Rattle.s7_plant.specs.Requests.{Fits}
use Rattle.s7_plant.specs.Replies.{Said, said, said_of}
use Rattle.s7_plant.specs.State.{State, clock_at}

-- ---- items (Snap7 1.4 sources, s7_types.h: TResFunReadItem, TResFunWrite)

-- the data item that answers the read of an item
abbrev pub read_item : Memory → Bool → Item → DataItem
read_item m right item =
    record { code = read_code m right item; word = item.word; octets = read_octets m right item }

-- the octets of a data item that carries n octets, `last` if no other data item follows it
abbrev pub item_size : ℕ → Bool → ℕ
item_size n last = 4 + n + padding_of n last

-- the memory after all writes from left to right, each on what the one before left
abbrev pub write_all : Memory → Bool → List Item → List DataPlace → List ℕ → Memory
write_all m right [] places octets = m
write_all m right (item ∷ items) [] octets = m
write_all m right (item ∷ items) (place ∷ places) octets =
    write_all (written m right item (octets_at octets place)) right items places octets

-- the codes of these writes, in order
abbrev pub write_codes : Memory → Bool → List Item → List DataPlace → List ℕ → List ℕ
write_codes m right [] places octets = []
write_codes m right (item ∷ items) [] octets = []
write_codes m right (item ∷ items) (place ∷ places) octets =
    write_code m right item (octets_at octets place)
    ∷ write_codes (written m right item (octets_at octets place)) right items places octets

-- ---- status lists, the clock and control

-- a reply that refuses a request with this error word
abbrev pub refused : ℕ → Said
refused error = said error [] []

-- the areas have a guard and the link has no right: then it can't change the clock or the run state, have the memory
-- compressed or copied, or insert or delete blocks; this rule is this profile's own
abbrev pub is_barred : State → Bool → Bool
is_barred s right = not right && is_some s.memory.guard

-- the reply to a request that needs a right, and the error word without it (Snap7 1.4 sources, s7_types.h:
-- Code7NeedPassword)
abbrev pub guarded : State → Bool → Said → Said
guarded s right reply = if is_barred s right then refused 0xD241 else reply

abbrev pub if_allowed : State → Bool → State → State
if_allowed s right next = if is_barred s right then s else next

-- the reply with the image of a status list, or with an error word if there is no such list
abbrev pub listed : Option (List ℕ) → Said
listed None = refused 0xD401
listed (Some image) = said 0 [] image

-- the functions of the two controls (Snap7 1.4 sources, s7_types.h: TReqFunPlcHotStart, TReqFunPlcStop), and their
-- answer: the function and a status, which is 00 if the control was carried out; the status is this profile's own
abbrev pub service_function : ℕ
service_function = 0x28

abbrev pub stop_function : ℕ
stop_function = 0x29

abbrev pub controlled : ℕ → ℕ → Said
controlled function status = said 0 (function ∷ status ∷ []) []

-- the status of a start if the plant runs already, and of a stop if it is stopped already: this profile's own
abbrev pub start_status : Bool → ℕ
start_status running = if running then 0x02 else 0x00

abbrev pub stop_status : Bool → ℕ
stop_status running = if running then 0x00 else 0x07

-- ---- blocks (Snap7 1.4 reference manual, `Cli_ListBlocks`, `Cli_ListBlocksOfType`, `Cli_GetAgBlockInfo`)

-- the kinds of blocks in the order in which they are counted: OB, DB, SDB, FC, SFC, FB, SFB
abbrev pub kinds : List ℕ
kinds = 0x38 ∷ 0x41 ∷ 0x42 ∷ 0x43 ∷ 0x44 ∷ 0x45 ∷ 0x46 ∷ []

-- the kind of data blocks, which are areas (Snap7 1.4 reference manual, `Cli_ListBlocksOfType`)
abbrev pub db_kind : ℕ
db_kind = 0x41

-- the numbers of the blocks of a kind, in ascending order
abbrev pub numbers_in : State → ℕ → List ℕ
numbers_in s kind = if kind == db_kind then db_numbers (keys_of s.memory.areas) else numbers_of s.blocks.images kind

-- the octets of a data block's area
abbrev pub db_octets : State → ℕ → Option (List ℕ)
db_octets s number = area_octets s.memory (record { area = data_blocks; number = number })

-- the image of a data block: its head and its octets, in a layout of this profile's own
abbrev pub db_image : ℕ → List ℕ → List ℕ
db_image number octets = spelling_of_head (db_head number (length octets)) ++ octets

-- the image of a block, `None` if there is no such block
abbrev pub image_in : State → ℕ → ℕ → Option (List ℕ)
image_in s kind number =
    if kind == db_kind then option_map (db_image number) (db_octets s number)
    else image_of_block s.blocks.images (record { kind = kind; number = number })

-- a kind and the number of its blocks: `30`, the kind, and two octets (Snap7 1.4 reference manual, `Cli_ListBlocks`)
abbrev pub kind_count : State → ℕ → List ℕ
kind_count s kind = 0x30 ∷ kind ∷ two_octets (length (numbers_in s kind))

-- a block in the list of its kind: its number, and the flags and the language of its head
-- (Snap7 1.4 reference manual, `Cli_ListBlocksOfType`)
abbrev pub list_entry : State → ℕ → ℕ → List ℕ
list_entry s kind number =
    two_octets number ++ take 2 (drop 3 (unwrap_or (image_in s kind number) []))

-- the reply with a list of blocks, or with an error word if the list is empty (Snap7 1.4 sources, s7_types.h:
-- Code7ResItemNotAvailable1)
abbrev pub entries_told : List ℕ → Said
entries_told [] = refused 0xD209
entries_told (x ∷ xs) = said 0 [] (x ∷ xs)

-- the reply with a block's head: `30`, the kind, the length of what follows less two, and the head, in a layout of this
-- profile's own, after Snap7 1.4 sources, s7_types.h: TResDataBlockInfo
abbrev pub info_told : ℕ → Option (List ℕ) → Said
info_told kind None = refused 0xD209
info_told kind (Some image) = said 0 [] (0x30 ∷ kind ∷ 0x00 ∷ 0x22 ∷ take 36 image)

-- the parameters of the answer to an upload's start: the function, six octets 00, an octet that the link replaces with
-- the upload's id, the number of digits, and the length of the image in seven digits (after Snap7 1.4 sources,
-- s7_types.h: TResFunStartUploadParams)
abbrev pub upload_params : ℕ → List ℕ
upload_params len =
    0x1D ∷ 0x00 ∷ 0x00 ∷ 0x00 ∷ 0x00 ∷ 0x00 ∷ 0x00 ∷ 0x00 ∷ 0x07 ∷ digits 7 len

-- the reply with an image to upload (Snap7 1.4 reference manual, `Cli_FullUpload`); an image longer than a reply's room
-- is refused, with an error word of this profile's own
abbrev pub upload_told : Option (List ℕ) → Said
upload_told None = refused 0xD209
upload_told (Some image) =
    if nat_lt 65572 (length image) then refused 0x8F04 else said 0 (upload_params (length image)) image

-- without a right a guard of level 3 bars uploads: this profile's own
abbrev pub uploaded : State → Bool → Said → Said
uploaded s right reply = if is_read_barred s.memory.guard right then refused 0xD241 else reply

-- the store has room for a block, or has one of its name that the new one replaces (Snap7 1.4 reference manual,
-- `Cli_Download`)
abbrev pub takes_block : State → ℕ → ℕ → Bool
takes_block s kind number =
    nat_lt (length s.blocks.images) s.blocks.limit
    || is_some (image_of_block s.blocks.images (record { kind = kind; number = number }))

abbrev pub inserted : State → ℕ → ℕ → Said
inserted s kind number = if takes_block s kind number then controlled service_function 0x00 else refused 0x8F04

abbrev pub with_inserted : State → ℕ → ℕ → List ℕ → State
with_inserted s kind number image =
    if takes_block s kind number
    then record s { blocks = with_block s.blocks (record { kind = kind; number = number; image = image }) }
    else s

-- the reply to the deletion of a block of the store (Snap7 1.4 reference manual, `Cli_Delete`); a data block is an
-- area, and can't be deleted
abbrev pub deleted : State → ℕ → ℕ → Said
deleted s kind number =
    if is_some (image_of_block s.blocks.images (record { kind = kind; number = number }))
    then controlled service_function 0x00 else refused 0xD209

-- ---- requests

-- THE ANSWER to a request with a right or without. A read: its function, the number of items and a data item for each.
-- A write: its function, the number of items and the code of each. A status list: its image. The clock: its octets, or
-- nothing if it is set. A control: its function and status. Blocks: their counts, the list of a kind, a head, the image
-- of an upload, or the status of an insert or a delete.
abbrev pub answer : State → Bool → Request → Said
answer s right (Read items) =
    said 0 (read_function ∷ length items ∷ []) (data_octets (map (read_item s.memory right) items))
answer s right (Write items places octets) =
    said 0 (write_function ∷ length items ∷ []) (write_codes s.memory right items places octets)
answer s right (Szl id index) = listed (image_of id index s.running)
answer s right (ClockRead moment) = said 0 [] (moment_octets (clock_at s moment))
answer s right (ClockSet moment value) = guarded s right (said 0 [] [])
answer s right (Start cold) = guarded s right (controlled service_function (start_status s.running))
answer s right Stop = guarded s right (controlled stop_function (stop_status s.running))
answer s right Compress = guarded s right (controlled service_function 0x00)
answer s right CopyRam = guarded s right (controlled service_function 0x00)
answer s right ListAll = said 0 [] (flat_map (kind_count s) kinds)
answer s right (ListOf kind) = entries_told (flat_map (list_entry s kind) (numbers_in s kind))
answer s right (Info kind number) = info_told kind (image_in s kind number)
answer s right (StartUpload kind number) = uploaded s right (upload_told (image_in s kind number))
answer s right (Insert kind number image spare) = guarded s right (inserted s kind number)
answer s right (Delete kind number) = guarded s right (deleted s kind number)

-- THE STATE that a request leaves. What only reads changes nothing. A clock that is set is ahead by the difference
-- between its value and the moment of the request. A block that is inserted replaces the one of its name.
abbrev pub changed : State → Bool → Request → State
changed s right (Read items) = s
changed s right (Write items places octets) =
    record s { memory = write_all s.memory right items places octets }
changed s right (Szl id index) = s
changed s right (ClockRead moment) = s
changed s right (ClockSet moment value) =
    if_allowed s right (record s { offset = pos value -ℤ pos (held (pos moment)) })
changed s right (Start cold) = if_allowed s right (record s { running = true })
changed s right Stop = if_allowed s right (record s { running = false })
changed s right Compress = s
changed s right CopyRam = s
changed s right ListAll = s
changed s right (ListOf kind) = s
changed s right (Info kind number) = s
changed s right (StartUpload kind number) = s
changed s right (Insert kind number image spare) = if_allowed s right (with_inserted s kind number image)
changed s right (Delete kind number) = if_allowed s right (record s { blocks = without_block s.blocks kind number })

-- the answer to what a link asks
abbrev pub answer_of : State → Ask → Said
answer_of s ask = answer s ask.right ask.request

abbrev pub after : State → Ask → State
after s ask = changed s ask.right ask.request

-- The reply is the answer that this state gives, and the telegram made of it has at most its full size.
pub record IsReplyOf (s : State) (ask : Ask) (reply : Reply) : Type 0 where
  pub said : said_of reply ≡ answer_of s ask
  pub fits : Fits ask.request (said_of reply)
