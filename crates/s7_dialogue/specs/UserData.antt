-- User data, as a client asks for them, and their answers (Snap7 1.4 sources, s7_types.h: TReqFunTypedParams,
-- TS7Params7, and the data that follow them).
use Rattle.std.specs.Prelude.{ℕ, ◌+◌, ◌-◌, ◌%◌, Bool, true, false, not, ◌==◌, ◌&&◌, nat_eq, nat_le, nat_lt, bit_xor, List, [], ◌∷◌, ◌++◌, length, drop, replicate, is_some, Option, None, Some, if◌then◌else◌}
use Rattle.std.specs.List.{starts_with}
use Rattle.std.specs.Str.{bytes_eq}
use Rattle.s7_outer.specs.Numbers.{two_octets}
use Rattle.s7_header.specs.Octets.{number_at}
use Rattle.s7_header.specs.declared.user_params.UserParams.{UserParams}
use Rattle.s7_szl.specs.Images.{adds_up}
use Rattle.s7_szl.specs.Readers.{mode_of}
use Rattle.s7_szl.specs.Joining.{is_refused}
use Rattle.s7_clock.specs.Moment.{moment_in}
use Rattle.s7_dialogue.specs.DataBlocks.{tells_data}
use Rattle.s7_dialogue.specs.declared.questions.subject.Subject.{Subject}
use Rattle.s7_dialogue.specs.declared.questions.subject.Subject.TheVariants.{StatusList, RunState, BlockCounts, BlocksOfKind, BlockHead, DataHead, Clock, ClockSetting, Password, PasswordClearing}

-- ---- what is asked

-- the group of a request: 43 for blocks, 44 for status lists, 45 for security, 47 for the clock (Snap7 1.4 sources,
-- s7_types.h: grBlocksInfo, grSZL, grSecurity, grClock)
abbrev pub group_of : Subject → ℕ
group_of StatusList = 0x44
group_of RunState = 0x44
group_of BlockCounts = 0x43
group_of BlocksOfKind = 0x43
group_of BlockHead = 0x43
group_of DataHead = 0x43
group_of Clock = 0x47
group_of ClockSetting = 0x47
group_of Password = 0x45
group_of PasswordClearing = 0x45

-- the subfunction of a request (Snap7 1.4 sources, s7_types.h: SFun_ReadSZL, SFun_ListAll, SFun_ListBoT,
-- SFun_BlkInfo, SFun_ReadClock, SFun_SetClock, SFun_EnterPwd, SFun_CancelPwd)
abbrev pub subfunction_of : Subject → ℕ
subfunction_of StatusList = 0x01
subfunction_of RunState = 0x01
subfunction_of BlockCounts = 0x01
subfunction_of BlocksOfKind = 0x02
subfunction_of BlockHead = 0x03
subfunction_of DataHead = 0x03
subfunction_of Clock = 0x01
subfunction_of ClockSetting = 0x02
subfunction_of Password = 0x01
subfunction_of PasswordClearing = 0x02

-- the parameters of a request, in the short form (Snap7 1.4 sources, s7_types.h: TReqFunTypedParams)
abbrev pub request_params : Subject → UserParams
request_params subject = record {
  answer = false;
  group = group_of subject;
  sub = subfunction_of subject;
  sequence = 0;
  unit = 0;
  more = 0;
  error = 0;
}

-- the parameters that ask for the next octets of an answer with this sequence octet, in the long form (Snap7 1.4
-- sources, s7_types.h: TReqFunReadSZLNext); for answers other than status lists this is this profile's own
abbrev pub further_params : Subject → ℕ → UserParams
further_params subject octet = record {
  answer = true;
  group = group_of subject;
  sub = subfunction_of subject;
  sequence = octet;
  unit = 0;
  more = 0;
  error = 0;
}

-- the data without content (Snap7 1.4 sources, s7_micro_client.cpp: TSnap7MicroClient::opListBlocks)
abbrev pub no_data : List ℕ
no_data = 0x0A ∷ 0x00 ∷ 0x00 ∷ 0x00 ∷ []

-- the data with this content: FF, transport size 09 and the length come before it (Snap7 1.4 sources, s7_types.h:
-- TReqDataSecurity)
abbrev pub data_of : List ℕ → List ℕ
data_of [] = no_data
data_of (octet ∷ octets) = 0xFF ∷ 0x09 ∷ (two_octets (length (octet ∷ octets)) ++ octet ∷ octets)

-- ---- what is answered

-- the data have content
abbrev pub has_octets : List ℕ → Bool
has_octets body =
    nat_lt 4 (length body)
    && (starts_with nat_eq body (0xFF ∷ 0x09 ∷ []) && number_at body 2 == length body - 4)

-- the content of the data; `None` if they aren't data of user data
abbrev pub octets_in : List ℕ → Option (List ℕ)
octets_in body = if bytes_eq body no_data then Some [] else (if has_octets body then Some (drop 4 body) else None)

-- the parameters answer user data about this subject: they have the long form, the group of an answer, and a
-- last-data-unit octet 00 or 01 (Snap7 1.4 sources, s7_types.h: TS7Params7)
abbrev pub answers_about : Subject → UserParams → Bool
answers_about subject params =
    (params.answer && params.group == group_of subject + 0x40)
    && (params.sub == subfunction_of subject && nat_le params.more 1)

-- an answer may be longer than one telegram: that of a status list, and those about blocks. This is this profile's
-- own
abbrev pub comes_in_pieces : Subject → Bool
comes_in_pieces StatusList = true
comes_in_pieces RunState = true
comes_in_pieces BlockCounts = true
comes_in_pieces BlocksOfKind = true
comes_in_pieces BlockHead = true
comes_in_pieces DataHead = true
comes_in_pieces Clock = false
comes_in_pieces ClockSetting = false
comes_in_pieces Password = false
comes_in_pieces PasswordClearing = false

-- The octets are a whole answer: an image that adds up; an image that says whether the controller runs; `30`, a
-- kind and a count for each of seven kinds of blocks; four octets for each block of a kind; `30`, the kind, `00 22`
-- and the head of a block, also of a data block that is to be read or filled; ten octets of a clock with a valid
-- date and time; or none (Snap7 1.4 reference manual, `Cli_ReadSZL`, `Cli_GetPlcStatus`, `Cli_ListBlocks`,
-- `Cli_ListBlocksOfType`, `Cli_GetAgBlockInfo`, `Cli_GetPlcDateTime`).
abbrev pub is_whole : Subject → List ℕ → Bool
is_whole StatusList octets = adds_up octets
is_whole RunState octets = is_some (mode_of octets)
is_whole BlockCounts octets = length octets == 28
is_whole BlocksOfKind octets = length octets % 4 == 0
is_whole BlockHead octets = length octets == 40
is_whole DataHead octets = tells_data octets
is_whole Clock octets = is_some (moment_in octets)
is_whole ClockSetting octets = length octets == 0
is_whole Password octets = length octets == 0
is_whole PasswordClearing octets = length octets == 0

-- the number of octets of a whole answer that come before what was asked for: those before the head of a block
abbrev pub lead_of : Subject → ℕ
lead_of StatusList = 0
lead_of RunState = 0
lead_of BlockCounts = 0
lead_of BlocksOfKind = 0
lead_of BlockHead = 4
lead_of DataHead = 4
lead_of Clock = 0
lead_of ClockSetting = 0
lead_of Password = 0
lead_of PasswordClearing = 0

-- A piece continues the octets so far: only a piece with octets may have successors, all octets fit the room, and
-- after the last piece the answer is whole. This is this profile's own.
abbrev pub goes_on_with : Subject → List ℕ → Bool → List ℕ → Bool
goes_on_with subject so_far more octets =
    not (is_refused so_far (record { octets = octets; more = more }))
    && (if more then comes_in_pieces subject else is_whole subject (so_far ++ octets))

-- ---- passwords (Snap7 1.4 sources, s7_micro_client.cpp: TSnap7MicroClient::opSetPassword)

-- the text of a password, padded to eight octets
abbrev pub filled_text : List ℕ → List ℕ
filled_text text = text ++ replicate (8 - length text) 0x20

-- each octet is masked with 55 and with the masked octet two before it
abbrev pub encoded_after : ℕ → ℕ → List ℕ → List ℕ
encoded_after second first [] = []
encoded_after second first (octet ∷ octets) =
    bit_xor (bit_xor octet 0x55) second ∷ encoded_after first (bit_xor (bit_xor octet 0x55) second) octets

-- A PASSWORD AS IT IS SENT (Snap7 1.4 sources, s7_micro_client.cpp: TSnap7MicroClient::opSetPassword); the first
-- two octets have none two before them
unfoldable pub encoded : List ℕ → List ℕ
encoded text = encoded_after 0 0 text
