-- What fits a PDU length: no telegram with items is longer than the length that was negotiated (Snap7 1.4 sources,
-- s7_types.h: TReqFunNegotiateParams; Snap7 1.4 reference manual, `Cli_ReadMultiVars` and `Cli_WriteMultiVars`).
use Rattle.std.specs.Prelude.{ℕ, ◌+◌, ◌&&◌, nat_le, Bool, if◌then◌else◌, unwrap_or, List, length}
use Rattle.s7_item.specs.Word.{size_of}
use Rattle.s7_item.specs.Sizes.{request_size, answer_size}
use Rattle.s7_item.specs.declared.item.Item.{Item}

-- the number of octets of an element of the item (Snap7 1.4 reference manual, `Cli_ReadArea`: word lengths); 0 if
-- its word length is unknown
abbrev pub size : Item → ℕ
size item = unwrap_or (size_of item.word) 0

-- the length of the answer: twelve octets of header and two of parameters; then for a read the data items with all
-- their octets, and for a write one code for each item (Snap7 1.4 sources, s7_types.h: TS7ResHeader23,
-- TResFunReadItem, TResFunWrite)
abbrev pub answer_length : List Item → Bool → ℕ
answer_length items write = if write then 14 + length items else answer_size items

-- the request for these items and its answer are at most as long as the PDU length
unfoldable pub fits : ℕ → Bool → List Item → Bool
fits pdu write items = nat_le (request_size items write) pdu && nat_le (answer_length items write) pdu
