-- The codes of read and write telegrams (Snap7 1.4 sources, s7_types.h: TReqFunReadParams, TReqFunReadItem,
-- TReqFunWriteDataItem, TResFunReadItem, TResFunWrite): functions, return codes, areas, word lengths and transport
-- sizes.
use Rattle.std.specs.Prelude.{ℕ}

-- ---- functions of a job (Snap7 1.4 sources, s7_types.h: pduFuncRead, pduFuncWrite)

abbrev pub read_function : ℕ
read_function = 0x04

abbrev pub write_function : ℕ
write_function = 0x05

-- ---- return codes of an item (Snap7 1.4 sources, s7_types.h: TResFunReadItem, TResFunWrite)

-- the item was read or written
abbrev pub good : ℕ
good = 0xFF

-- in a write request, the octet at the offset of a return code (Snap7 1.4 sources, s7_types.h: TReqFunWriteDataItem)
abbrev pub requested : ℕ
requested = 0x00

-- the link has no right to read or write the item (Wireshark 4.0, dissector of S7 communication:
-- s7comm.data.returncode)
abbrev pub not_allowed : ℕ
not_allowed = 0x03

-- the item's range isn't inside the area (Snap7 1.4 sources, s7_types.h: Code7AddressOutOfRange)
abbrev pub out_of_range : ℕ
out_of_range = 0x05

-- the word length doesn't fit the area or the count (Snap7 1.4 sources, s7_types.h: Code7InvalidTransportSize)
abbrev pub wrong_word : ℕ
wrong_word = 0x06

-- the data don't have the item's number of octets (Snap7 1.4 sources, s7_types.h: Code7WriteDataSizeMismatch)
abbrev pub wrong_size : ℕ
wrong_size = 0x07

-- there is no such area (Snap7 1.4 sources, s7_types.h: Code7ResItemNotAvailable)
abbrev pub no_area : ℕ
no_area = 0x0A

-- ---- areas (Snap7 1.4 reference manual, `Cli_ReadArea`)

abbrev pub inputs : ℕ
inputs = 0x81

abbrev pub outputs : ℕ
outputs = 0x82

abbrev pub flags : ℕ
flags = 0x83

abbrev pub data_blocks : ℕ
data_blocks = 0x84

-- the codes of counters and timers are also word lengths
abbrev pub counters : ℕ
counters = 0x1C

abbrev pub timers : ℕ
timers = 0x1D

-- ---- word lengths (Snap7 1.4 sources, s7_types.h: S7WLBit to S7WLReal)

abbrev pub bits : ℕ
bits = 0x01

abbrev pub bytes : ℕ
bytes = 0x02

abbrev pub characters : ℕ
characters = 0x03

abbrev pub words : ℕ
words = 0x04

abbrev pub integers : ℕ
integers = 0x05

abbrev pub double_words : ℕ
double_words = 0x06

abbrev pub double_integers : ℕ
double_integers = 0x07

abbrev pub reals : ℕ
reals = 0x08

-- ---- transport sizes of data items (Snap7 1.4 sources, s7_types.h: TS_ResBit to TS_ResOctet)

-- one bit; its stated length is 1
abbrev pub bit_transport : ℕ
bit_transport = 0x03

-- bytes, words and double words; their stated length counts bits
abbrev pub byte_transport : ℕ
byte_transport = 0x04

-- integers; their stated length counts bits
abbrev pub integer_transport : ℕ
integer_transport = 0x05

-- reals; their stated length counts octets
abbrev pub real_transport : ℕ
real_transport = 0x07

-- characters, counters and timers; their stated length counts octets
abbrev pub octet_transport : ℕ
octet_transport = 0x09
