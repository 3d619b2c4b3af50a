-- The table of word lengths: the number of octets of an element (Snap7 1.4 reference manual, `Cli_ReadArea`: word
-- lengths), and the transport size with which it is sent (Snap7 1.4 sources, s7_micro_client.cpp:
-- TSnap7MicroClient::opWriteArea).
use Rattle.std.specs.Prelude.{ℕ, Bool, ◌==◌, ◌||◌, if◌then◌else◌, Option, Some, None, unwrap_or}
use Rattle.std.specs.Option.{option_map}
use Rattle.s7_item.specs.Codes.{bits, bytes, characters, words, integers, double_words, double_integers, reals, counters, timers, bit_transport, byte_transport, integer_transport, real_transport, octet_transport}

-- one row of the table: the number of octets of an element, and its transport size
pub record Row : Type 0 where
  pub size : ℕ
  pub transport : ℕ

-- the row for elements of this number of octets, sent with this transport size
abbrev pub of_size : ℕ → ℕ → Row
of_size size transport = record { size = size; transport = transport }

-- the row of a word length, if it is known
abbrev pub row_of : ℕ → Option Row
row_of word =
    if word == bits then Some (of_size 1 bit_transport)
    else (if word == bytes then Some (of_size 1 byte_transport)
    else (if word == characters then Some (of_size 1 octet_transport)
    else (if word == words then Some (of_size 2 byte_transport)
    else (if word == integers then Some (of_size 2 integer_transport)
    else (if word == double_words then Some (of_size 4 byte_transport)
    else (if word == double_integers then Some (of_size 4 integer_transport)
    else (if word == reals then Some (of_size 4 real_transport)
    else (if word == counters then Some (of_size 2 octet_transport)
    else (if word == timers then Some (of_size 2 octet_transport)
    else None)))))))))

-- the number of octets of an element, if the word length is known
unfoldable pub size_of : ℕ → Option ℕ
size_of word = option_map (λ (r : Row). r.size) (row_of word)

-- the transport size of a data item of the word length; 00 if the word length is unknown
unfoldable pub transport_of : ℕ → ℕ
transport_of word = unwrap_or (option_map (λ (r : Row). r.transport) (row_of word)) 0x00

-- whether a stated length counts bits; else it counts octets (Snap7 1.4 sources, s7_micro_client.cpp:
-- TSnap7MicroClient::opWriteArea)
unfoldable pub counts_bits : ℕ → Bool
counts_bits transport = transport == bit_transport || transport == byte_transport || transport == integer_transport

-- the transport sizes that data items have (Snap7 1.4 sources, s7_types.h: TS_ResBit to TS_ResOctet)
unfoldable pub is_transport : ℕ → Bool
is_transport transport =
    transport == bit_transport || transport == byte_transport || transport == integer_transport
    || transport == real_transport || transport == octet_transport
