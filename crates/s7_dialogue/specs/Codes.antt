-- The error numbers with which a job ends (Snap7 1.4 sources, s7_isotcp.h: errIsoConnect to errIsoRecvPacket;
-- s7_micro_client.h: errCliInvalidParams to errCliFunctionRefused). Which of them ends a job is this profile's own.
use Rattle.std.specs.Prelude.{ℕ}

-- the job succeeded
abbrev pub no_fault : ℕ
no_fault = 0

-- ---- the link

-- the client isn't connected, or its connection request was answered by something other than a confirm (Snap7 1.4
-- sources, s7_isotcp.h: errIsoConnect)
abbrev pub not_connected : ℕ
not_connected = 0x00010000

-- the server ended the link before it gave the last outstanding answer, or before a job of its own that was awaited
-- (Snap7 1.4 sources, s7_isotcp.h: errIsoDisconnect)
abbrev pub link_ended : ℕ
link_ended = 0x00020000

-- a packet or a TPDU can't be read, or isn't allowed there (Snap7 1.4 sources, s7_isotcp.h: errIsoInvalidPDU)
abbrev pub bad_packet : ℕ
bad_packet = 0x00030000

-- a message has fewer than ten octets (Snap7 1.4 sources, s7_isotcp.h: errIsoShortPacket)
abbrev pub short_message : ℕ
short_message = 0x00060000

-- a message has more than 64 fragments (Snap7 1.4 sources, s7_isotcp.h: errIsoTooManyFragments)
abbrev pub message_too_fragmented : ℕ
message_too_fragmented = 0x00070000

-- a packet or a message is too long (Snap7 1.4 sources, s7_isotcp.h: errIsoPduOverflow)
abbrev pub message_too_long : ℕ
message_too_long = 0x00080000

-- a transmit of the link failed (Snap7 1.4 sources, s7_isotcp.h: errIsoSendPacket)
abbrev pub send_failed : ℕ
send_failed = 0x00090000

-- a receive of the link failed (Snap7 1.4 sources, s7_isotcp.h: errIsoRecvPacket)
abbrev pub receive_failed : ℕ
receive_failed = 0x000A0000

-- ---- the client

-- the negotiation was refused, or the PDU granted is too small or above the one asked for (Snap7 1.4 sources,
-- snap7.h: errNegotiatingPDU)
abbrev pub negotiation_failed : ℕ
negotiation_failed = 0x00100000

-- the job has parameters that no telegram can have (Snap7 1.4 sources, s7_micro_client.h: errCliInvalidParams)
abbrev pub invalid_parameters : ℕ
invalid_parameters = 0x00200000

-- the job has more than twenty items (Snap7 1.4 sources, s7_micro_client.h: errCliTooManyItems)
abbrev pub too_many_items : ℕ
too_many_items = 0x00400000

-- a word length is unknown (Snap7 1.4 sources, s7_micro_client.h: errCliInvalidWordLen)
abbrev pub invalid_word : ℕ
invalid_word = 0x00500000

-- a write of several parts was refused after its first part
-- (Snap7 1.4 sources, s7_micro_client.h: errCliPartialDataWritten)
abbrev pub partly_written : ℕ
partly_written = 0x00600000

-- an item doesn't fit any telegram, or the server found a telegram too long (Snap7 1.4 sources, s7_micro_client.h:
-- errCliSizeOverPDU)
abbrev pub over_pdu : ℕ
over_pdu = 0x00700000

-- a message answers no outstanding telegram, and isn't a job of the server's that was awaited (Snap7 1.4 sources,
-- s7_micro_client.h: errCliInvalidPlcAnswer)
abbrev pub invalid_answer : ℕ
invalid_answer = 0x00800000

-- the job had too many polls that found the link not ready (Snap7 1.4 sources, s7_micro_client.h: errCliJobTimeout)
abbrev pub timed_out : ℕ
timed_out = 0x02000000

-- ---- the server's refusals

-- the item's range isn't inside the area (Snap7 1.4 sources, s7_micro_client.h: errCliAddressOutOfRange)
abbrev pub address_out_of_range : ℕ
address_out_of_range = 0x00900000

-- the word length doesn't fit the area (Snap7 1.4 sources, s7_micro_client.h: errCliInvalidTransportSize)
abbrev pub invalid_transport : ℕ
invalid_transport = 0x00A00000

-- the data don't have the item's number of octets (Snap7 1.4 sources, s7_micro_client.h:
-- errCliWriteDataSizeMismatch)
abbrev pub size_mismatch : ℕ
size_mismatch = 0x00B00000

-- there is no such area or block (Snap7 1.4 sources, s7_micro_client.h: errCliItemNotAvailable)
abbrev pub not_available : ℕ
not_available = 0x00C00000

-- the server doesn't accept a value (Snap7 1.4 sources, s7_micro_client.h: errCliInvalidValue)
abbrev pub invalid_value : ℕ
invalid_value = 0x00D00000

-- the CPU is running already (Snap7 1.4 sources, s7_micro_client.h: errCliAlreadyRun)
abbrev pub already_runs : ℕ
already_runs = 0x00F00000

-- the CPU is stopped already (Snap7 1.4 sources, s7_micro_client.h: errCliAlreadyStop)
abbrev pub already_stopped : ℕ
already_stopped = 0x01300000

-- the server doesn't have the function (Snap7 1.4 sources, s7_micro_client.h: errCliFunNotAvailable)
abbrev pub no_such_function : ℕ
no_such_function = 0x01400000

-- a password is needed (Snap7 1.4 sources, s7_micro_client.h: errCliNeedPassword)
abbrev pub password_needed : ℕ
password_needed = 0x01D00000

-- the password is wrong (Snap7 1.4 sources, s7_micro_client.h: errCliInvalidPassword)
abbrev pub wrong_password : ℕ
wrong_password = 0x01E00000

-- there is no password to set or to clear (Snap7 1.4 sources, s7_micro_client.h: errCliNoPasswordToSetOrClear)
abbrev pub no_password : ℕ
no_password = 0x01F00000

-- the server refused for a reason without a number of its own (Snap7 1.4 sources, s7_micro_client.h:
-- errCliFunctionRefused)
abbrev pub refused_otherwise : ℕ
refused_otherwise = 0x02300000
