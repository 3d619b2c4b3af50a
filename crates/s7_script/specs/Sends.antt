-- The blocks that a sends file gives to send, line by line, or its first faulty line.
use Rattle.std.specs.Prelude.{ℕ, ◌==◌, ◌+◌, ◌*◌, ◌<◌, ◌≤◌, nat_le, List, [], ◌∷◌, ◌++◌, length, codes, Option, Some, None}
use Rattle.std.specs.Prelude.{Result, Ok, Err, if◌then◌else◌}
use Rattle.std.specs.Str.{bytes_eq}
use Rattle.hex.specs.Hex.{decode_of}
use Rattle.hex.specs.declared.error.FromHexError.{FromHexError}
use Rattle.s7_text.specs.Lines.{Text, lines, is_passed, next_line}
use Rattle.s7_text.specs.Fields.{field_of, rest_of}
use Rattle.s7_script.specs.Script.{◌>>=◌, ended}
use Rattle.s7_script.specs.declared.sends.send_list.SendLine.{SendLine}
use Rattle.s7_script.specs.declared.scripts.script_fault.ScriptFault.{ScriptFault}
use Rattle.s7_script.specs.declared.scripts.script_fault.ScriptKind.{ScriptKind}
use Rattle.s7_script.specs.declared.scripts.script_fault.ScriptKind.TheVariants as kind

-- a block to send
pub record Send : Type 0 where
  pub rid : ℕ
  pub body : List ℕ

-- a number of four octets, in eight hexadecimal digits
abbrev pub four_octets_in : Result (List ℕ) FromHexError → Result ℕ ScriptKind
four_octets_in (Ok (a ∷ b ∷ c ∷ d ∷ [])) = Ok (((a * 256 + b) * 256 + c) * 256 + d)
four_octets_in _ = Err kind.Digits

-- the block with these octets, of which there are at most 65,535; no field is left after them
abbrev pub with_body : ℕ → Option Text → Result (List ℕ) FromHexError → Result Send ScriptKind
with_body rid rest (Err e) = Err kind.Digits
with_body rid rest (Ok octets) =
    if nat_le (length octets) 65535 then ended (record { rid = rid; body = octets }) rest else Err kind.Number

-- the block with the octets of hexadecimal digits, which are an even number, at least two
abbrev pub with_digits : ℕ → Text → Option Text → Result Send ScriptKind
with_digits rid field rest = if length field == 0 then Err kind.Digits else with_body rid rest (decode_of field)

abbrev pub with_hex : ℕ → Option Text → Result Send ScriptKind
with_hex rid None = Err kind.Fields
with_hex rid (Some text) = with_digits rid (field_of text) (rest_of text)

-- the block that the fields RID HEX give
abbrev pub block_sent : Option Text → Result Send ScriptKind
block_sent None = Err kind.Fields
block_sent (Some text) = do
  rid ← four_octets_in (decode_of (field_of text))
  with_hex rid (rest_of text)

-- a block has from 1 to 65,535 octets
abbrev pub IsSized : SendLine → Type 0
IsSized line = (0 < length line.body) × (length line.body ≤ 65535)

-- the block of a line: `send RID HEX`
abbrev pub send_of : Text → Result Send ScriptKind
send_of text = if bytes_eq (field_of text) (codes "send") then block_sent (rest_of text) else Err kind.Word

abbrev pub at_line : ℕ → Result Send ScriptKind → Result (List SendLine) ScriptFault
at_line line (Ok s) = Ok (record { line = line; rid = s.rid; body = s.body } ∷ [])
at_line line (Err kind) = Err (record { line = line; kind = kind })

-- empty lines and comments give nothing, every other line a block
abbrev pub line_sends : ℕ → Text → Result (List SendLine) ScriptFault
line_sends line text = if is_passed text then Ok [] else at_line line (send_of text)

-- the blocks of the lines from this number on, or the first faulty line
unfoldable pub send_lines : ℕ → List Text → Result (List SendLine) ScriptFault
send_lines line [] = Ok []
send_lines line (text ∷ rest) = do
  found ← line_sends line text
  others ← send_lines (next_line line) rest
  Ok (found ++ others)

-- THE BLOCKS that a sends file names, or its first faulty line
abbrev pub sends : Text → Result (List SendLine) ScriptFault
sends text = send_lines 1 (lines text)
