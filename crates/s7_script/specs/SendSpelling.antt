-- The one text that is written for blocks to send.
use Rattle.std.specs.Prelude.{◌≡◌, ℕ, ◌<◌, ◌≤◌, List, [], ◌∷◌, ◌++◌, length, codes, Ok}
use Rattle.std.specs.List.{All}
use Rattle.hex.specs.Hex.{IsBytes, encode_lower}
use Rattle.s7_text.specs.Lines.{Text, next_line}
use Rattle.s7_script.specs.Printing.{four_octets}
use Rattle.s7_script.specs.Sends.{Send, sends}
use Rattle.s7_script.specs.declared.sends.send_list.SendLine.{SendLine}

-- a block that a line can name: a number of four octets, and from 1 to 65,535 octets
pub record IsSendable (s : Send) : Type 0 where
  pub numbered : s.rid < 4294967296
  pub some : 0 < length s.body
  pub most : length s.body ≤ 65535
  pub octets : IsBytes s.body

-- the line of a block
abbrev pub send_text : Send → Text
send_text s = codes "send " ++ (encode_lower (four_octets s.rid) ++ 32 ∷ encode_lower s.body)

-- a line for each block
abbrev pub sends_text : List Send → Text
sends_text [] = []
sends_text (s ∷ rest) = send_text s ++ 10 ∷ sends_text rest

-- the blocks with the numbers of their lines, from this number on
abbrev pub on_lines : ℕ → List Send → List SendLine
on_lines line [] = []
on_lines line (s ∷ rest) = record { line = line; rid = s.rid; body = s.body } ∷ on_lines (next_line line) rest

abbrev pub block_of : SendLine → Send
block_of line = record { rid = line.rid; body = line.body }

-- The text that is written for blocks is read as these blocks. What a text names can be written.
pub record SendsReadBack : Type 0 where
  pub reads : (blocks : List Send) → All IsSendable blocks → sends (sends_text blocks) ≡ Ok (on_lines 1 blocks)
  pub sendable : (text : Text) (found : List SendLine) → sends text ≡ Ok found
      → All (λ (line : SendLine). IsSendable (block_of line)) found
