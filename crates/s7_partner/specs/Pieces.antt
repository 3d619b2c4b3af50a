-- What the code's values say of a fragment, and the effect of a fragment on a block.
use Rattle.std.specs.Prelude.{ℕ, if◌then◌else◌, List, [], is_none, Option, None, Some, option_map}
use Rattle.s7_partner.specs.declared.telegrams.Piece.{Piece as HeldPiece}
use Rattle.s7_partner.specs.Telegrams.{Piece, piece_in, sequence_of}
use Rattle.s7_partner.specs.States.{Receiving, State, is_of, by_piece}

-- the fragment, as the code's value gives it
abbrev pub piece_held : HeldPiece → Piece
piece_held p = record { number = p.number; rid = p.rid; total = p.total; octets = p.octets.now; more = p.more }

-- the block that a first fragment begins
abbrev pub first_block : Piece → Option Receiving
first_block p =
    option_map (λ (total : ℕ). record { number = p.number; rid = p.rid; total = total; octets = [] }) p.total

-- the block to which a fragment belongs
abbrev pub block_for : Option Receiving → Piece → Option Receiving
block_for None p = first_block p
block_for (Some r) p = if is_of r p then Some r else None

-- the effect of a message that is read as a fragment
abbrev pub with_piece_read : State → List ℕ → State
with_piece_read s octets =
    by_piece s (sequence_of octets) s.receiving (piece_in (is_none s.receiving) octets)
