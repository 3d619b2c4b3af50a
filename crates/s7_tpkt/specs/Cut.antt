-- What contracts see of a cutter.
use Rattle.std.specs.Prelude.{ℕ, List}

-- the octets held of the current packet, and the limit of a packet's length
pub record Cut : Type 0 where
  pub held : List ℕ
  pub limit : ℕ
