-- What a reader finds in one more octet.
use Rattle.std.specs.Prelude.{◌≡◌, ℕ, ◌+◌, ◌-◌, ◌*◌, ◌<◌, ◌≤◌, false, List, ◌++◌, length, is_none, Option, None, Some}
use Rattle.s7_cotp.specs.declared.tpdu.Connection.{Connection}
use Rattle.s7_cotp.specs.Told.{CanBeWritten}
use Rattle.s7_wire.specs.Bounds.{size_of_code}
use Rattle.s7_wire.specs.Reads.{HasRead, HasFound, HasMessage, opens_by, ended_with, size_at, held_by}
use Rattle.s7_wire.specs.declared.found.Found.{Found}
use Rattle.s7_wire.specs.declared.found.Found.TheVariants as finding
use Rattle.s7_wire.specs.declared.reader.Reader.{Reader}

-- there are octets that the reader has read
abbrev pub HasReadSome : Reader → Type 0
HasReadSome r = ∥ ((b : List ℕ) × HasRead r b) ∥₁

-- the TPDU size after a finding
abbrev pub size_found : Found → Option ℕ → Option ℕ
size_found finding.More size = size
size_found (finding.Opened c) size = Some (size_of_code c.size_code)
size_found finding.Message size = size
size_found finding.Disconnected size = size
size_found (finding.Fault fault) size = size

-- the greatest number of octets that the reader still takes before a message is whole or the link ends
abbrev pub octets_left : Reader → ℕ
octets_left r = (64 - r.transport.joiner.count) * 8200 + (8199 - length (held_by r))

-- An octet was used on a link that hasn't ended, and this was found in it.
pub record ReadsOctet (old new : Reader) (before after : List ℕ) (found : Found) : Type 0 where
  pub used : List ℕ
  pub few : length used ≤ 1
  -- an octet is used unless the link had ended before
  pub one : ended_with old ≡ None → 0 < length used
  pub inbox : before ≡ used ++ after
  pub finds : (b : List ℕ) → HasRead old b → HasFound new b used found
  pub opening : opens_by new ≡ opens_by old
  pub some : HasReadSome new
  pub size : size_at new ≡ size_found found (size_at old)
  pub opened : (c : Connection) → found ≡ finding.Opened c → size_at old ≡ None
  pub sized : found ≡ finding.Message → is_none (size_at old) ≡ false
  pub writable : (c : Connection) → found ≡ finding.Opened c → CanBeWritten c
  pub whole : found ≡ finding.Message → HasMessage new
  pub less : found ≡ finding.More → octets_left new < octets_left old
