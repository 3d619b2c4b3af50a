-- Which acts a partner may take.
use Rattle.std.specs.Prelude.{◌≡◌, ℕ, ◌<◌, ◌≤◌, true, false, List, [], ◌∷◌, length, None, IsSome}
use Rattle.s7_dialogue.specs.declared.config.Config.{Config}
use Rattle.s7_partner.specs.declared.role.Role.{Role}
use Rattle.s7_partner.specs.States.{Stage, opening, negotiating, going, closed, State, Act, gives, reads, hands}
use Rattle.s7_partner.specs.States.{acknowledges, with_act, is_sending}

abbrev pub IsOpen : Stage → Type 0
IsOpen opening = Unit {0}
IsOpen negotiating = Unit {0}
IsOpen (going pdu) = Unit {0}
IsOpen (closed code) = ⊥

-- One send at a time, of 1 to 65,535 octets, this profile's own limits. A block that has arrived whole is handed
-- out, and a block that was handed out is acknowledged, before anything more is read. A partner that was closed
-- does nothing.
pub record Gives (s : State) (rid : ℕ) (body : List ℕ) : Type 0 where
  pub idle : s.sending ≡ None
  pub numbered : rid < 4294967296
  pub some : 0 < length body
  pub most : length body ≤ 65535

pub record Reads (s : State) : Type 0 where
  pub handed : s.handed ≡ None
  pub none_whole : s.whole ≡ None

abbrev pub MayTake : State → Act → Type 0
MayTake s (gives rid body) = IsOpen s.stage × Gives s rid body
MayTake s (reads event) = IsOpen s.stage × Reads s
MayTake s hands = IsOpen s.stage × IsSome s.whole
MayTake s acknowledges = IsOpen s.stage × IsSome s.handed

-- each act is allowed in the state before it
abbrev pub AreTaken : Role → Config → State → List Act → Type 0
AreTaken role config s [] = Unit {0}
AreTaken role config s (act ∷ acts) = MayTake s act × AreTaken role config (with_act role config s act) acts

-- ---- what a poll reports

-- the last fragment of the block being sent was acknowledged
pub record EndsSend (role : Role) (config : Config) (s : State) (act : Act) : Type 0 where
  pub before : is_sending s ≡ true
  pub after : is_sending (with_act role config s act) ≡ false

abbrev pub IsQuiet : Role → Config → State → Act → Type 0
IsQuiet role config s (gives rid body) = ⊥
IsQuiet role config s (reads event) =
    (is_sending s ≡ true → is_sending (with_act role config s (reads event)) ≡ true)
IsQuiet role config s hands = ⊥
IsQuiet role config s acknowledges = Unit {0}

-- Acts that a poll doesn't report: no block is given to send or handed out, and no send ends.
abbrev pub AreQuiet : Role → Config → State → List Act → Type 0
AreQuiet role config s [] = Unit {0}
AreQuiet role config s (act ∷ acts) = IsQuiet role config s act × AreQuiet role config (with_act role config s act) acts
