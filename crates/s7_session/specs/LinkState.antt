-- The state that a link's earlier messages and their verdicts leave.
use Rattle.std.specs.Prelude.{ℕ, ◌+◌, ◌==◌, Bool, false, if◌then◌else◌, List, Option, None}
use Rattle.s7_block.specs.declared.block.BlockName.{BlockName}
use Rattle.s7_block.specs.Sides.{Upload}
use Rattle.s7_block.specs.Assembly.{Progress}
use Rattle.s7_area.specs.declared.guard.Guard.{Guard}

-- an answer to user data whose further slices may be asked for
pub record Sliced : Type 0 where
  pub group : ℕ
  pub subfunction : ℕ
  pub sequence : ℕ
  pub rest : List ℕ

-- a download: its block, and the progress of its image
pub record Download : Type 0 where
  pub name : BlockName
  pub progress : Progress

-- a job of the server's own in a download: its sequence, and its function
pub record ServerJob : Type 0 where
  pub sequence : ℕ
  pub function : ℕ

pub record LinkState : Type 0 where
  -- the PDU that was granted last, `None` before the first negotiation
  pub granted : Option ℕ
  -- whether the link has the right that the guard's password gives
  pub right : Bool
  -- the guard of the areas at the opening, which no message changes
  pub guard : Option Guard
  -- the last sequence octet of an answer to user data, 0 before the first
  pub user_sequence : ℕ
  pub sliced : Option Sliced
  -- the last id of an upload, 0 before the first
  pub upload_id : ℕ
  -- the upload under way, with the octets that weren't asked for yet
  pub upload : Option Upload
  -- the last sequence of a job of the server's, 0 before the first
  pub job_sequence : ℕ
  pub download : Option Download
  -- the job of the server's own that the client hasn't answered
  pub server_job : Option ServerJob

-- the state of a link on which nothing came, to areas with this guard
abbrev pub first_link : Option Guard → LinkState
first_link guard = record {
  granted = None;
  right = false;
  guard = guard;
  user_sequence = 0;
  sliced = None;
  upload_id = 0;
  upload = None;
  job_sequence = 0;
  download = None;
  server_job = None;
}

-- the octet after this one, as the sequence octet of an answer to user data or the id of an upload: 01 follows FF, this
-- profile's own
abbrev pub next_octet : ℕ → ℕ
next_octet n = if n == 0xFF then 1 else n + 1

-- the next sequence of the server's own jobs: 0001 follows FFFF, this profile's own
abbrev pub next_sequence : ℕ → ℕ
next_sequence n = if n == 0xFFFF then 1 else n + 1
