-- What contracts see of an answer to user data that goes out in slices.
use Rattle.std.specs.Prelude.{ℕ, Bool, ◌&&◌, nat_lt, List, [], length, Option, None, Some, if◌then◌else◌}
use Rattle.s7_header.specs.declared.user_params.UserParams.{UserParams}
use Rattle.s7_session.specs.Judgement.{is_slice_of}
use Rattle.s7_session.specs.LinkState.{Sliced}

-- octets are left that may be asked for
abbrev pub is_left : Sliced → Bool
is_left s = nat_lt 0 (length s.rest)

-- an answer is held as long as octets are left
abbrev pub sliced_of : Sliced → Option Sliced
sliced_of s = if is_left s then Some s else None

-- octets are left of the answer that is asked for
abbrev pub is_held : Sliced → UserParams → Bool
is_held s asked = is_left s && is_slice_of asked s

-- the octets of an answer that is held
abbrev pub rest_of : Option Sliced → List ℕ
rest_of None = []
rest_of (Some held) = held.rest
