-- How an assembly holds its image.
use Rattle.std.specs.Prelude.{◌≡◌, ℕ, ◌≤◌, List, [], length, ⊤}
use Rattle.s7_block.specs.declared.assembly.Stage.{Stage}
use Rattle.s7_block.specs.declared.assembly.Stage.TheVariants.{Idle, Awaiting, Whole}
use Rattle.s7_block.specs.Assembly.{Progress, idle, awaiting, whole}

abbrev pub progress_of : List ℕ → Stage → Progress
progress_of octets Idle = idle
progress_of octets (Awaiting len) = awaiting len octets
progress_of octets Whole = whole octets

-- nothing is held while nothing is awaited, and at most the stated length before the image is whole
abbrev pub IsWithin : List ℕ → Stage → Type 0
IsWithin octets Idle = octets ≡ []
IsWithin octets (Awaiting len) = length octets ≤ len
IsWithin octets Whole = ⊤
