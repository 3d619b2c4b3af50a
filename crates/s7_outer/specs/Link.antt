-- What the calls of a link and of its clock do.
use Rattle.std.specs.Prelude.{◌≡◌, ℕ, ◌<◌, ◌≤◌, List, [], take, Option, None, Some}
use Rattle.s7_outer.specs.declared.link.Got.{Got}
use Rattle.s7_outer.specs.declared.link.Got.TheVariants as got
use Rattle.s7_outer.specs.declared.link.Sent.{Sent}
use Rattle.s7_outer.specs.declared.link.Sent.TheVariants as sent
use Rattle.s7_outer.specs.declared.link.Tick.{Tick}
use Rattle.s7_outer.specs.declared.link.Tick.TheVariants as tick

-- the octets that a receive moved
abbrev pub octets_got : Got → List ℕ → List ℕ
octets_got (got.Bytes n) into = take n into
octets_got got.End into = []
octets_got got.NotYet into = []
octets_got got.Failed into = []

-- the octets that a transmit moved
abbrev pub octets_sent : Sent → List ℕ → List ℕ
octets_sent (sent.Bytes n) piece = take n piece
octets_sent sent.NotYet piece = []
octets_sent sent.Failed piece = []

-- at least one octet moved, and no more than there was room for
abbrev pub GotWithin : Got → ℕ → Type 0
GotWithin (got.Bytes n) room = (0 < n) × (n ≤ room)
GotWithin got.End room = Unit {0}
GotWithin got.NotYet room = Unit {0}
GotWithin got.Failed room = Unit {0}

abbrev pub SentWithin : Sent → ℕ → Type 0
SentWithin (sent.Bytes n) room = (0 < n) × (n ≤ room)
SentWithin sent.NotYet room = Unit {0}
SentWithin sent.Failed room = Unit {0}

-- exactly n octets came, or the answer is `none` if n is 0
abbrev pub GotCount : Got → ℕ → Got → Type 0
GotCount none n (got.Bytes k) = k ≡ n
GotCount none n got.End = (none ≡ got.End) × (n ≡ 0)
GotCount none n got.NotYet = (none ≡ got.NotYet) × (n ≡ 0)
GotCount none n got.Failed = (none ≡ got.Failed) × (n ≡ 0)

-- exactly n octets went, or the answer is `none` if n is 0
abbrev pub SentCount : Sent → ℕ → Sent → Type 0
SentCount none n (sent.Bytes k) = k ≡ n
SentCount none n sent.NotYet = (none ≡ sent.NotYet) × (n ≡ 0)
SentCount none n sent.Failed = (none ≡ sent.Failed) × (n ≡ 0)

-- if the link shows its time, the clock gives it or fails
abbrev pub TellsMoment : Option ℕ → Tick → Type 0
TellsMoment None tick = Unit {0}
TellsMoment (Some m) (tick.At t) = t ≡ m
TellsMoment (Some m) tick.Failed = Unit {0}
