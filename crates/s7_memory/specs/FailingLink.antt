-- What a failing link shows.
use Rattle.std.specs.Prelude.{ℕ, ◌+◌, List, [], ◌∷◌, drop, None}
use Rattle.s7_outer.specs.Shown.{Shown}
use Rattle.s7_memory.specs.declared.failing_link.FailingLink.{FailingLink}
use Rattle.s7_memory.specs.declared.failing_link.Fate.{Fate}
use Rattle.s7_memory.specs.declared.failing_link.Fate.TheVariants as fate

abbrev pub inner_of : {L : Type 0} → FailingLink L → L
inner_of f = f.inner

-- the fates of the calls to come
abbrev pub fates_left : {L : Type 0} → FailingLink L → List Fate
fates_left f = drop f.at f.fates.items

-- the fate of the next call; it passes if no fate is left
abbrev pub next_fate : List Fate → Fate
next_fate [] = fate.Pass
next_fate (next ∷ rest) = next

-- the effects of the fates so far
pub record Counted : Type 0 where
  -- the number of calls that failed by their fate
  pub faults : ℕ
  -- the number of calls that waited by their fate
  pub waits : ℕ
  -- the number of looks at the clock that failed by their fate
  pub clock_faults : ℕ

abbrev pub counted_of : {L : Type 0} → FailingLink L → Counted
counted_of f = record { faults = f.failed; waits = f.waited; clock_faults = f.clock_failed }

-- no fate has had an effect yet
abbrev pub none_counted : Counted
none_counted = record { faults = 0; waits = 0; clock_faults = 0 }

-- what the link inside shows, plus the counts of the fates. A look that failed by its fate counts as a look. The
-- number of octets that the link can take isn't shown
abbrev pub with_counted : Counted → Shown → Shown
with_counted counted inner = record inner {
  faults = inner.faults + counted.faults;
  waits = inner.waits + counted.waits;
  clock_faults = inner.clock_faults + counted.clock_faults;
  looks = inner.looks + counted.clock_faults;
  space = None;
}
