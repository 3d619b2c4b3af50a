-- What a link over the machine shows.
use Rattle.std.specs.Prelude.{Bool, true, false, Option, None, Some}
use Rattle.s7_outer.specs.Shown.{Moved, Shown}
use Rattle.s7_os.specs.declared.real_link.RealLink.{RealLink}

-- whether the stream was shut, and nothing of how far the link had come then
abbrev pub shut_as : Bool → Option Moved
shut_as false = None
shut_as true = Some (record { left = None; written = None })

-- what a link over a runtime and its reader shows
abbrev pub real_of : {R Reader : Type 0} → RealLink R Reader → Shown
real_of s = record {
  left = None;
  written = None;
  has_ended = s.ended;
  faults = s.faults;
  waits = s.waits;
  moment = None;
  clock_faults = s.clock_faults;
  looks = s.looks;
  space = None;
  shut = Some (shut_as s.shut);
  lent = None;
}

-- a link that wasn't used yet
abbrev pub unused_real : Shown
unused_real = record {
  left = None;
  written = None;
  has_ended = false;
  faults = 0;
  waits = 0;
  moment = None;
  clock_faults = 0;
  looks = 0;
  space = None;
  shut = Some None;
  lent = None;
}
