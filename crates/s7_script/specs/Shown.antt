-- What contracts see of the state of the reader of area files.
use Rattle.std.specs.Prelude.{option_map}
use Rattle.s7_script.specs.Reading.{Open as OpenArea, State as Reading}
use Rattle.s7_script.specs.declared.areas.opening.Open.{Open}
use Rattle.s7_script.specs.declared.areas.opening.State.{State}

abbrev pub open_of : Open → OpenArea
open_of o = record { line = o.line; key = o.key; size = o.size; octets = o.octets.items }

abbrev pub state_of : State → Reading
state_of s = record { version = s.version; may_guard = s.may_guard; areas = s.areas; current = option_map open_of s.current }
