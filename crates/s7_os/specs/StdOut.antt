-- What an output over a stream of the machine shows.
use Rattle.std.specs.Prelude.{None}
use Rattle.s7_outer.specs.OutShown.{OutShown}
use Rattle.s7_os.specs.declared.std_out.StdOut.{StdOut}

abbrev pub stream_of : {P : Type 0} → StdOut P → OutShown
stream_of s = record { text = None; faults = s.faults }

-- an output that wasn't used yet
abbrev pub unused_stream : OutShown
unused_stream = record { text = None; faults = 0 }
