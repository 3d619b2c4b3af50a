-- What a dial over TCP shows.
use Rattle.std.specs.Prelude.{ℕ, None}
use Rattle.s7_outer.specs.DialShown.{DialShown}
use Rattle.s7_os.specs.declared.tcp_dial.TcpDial.{TcpDial}

abbrev pub tcp_dial_of : {R L : Type 0} → TcpDial R → DialShown L
tcp_dial_of d = record { next = λ _ _. None; faults = λ _ _. d.faults; calls = d.calls }

-- the number of failed calls
abbrev pub fault_count : {R : Type 0} → TcpDial R → ℕ
fault_count d = d.faults

-- the number of calls
abbrev pub call_count : {R : Type 0} → TcpDial R → ℕ
call_count d = d.calls
