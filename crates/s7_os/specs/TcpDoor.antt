-- What a door over TCP shows.
use Rattle.std.specs.Prelude.{ℕ, None}
use Rattle.s7_outer.specs.DoorShown.{DoorShown}
use Rattle.s7_os.specs.declared.tcp_door.TcpDoor.{TcpDoor}

abbrev pub tcp_door_of : {R L : Type 0} → TcpDoor R → DoorShown L
tcp_door_of d = record { coming = None; heard = d.port; listens = d.listens; faults = λ _. d.faults; lent = None }

-- the port of the last `listen`; 0 before the first
abbrev pub port_of : {R : Type 0} → TcpDoor R → ℕ
port_of d = d.port

-- the number of calls of `listen`
abbrev pub listen_count : {R : Type 0} → TcpDoor R → ℕ
listen_count d = d.listens

-- the number of failed calls
abbrev pub fault_count : {R : Type 0} → TcpDoor R → ℕ
fault_count d = d.faults
