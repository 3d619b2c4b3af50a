-- The exit statuses of the program, this project's own.
use Rattle.std.specs.Prelude.{ℕ}
use Rattle.s7_program.specs.Statuses as shared
use Rattle.s7_relay_main.specs.declared.ended.Ended.{Ended}
use Rattle.s7_relay_main.specs.declared.ended.Ended.TheVariants as ended

-- all went well
abbrev pub done : ℕ
done = shared.done

-- the words are no command line
abbrev pub usage : ℕ
usage = shared.usage

-- the windows can't be read
abbrev pub windows : ℕ
windows = shared.refused

-- the windows file failed
abbrev pub file : ℕ
file = shared.file

-- the output failed
abbrev pub output : ℕ
output = shared.output

-- memory ran out
abbrev pub memory : ℕ
memory = shared.memory

-- the status for how the program ended
abbrev pub status_of : Ended → ℕ
status_of ended.Done = done
status_of ended.Windows = windows
status_of ended.File = file
status_of ended.Output = output
status_of ended.Memory = memory
