-- The exit statuses of the program, this profile's own.
use Rattle.std.specs.Prelude.{ℕ}
use Rattle.s7_program.specs.Statuses as shared
use Rattle.s7_server_main.specs.declared.run.Ended.{Ended}
use Rattle.s7_server_main.specs.declared.run.Ended.TheVariants as ended

-- all went well
abbrev pub done : ℕ
done = shared.done

-- the words are no command
abbrev pub usage : ℕ
usage = shared.usage

-- the areas can't be read
abbrev pub areas : ℕ
areas = shared.refused

-- a file failed
abbrev pub file : ℕ
file = shared.file

-- the door failed before a link came
abbrev pub door : ℕ
door = shared.unreached

-- the output failed
abbrev pub output : ℕ
output = shared.output

-- memory ran out
abbrev pub memory : ℕ
memory = shared.memory

-- the status for how the command ended
abbrev pub status_of : Ended → ℕ
status_of ended.Done = done
status_of ended.Areas = areas
status_of ended.File = file
status_of ended.Door = door
status_of ended.Output = output
status_of ended.Memory = memory
