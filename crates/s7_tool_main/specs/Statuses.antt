-- The exit statuses of the program, this profile's own.
use Rattle.std.specs.Prelude.{ℕ}
use Rattle.s7_program.specs.Statuses as shared
use Rattle.s7_tool_main.specs.declared.ended.Ended.{Ended}
use Rattle.s7_tool_main.specs.declared.ended.Ended.TheVariants as ended

-- all went well
abbrev pub done : ℕ
done = shared.done

-- the words are no command
abbrev pub usage : ℕ
usage = shared.usage

-- a tag file, a script, a sends file or the areas can't be read
abbrev pub script : ℕ
script = shared.refused

-- a file failed
abbrev pub file : ℕ
file = shared.file

-- the dial failed
abbrev pub dial : ℕ
dial = shared.unreached

-- the output failed
abbrev pub output : ℕ
output = shared.output

-- everything was done, and a result's code isn't 0, a client isn't finished, or a block wasn't acknowledged
abbrev pub jobs : ℕ
jobs = shared.jobs

-- memory ran out
abbrev pub memory : ℕ
memory = shared.memory

-- the status for how the command ended
abbrev pub status_of : Ended → ℕ
status_of ended.Done = done
status_of ended.Refused = script
status_of ended.File = file
status_of ended.Dial = dial
status_of ended.Output = output
status_of ended.Jobs = jobs
status_of ended.Memory = memory
