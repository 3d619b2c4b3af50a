-- The exit statuses of the programs, this project's own.
use Rattle.std.specs.Prelude.{ℕ}

-- all went well
abbrev pub done : ℕ
done = 0

-- the words are no command line of the program
abbrev pub usage : ℕ
usage = 1

-- what the words name can't be read: areas, windows, tags, a script or a sends file
abbrev pub refused : ℕ
refused = 2

-- a file failed
abbrev pub file : ℕ
file = 3

-- the outside wasn't reached: the door can't listen, or failed before a link came, or the dial failed
abbrev pub unreached : ℕ
unreached = 4

-- the output failed
abbrev pub output : ℕ
output = 5

-- everything was done, and not all of it went well
abbrev pub jobs : ℕ
jobs = 6

-- memory ran out
abbrev pub memory : ℕ
memory = 9
