-- Numbers of a served link: this profile's own.
use Rattle.std.specs.Prelude.{ℕ}

-- the most octets that are taken from a link
abbrev pub spent : ℕ
spent = 4294967295
