-- How the message of a job begins.
use Rattle.std.specs.Prelude.{ℕ, List, ◌++◌, length}
use Rattle.s7_header.specs.declared.header.Kind.TheVariants.{Job}
use Rattle.s7_header.specs.Header.{spelling_of}

-- the beginning of a job of this sequence with these parameters; data of n octets are to follow (Snap7 1.4 sources,
-- s7_types.h: TS7ReqHeader)
abbrev pub job_front : ℕ → List ℕ → ℕ → List ℕ
job_front sequence params n =
    spelling_of (record { kind = Job; sequence = sequence; param_len = length params; body_len = n; error = 0 }) ++ params
