-- The error words of refusals. Those from 8403 to 8404 and from 8F01 to 8F03 are this profile's own; Snap7 1.4 sources,
-- s7_micro_client.cpp: TSnap7MicroClient::CpuError distinguishes the others.
use Rattle.std.specs.Prelude.{ℕ}
use Rattle.s7_session.specs.declared.judge.Refusal.{Refusal}
use Rattle.s7_session.specs.declared.judge.Refusal.TheVariants.{UnknownFunction, NotNegotiated, Unreadable, OverPdu}
use Rattle.s7_session.specs.declared.judge.Refusal.TheVariants.{NotAllowed}

abbrev pub error_of : Refusal → ℕ
error_of UnknownFunction = 0x8104
error_of NotNegotiated = 0x8403
error_of Unreadable = 0x8404
error_of OverPdu = 0x8500
error_of NotAllowed = 0x8F03

-- the history is full
abbrev pub FULL : ℕ
FULL = 0x8F01

-- the clock failed
abbrev pub CLOCK_FAILED : ℕ
CLOCK_FAILED = 0x8F02

-- no password can be set or cleared, since nothing guards the areas
-- (Snap7 1.4 sources, s7_types.h: Code7NoPasswordToSet)
abbrev pub NO_GUARD : ℕ
NO_GUARD = 0xD605

-- the link clears a right that it doesn't have (Snap7 1.4 sources, s7_types.h: Code7NoPasswordToClear)
abbrev pub NO_RIGHT : ℕ
NO_RIGHT = 0xD604

-- the password that is set isn't the guard's (Snap7 1.4 sources, s7_types.h: Code7InvalidPassword)
abbrev pub WRONG_PASSWORD : ℕ
WRONG_PASSWORD = 0xD602
