-- The error words of replies to what was asked of another server: this profile's own.
use Rattle.std.specs.Prelude.{ℕ, ◌==◌, ◌||◌, Bool, if◌then◌else◌}
use Rattle.s7_dialogue.specs.Codes.{link_ended, receive_failed, send_failed, timed_out}

-- the telegram is neither a read nor a write (Snap7 1.4 sources, s7_types.h: Code7FunNotAvailable)
abbrev pub no_function : ℕ
no_function = 0x8104

-- the dial or the link failed, or the far server ended the link
abbrev pub no_link : ℕ
no_link = 0x8F05

-- the far server didn't answer
abbrev pub no_answer : ℕ
no_answer = 0x8F06

-- the far items don't fit into one far telegram
abbrev pub too_long : ℕ
too_long = 0x8F07

-- the far connect or the far job ended otherwise
abbrev pub far_fault : ℕ
far_fault = 0x8F08

-- whether the far link failed, by the code with which a connect or a job over it ended
abbrev pub is_failure : ℕ → Bool
is_failure code = code == send_failed || code == receive_failed

-- THE ERROR WORD if the far connect or the far job ended with this code, which isn't 0
abbrev pub error_of : ℕ → ℕ
error_of code =
    if code == link_ended || is_failure code then no_link
    else (if code == timed_out then no_answer else far_fault)
