-- How passwords go from a client to its session.
use Rattle.std.specs.Prelude.{◌≡◌, ℕ, List}
use Rattle.s7_dialogue.specs.UserData.{encoded}
use Rattle.s7_session.specs.Passwords.{decoded}

-- A session decodes the password that a client encodes.
pub record PasswordsAreRead : Type 0 where
  pub read : (text : List ℕ) → decoded (encoded text) ≡ text
