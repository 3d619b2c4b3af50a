-- Replies: their contents, and which are ready to be filled.
use Rattle.std.specs.Prelude.{◌≡◌, ℕ, List}
use Rattle.s7_plant.specs.declared.reply.Reply.{Reply}

-- an error word, the answer's parameters, and its octets without any data header
pub record Said : Type 0 where
  pub error : ℕ
  pub params : List ℕ
  pub body : List ℕ

abbrev pub said : ℕ → List ℕ → List ℕ → Said
said error params body = record { error = error; params = params; body = body }

abbrev pub said_of : Reply → Said
said_of reply = said reply.error reply.params.octets reply.body.octets

-- a reply with room for 16 octets of parameters and for the longest image: this profile's own
pub record IsReadyReply (reply : Reply) : Type 0 where
  pub params : reply.params.room ≡ 16
  pub body : reply.body.room ≡ 65572
