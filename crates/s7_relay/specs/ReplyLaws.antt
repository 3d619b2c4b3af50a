-- Laws of replies.
use Rattle.std.specs.Prelude.{◌≡◌, ◌⊎◌, ℕ, true, List}
use Rattle.s7_plant.specs.declared.request.Request.{Request}
use Rattle.s7_relay.specs.Acts.{is_ended, is_failed, is_late}
use Rattle.s7_relay.specs.Errors.{no_answer, no_link}
use Rattle.s7_relay.specs.Replies.{reply_of}
use Rattle.s7_relay.specs.declared.passage.Passage.{Passage}

-- a telegram with the error word 8F05 met a failure, or the far server ended the link in it
abbrev pub LostLinksHaveCauses : Type 0
LostLinksHaveCauses =
    (request : Request) (near : List ℕ) (p : Passage) → (reply_of request near p).error ≡ no_link
    → (is_failed p ≡ true) ⊎ (is_ended p ≡ true)

-- a telegram with the error word 8F06 had a connect or a job that the far server didn't answer in time
abbrev pub LateAnswersHaveCauses : Type 0
LateAnswersHaveCauses =
    (request : Request) (near : List ℕ) (p : Passage) → (reply_of request near p).error ≡ no_answer
    → is_late p ≡ true
