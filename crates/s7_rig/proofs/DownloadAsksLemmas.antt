-- What the job of a download asks: its announcement, then what the server asks for, and the insertion.
use Rattle.std.proofs.Common.{◌≡◌, ℕ, ◌*◌, ◌<◌, Bool, true, false, cond, ltb, Option, Some, List, [], ◌∷◌, length, refl, subst}
use Rattle.std.proofs.lemmas.Bool.{ltb-true}
use Rattle.s7_dialogue.specs.Question.{Question, announces, awaits_call, gives, inserts}
use Rattle.s7_dialogue.specs.Answer.{Answer, calls}
use Rattle.s7_dialogue.specs.Dialogue.{last_answer, behind_server, next_given}
use Rattle.s7_dialogue.proofs.FlightLemmas.{same_some}

module _ (P : Question → Type 0) (image : List ℕ) (room : ℕ)
    (give : (from call : ℕ) → from < length image → P (gives image room from call))
    (insert : (call : ℕ) → P (inserts image call)) where
  of_call : (from call : ℕ) (more : Bool) (q : Question) → ltb from (length image) ≡ more
      → Some (cond more (gives image room from call) (inserts image call)) ≡ Some q → P q
  of_call from call true q follows is =
      subst P (same_some (gives image room from call) q is) (give from call (ltb-true from (length image) follows))
  of_call from call false q follows is = subst P (same_some (inserts image call) q is) (insert call)

  -- what is asked behind the answers to the announcement and to what follows it
  pub of_server : (from : ℕ) (last : Option Answer) (q : Question) → behind_server image room from last ≡ Some q → P q
  of_server from (Some (calls call)) q is = of_call from call (ltb from (length image)) q refl is
  of_server from _ q is = absurd (cc)

  -- what holds of these holds of each question of the job
  pub of_download : (answers : List (Option Answer)) (q : Question) → P (announces image) → P (awaits_call image)
      → next_given image room answers ≡ Some q → P q
  of_download [] q first wait is = subst P (same_some (announces image) q is) first
  of_download (answer ∷ []) q first wait is = subst P (same_some (awaits_call image) q is) wait
  of_download (answer ∷ next ∷ answers) q first wait is =
      of_server (room * length answers) (last_answer next answers) q is
