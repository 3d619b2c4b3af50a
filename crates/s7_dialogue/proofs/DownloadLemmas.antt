-- Lemmas on what a download asks, by the answers before it.
use Rattle.std.proofs.Common.{◌≡◌, ℕ, suc, ◌+◌, ◌-◌, ◌*◌, ◌≤◌, Bool, true, false, cond, ltb, Option, Some, None, List, [], ◌∷◌, ◌++◌, length, refl, ap, ◌∙◌, subst, arith}
use Rattle.std.proofs.Math.Nat.{mul-suc}
use Rattle.std.proofs.lemmas.List.{length-append}
use Rattle.s7_dialogue.specs.declared.job.Job.{Job}
use Rattle.s7_dialogue.specs.declared.transfers.download.Pieces.{Pieces}
use Rattle.s7_dialogue.specs.declared.stages.single.Ask.{Ask}
use Rattle.s7_dialogue.specs.declared.stages.single.Ask.TheVariants as ask
use Rattle.s7_dialogue.specs.Question.{Question, announces, awaits_call, gives, inserts}
use Rattle.s7_dialogue.specs.Answer.{Answer, calls}
use Rattle.s7_dialogue.specs.Dialogue.{last_answer, behind_call, behind_server, next_given}
use Rattle.s7_dialogue.specs.Stages.{image_of, question_of_single}
use Rattle.s7_dialogue.specs.Singles.{ask_behind}
use Rattle.s7_dialogue.proofs.FlightLemmas.{same_some}
use Rattle.s7_dialogue.proofs.BringLemmas.{last_is}

-- ---- the answers before a question

-- None come before the announcement, and one before the server asks for the first piece. Behind its first job there is
-- one more for each piece that was given.
abbrev pub AreBefore : ℕ → List (Option Answer) → Question → Type 0
AreBefore room answers (announces image) = answers ≡ []
AreBefore room answers (awaits_call image) = length answers ≡ 1
AreBefore room answers (gives image others from call) =
    (2 ≤ length answers) × (from ≡ room * (length answers - 2))
AreBefore room answers (inserts image call) = 2 ≤ length answers
AreBefore room answers _ = ⊥

called_behind : (image : List ℕ) (room from call : ℕ) (answers : List (Option Answer)) (more : Bool)
    → 2 ≤ length answers → from ≡ room * (length answers - 2)
    → AreBefore room answers (cond more (gives image room from call) (inserts image call))
called_behind image room from call answers true some at = (some, at)
called_behind image room from call answers false some at = some

server_asks : (image : List ℕ) (room from : ℕ) (answers : List (Option Answer)) (last : Option Answer)
    (question : Question) → behind_server image room from last ≡ Some question → 2 ≤ length answers
    → from ≡ room * (length answers - 2) → AreBefore room answers question
server_asks image room from answers (Some (calls call)) question is some at =
    subst (AreBefore room answers) (same_some (behind_call image room from call) question is)
    (called_behind image room from call answers (ltb from (length image)) some at)
server_asks image room from answers (Some _) question is some at = absurd (cc)
server_asks image room from answers None question is some at = absurd (cc)

-- what a download asks stands behind these answers
pub download_asks : (image : List ℕ) (room : ℕ) (answers : List (Option Answer)) (question : Question)
    → next_given image room answers ≡ Some question → AreBefore room answers question
download_asks image room [] question is =
    subst (AreBefore room []) (same_some (announces image) question is) refl
download_asks image room (first ∷ []) question is =
    subst (AreBefore room (first ∷ [])) (same_some (awaits_call image) question is) (omega arith)
download_asks image room (first ∷ next ∷ answers) question is =
    let places : length answers ≡ length (first ∷ next ∷ answers) - 2 = omega arith in
    server_asks image room (room * length answers) (first ∷ next ∷ answers) (last_answer next answers) question is
    (omega arith) (ap (λ n. room * n) places)

-- ---- what is asked behind one more answer

pub first_behind : (image : List ℕ) (room : ℕ) (answers : List (Option Answer)) (answer : Option Answer)
    → length answers ≡ 1 → next_given image room (answers ++ answer ∷ []) ≡ behind_server image room 0 answer
first_behind image room [] answer one = absurd (omega (arith, one))
first_behind image room (first ∷ []) answer one =
    let none : room * 0 ≡ 0 = omega arith in
    ap (λ n. behind_server image room n answer) none
first_behind image room (first ∷ next ∷ answers) answer one = absurd (omega (arith, one))

-- behind a piece one more was given
pub server_behind : (image : List ℕ) (room : ℕ) (answers : List (Option Answer)) (answer : Option Answer)
    → 2 ≤ length answers
    → next_given image room (answers ++ answer ∷ [])
    ≡ behind_server image room (room * (length answers - 2) + room) answer
server_behind image room [] answer some = absurd (omega (arith, some))
server_behind image room (first ∷ []) answer some = absurd (omega (arith, some))
server_behind image room (first ∷ next ∷ answers) answer some =
    let longer : length (answers ++ answer ∷ []) ≡ suc (length answers) =
    omega (arith, length-append answers (answer ∷ [])) in
    let places : length answers ≡ length (first ∷ next ∷ answers) - 2 = omega arith in
    ap (behind_server image room (room * length (answers ++ answer ∷ []))) (last_is next answers answer)
    ∙ ap (λ n. behind_server image room n answer)
    (ap (λ n. room * n) longer
    ∙ (mul-suc room (length answers) ∙ ap (λ n. room * n + room) places))

-- ---- what goes out behind a job of the server's

by_more : (done : Job) (pieces : Pieces) (from call : ℕ) (so_far : List ℕ) (more : Bool)
    → question_of_single done (cond more (ask.Give pieces from call) (ask.Insert pieces call)) so_far
    ≡ cond more (gives (image_of done) pieces.room from call) (inserts (image_of done) call)
by_more done pieces from call so_far true = refl
by_more done pieces from call so_far false = refl

pub asks_called : (done : Job) (pieces : Pieces) (from call : ℕ) (so_far : List ℕ)
    → pieces.len ≡ length (image_of done)
    → question_of_single done (ask_behind pieces from call) so_far
    ≡ behind_call (image_of done) pieces.room from call
asks_called done pieces from call so_far whole =
    by_more done pieces from call so_far (ltb from pieces.len)
    ∙ ap (λ n. cond (ltb from n) (gives (image_of done) pieces.room from call) (inserts (image_of done) call)) whole

-- whatever goes out has this of both
pub of_called : (P : Ask → Type 0) (pieces : Pieces) (from call : ℕ)
    → (ltb from pieces.len ≡ true → P (ask.Give pieces from call)) → P (ask.Insert pieces call)
    → P (ask_behind pieces from call)
of_called P pieces from call gives_on inserts_then = by (ltb from pieces.len) gives_on
  where
    by : (more : Bool) → (more ≡ true → P (ask.Give pieces from call))
        → P (cond more (ask.Give pieces from call) (ask.Insert pieces call))
    by true given = given refl
    by false given = inserts_then
