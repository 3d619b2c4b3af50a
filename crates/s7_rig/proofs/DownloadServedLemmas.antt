-- How a session reads what answers its own jobs in a download, and what becomes of the answer by which it is closed.
use Rattle.std.proofs.Common.{◌≡◌, ℕ, cond, ltb, List, [], ◌++◌, length, drop, Some, Ok, Err, refl, ap, ◌∙◌, arith}
use Rattle.std.proofs.Common.{length-append}
use Rattle.std.specs.Prelude.{None}
use Rattle.std.proofs.Math.Seq.{take-append_seam, drop-append_seam}
use Rattle.std.proofs.lemmas.Bool.{eq-eqb, le-ltb}
use Rattle.s7_header.specs.declared.header.Kind.TheVariants.{AckData}
use Rattle.s7_header.specs.declared.faults.HeaderFault.TheVariants.{Short, Lengths}
use Rattle.s7_header.specs.Header.{fields_of, header_of, if_adds_up, whole_len}
use Rattle.s7_header.proofs.OctetLemmas.{two_of_number}
use Rattle.s7_block.specs.Telegrams.{close_function}
use Rattle.s7_wire.specs.Sent.{sent_message}
use Rattle.s7_dialogue.specs.Downloads.{close_params}
use Rattle.s7_dialogue.specs.Question.{Question, message_octets, closing_octets, announces, awaits_call, gives, inserts}
use Rattle.s7_session.specs.Judgement.{judge, answers_job, by_server_job, answer_came, job_answered}
use Rattle.s7_session.specs.LinkState.{LinkState}
use Rattle.s7_session.specs.Owed.{past}
use Rattle.s7_session.specs.Verdict.{Verdict}
use Rattle.s7_rig.specs.Exchanges.{HoldsWhole}
use Rattle.s7_rig.specs.Settled.{Settled, Serves}
use Rattle.s7_rig.proofs.AnsweredLemmas.{header_with}
use Rattle.s7_rig.proofs.JudgedLemmas.{chosen}
use Rattle.s7_rig.proofs.ServedLemmas.{served_own}

-- the questions of a download
abbrev pub IsOfDownload : Question → Type 0
IsOfDownload (announces image) = Unit {0}
IsOfDownload (awaits_call image) = Unit {0}
IsOfDownload (gives image room from call) = Unit {0}
IsOfDownload (inserts image call) = Unit {0}
IsOfDownload _ = ⊥

-- ---- answers to the server's jobs

answer_fields : (call : ℕ) (params body : List ℕ)
    → fields_of AckData (message_octets AckData call params body) ≡ header_with call params body
answer_fields call params body =
    let sequence = two_of_number call in
    let param_len = two_of_number (length params) in
    let body_len = two_of_number (length body) in
    cc

-- it is read whatever its sequence is
answer_read : (call : ℕ) (params body : List ℕ)
    → header_of (message_octets AckData call params body) ≡ Ok (header_with call params body)
unfolding header_of
answer_read call params body =
    let m = message_octets AckData call params body in
    let h = header_with call params body in
    ap (λ t. cond t (Err Short) (cond (ltb (length m) 12) (Err Short) (if_adds_up (fields_of AckData m) (length m))))
    (le-ltb (length m) 10 (omega arith))
    ∙ (ap (λ t. cond t (Err Short) (if_adds_up (fields_of AckData m) (length m))) (le-ltb (length m) 12 (omega arith))
    ∙ (ap (λ fields. if_adds_up fields (length m)) (answer_fields call params body)
    ∙ ap (λ t. cond t (Ok h) (Err Lengths))
    (eq-eqb (whole_len h) (length m) (omega (arith, length-append params body)))))

-- the answer to the job that isn't answered is judged by its parameters and data
pub judged_answer : (link : LinkState) (call function : ℕ) (params body : List ℕ)
    → link.server_job ≡ Some (record { sequence = call; function = function })
    → judge link (message_octets AckData call params body) ≡ job_answered link function params body
unfolding judge
judged_answer link call function params body is =
    let m = message_octets AckData call params body in
    chosen _ _ _ (ap (λ job. answers_job job m) is ∙ eq-eqb _ _ (two_of_number call))
    ∙ (ap (λ job. by_server_job link job m) is
    ∙ (ap (answer_came link function m) (answer_read call params body)
    ∙ (ap (λ xs. job_answered link function xs (drop (length params) (params ++ body))) (take-append_seam params body)
    ∙ ap (job_answered link function params) (drop-append_seam params body))))

-- ---- the close

-- a download that is whole is closed, and stays held
pub closing_served : {first : LinkState} (b : List ℕ) (js : List Verdict) (pdu call : ℕ) (image : List ℕ)
    → Settled first b js (Some pdu) → HoldsWhole (past first b js).link image call
    → Serves first b js (sent_message 1024 (closing_octets call)) js (Some pdu) [] []
    × ((past first (b ++ sent_message 1024 (closing_octets call)) js).link
    ≡ record (past first b js).link { server_job = None })
closing_served {first} b js pdu call image s held =
    let link = (past first b js).link in
    let served = served_own (closing_octets call) s (omega arith) (Some pdu) []
    (record link { server_job = None }) refl
    (judged_answer link call close_function close_params [] held.job) s.grants in
    (served.serves, served.leaves)
