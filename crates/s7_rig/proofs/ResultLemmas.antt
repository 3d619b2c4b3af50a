-- Results that one more comes behind: whether they come off, and once one of them leaves the client unconnected.
use Rattle.std.proofs.Common.{◌≡◌, ◌≢◌, ◌⊎◌, inl, inr, ℕ, Bool, true, List, [], ◌∷◌, ◌++◌}
use Rattle.std.proofs.Common.{subst}
use Rattle.s7_area.specs.Memory.{Memory}
use Rattle.s7_dialogue.specs.declared.job.Job.TheVariants as job
use Rattle.s7_dialogue.specs.declared.job.JobResult.{JobResult}
use Rattle.s7_dialogue.specs.Codes.{timed_out}
use Rattle.s7_session.specs.Books.{History}
use Rattle.s7_rig.specs.Complete.{CanComeOff, IsNoDisconnect, AreWithRight, AllComeOff}
use Rattle.s7_rig.proofs.OwnLemmas.{slice_get-grows}

-- a job met its last poll, or disconnected
abbrev pub IsGone : JobResult → Type 0
IsGone told = (told.code ≡ timed_out) ⊎ (told.job ≡ job.Disconnect)

-- one of them did
abbrev pub HaveGone : List JobResult → Type 0
HaveGone [] = ⊥
HaveGone (told ∷ results) = IsGone told ⊎ HaveGone results

-- the job, whose calls have these numbers, comes off where it can
abbrev pub ComesOff : Memory → History → ℕ → JobResult → List ℕ → Type 0
ComesOff m history pdu told numbers =
    told.code ≢ timed_out
    → (right : Bool) → (right ≡ true → AreWithRight history numbers) → CanComeOff m right pdu told.job → told.code ≡ 0

-- ---- one more

pub none_come_off : (m : Memory) (history : History) (pdu : ℕ) → AllComeOff m history pdu [] []
unfolding AllComeOff
none_come_off m history pdu = tt

pub come_off_more : (m : Memory) (history : History) (pdu : ℕ) (results : List JobResult) (places : List (List ℕ))
    (told : JobResult) (numbers : List ℕ) → AllComeOff m history pdu results places
    → ComesOff m history pdu told numbers
    → AllComeOff m history pdu (results ++ told ∷ []) (places ++ numbers ∷ [])
unfolding AllComeOff
come_off_more m history pdu [] [] told numbers all last = λ in_time. (last in_time, λ stays. tt)
come_off_more m history pdu [] (first ∷ places) told numbers all last = absurd all
come_off_more m history pdu (first ∷ results) [] told numbers all last = absurd all
come_off_more m history pdu (first ∷ results) (those ∷ places) told numbers all last = λ in_time.
    let held = all in_time in
    (held.0, λ stays. come_off_more m history pdu results places told numbers (held.1 stays) last)

no_more : (told : JobResult) → IsGone told → told.code ≢ timed_out → IsNoDisconnect told.job → ⊥
no_more told (inl late) in_time stays = in_time late
no_more told (inr leaves) in_time stays = subst IsNoDisconnect leaves stays

-- nothing is said of one behind them
pub come_off_behind : (m : Memory) (history : History) (pdu : ℕ) (results : List JobResult) (places : List (List ℕ))
    (told : JobResult) (numbers : List ℕ) → AllComeOff m history pdu results places → HaveGone results
    → AllComeOff m history pdu (results ++ told ∷ []) (places ++ numbers ∷ [])
unfolding AllComeOff
come_off_behind m history pdu [] places told numbers all gone = absurd gone
come_off_behind m history pdu (first ∷ results) [] told numbers all gone = absurd all
come_off_behind m history pdu (first ∷ results) (those ∷ places) told numbers all (inl gone) = λ in_time.
    ((all in_time).0, λ stays. absurd (no_more first gone in_time stays))
come_off_behind m history pdu (first ∷ results) (those ∷ places) told numbers all (inr gone) = λ in_time.
    let held = all in_time in
    (held.0, λ stays. come_off_behind m history pdu results places told numbers (held.1 stays) gone)

pub gone_stays : (results : List JobResult) (told : JobResult) → HaveGone results → HaveGone (results ++ told ∷ [])
gone_stays [] told gone = absurd gone
gone_stays (first ∷ results) told (inl gone) = inl gone
gone_stays (first ∷ results) told (inr gone) = inr (gone_stays results told gone)

pub gone_now : (results : List JobResult) (told : JobResult) → IsGone told → HaveGone (results ++ told ∷ [])
gone_now [] told gone = inl gone
gone_now (first ∷ results) told gone = inr (gone_now results told gone)

-- ---- a history that grows

right_before : (history more : History) (numbers : List ℕ) → AreWithRight (history ++ more) numbers
    → AreWithRight history numbers
right_before history more [] all = tt
right_before history more (number ∷ numbers) all = (
  λ caller ask is. all.0 caller ask (slice_get-grows history more number _ is),
  right_before history more numbers all.1,
)

-- what came off has come off for good
pub come_off_stays : (m : Memory) (history more : History) (pdu : ℕ) (results : List JobResult)
    (places : List (List ℕ)) → AllComeOff m history pdu results places
    → AllComeOff m (history ++ more) pdu results places
unfolding AllComeOff
come_off_stays m history more pdu [] [] all = tt
come_off_stays m history more pdu [] (numbers ∷ places) all = all
come_off_stays m history more pdu (told ∷ results) [] all = all
come_off_stays m history more pdu (told ∷ results) (numbers ∷ places) all = λ in_time.
    let held = all in_time in (
      λ right has can. held.0 right (λ is. right_before history more numbers (has is)) can,
      λ stays. come_off_stays m history more pdu results places (held.1 stays),
    )
