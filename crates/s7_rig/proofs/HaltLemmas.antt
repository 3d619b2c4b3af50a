-- The jobs that are left to a client that halts.
use Rattle.std.proofs.Common.{◌≡◌, ◌==◌, ◌-◌, ◌<◌, ◌≤◌, arith, ℕ, zero, suc, Bool, true, false, cond, ap, sym, ◌∙◌, List, [], ◌∷◌, length, drop}
use Rattle.s7_dialogue.specs.declared.job.Job.{Job}
use Rattle.s7_dialogue.specs.declared.job.JobResult.{JobResult}
use Rattle.s7_rig.specs.Scripts.{NoneConnects, left_behind, reads_many}

drop_keeps : (n : ℕ) (jobs : List Job) → NoneConnects jobs → NoneConnects (drop n jobs)
drop_keeps zero jobs h = h
drop_keeps (suc n) [] h = h
drop_keeps (suc n) (j ∷ jobs) h = drop_keeps n jobs h.1

either_keeps : (b : Bool) (xs ys : List Job) → NoneConnects xs → NoneConnects ys → NoneConnects (cond b xs ys)
either_keeps true xs ys p q = p
either_keeps false xs ys p q = q

-- none of the jobs that are left connects
pub left_keeps : (halts : Bool) (told : JobResult) (rest : List Job) → NoneConnects rest → NoneConnects (left_behind halts told rest)
left_keeps false told rest h = h
left_keeps true told rest h =
    either_keeps (reads_many told.job) _ rest
    (either_keeps (told.code == 0) rest (drop (length rest - 1) rest) h (drop_keeps (length rest - 1) rest h)) h

-- one job fewer, of several
pub last_stays : (xs ys : List Job) → ys ≡ drop 1 xs → 1 < length xs
    → (drop (length ys - 1) ys ≡ drop (length xs - 1) xs) × (length ys ≤ length xs)
last_stays [] ys is more = absurd (omega (arith, more))
last_stays (x ∷ []) ys is more = absurd (omega (arith, more))
last_stays (x ∷ y ∷ zs) ys is more = rw is (same (length zs), omega arith)
  where
    same : (n : ℕ) → drop (suc n - 1) (y ∷ zs) ≡ drop (suc (suc n) - 1) (x ∷ y ∷ zs)
    same n =
        let one : suc n - 1 ≡ n = omega arith in
        let two : suc (suc n) - 1 ≡ suc n = omega arith in
        ap (λ k. drop k (y ∷ zs)) one ∙ sym (ap (λ k. drop k (x ∷ y ∷ zs)) two)
