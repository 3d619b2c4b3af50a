-- How the counts of a link change in the calls of a client: how often the link failed, how often it wasn't ready,
-- and whether its stream ended.
use Rattle.std.specs.Prelude.{◌≡◌, ◌⊎◌, ℕ, ◌<◌}
use Rattle.s7_outer.specs.Shown.{Shown}
use Rattle.s7_outer.specs.Count.{RoseExactly}
use Rattle.s7_dialogue.specs.Codes.{link_ended, send_failed, receive_failed, timed_out}
use Rattle.s7_client.specs.declared.job.Polled.{Polled}
use Rattle.s7_client.specs.declared.job.Polled.TheVariants as polled

-- No count rose, and the stream didn't end.
abbrev pub MetNothing : Shown → Shown → Type 0
MetNothing link link' =
    (link'.faults ≡ link.faults) × (link'.waits ≡ link.waits) × (link'.has_ended ≡ link.has_ended)

-- The link wasn't ready once; it didn't fail, and its stream didn't end.
abbrev pub MetNotYetOnce : Shown → Shown → Type 0
MetNotYetOnce link link' =
    (link'.faults ≡ link.faults) × RoseExactly 1 link.waits link'.waits × (link'.has_ended ≡ link.has_ended)

-- The link failed once, and the code says so; or it didn't fail. So no failure is ignored, and no failed call is tried
-- again.
abbrev pub FailedAsTold : ℕ → Shown → Shown → Type 0
FailedAsTold code link link' =
    (link'.faults ≡ link.faults)
    ⊎ (RoseExactly 1 link.faults link'.faults × ((code ≡ send_failed) ⊎ (code ≡ receive_failed)))

-- The stream ended only if the code says so.
abbrev pub EndedAsTold : ℕ → Shown → Shown → Type 0
EndedAsTold code link link' = (link'.has_ended ≡ link.has_ended) ⊎ (code ≡ link_ended)

-- No failure and no end is ignored.
abbrev pub MetAsTold : ℕ → Shown → Shown → Type 0
MetAsTold code link link' = FailedAsTold code link link' × EndedAsTold code link link'

-- The number of times at which the link wasn't ready is below `most`; or it is `most`, and the code says that the job
-- timed out.
abbrev pub WaitedAsTold : ℕ → ℕ → Shown → Shown → Type 0
WaitedAsTold most code link link' =
    (times : ℕ) × RoseExactly times link.waits link'.waits × ((times < most) ⊎ ((times ≡ most) × (code ≡ timed_out)))

-- How the counts of the link change in a poll, by its result.
abbrev pub CountsPoll : Polled → Shown → Shown → Type 0
CountsPoll (polled.Done result) link link' = MetAsTold result.code link link' × WaitedAsTold 1 result.code link link'
CountsPoll polled.Pending link link' = MetNotYetOnce link link'
CountsPoll polled.Idle link link' = MetNothing link link'
