-- What a link met.
use Rattle.std.proofs.Common.{◌≢◌, inl, ℕ, refl, ◌∙◌, subst}
use Rattle.std.specs.Prelude.{Result, Ok, Err}
use Rattle.s7_outer.specs.Shown.{Shown}
use Rattle.s7_outer.specs.Count.{RoseExactly}
use Rattle.s7_outer.specs.declared.memory.Memory.{Memory}
use Rattle.s7_client.specs.Counts.{MetNothing, MetNotYetOnce}
use Rattle.s7_client.proofs.CountLemmas.{met_behind}
use Rattle.s7_partner.specs.declared.event.PartnerEvent.{PartnerEvent}
use Rattle.s7_partner.specs.declared.event.PartnerEvent.TheVariants as told
use Rattle.s7_partner.specs.declared.step.Step.{Step}
use Rattle.s7_partner.specs.declared.step.Step.TheVariants as step
use Rattle.s7_partner.specs.Calls.{CountsEvent}
use Rattle.s7_partner.specs.Steps.{CountsStep}

-- a link that wasn't called met nothing
pub counts_here : (result : Step) (link : Shown) → result ≢ step.NotYet → CountsStep result link link
counts_here step.Went link some = (refl, refl, refl)
counts_here step.NotYet link some = absurd (some refl)
counts_here step.Sent link some = (refl, refl, refl)
counts_here (step.Closed code) link some = ((inl refl, inl refl), refl)

-- ---- behind calls in which a link met nothing

nothing_behind : (k k1 k2 : Shown) → MetNothing k k1 → MetNothing k1 k2 → MetNothing k k2
nothing_behind k k1 k2 m n = (n.0 ∙ m.0, n.1 ∙ m.1, n.2 ∙ m.2)

not_yet_behind : (k k1 k2 : Shown) → MetNothing k k1 → MetNotYetOnce k1 k2 → MetNotYetOnce k k2
not_yet_behind k k1 k2 m n =
    (n.0 ∙ m.0, subst (λ (x : ℕ). RoseExactly 1 x k2.waits) m.1 n.1, n.2 ∙ m.2)

pub step_counts : (result : Step) (k k1 k2 : Shown) → MetNothing k k1 → CountsStep result k1 k2
    → CountsStep result k k2
step_counts step.Went k k1 k2 m n = nothing_behind k k1 k2 m n
step_counts step.NotYet k k1 k2 m n = not_yet_behind k k1 k2 m n
step_counts step.Sent k k1 k2 m n = nothing_behind k k1 k2 m n
step_counts (step.Closed code) k k1 k2 m n = (met_behind code k k1 k2 m n.0, n.1 ∙ m.1)

pub event_counts : (result : Result PartnerEvent Memory) (k k1 k2 : Shown) → MetNothing k k1
    → CountsEvent result k1 k2 → CountsEvent result k k2
event_counts (Ok told.Sent) k k1 k2 m n = nothing_behind k k1 k2 m n
event_counts (Ok (told.Received rid body)) k k1 k2 m n = nothing_behind k k1 k2 m n
event_counts (Ok told.Pending) k k1 k2 m n = not_yet_behind k k1 k2 m n
event_counts (Ok told.Idle) k k1 k2 m n = not_yet_behind k k1 k2 m n
event_counts (Ok (told.Closed code)) k k1 k2 m n = (met_behind code k k1 k2 m n.0, n.1 ∙ m.1)
event_counts (Err memory) k k1 k2 m n = nothing_behind k k1 k2 m n
