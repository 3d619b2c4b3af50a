-- Laws of how often a link failed, or had nothing to give, or no room, yet, and whether its stream ended.
use Rattle.std.proofs.Common.{◌≡◌, ◌⊎◌, inl, inr, ⊎_elim, ℕ, ◌+◌, ◌<◌, ◌≤◌, [], ap, sym, ◌∙◌, subst, arith}
use Rattle.std.proofs.lemmas.Bool.{cases_lt}
use Rattle.s7_outer.specs.Shown.{Shown}
use Rattle.s7_outer.specs.Count.{RoseExactly}
use Rattle.s7_dialogue.specs.declared.stages.running.Running.{Running}
use Rattle.s7_client.specs.declared.channel.Step.{Step}
use Rattle.s7_client.specs.declared.channel.Step.TheVariants as step
use Rattle.s7_dialogue.specs.Codes.{timed_out}
use Rattle.s7_dialogue.specs.Dialogue.{End}
use Rattle.s7_dialogue.specs.Running.{awaited_in}
use Rattle.s7_dialogue.specs.Course.{Awaits, for_confirm, for_answers, for_departure, for_nothing}
use Rattle.s7_client.specs.Counts.{MetNothing, FailedAsTold, EndedAsTold, MetAsTold, WaitedAsTold}
use Rattle.s7_client.specs.Standing.{EndsAsTold, CountsStep}

-- ---- the link failed, or it didn't

abbrev code_of : Awaits → ℕ
code_of for_confirm = 0
code_of for_answers = 0
code_of for_departure = 0
code_of (for_nothing end carried) = end.code

-- a job has one end
pub same_code : (awaits : Awaits) (end end' : End) → awaits ≡ for_nothing end [] → awaits ≡ for_nothing end' []
    → end'.code ≡ end.code
same_code awaits end end' is is' = ap code_of (sym is' ∙ is)

pub ends_as_told : (r : Running) (link link' : Shown) (end : End) → awaited_in r [] ≡ for_nothing end []
    → MetAsTold end.code link link' → EndsAsTold r link link'
ends_as_told r link link' end is told = λ end' is'.
    subst (λ code. MetAsTold code link link') (sym (same_code (awaited_in r []) end end' is is')) told

-- behind calls that met no failure
pub failed_behind : (code : ℕ) (k k1 k2 : Shown) → k1.faults ≡ k.faults → FailedAsTold code k1 k2
    → FailedAsTold code k k2
failed_behind code k k1 k2 same (inl none) = inl (none ∙ same)
failed_behind code k k1 k2 same (inr h) = inr (subst (λ n. RoseExactly 1 n k2.faults) same h.0, h.1)

-- behind calls that met no end
pub ended_behind : (code : ℕ) (k k1 k2 : Shown) → k1.has_ended ≡ k.has_ended → EndedAsTold code k1 k2
    → EndedAsTold code k k2
ended_behind code k k1 k2 same (inl none) = inl (none ∙ same)
ended_behind code k k1 k2 same (inr h) = inr h

-- behind calls that met nothing
pub met_behind : (code : ℕ) (k k1 k2 : Shown) → MetNothing k k1 → MetAsTold code k1 k2 → MetAsTold code k k2
met_behind code k k1 k2 none h = (failed_behind code k k1 k2 none.0 h.0, ended_behind code k k1 k2 none.2 h.1)

-- a step behind steps that met nothing
pub counts_behind : (result : Step) (r : Running) (k k1 k2 : Shown) → MetNothing k k1 → CountsStep result r k1 k2
    → CountsStep result r k k2
counts_behind step.Went r k k1 k2 none h = (h.0 ∙ none.0, h.1 ∙ none.1, h.2 ∙ none.2)
counts_behind step.NotYet r k k1 k2 none h = (
  h.0 ∙ none.0,
  subst (λ n. RoseExactly 1 n k2.waits) none.1 h.1,
  h.2 ∙ none.2,
)
counts_behind step.Over r k k1 k2 none h = (
  h.0 ∙ none.1,
  λ end is. met_behind end.code k k1 k2 none (h.1 end is),
)

-- ---- the link had nothing to give, or no room

pub waited_none : (code : ℕ) (link link' : Shown) → link'.waits ≡ link.waits → WaitedAsTold 1 code link link'
waited_none code link link' same = (0, (omega (arith, same), omega (arith, same)), inl (omega arith))

at_most : (times most code : ℕ) → (times < most) ⊎ ((times ≡ most) × (code ≡ timed_out)) → times ≤ most
at_most times most code (inl fewer) = omega (arith, fewer)
at_most times most code (inr last) = omega (arith, last.0)

pub waited_once : (code : ℕ) (link link' : Shown) → WaitedAsTold 1 code link link' → link'.waits ≤ link.waits + 1
waited_once code link link' h = omega (arith, h.1.1, at_most h.0 1 code h.2)

pub rises : (m n a b c : ℕ) → RoseExactly m a b → RoseExactly n b c → RoseExactly (m + n) a c
rises m n a b c h k = (omega (arith, h.0, k.0), omega (arith, h.1, k.1))

still_told : (n times most code : ℕ) → n < most → (times < 1) ⊎ ((times ≡ 1) × (code ≡ timed_out))
    → (n + times < most) ⊎ ((n + times ≡ most) × (code ≡ timed_out))
still_told n times most code fewer (inl none) = inl (omega (arith, fewer, none))
still_told n times most code fewer (inr last) = ⊎_elim (λ less. inl less)
    (λ more. inr (omega (arith, fewer, last.0, more), last.1)) (cases_lt (n + times) most)

-- a last poll behind fewer than there may be
pub waited_behind : (n most code : ℕ) (k k1 k2 : Shown) → n < most → RoseExactly n k.waits k1.waits
    → WaitedAsTold 1 code k1 k2 → WaitedAsTold most code k k2
waited_behind n most code k k1 k2 fewer rose h = (
  n + h.0,
  rises n h.0 k.waits k1.waits k2.waits rose h.1,
  still_told n h.0 most code fewer h.2,
)
