-- The octets that the clients and the sessions of a run transmit.
use Rattle.std.proofs.Common.{◌⊎◌, inl, inr}
use Rattle.std.specs.Prelude.{ℕ, zero, suc, ◌-◌, ◌*◌, ◌==◌, Bool, List, [], ◌∷◌, ◌++◌, length, if◌then◌else◌}
use Rattle.s7_rig.specs.State.{State}
use Rattle.s7_rig.specs.Turns.{IsTurnOf}
use Rattle.s7_schedule.specs.Drawing.{seeded}
use Rattle.s7_rig.specs.Runs.{Turns, Rounds, IsRun, actors_of, most_rounds}

-- what the client of this index transmits in a turn
abbrev pub sent_in_turn : (k actor : ℕ) (old new : State) (stirs : Bool) → IsTurnOf actor old new stirs → List ℕ
sent_in_turn k actor old new stirs (inl h) = if actor == k then h.1.turn.polls.poll.poll.moves.written else []
sent_in_turn k actor old new stirs (inr h) = []

-- what the session of this index transmits in a turn
abbrev pub answered_in_turn : (k actor : ℕ) (old new : State) (stirs : Bool) → IsTurnOf actor old new stirs → List ℕ
answered_in_turn k actor old new stirs (inl h) = []
answered_in_turn k actor old new stirs (inr h) =
    if actor - length old.posts == k then h.1.turn.takes.turn.moves.written else []

-- the octets of each turn, all in order
unfoldable pub in_turns : ((actor : ℕ) (old new : State) (stirs : Bool) → IsTurnOf actor old new stirs → List ℕ)
    → (actors : List ℕ) (old new : State) (stirs : Bool) → Turns actors old new stirs → List ℕ
unfolding Turns
in_turns octets [] old new stirs h = []
in_turns octets (actor ∷ actors) old new stirs h =
    octets actor old h.0 h.1 h.3 ++ in_turns octets actors h.0 new h.2 h.4

-- the octets of the second case; none in the first case
abbrev pub second_or_none : {A B : Type 0} → A ⊎ B → (B → List ℕ) → List ℕ
second_or_none (inl a) octets = []
second_or_none (inr b) octets = octets b

unfoldable pub in_rounds : ((actor : ℕ) (old new : State) (stirs : Bool) → IsTurnOf actor old new stirs → List ℕ)
    → (most : ℕ) (old new : State) → Rounds most old new → List ℕ
unfolding Rounds
in_rounds octets zero old new h = []
in_rounds octets (suc more) old new (inl h) = []
in_rounds octets (suc more) old new (inr h) =
    in_turns octets (actors_of old) old h.1 h.2 h.3 ++ second_or_none h.4 (λ k. in_rounds octets more h.1 new k.1)

-- WHAT THE CLIENT OF THIS INDEX TRANSMITTED in a run, or what its session transmitted
abbrev pub in_run : ((actor : ℕ) (old new : State) (stirs : Bool) → IsTurnOf actor old new stirs → List ℕ)
    → (turns : List ℕ) (seed steps : ℕ) (old new : State) → IsRun turns seed steps old new → List ℕ
in_run octets turns seed steps old new run =
    in_turns octets (turns ++ seeded seed steps (2 * length old.posts)) old run.middle run.stirred run.turned
    ++ in_rounds octets most_rounds run.middle new run.rounds

abbrev pub sent_by : (k : ℕ) (turns : List ℕ) (seed steps : ℕ) (old new : State) → IsRun turns seed steps old new
    → List ℕ
sent_by k turns seed steps old new run = in_run (sent_in_turn k) turns seed steps old new run

abbrev pub answered_by : (k : ℕ) (turns : List ℕ) (seed steps : ℕ) (old new : State) → IsRun turns seed steps old new
    → List ℕ
answered_by k turns seed steps old new run = in_run (answered_in_turn k) turns seed steps old new run
