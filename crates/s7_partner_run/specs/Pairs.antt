-- Two partners over two pipes: their turns, and the result.
use Rattle.std.specs.Prelude.{◌≡◌, ◌⊎◌, ℕ, zero, suc, ◌==◌, ◌&&◌, ◌||◌, ◌≤◌, Bool, true, false, if◌then◌else◌, List, []}
use Rattle.std.specs.Prelude.{◌∷◌, ◌++◌, map, length, Option, None, Some, Result, Ok}
use Rattle.std.specs.Borrow.{GName}
use Rattle.s7_schedule.specs.Drawing.{seeded}
use Rattle.s7_memory.specs.PipesHeld.{PipesHeld}
use Rattle.s7_memory.specs.Pipes.{end_of, empty_pipes}
use Rattle.s7_outer.specs.declared.memory.Memory.{Memory}
use Rattle.s7_memory.specs.declared.pipes.Side.{Side}
use Rattle.s7_memory.specs.declared.pipes.Side.TheVariants as side
use Rattle.s7_dialogue.specs.declared.config.Config.{Config}
use Rattle.s7_partner.specs.declared.role.Role.{Role}
use Rattle.s7_partner.specs.declared.role.Role.TheVariants.{Active, Passive}
use Rattle.s7_partner.specs.Pairs.{ArePaired, Delivered}
use Rattle.s7_script.specs.declared.sends.send_list.SendLine.{SendLine}
use Rattle.s7_partner_run.specs.declared.event.News.{News}
use Rattle.s7_partner_run.specs.declared.event.PairEvent.{PairEvent}
use Rattle.s7_partner_run.specs.declared.pair.Pair.{Pair}
use Rattle.s7_partner_run.specs.declared.pair.PairEnd.{PairEnd}
use Rattle.s7_partner_run.specs.Events.{events_of, told_by, received_in, sent_in}
use Rattle.s7_partner_run.specs.Talking.{Post, post_of, IsFresh, blocks_of, is_closed, is_done, IsTurn}
use Rattle.s7_partner_run.specs.Sides.{IsSide}

pub record State : Type 0 where
  pub active : Post
  pub passive : Post
  -- the octets on their way in either direction
  pub pipes : PipesHeld
  -- the news of both partners so far
  pub events : List PairEvent

abbrev pub state_of : Pair → State
state_of p = record {
  active = post_of p.active;
  passive = post_of p.passive;
  pipes = p.pipes;
  events = p.events.items;
}

abbrev pub post_at : Role → State → Post
post_at Active s = s.active
post_at Passive s = s.passive

abbrev pub with_post : Role → State → Post → State
with_post Active s p = record s { active = p }
with_post Passive s p = record s { passive = p }

-- the active partner has the client's end of the pipes
abbrev pub side_of : Role → Side
side_of Active = side.Client
side_of Passive = side.Server

-- ---- turns

-- a turn over an end of the pipes, which the partner borrows
pub record TurnsOver (side : Side) (post : Post) (pipes : PipesHeld) (post' : Post) (pipes' : PipesHeld)
    (result : Result (Option News) Memory) : Type 0 where
  pub loan : GName
  pub turn : IsTurn post (end_of loan pipes side) post' (end_of loan pipes' side) result

-- one partner takes a turn, with this news; everything else stays
pub record TakesTurn (role : Role) (old new : State) (news : Option News) : Type 0 where
  pub post : Post
  pub pipes : PipesHeld
  pub turn : TurnsOver (side_of role) (post_at role old) old.pipes post pipes (Ok news)
  pub same : new ≡ record (with_post role old post) { pipes = pipes }

-- A TURN of one partner, whose news is appended to the news so far
pub record TurnsOnce (role : Role) (old new : State) : Type 0 where
  pub middle : State
  pub news : Option News
  pub takes : TakesTurn role old middle news
  pub same : new ≡ record middle { events = middle.events ++ events_of role news }

unfoldable pub Turns : List Role → State → State → Type 0
Turns [] old new = new ≡ old
Turns (role ∷ roles) old new = (middle : State) × TurnsOnce role old middle × Turns roles middle new

-- actor 0 is the active partner, and actor 1 the passive one
abbrev pub role_by : ℕ → Role
role_by actor = if actor == 0 then Active else Passive

-- ---- rounds

-- both partners are done
abbrev pub are_done : State → Bool
are_done s = is_done s.active && is_done s.passive

-- both partners are done, or one is closed
abbrev pub is_over : State → Bool
is_over s = is_closed s.active || (is_closed s.passive || are_done s)

-- ROUNDS of both partners, at most this number; they end when both are done or one is closed
unfoldable pub Rounds : ℕ → State → State → Type 0
Rounds zero old new = new ≡ old
Rounds (suc more) old new =
    ((is_over old ≡ true) × (new ≡ old))
    ⊎ ((is_over old ≡ false) × (middle : State) × Turns (Active ∷ Passive ∷ []) old middle × Rounds more middle new)

-- ---- whole runs, of this profile's own lengths

-- two partners that have done nothing, with all blocks of each still to be given, and pipes of 4,096 octets whose clock
-- shows 2024-01-01
pub record AreFresh (config : Config) (one other : List SendLine) (s : State) : Type 0 where
  pub active : IsFresh Active config one s.active
  pub passive : IsFresh Passive config other s.passive
  pub pipes : s.pipes ≡ empty_pipes 4096 1704067200000
  pub events : s.events ≡ []

-- A WHOLE RUN: this number of turns that are drawn from a seed, and then rounds
pub record IsRun (seed steps : ℕ) (old new : State) : Type 0 where
  pub middle : State
  pub turned : Turns (map role_by (seeded seed steps 2)) old middle
  pub rounds : Rounds 16777216 middle new

-- ---- the result

pub record EndTold : Type 0 where
  pub events : List PairEvent
  pub is_done : Bool

abbrev pub end_told : PairEnd → EndTold
end_told e = record { events = e.events.items; is_done = e.is_done }

abbrev pub state_told : State → EndTold
state_told s = record { events = s.events; is_done = are_done s }

-- The receiver got a prefix of what the sender was given to send, with at least as many blocks as were reported as
-- sent. If both partners are done, it got all of these blocks, and each was reported as sent.
pub record IsDelivered (sends : List SendLine) (end : EndTold) (sender receiver : Role) : Type 0 where
  pub front : Delivered (blocks_of sends) (received_in (told_by receiver end.events))
  pub sent : sent_in (told_by sender end.events) ≤ length (received_in (told_by receiver end.events))
  pub all : end.is_done ≡ true → received_in (told_by receiver end.events) ≡ blocks_of sends
  pub all_sent : end.is_done ≡ true → sent_in (told_by sender end.events) ≡ length sends

-- TWO PARTNERS over two pipes, each given the blocks of a list, were run, with this result
pub record PairRan (config : Config) (one other : List SendLine) (seed steps : ℕ) (end : EndTold) : Type 0 where
  pub start : State
  pub last : State
  pub fresh : AreFresh config one other start
  pub run : IsRun seed steps start last
  pub ends : end ≡ state_told last
  -- the course of each, by the octets that it used and transmitted
  pub active : IsSide Active config (blocks_of one) (told_by Active end.events)
  pub passive : IsSide Passive config (blocks_of other) (told_by Passive end.events)
  pub paired : ArePaired config config active.acts passive.acts active.used passive.used active.written passive.written
  -- the blocks come whole and in order
  pub there : IsDelivered one end Active Passive
  pub back : IsDelivered other end Passive Active
