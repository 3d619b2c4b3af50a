-- What one call of a link and of its clock does to what the link shows: the clauses of the traits.
use Rattle.std.specs.Prelude.{◌≡◌, ◌≢◌, ℕ, ◌+◌, ◌-◌, ◌≤◌, ◌↔◌, List, [], length, IsTrue, IsSome, IfSome, Some}
use Rattle.std.specs.Prelude.{Option, None, option_map}
use Rattle.std.specs.Io.KnownBytes.{prepend_known, append_known, IsAtEnd}
use Rattle.s7_outer.specs.Count.{Rose, RoseExactly}
use Rattle.s7_outer.specs.Link.{octets_got, octets_sent, GotWithin, SentWithin, TellsMoment}
use Rattle.s7_outer.specs.Shown.{Moved, Shown}
use Rattle.s7_outer.specs.declared.link.Got.{Got}
use Rattle.s7_outer.specs.declared.link.Got.TheVariants as got
use Rattle.s7_outer.specs.declared.link.Sent.{Sent}
use Rattle.s7_outer.specs.declared.link.Sent.TheVariants as sent
use Rattle.s7_outer.specs.declared.link.Tick.{Tick}
use Rattle.s7_outer.specs.declared.link.Tick.TheVariants as tick

-- a receive into octets that were `before`, and are `after` now
pub record IsReceive (old new : Shown) (before after : List ℕ) (result : Got) : Type 0 where
  pub within : GotWithin result (length before)
  pub took : old.left ≡ prepend_known (octets_got result after) new.left
  pub wrote : new.written ≡ old.written
  pub end : result ≡ got.End → IsAtEnd old.left × IsTrue new.has_ended
  pub ended : IsTrue old.has_ended → IsTrue new.has_ended × (octets_got result after ≡ [])
  pub stays_open : result ≢ got.End → new.has_ended ≡ old.has_ended
  pub failed : result ≡ got.Failed → Rose old.faults new.faults
  pub not_yet : result ≡ got.NotYet → Rose old.waits new.waits
  pub nothing_left : IsSome old.space → (result ≡ got.NotYet) ↔ (old.left ≡ Some [])
  pub faults : old.faults ≤ new.faults
  pub waits : old.waits ≤ new.waits
  pub faults_once : new.faults ≤ old.faults + 1
  pub waits_once : new.waits ≤ old.waits + 1
  pub failed_no_other : result ≢ got.Failed → new.faults ≡ old.faults
  pub waited_no_other : result ≢ got.NotYet → new.waits ≡ old.waits
  pub moment : new.moment ≡ old.moment
  pub clock_faults : new.clock_faults ≡ old.clock_faults
  pub looks : new.looks ≡ old.looks
  pub space : new.space ≡ old.space
  pub shut : new.shut ≡ old.shut
  pub lent : new.lent ≡ old.lent

-- a transmit of these octets
pub record IsTransmit (old new : Shown) (piece : List ℕ) (result : Sent) : Type 0 where
  pub within : SentWithin result (length piece)
  pub took : new.left ≡ old.left
  pub wrote : new.written ≡ append_known old.written (octets_sent result piece)
  pub ended : new.has_ended ≡ old.has_ended
  pub failed : result ≡ sent.Failed → Rose old.faults new.faults
  pub not_yet : result ≡ sent.NotYet → Rose old.waits new.waits
  pub no_space : IfSome old.space (λ space. (result ≡ sent.NotYet) ↔ (space ≡ 0))
  pub faults : old.faults ≤ new.faults
  pub waits : old.waits ≤ new.waits
  pub faults_once : new.faults ≤ old.faults + 1
  pub waits_once : new.waits ≤ old.waits + 1
  pub failed_no_other : result ≢ sent.Failed → new.faults ≡ old.faults
  pub waited_no_other : result ≢ sent.NotYet → new.waits ≡ old.waits
  pub moment : new.moment ≡ old.moment
  pub clock_faults : new.clock_faults ≡ old.clock_faults
  pub looks : new.looks ≡ old.looks
  pub fits : IfSome old.space (λ space. length (octets_sent result piece) ≤ space)
  pub space : new.space ≡ option_map (λ space. space - length (octets_sent result piece)) old.space
  pub shut : new.shut ≡ old.shut
  pub lent : new.lent ≡ old.lent

-- how far the link had come when this side shut its stream for the first time: at that earlier shutdown, or else
-- now
abbrev pub shut_behind : Shown → Option Moved → Moved
shut_behind now None = record { left = now.left; written = now.written }
shut_behind now (Some before) = before

-- what the link shows once this side has shut its stream
abbrev pub shut_down : Shown → Shown
shut_down old = record old { shut = option_map (λ before. Some (shut_behind old before)) old.shut }

-- a look at the clock
pub record IsLook (old new : Shown) (result : Tick) : Type 0 where
  pub at : TellsMoment old.moment result
  pub failed : result ≡ tick.Failed → Rose old.clock_faults new.clock_faults
  pub clock_faults : old.clock_faults ≤ new.clock_faults
  pub faults_once : new.clock_faults ≤ old.clock_faults + 1
  pub failed_no_other : result ≢ tick.Failed → new.clock_faults ≡ old.clock_faults
  pub looked : RoseExactly 1 old.looks new.looks
  pub same : new ≡ record old { clock_faults = new.clock_faults; looks = new.looks }
