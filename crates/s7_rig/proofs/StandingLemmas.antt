-- What a session's turn leaves of what it stands for.
use Rattle.std.proofs.Common.{◌≡◌, ◌≢◌, ℕ, ◌+◌, ◌-◌, Bool, true, false, not, ◌&&◌, ◌||◌, eqb, nat_lt, ◌++◌, length, Some, refl, sym, ap, ◌∙◌, option_map, arith}
use Rattle.std.proofs.lemmas.List.{length-append}
use Rattle.std.proofs.lemmas.Bool.Decides.{nat_tests}
use Rattle.std.proofs.Math.Logic.{∥∥₁_elim, ∥∥₁_map}
use Rattle.std.proofs.Math.Nat.{ℕ_set}
use Rattle.s7_memory.specs.PipesHeld.{PipesHeld}
use Rattle.s7_plant.specs.Books.{BookTold}
use Rattle.s7_session.specs.declared.session.Session.{Session}
use Rattle.s7_session.specs.declared.outcome.Outcome.TheVariants as outcome
use Rattle.s7_session.specs.declared.outcome.Turn.{Turn}
use Rattle.s7_session.specs.Stands.{closed_by, used_of}
use Rattle.s7_session.specs.Telegrams.{verdicts_of}
use Rattle.s7_session.proofs.BookLemmas.{length-calls}
use Rattle.s7_rig.specs.Standing.{HasStood}
use Rattle.std.proofs.lemmas.Bool.{false≢true}
use Rattle.s7_rig.specs.Numbers.{count_from}
use Rattle.s7_rig.specs.State.{Post}
use Rattle.s7_rig.specs.Turns.{TakesTurn, IsSessionTurn, have_moved, entry_count}

pub still_stands : (link : ℕ) (s s' : Session) (p p' : PipesHeld) (b b' : BookTold) (r : Turn) → TakesTurn link s p b s' p' b' r → ∥ HasStood s ∥₁ → ∥ HasStood s' ∥₁
still_stands link s s' p p' b b' r t h =
    ∥∥₁_map h (λ k. record {
      first = k.first;
      used = k.used ++ t.turn.moves.used;
      verdicts = k.verdicts ++ verdicts_of t.turn.moves.mets;
      written = k.written ++ t.turn.moves.written;
      stands = t.turn.moves.stood k.first k.used k.verdicts k.written k.stands;
    })

-- the number of used octets grows by those that the turn used
pub used_more : (link : ℕ) (s s' : Session) (p p' : PipesHeld) (b b' : BookTold) (r : Turn) → (t : TakesTurn link s p b s' p' b' r) → ∥ HasStood s ∥₁ → used_of s' ≡ used_of s + length t.turn.moves.used
used_more link s s' p p' b b' r t h =
    ∥∥₁_elim h (ℕ_set _ _) (λ k.
    sym (t.turn.moves.stood k.first k.used k.verdicts k.written k.stands).used ∙ (length-append k.used t.turn.moves.used ∙ ap (λ n. n + length t.turn.moves.used) k.stands.used))

pub grown : (a b n : ℕ) → a ≡ b + n → not (eqb a b) ≡ nat_lt 0 n
grown a b n e = grind (arith, nat_tests)

pub moved_is : (old new : PipesHeld) (a b a' b' : ℕ) (r : Bool) → a ≡ length old.to_client → b ≡ length old.to_server → a' ≡ length new.to_client → b' ≡ length new.to_server
    → r ≡ not (eqb a' a && eqb b' b) → r ≡ have_moved old new
moved_is old new a b a' b' r ea eb ea' eb' h = cc

pub or_more : (r moved more : Bool) → r ≡ moved → r ≡ true → r ≡ (moved || more)
or_more r true more e h = e
or_more r false more e h = absurd (false≢true (sym e ∙ h))

pub or_rest : (r moved more : Bool) → r ≡ moved → r ≡ false → more ≡ (moved || more)
or_rest r true more e h = absurd (false≢true (sym h ∙ e))
or_rest r false more e h = refl

-- as many calls were entered as there are entries
pub counted : (b : BookTold) {n : ℕ} → n ≡ length b.journal.entries → n ≡ entry_count b
counted b is = is ∙ sym (length-calls b.journal.entries)

-- a session's turn, with the numbers that were noted, by the octets in the pipes and those that it has used
pub session_turn_is : (p new : Post) (b b' : BookTold) (s : Session) (pipes : PipesHeld) (r : Turn) (first end : ℕ) (stirs : Bool)
    → (t : TakesTurn p.link p.session p.pipes b s pipes b' r) → ∥ HasStood p.session ∥₁
    → first ≡ entry_count b → end ≡ entry_count b'
    → new ≡ record p { session = s; pipes = pipes; noted = option_map (λ numbers. numbers ++ count_from first (end - first)) p.noted }
    → closed_by r ≢ Some outcome.Memory
    → stirs ≡ (have_moved p.pipes pipes || not (eqb (used_of s) (used_of p.session)))
    → IsSessionTurn p new b b' stirs
session_turn_is p new b b' s pipes r first end stirs t stood ef ee same remembers h = record {
  session = s;
  pipes = pipes;
  result = r;
  takes = t;
  same = same ∙ (ap (λ n. record p { session = s; pipes = pipes; noted = option_map (λ numbers. numbers ++ count_from n (end - n)) p.noted }) ef
      ∙ ap (λ n. record p { session = s; pipes = pipes; noted = option_map (λ numbers. numbers ++ count_from (entry_count b) (n - entry_count b)) p.noted }) ee);
  remembers = λ e. remembers (sym t.turn.closed ∙ e);
  stirs_is = h ∙ ap (λ x. have_moved p.pipes pipes || x) (grown _ _ _ (used_more p.link p.session s p.pipes pipes b b' r t stood));
}
